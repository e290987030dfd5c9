use Rattle.std.proofs.Common.{sym}
use Rattle.row_reader.proofs.CutLaws.{not_ended}
use Rattle.row_reader.proofs.fields.ended.Goals as goal

pub returns-in-Some-clause-found : goal.returns-in-Some-clause-found
returns-in-Some-clause-found g c = rw c.in-Some.is (sym (not_ended c.args.value c.in-Some.field-0.now))
