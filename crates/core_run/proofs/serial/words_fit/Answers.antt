use Rattle.std.proofs.lemmas.List.{get_or_default}
use Rattle.core_run.proofs.serial.words_fit.Goals as goal

pub returns : goal.returns
returns c = λ k d below. rw (get_or_default c.args.words.now k d 0 below) (c.type_inv.words k).fits
