use Rattle.letters.proofs.CopyLaws.{moesi-consistent, supplier-dirty, supplier-none}
use Rattle.letters.proofs.copies_stay_consistent.Goals as goal

pub returns : goal.returns
returns c = record { law = moesi-consistent; dirty = supplier-dirty; clean = supplier-none }
