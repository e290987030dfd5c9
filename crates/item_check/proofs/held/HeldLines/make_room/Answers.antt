use Rattle.item_check.proofs.HeldLemmas.{without_some}
use Rattle.item_check.proofs.held.HeldLines.make_room.Goals as goal

pub returns-in_default : goal.returns-in_default
returns-in_default c = record { lines = without_some c.args.self.now c.args.victim c.in_default.is }
