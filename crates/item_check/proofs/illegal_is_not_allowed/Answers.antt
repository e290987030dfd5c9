use Rattle.item_check.proofs.IllegalLaws.{illegal-not_allowed}
use Rattle.item_check.proofs.illegal_is_not_allowed.Goals as goal

pub returns : goal.returns
returns c = record { law = illegal-not_allowed }
