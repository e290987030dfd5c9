use Rattle.item_check.proofs.WorkedItemLaws.{worked-told}
use Rattle.item_check.proofs.worked_items_are_told.Goals as goal

pub returns : goal.returns
returns c = record { law = worked-told }
