use Rattle.letters.proofs.Histories.{worked-follow}
use Rattle.letters.proofs.worked_histories_follow.Goals as goal

pub returns : goal.returns
returns c = record { law = worked-follow }
