use Rattle.letters.proofs.Histories.{wrong-dont_follow}
use Rattle.letters.proofs.wrong_histories_dont_follow.Goals as goal

pub returns : goal.returns
returns c = record { law = wrong-dont_follow }
