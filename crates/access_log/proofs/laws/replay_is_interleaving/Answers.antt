use Rattle.access_log.proofs.SplitLaws.{split}
use Rattle.access_log.proofs.laws.replay_is_interleaving.Goals as goal

pub returns : goal.returns
returns c = record { law = split }
