use Rattle.access_log.proofs.InterleavingLaws.{interleaving}
use Rattle.access_log.proofs.laws.interleaving_is_replay.Goals as goal

pub returns : goal.returns
returns c = record { law = interleaving }
