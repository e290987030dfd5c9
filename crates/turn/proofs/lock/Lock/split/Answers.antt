use Rattle.std.proofs.Common.{rules}
use Rattle.turn.proofs.RuleSteps.{splits}
use Rattle.turn.proofs.lock.Lock.split.Goals as goal

pub split_seat-requires : goal.split_seat-requires
split_seat-requires g c =
    let seat = c.args.seat.now in (
      search rules,
      search rules,
      splits g.S.Watched.seen c.args.self.now.table.shared.key.value seat.id seat.me.0 c.requires.rests.1.idle
          c.requires.rests.1.some_core,
    )
