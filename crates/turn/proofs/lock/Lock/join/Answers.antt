use Rattle.std.proofs.Common.{rules}
use Rattle.turn.proofs.RuleSteps.{joins}
use Rattle.turn.proofs.lock.Lock.join.Goals as goal

pub join_seat-requires : goal.join_seat-requires
join_seat-requires g c =
    let seat = c.args.seat.now in let other = c.args.other in (
      search rules,
      search rules,
      c.requires.other_rests.1.empty,
      search rules,
      joins g.S.Watched.seen c.args.self.now.table.shared.key.value seat.id seat.me.0 other.id other.me.0 c.requires.rests.1.idle
          c.requires.other_rests.1.idle,
    )
