use Rattle.std.proofs.Common.{subst}
use Rattle.mem_port.specs.Memory.{Keeps}
use Rattle.turn.specs.Views.{CoresFit}
use Rattle.turn.proofs.Closing.{found_is}
use Rattle.turn.proofs.RuleSteps.{closes}
use Rattle.turn.proofs.lock.Lock.close.Goals as goal

pub returns-clause-kept : goal.returns-clause-kept
returns-clause-kept g c =
    let seen = g.S.Watched.seen in let o = c.args.self.table.shared.key.value in let seat = c.args.seat in
    let t = closes seen o seat.id seat.me.0 _ _ c.requires.rests.1.idle c.requires.all c.close_with-closed.ensures.values.2 in
    let e = found_is _ 0 t.0 c.take-memory.result t.1 c.take-memory.ensures.value in
    subst (λ m. Keeps (seen o).memory (seen m).memory) e t.3

pub returns-clause-cores : goal.returns-clause-cores
returns-clause-cores g c =
    let seen = g.S.Watched.seen in let o = c.args.self.table.shared.key.value in let seat = c.args.seat in
    let t = closes seen o seat.id seat.me.0 _ _ c.requires.rests.1.idle c.requires.all c.close_with-closed.ensures.values.2 in
    let e = found_is _ 0 t.0 c.take-memory.result t.1 c.take-memory.ensures.value in
    subst (λ m. CoresFit (seen m) seat.me.0.cores) e t.2
