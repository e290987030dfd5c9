use Rattle.std.proofs.Common.{◌≡◌, length, None, subst, sym, arith}
use Rattle.mem_port.specs.Memory.{IsFresh}
use Rattle.machine_tests.proofs.TurnLaws.{knows-first, popped}
use Rattle.machine_tests.proofs.turns.start.Goals as goal

pub returns-clause-zero : goal.returns-clause-zero
returns-clause-zero g c =
    let turn = c.in_ok-turn.turn in let zero = c.in-Some-Some.zero in
    let fresh = subst (λ m. IsFresh c.args.image.now 2 10 None (g.M.MemoryCore.view m)) (sym c.in_ok-turn.ensures.memory) c.requires.fresh
    in
    let two : length c.in_ok-turn.passes.items ≡ 2 = omega (arith, c.in_ok-turn.passes.ok, c.in_ok-turn.ensures.count) in
    let at = popped c.in_ok-turn.passes.items _ _ zero c.in-Some-Some.one two c.in-Some-Some.ensures.items c.in-Some-Some.ensures'.items in
    knows-first turn 0 zero c.args.image.now (c.in_ok-turn.ensures.passes 0 zero at.0) (omega arith) fresh

pub returns-clause-one : goal.returns-clause-one
returns-clause-one g c =
    let turn = c.in_ok-turn.turn in let one = c.in-Some-Some.one in
    let fresh = subst (λ m. IsFresh c.args.image.now 2 10 None (g.M.MemoryCore.view m)) (sym c.in_ok-turn.ensures.memory) c.requires.fresh
    in
    let two : length c.in_ok-turn.passes.items ≡ 2 = omega (arith, c.in_ok-turn.passes.ok, c.in_ok-turn.ensures.count) in
    let at = popped c.in_ok-turn.passes.items _ _ c.in-Some-Some.zero one two c.in-Some-Some.ensures.items c.in-Some-Some.ensures'.items in
    knows-first turn 1 one c.args.image.now (c.in_ok-turn.ensures.passes 1 one at.1) (omega arith) fresh
