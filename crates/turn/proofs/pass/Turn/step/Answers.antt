use Rattle.std.proofs.Common.{◌<◌, ℕ, subst, refl, ◌∙◌}
use Rattle.mem_port.specs.Calls.{Step}
use Rattle.mem_port.specs.declared.port.Moved.TheVariants as moved
use Rattle.turn.specs.Counting.{seen}
use Rattle.turn.proofs.Acts.{slot-of, took, may, has_made}
use Rattle.turn.proofs.PassLaws.{steps-made, helped-made, unhelped-made}
use Rattle.turn.proofs.pass.Turn.step.Goals as goal

pub slot_mut-counted-requires : goal.slot_mut-counted-requires
slot_mut-counted-requires g c =
    (c.acquire.ensures.lock ∙ c.requires.turn.table, slot-of c.args.pass.now.seat.me c.acquire.new.seat.me c.acquire.ensures.held)

pub step-requires : goal.step-requires
step-requires g c =
    let turn = c.args.self.now in let old = c.args.pass.now in let m = c.slot_mut-counted.result.now in
    let h = took turn old c.requires.turn c.acquire.new.seat.me m c.acquire.ensures.held c.slot_mut-counted.ensures.value in
    record { core = subst (λ (k : ℕ). k < (seen m).memory.cores) old.named h.0.within }

pub release-requires-clause-may : goal.release-requires-clause-may
release-requires-clause-may g c =
    let turn = c.args.self.now in let old = c.args.pass.now in let m = c.slot_mut-counted.result.now in
    may turn old c.requires.turn (Step c.args.choice moved.Idle) c.acquire.new.seat.me m c.step.new.self
    c.acquire.ensures.held c.slot_mut-counted.ensures.value (c.in-Idle.ensures.counted)
    (c.in-Idle.ensures.steps)

abbrev pub returns-in-Idle-clause-made : goal.returns-in-Idle-clause-made
returns-in-Idle-clause-made g c =
    let turn = c.args.self.now in let old = c.args.pass.now in let m = c.slot_mut-counted.result.now in
    has_made turn old c.requires.turn (Step c.args.choice moved.Idle) c.acquire.new.seat.me m c.step.new.self
    c.acquire.ensures.held c.slot_mut-counted.ensures.value (c.in-Idle.ensures.counted)
    (c.in-Idle.ensures.steps) _
    c.release.ensures.rests (c.release.ensures.lock ∙ c.acquire.ensures.lock) refl

pub returns-in-Idle-clause-steps : goal.returns-in-Idle-clause-steps
returns-in-Idle-clause-steps g c =
    steps-made c.args.self.now c.args.pass.now _ c.args.choice moved.Idle (returns-in-Idle-clause-made g c) c.in-Idle.ensures.steps

pub returns-in-Idle-clause-helped : goal.returns-in-Idle-clause-helped
returns-in-Idle-clause-helped g c = λ q e.
    helped-made c.args.self.now c.args.pass.now _ c.args.choice moved.Idle (returns-in-Idle-clause-made g c) q e

pub returns-in-Idle-clause-unhelped : goal.returns-in-Idle-clause-unhelped
returns-in-Idle-clause-unhelped g c = λ q r e is same.
    unhelped-made c.args.self.now c.args.pass.now _ c.args.choice moved.Idle (returns-in-Idle-clause-made g c) c.in-Idle.ensures.steps q r e
    is same

pub release-requires-2-clause-may : goal.release-requires-2-clause-may
release-requires-2-clause-may g c =
    let turn = c.args.self.now in let old = c.args.pass.now in let m = c.slot_mut-counted.result.now in
    may turn old c.requires.turn (Step c.args.choice moved.Moved) c.acquire.new.seat.me m c.step.new.self
    c.acquire.ensures.held c.slot_mut-counted.ensures.value (c.in_default.ensures.counted)
    (c.in_default.ensures.steps)

abbrev pub returns-clause-made : goal.returns-clause-made
returns-clause-made g c =
    let turn = c.args.self.now in let old = c.args.pass.now in let m = c.slot_mut-counted.result.now in
    has_made turn old c.requires.turn (Step c.args.choice moved.Moved) c.acquire.new.seat.me m c.step.new.self
    c.acquire.ensures.held c.slot_mut-counted.ensures.value (c.in_default.ensures.counted)
    (c.in_default.ensures.steps) _
    c.release-2.ensures.rests (c.release-2.ensures.lock ∙ c.acquire.ensures.lock) refl

pub returns-clause-steps : goal.returns-clause-steps
returns-clause-steps g c =
    steps-made c.args.self.now c.args.pass.now _ c.args.choice moved.Moved (returns-clause-made g c) c.in_default.ensures.steps

pub returns-clause-helped : goal.returns-clause-helped
returns-clause-helped g c = λ q e.
    helped-made c.args.self.now c.args.pass.now _ c.args.choice moved.Moved (returns-clause-made g c) q e

pub returns-clause-unhelped : goal.returns-clause-unhelped
returns-clause-unhelped g c = λ q r e is same.
    unhelped-made c.args.self.now c.args.pass.now _ c.args.choice moved.Moved (returns-clause-made g c) c.in_default.ensures.steps q r e is
    same
