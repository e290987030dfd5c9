use Rattle.std.proofs.Common.{ℕ, subst, sym, refl, ◌∙◌, Some, None}
use Rattle.mem_port.specs.Calls.{Take}
use Rattle.turn.specs.Counting.{seen, IsCounted}
use Rattle.turn.specs.Passes.{first_view, own}
use Rattle.turn.proofs.Acts.{slot-of, took, may, has_made}
use Rattle.turn.proofs.CoreLaws.{within-now, served-now}
use Rattle.turn.proofs.PassLaws.{takes-made}
use Rattle.turn.proofs.pass.Turn.take.Goals as goal

pub slot_mut-counted-requires : goal.slot_mut-counted-requires
slot_mut-counted-requires g c =
    (c.acquire.ensures.lock ∙ c.requires.turn.table, slot-of c.args.pass.now.seat.me c.acquire.new.seat.me c.acquire.ensures.held)

pub take-requires-clause-core : goal.take-requires-clause-core
take-requires-clause-core g c =
    let turn = c.args.self.now in let old = c.args.pass.now in let m = c.slot_mut-counted.result.now in
    let h = took turn old c.requires.turn c.acquire.new.seat.me m c.acquire.ensures.held c.slot_mut-counted.ensures.value in
    let e = c.requires.core ∙ sym old.named in
    within-now (first_view turn) (seen m) (own old) h.0 h.1 c.args.port e

pub take-requires-clause-served : goal.take-requires-clause-served
take-requires-clause-served g c =
    let turn = c.args.self.now in let old = c.args.pass.now in let m = c.slot_mut-counted.result.now in
    let h = took turn old c.requires.turn c.acquire.new.seat.me m c.acquire.ensures.held c.slot_mut-counted.ensures.value in
    let e = c.requires.core ∙ sym old.named in
    served-now (first_view turn) (seen m) (own old) h.0 h.1 c.args.port c.requires.served.0 e c.requires.served.1

pub release-requires-clause-may : goal.release-requires-clause-may
release-requires-clause-may g c =
    let turn = c.args.self.now in let old = c.args.pass.now in let m = c.slot_mut-counted.result.now in
    may turn old c.requires.turn (Take c.args.port None) c.acquire.new.seat.me m c.take.new.self
    c.acquire.ensures.held c.slot_mut-counted.ensures.value
    (subst (λ (k : ℕ). IsCounted k (Take c.args.port None) m c.take.new.self) c.requires.core c.in_default.ensures.counted)
    ((c.requires.core, c.in_default.ensures.takes))

abbrev pub returns-in_default-clause-made : goal.returns-in_default-clause-made
returns-in_default-clause-made g c =
    let turn = c.args.self.now in let old = c.args.pass.now in let m = c.slot_mut-counted.result.now in
    has_made turn old c.requires.turn (Take c.args.port None) c.acquire.new.seat.me m c.take.new.self
    c.acquire.ensures.held c.slot_mut-counted.ensures.value
    (subst (λ (k : ℕ). IsCounted k (Take c.args.port None) m c.take.new.self) c.requires.core c.in_default.ensures.counted)
    ((c.requires.core, c.in_default.ensures.takes)) _
    c.release.ensures.rests (c.release.ensures.lock ∙ c.acquire.ensures.lock) refl

pub returns-in_default-clause-takes : goal.returns-in_default-clause-takes
returns-in_default-clause-takes g c =
    λ r is. takes-made c.args.self.now c.args.pass.now _ None c.args.port r (returns-in_default-clause-made g c) c.requires.core is
    c.in_default.ensures.takes

pub release-requires-2-clause-may : goal.release-requires-2-clause-may
release-requires-2-clause-may g c =
    let turn = c.args.self.now in let old = c.args.pass.now in let m = c.slot_mut-counted.result.now in
    may turn old c.requires.turn (Take c.args.port (Some c.in-Some.word)) c.acquire.new.seat.me m c.take.new.self
    c.acquire.ensures.held c.slot_mut-counted.ensures.value
    (subst (λ (k : ℕ). IsCounted k (Take c.args.port (Some c.in-Some.word)) m c.take.new.self) c.requires.core
    c.in-Some.ensures.counted)
    ((c.requires.core, c.in-Some.ensures.takes))

abbrev pub returns-clause-made : goal.returns-clause-made
returns-clause-made g c =
    let turn = c.args.self.now in let old = c.args.pass.now in let m = c.slot_mut-counted.result.now in
    has_made turn old c.requires.turn (Take c.args.port (Some c.in-Some.word)) c.acquire.new.seat.me m c.take.new.self
    c.acquire.ensures.held c.slot_mut-counted.ensures.value
    (subst (λ (k : ℕ). IsCounted k (Take c.args.port (Some c.in-Some.word)) m c.take.new.self) c.requires.core
    c.in-Some.ensures.counted)
    ((c.requires.core, c.in-Some.ensures.takes)) _
    c.release-2.ensures.rests (c.release-2.ensures.lock ∙ c.acquire.ensures.lock) refl

pub returns-clause-takes : goal.returns-clause-takes
returns-clause-takes g c =
    λ r is. takes-made c.args.self.now c.args.pass.now _ (Some c.in-Some.word) c.args.port r (returns-clause-made g c) c.requires.core is
    c.in-Some.ensures.takes
