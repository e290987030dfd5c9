use Rattle.std.proofs.Common.{ℕ, subst, sym, refl, ◌∙◌}
use Rattle.mem_port.specs.Calls.{Ask}
use Rattle.turn.specs.Counting.{seen, IsCounted}
use Rattle.turn.specs.Passes.{first_view, own}
use Rattle.turn.proofs.Acts.{slot-of, took, may, has_made}
use Rattle.turn.proofs.CoreLaws.{within-now, free-now, left-now, proper-now}
use Rattle.turn.proofs.PassLaws.{asks-made}
use Rattle.turn.proofs.pass.Turn.ask.Goals as goal

pub slot_mut-counted-requires : goal.slot_mut-counted-requires
slot_mut-counted-requires g c =
    (c.acquire.ensures.lock ∙ c.requires.turn.table, slot-of c.args.pass.now.seat.me c.acquire.new.seat.me c.acquire.ensures.held)

pub ask-requires-clause-core : goal.ask-requires-clause-core
ask-requires-clause-core g c =
    let turn = c.args.self.now in let old = c.args.pass.now in let m = c.slot_mut-counted.result.now in
    let h = took turn old c.requires.turn c.acquire.new.seat.me m c.acquire.ensures.held c.slot_mut-counted.ensures.value in
    let e = c.requires.core ∙ sym old.named in
    within-now (first_view turn) (seen m) (own old) h.0 h.1 c.args.port e

pub ask-requires-clause-free : goal.ask-requires-clause-free
ask-requires-clause-free g c =
    let turn = c.args.self.now in let old = c.args.pass.now in let m = c.slot_mut-counted.result.now in
    let h = took turn old c.requires.turn c.acquire.new.seat.me m c.acquire.ensures.held c.slot_mut-counted.ensures.value in
    let e = c.requires.core ∙ sym old.named in
    free-now (first_view turn) (seen m) (own old) h.0 h.1 c.args.port e c.requires.free

pub ask-requires-clause-left : goal.ask-requires-clause-left
ask-requires-clause-left g c =
    let turn = c.args.self.now in let old = c.args.pass.now in let m = c.slot_mut-counted.result.now in
    let h = took turn old c.requires.turn c.acquire.new.seat.me m c.acquire.ensures.held c.slot_mut-counted.ensures.value in
    let e = c.requires.core ∙ sym old.named in
    left-now (first_view turn) (seen m) (own old) h.0 h.1 c.args.port e c.requires.left

pub ask-requires-clause-proper : goal.ask-requires-clause-proper
ask-requires-clause-proper g c =
    let turn = c.args.self.now in let old = c.args.pass.now in let m = c.slot_mut-counted.result.now in
    let h = took turn old c.requires.turn c.acquire.new.seat.me m c.acquire.ensures.held c.slot_mut-counted.ensures.value in
    let e = c.requires.core ∙ sym old.named in
    proper-now (first_view turn) (seen m) (own old) h.0 h.1 c.args.port c.args.request c.requires.proper

pub release-requires-clause-may : goal.release-requires-clause-may
release-requires-clause-may g c =
    let turn = c.args.self.now in let old = c.args.pass.now in let m = c.slot_mut-counted.result.now in
    may turn old c.requires.turn (Ask c.args.port c.args.request) c.acquire.new.seat.me m c.ask.new.self
    c.acquire.ensures.held c.slot_mut-counted.ensures.value
    (subst (λ (k : ℕ). IsCounted k (Ask c.args.port c.args.request) m c.ask.new.self) c.requires.core c.ask.ensures.counted)
    ((c.requires.core, c.ask.ensures.asks))

abbrev pub returns-clause-made : goal.returns-clause-made
returns-clause-made g c =
    let turn = c.args.self.now in let old = c.args.pass.now in let m = c.slot_mut-counted.result.now in
    has_made turn old c.requires.turn (Ask c.args.port c.args.request) c.acquire.new.seat.me m c.ask.new.self
    c.acquire.ensures.held c.slot_mut-counted.ensures.value
    (subst (λ (k : ℕ). IsCounted k (Ask c.args.port c.args.request) m c.ask.new.self) c.requires.core c.ask.ensures.counted)
    ((c.requires.core, c.ask.ensures.asks)) _
    c.release.ensures.rests (c.release.ensures.lock ∙ c.acquire.ensures.lock) refl

pub returns-clause-asks : goal.returns-clause-asks
returns-clause-asks g c =
    asks-made c.args.self.now c.args.pass.now _ c.args.port c.args.request (returns-clause-made g c) c.requires.core c.requires.free
    c.ask.ensures.asks
