use Rattle.std.proofs.Common.{ℕ, subst, sym, refl, ◌∙◌}
use Rattle.mem_port.specs.Calls.{Serve}
use Rattle.turn.specs.Counting.{seen, IsCounted}
use Rattle.turn.specs.Passes.{first_view, own}
use Rattle.turn.proofs.Acts.{slot-of, took, may, has_made}
use Rattle.turn.proofs.CoreLaws.{within-now, asked-now}
use Rattle.turn.proofs.PassLaws.{serves-made}
use Rattle.turn.proofs.pass.Turn.serve.Goals as goal

pub slot_mut-counted-requires : goal.slot_mut-counted-requires
slot_mut-counted-requires g c =
    (c.acquire.ensures.lock ∙ c.requires.turn.table, slot-of c.args.pass.now.seat.me c.acquire.new.seat.me c.acquire.ensures.held)

pub serve-requires-clause-core : goal.serve-requires-clause-core
serve-requires-clause-core g c =
    let turn = c.args.self.now in let old = c.args.pass.now in let m = c.slot_mut-counted.result.now in
    let h = took turn old c.requires.turn c.acquire.new.seat.me m c.acquire.ensures.held c.slot_mut-counted.ensures.value in
    let e = c.requires.core ∙ sym old.named in
    within-now (first_view turn) (seen m) (own old) h.0 h.1 c.args.port e

pub serve-requires-clause-asked : goal.serve-requires-clause-asked
serve-requires-clause-asked g c =
    let turn = c.args.self.now in let old = c.args.pass.now in let m = c.slot_mut-counted.result.now in
    let h = took turn old c.requires.turn c.acquire.new.seat.me m c.acquire.ensures.held c.slot_mut-counted.ensures.value in
    let e = c.requires.core ∙ sym old.named in
    (c.requires.asked.0, asked-now (first_view turn) (seen m) (own old) h.0 h.1 c.args.port c.requires.asked.0 e c.requires.asked.1)

pub release-requires-clause-may : goal.release-requires-clause-may
release-requires-clause-may g c =
    let turn = c.args.self.now in let old = c.args.pass.now in let m = c.slot_mut-counted.result.now in
    let b = took turn old c.requires.turn c.acquire.new.seat.me m c.acquire.ensures.held c.slot_mut-counted.ensures.value in
    may turn old c.requires.turn (Serve c.args.port) c.acquire.new.seat.me m c.serve.new.self
    c.acquire.ensures.held c.slot_mut-counted.ensures.value
    (subst (λ (k : ℕ). IsCounted k (Serve c.args.port) m c.serve.new.self) c.requires.core c.serve.ensures.counted)
    ((
      c.requires.core,
      (
        c.requires.asked.0,
        c.serve.ensures.serves c.requires.asked.0
            (asked-now (first_view turn) (seen m) (own old) b.0 b.1 c.args.port c.requires.asked.0 (c.requires.core ∙ sym old.named)
            c.requires.asked.1),
      ),
    ))

abbrev pub returns-clause-made : goal.returns-clause-made
returns-clause-made g c =
    let turn = c.args.self.now in let old = c.args.pass.now in let m = c.slot_mut-counted.result.now in
    let b = took turn old c.requires.turn c.acquire.new.seat.me m c.acquire.ensures.held c.slot_mut-counted.ensures.value in
    has_made turn old c.requires.turn (Serve c.args.port) c.acquire.new.seat.me m c.serve.new.self
    c.acquire.ensures.held c.slot_mut-counted.ensures.value
    (subst (λ (k : ℕ). IsCounted k (Serve c.args.port) m c.serve.new.self) c.requires.core c.serve.ensures.counted)
    ((
      c.requires.core,
      (
        c.requires.asked.0,
        c.serve.ensures.serves c.requires.asked.0
            (asked-now (first_view turn) (seen m) (own old) b.0 b.1 c.args.port c.requires.asked.0 (c.requires.core ∙ sym old.named)
            c.requires.asked.1),
      ),
    )) _
    c.release.ensures.rests (c.release.ensures.lock ∙ c.acquire.ensures.lock) refl

pub returns-clause-serves : goal.returns-clause-serves
returns-clause-serves g c =
    λ r is. (
    let turn = c.args.self.now in let old = c.args.pass.now in let m = c.slot_mut-counted.result.now in
    let b = took turn old c.requires.turn c.acquire.new.seat.me m c.acquire.ensures.held c.slot_mut-counted.ensures.value in
    serves-made turn old _ c.args.port r (returns-clause-made g c) c.requires.core is
    (c.serve.ensures.serves r (asked-now (first_view turn) (seen m) (own old) b.0 b.1 c.args.port r (c.requires.core ∙ sym old.named)
    is)))
