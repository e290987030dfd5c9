use Rattle.std.proofs.Common.{ℕ, subst, sym, refl, ◌∙◌}
use Rattle.mem_port.specs.Calls.{Withdraw}
use Rattle.mem_port.specs.declared.port.Withdrawal.TheVariants as withdrawal
use Rattle.turn.specs.Counting.{seen, IsCounted}
use Rattle.turn.specs.Passes.{first_view, own}
use Rattle.turn.proofs.Acts.{slot-of, took, may, has_made}
use Rattle.turn.proofs.CoreLaws.{within-now, open-now}
use Rattle.turn.proofs.PassLaws.{withdraws-made}
use Rattle.turn.proofs.pass.Turn.withdraw.Goals as goal

pub slot_mut-counted-requires : goal.slot_mut-counted-requires
slot_mut-counted-requires g c =
    (c.acquire.ensures.lock ∙ c.requires.turn.table, slot-of c.args.pass.now.seat.me c.acquire.new.seat.me c.acquire.ensures.held)

pub withdraw-requires-clause-core : goal.withdraw-requires-clause-core
withdraw-requires-clause-core g c =
    let turn = c.args.self.now in let old = c.args.pass.now in let m = c.slot_mut-counted.result.now in
    let h = took turn old c.requires.turn c.acquire.new.seat.me m c.acquire.ensures.held c.slot_mut-counted.ensures.value in
    let e = c.requires.core ∙ sym old.named in
    within-now (first_view turn) (seen m) (own old) h.0 h.1 c.args.port e

pub withdraw-requires-clause-opened : goal.withdraw-requires-clause-opened
withdraw-requires-clause-opened g c =
    let turn = c.args.self.now in let old = c.args.pass.now in let m = c.slot_mut-counted.result.now in
    let h = took turn old c.requires.turn c.acquire.new.seat.me m c.acquire.ensures.held c.slot_mut-counted.ensures.value in
    let e = c.requires.core ∙ sym old.named in
    open-now (first_view turn) (seen m) (own old) h.0 h.1 c.args.port c.requires.opened.0 e c.requires.opened.1

pub release-requires-clause-may : goal.release-requires-clause-may
release-requires-clause-may g c =
    let turn = c.args.self.now in let old = c.args.pass.now in let m = c.slot_mut-counted.result.now in
    may turn old c.requires.turn (Withdraw c.args.port withdrawal.Withdrawn) c.acquire.new.seat.me m c.withdraw.new.self
    c.acquire.ensures.held c.slot_mut-counted.ensures.value
    (subst (λ (k : ℕ). IsCounted k (Withdraw c.args.port withdrawal.Withdrawn) m c.withdraw.new.self) c.requires.core
    c.in_default.ensures.counted)
    ((c.requires.core, c.in_default.ensures.withdraws))

abbrev pub returns-in_default-clause-made : goal.returns-in_default-clause-made
returns-in_default-clause-made g c =
    let turn = c.args.self.now in let old = c.args.pass.now in let m = c.slot_mut-counted.result.now in
    has_made turn old c.requires.turn (Withdraw c.args.port withdrawal.Withdrawn) c.acquire.new.seat.me m c.withdraw.new.self
    c.acquire.ensures.held c.slot_mut-counted.ensures.value
    (subst (λ (k : ℕ). IsCounted k (Withdraw c.args.port withdrawal.Withdrawn) m c.withdraw.new.self) c.requires.core
    c.in_default.ensures.counted)
    ((c.requires.core, c.in_default.ensures.withdraws)) _
    c.release.ensures.rests (c.release.ensures.lock ∙ c.acquire.ensures.lock) refl

pub returns-in_default-clause-withdraws : goal.returns-in_default-clause-withdraws
returns-in_default-clause-withdraws g c =
    λ r is. withdraws-made c.args.self.now c.args.pass.now _ withdrawal.Withdrawn c.args.port r (returns-in_default-clause-made g c)
    c.requires.core is c.in_default.ensures.withdraws

pub release-requires-2-clause-may : goal.release-requires-2-clause-may
release-requires-2-clause-may g c =
    let turn = c.args.self.now in let old = c.args.pass.now in let m = c.slot_mut-counted.result.now in
    may turn old c.requires.turn (Withdraw c.args.port (withdrawal.Answered c.in-Answered.word)) c.acquire.new.seat.me m c.withdraw.new.self
    c.acquire.ensures.held c.slot_mut-counted.ensures.value
    (subst (λ (k : ℕ). IsCounted k (Withdraw c.args.port (withdrawal.Answered c.in-Answered.word)) m c.withdraw.new.self)
    c.requires.core c.in-Answered.ensures.counted)
    ((c.requires.core, c.in-Answered.ensures.withdraws))

abbrev pub returns-clause-made : goal.returns-clause-made
returns-clause-made g c =
    let turn = c.args.self.now in let old = c.args.pass.now in let m = c.slot_mut-counted.result.now in
    has_made turn old c.requires.turn (Withdraw c.args.port (withdrawal.Answered c.in-Answered.word)) c.acquire.new.seat.me m
    c.withdraw.new.self
    c.acquire.ensures.held c.slot_mut-counted.ensures.value
    (subst (λ (k : ℕ). IsCounted k (Withdraw c.args.port (withdrawal.Answered c.in-Answered.word)) m c.withdraw.new.self)
    c.requires.core c.in-Answered.ensures.counted)
    ((c.requires.core, c.in-Answered.ensures.withdraws)) _
    c.release-2.ensures.rests (c.release-2.ensures.lock ∙ c.acquire.ensures.lock) refl

pub returns-clause-withdraws : goal.returns-clause-withdraws
returns-clause-withdraws g c =
    λ r is. withdraws-made c.args.self.now c.args.pass.now _ (withdrawal.Answered c.in-Answered.word) c.args.port r
    (returns-clause-made g c) c.requires.core is c.in-Answered.ensures.withdraws
