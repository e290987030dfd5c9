use Rattle.std.proofs.Common.{◌≡◌, ◌<◌, ℕ, ◌-◌, length, sym, ◌∙◌, subst, refl, ap, arith}
use Rattle.std.proofs.lemmas.Grind.{common_steps}
use Rattle.std.specs.Prelude.{slice_get, Some}
use Rattle.std_laws.proofs.ListLaws.{AtEach-push}
use Rattle.turn.specs.Numbers.{numbers, no_numbers}
use Rattle.turn.specs.Views.{counted}
use Rattle.turn.specs.Counting.{seen}
use Rattle.turn.proofs.Opening.{waits-all, waits-rests, waits-left, split-view, last-view, IsFirstSeat, first-pass, none-in}
use Rattle.turn.proofs.ends.make.Goals as goal

pub loop-core-init : goal.loop-core-init
loop-core-init g c =
    let view = g.M.MemoryCore.view in let key = c.in_ok-lock.lock.table.shared.key.value in
    let x = counted (view key.memory) no_numbers in
    let same = ap (λ n. counted (view key.memory) n) (ap (λ k. numbers view k.tally) c.in_ok-lock.ensures.key ∙ c.new.ensures.numbers) in
    let cores = ap (λ k. (view k.memory).cores) c.in_ok-lock.ensures.key
    ∙ (ap (λ m. (view m).cores) c.new.ensures.memory ∙ c.requires.cores) in
    let opened = subst (λ k. c.in_ok-lock.seat.me ≡ (Rattle.turn.specs.Rule.opening_view seen k, Rattle.std.proofs.Common.[]))
    (sym c.in_ok-lock.ensures.key) c.in_ok-lock.ensures.view in
    record {
      lock = c.in_ok-lock.ensures.lock;
      left = waits-all key seen x c.args.cores c.in_ok-lock.seat.me same cores c.requires.some_cores opened;
      count = c.in_ok-passes.ensures.len;
      room = grind (arith, common_steps);
      made = λ core p got. absurd (none-in c.in_ok-passes.passes.items core p c.in_ok-passes.ensures.items got);
    }

pub split-seat-requires-clause-rests : goal.split-seat-requires-clause-rests
split-seat-requires-clause-rests g c =
    let key = c.in_ok-lock.lock.table.shared.key.value in (
      c.loop-core.core,
      waits-rests key (counted (g.M.MemoryCore.view key.memory) no_numbers) c.loop-core.core c.loop-core.invariant.left.0
          c.loop-core.seat.me c.loop-core.invariant.left.1.1,
    )

pub loop-core-preserved : goal.loop-core-preserved
loop-core-preserved g c =
    let lock = c.in_ok-lock.lock in let key = lock.table.shared.key.value in let x = counted (g.M.MemoryCore.view key.memory) no_numbers in
    let i = c.loop-core.invariant in
    let n : ℕ = i.left.0 in
    let some : 0 < n = omega (arith, i.left.1.0, c.loop-core-test.true) in
    let next = waits-left key x c.loop-core.core n c.loop-core.seat.me c.split-seat.new.seat.me i.left.1.1 some c.split-seat.ensures.left in
    let at : length c.loop-core.passes.items ≡ c.loop-core.core = omega (arith, i.count, c.loop-core.passes.ok) in
    let view = split-view key x c.loop-core.core n c.loop-core.seat.me c.split-seat.result.me i.left.1.1 c.split-seat.ensures.given in
    record {
      lock = c.split-seat.ensures.lock ∙ i.lock;
      left = (next.0, (omega (arith, next.1.0, i.left.1.0), next.1.1));
      count = grind (arith, common_steps);
      room = grind (arith, common_steps);
      made = λ core p got. AtEach-push (λ j q. IsFirstSeat (record { lock = lock }) j q.seat.table_id q.core q.seat.me.0)
          c.loop-core.passes.items _ i.made
          (subst (λ j. IsFirstSeat (record { lock = lock }) j c.split-seat.result.table_id c.loop-core.core c.split-seat.result.me.0)
          (sym at)
          (c.split-seat.ensures.same ∙ i.lock, (refl, view)))
          core p (subst (λ l. slice_get l core ≡ Some p) c.push_reserved.ensures.items got);
    }

pub returns-clause-passes : goal.returns-clause-passes
returns-clause-passes g c = λ core p got. (
    let lock = c.in_ok-lock.lock in let key = lock.table.shared.key.value in let x = counted (g.M.MemoryCore.view key.memory) no_numbers in
    let i = c.loop-core.invariant in
    let n : ℕ = i.left.0 in
    let none : n ≡ 0 = omega (arith, i.left.1.0, c.loop-core-test.false, c.requires.some_cores) in
    let last : c.args.cores - 1 ≡ c.loop-core.core = omega (arith, i.left.1.0, none) in
    let at : length c.loop-core.passes.items ≡ c.loop-core.core = omega (arith, i.count, c.loop-core.passes.ok) in
    let view = last-view key x c.loop-core.core n c.loop-core.seat.me i.left.1.1 none in
    first-pass (record { lock = lock }) core p
    (AtEach-push (λ j q. IsFirstSeat (record { lock = lock }) j q.seat.table_id q.core q.seat.me.0) c.loop-core.passes.items _ i.made
    (subst (λ j. IsFirstSeat (record { lock = lock }) j c.loop-core.seat.table_id (c.args.cores - 1) c.loop-core.seat.me.0) (sym at)
    (i.lock, (last, view)))
    core p (subst (λ l. slice_get l core ≡ Some p) c.push_reserved-2.ensures.items got)))
