-- The queue and the ports go together.
use Rattle.std.proofs.Common.{◌≡◌, ◌≢◌, ℕ, suc, ◌+◌, ◌<◌, ◌≤◌, inl, inr, Bool, true, false, cond, List}
use Rattle.std.proofs.Common.{[], ◌∷◌, ◌++◌, length, refl, ap, sym, ◌∙◌, arith, subst}
use Rattle.std.proofs.Common.{get_or-set_same, get_or-set_other}
use Rattle.std.specs.Prelude.{slice_set, not, ◌==◌, filter}
use Rattle.std.proofs.lemmas.Bool.{cases_eq, eq-eqb, ne_eqb}
use Rattle.std.proofs.lemmas.List.Sums.{sum_by-cons, sum_by-append, length-filter}
use Rattle.std.proofs.lemmas.List.Filters.{length-filter_both}
use Rattle.mem_port.specs.declared.port.PortState.{PortState}
use Rattle.mem_port.specs.declared.port.PortState.TheVariants.{Free, Asked, Waiting, Answered, Closed}
use Rattle.mem_port.specs.declared.cell.Cell.{Cell}
use Rattle.mem_port.specs.Ports.{IsWaiting}
use Rattle.mem_port.specs.Flat.{no_cell}
use Rattle.mem_system.specs.System.{cell_in, times, waiting, IsQueued}

abbrev one_if : ℕ → ℕ → ℕ
one_if cache other = cond (other == cache) 1 0

one-same : (cache : ℕ) → one_if cache cache ≡ 1
one-same cache = rw (eq-eqb cache cache refl) refl

one-other : (cache other : ℕ) → other ≢ cache → one_if cache other ≡ 0
one-other cache other ne = rw (ne_eqb other cache ne) refl

times-cons : (cache other : ℕ) (queue : List ℕ) → times cache (other ∷ queue) ≡ one_if cache other + times cache queue
times-cons cache other queue = sum_by-cons (λ k. cond (k == cache) 1 0) other queue

times-push : (cache other : ℕ) (queue : List ℕ) → times cache (queue ++ other ∷ []) ≡ times cache queue + one_if cache other
times-push cache other queue = omega (arith, sum_by-append (λ k. cond (k == cache) 1 0) queue (other ∷ []), times-cons cache other [])

-- A queue without a cache.
abbrev without : ℕ → List ℕ → List ℕ
without cache queue = filter (λ other. not (other == cache)) queue

pub times-without_same : (cache : ℕ) (queue : List ℕ) → times cache (without cache queue) ≡ 0
times-without_same cache [] = refl
times-without_same cache (other ∷ queue) =
    elim (cases_eq other cache) as (λ _. times cache (without cache (other ∷ queue)) ≡ 0) [
      | inl e ↦ rw (eq-eqb other cache e) (times-without_same cache queue)
      | inr ne ↦ rw (ne_eqb other cache ne)
          (let h = times-without_same cache queue in let c = times-cons cache other (without cache queue) in
          let o = one-other cache other ne in omega (arith, h, c, o))
    ]

pub times-without_other : (cache j : ℕ) (queue : List ℕ) → j ≢ cache → times j (without cache queue) ≡ times j queue
times-without_other cache j [] ne = refl
times-without_other cache j (other ∷ queue) ne =
    elim (cases_eq other cache) as (λ _. times j (without cache (other ∷ queue)) ≡ times j (other ∷ queue)) [
      | inl e ↦ rw (eq-eqb other cache e)
          (let h = times-without_other cache j queue ne in let c = times-cons j other queue in
          let o = one-other j other (λ f. ne (sym f ∙ e)) in omega (arith, h, c, o))
      | inr nf ↦ rw (ne_eqb other cache nf)
          (let h = times-without_other cache j queue ne in let c = times-cons j other queue in
          let d = times-cons j other (without cache queue) in omega (arith, h, c, d))
    ]

-- It is as much shorter as the cache stood in it.
pub length-without : (cache : ℕ) (queue : List ℕ) → length (without cache queue) + times cache queue ≡ length queue
length-without cache queue =
    let both = length-filter_both (λ other. not (other == cache)) (λ other. other == cache) (λ other. twice (other == cache)) queue in
    let count = length-filter (λ other. other == cache) queue in
    omega (arith, both, count)
  where
    twice : (b : Bool) → b ≡ not (not b)
    twice true = refl
    twice false = refl

-- While a request waits, somebody stands in the queue.
pub waits-one : (state : PortState) → IsWaiting state → waiting state ≡ 1
waits-one Free w = absurd w
waits-one (Asked r) w = absurd w
waits-one (Waiting r) w = refl
waits-one (Answered r word) w = absurd w
waits-one Closed w = absurd w

pub some-busy : (cache : ℕ) (queue : List ℕ) → times cache queue ≡ 1 → not (length queue == 0) ≡ true
some-busy cache [] one = cc
some-busy cache (other ∷ queue) one = rw (ne_eqb (suc (length queue)) 0 (λ e. omega (arith, e))) refl

pub queued-busy : (cells : List Cell) (queue : List ℕ) → IsQueued cells queue → (cache : ℕ) → IsWaiting (cell_in cells cache).state
    → not (length queue == 0) ≡ true
queued-busy cells queue queued cache w = some-busy cache queue (queued cache ∙ waits-one (cell_in cells cache).state w)

-- A cell changes, and the queue with it.
pub queued-after : (cells : List Cell) (queue queue' : List ℕ) (cache : ℕ) (cell : Cell) → cache < length cells → IsQueued cells queue
    → times cache queue' ≡ waiting cell.state → ((j : ℕ) → j ≢ cache → times j queue' ≡ times j queue)
    → IsQueued (slice_set cells cache cell) queue'
queued-after cells queue queue' cache cell within queued here others j =
    elim (cases_eq j cache) as (λ _. times j queue' ≡ waiting (cell_in (slice_set cells cache cell) j).state) [
      | inl e ↦ (let P : ℕ → Type 0 = λ z. times z queue' ≡ waiting (cell_in (slice_set cells cache cell) z).state in
          subst P (sym e) (here ∙ ap (λ (c : Cell). waiting c.state) (sym (get_or-set_same cells cache cell no_cell within))))
      | inr ne ↦ others j ne
          ∙ (queued j ∙ ap (λ (c : Cell). waiting c.state) (sym (get_or-set_other cells cache j cell no_cell ne)))
    ]

module _ (cells : List Cell) (queue : List ℕ) (cache : ℕ) (cell : Cell) (within : cache < length cells)
    (queued : IsQueued cells queue) where
  -- As many requests wait as before.
  pub queued-quiet : waiting cell.state ≡ waiting (cell_in cells cache).state → IsQueued (slice_set cells cache cell) queue
  queued-quiet same = queued-after cells queue queue cache cell within queued (queued cache ∙ sym same) (λ j ne. refl)

  -- A request joins.
  pub queued-joins : waiting (cell_in cells cache).state ≡ 0 → waiting cell.state ≡ 1
      → IsQueued (slice_set cells cache cell) (queue ++ cache ∷ [])
  queued-joins none one =
      queued-after cells queue (queue ++ cache ∷ []) cache cell within queued
      (let p = times-push cache cache queue in let o = one-same cache in let w = queued cache in omega (arith, p, o, w, none, one))
      (λ j ne. (let p = times-push j cache queue in let o = one-other j cache (λ e. ne (sym e)) in omega (arith, p, o)))

  -- A request leaves that waited, or none.
  pub queued-leaves : waiting cell.state ≡ 0 → IsQueued (slice_set cells cache cell) (without cache queue)
  queued-leaves none =
      queued-after cells queue (without cache queue) cache cell within queued (times-without_same cache queue ∙ sym none)
      (λ j ne. times-without_other cache j queue ne)

-- The first cache waits, and stands in the queue once.
pub first-waits : (cells : List Cell) (cache : ℕ) (caches : List ℕ) → IsQueued cells (cache ∷ caches)
    → (1 ≤ waiting (cell_in cells cache).state) × (waiting (cell_in cells cache).state ≡ 1 + times cache caches)
first-waits cells cache caches queued =
    let c = times-cons cache cache caches in let o = one-same cache in let w = queued cache in
    let sum : waiting (cell_in cells cache).state ≡ 1 + times cache caches = omega (arith, c, o, w) in
    (omega (arith, sum), sum)

-- It is answered.
pub queued-first : (cells : List Cell) (cache : ℕ) (caches : List ℕ) (cell : Cell) → cache < length cells → IsQueued cells (cache ∷ caches)
    → waiting (cell_in cells cache).state ≤ 1 → waiting cell.state ≡ 0 → IsQueued (slice_set cells cache cell) caches
queued-first cells cache caches cell within queued most none =
    queued-after cells (cache ∷ caches) caches cache cell within queued
    (let w = (first-waits cells cache caches queued).1 in omega (arith, w, most, none))
    (λ j ne. (let c = times-cons j cache caches in let o = one-other j cache (λ e. ne (sym e)) in omega (arith, c, o)))
