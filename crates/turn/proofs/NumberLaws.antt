-- What is counted stays within its bounds over each call on a memory.
use Rattle.std.proofs.Common.{◌≡◌, ◌≢◌, ℕ, zero, suc, ◌+◌, ◌*◌, ◌<◌, ◌≤◌, ◌⊎◌, inl, inr, Bool, true, false, IsTrue, refl, ap, sym, ◌∙◌}
use Rattle.std.proofs.Common.{subst}
use Rattle.std.proofs.Common.{arith, eq-eqb, ne_eqb}
use Rattle.std.specs.Prelude.{◌==◌, ◌&&◌, if◌then◌else◌}
use Rattle.std.proofs.lemmas.Bool.{cases_eq}
use Rattle.access_log.specs.declared.request.Request.{Request}
use Rattle.mem_port.specs.declared.port.Port.{Port}
use Rattle.mem_port.specs.declared.port.Port.TheVariants.{Fetch, Access}
use Rattle.mem_port.specs.declared.port.PortState.{PortState}
use Rattle.mem_port.specs.declared.port.PortState.TheVariants.{Free, Asked, Waiting, Answered, Closed}
use Rattle.mem_port.specs.declared.port.Moved.{Moved}
use Rattle.mem_port.specs.declared.port.Moved.TheVariants as moved
use Rattle.mem_port.specs.Ports.{core_of, IsWaiting}
use Rattle.mem_port.specs.Memory.{MemoryView, IsLawful, Keeps, LeavesPorts, Asks, Serves, Steps, steps_of_request}
use Rattle.mem_port.proofs.PortLaws.{cases_port}
use Rattle.mem_port.proofs.SideLaws.{waiting_along, steps-waited}
use Rattle.turn.specs.Numbers.{Numbers, same_port, waits, no_numbers, with_ask, with_serve, with_step, all_asked, IsHelped, IsPaid}

pub port-is : (p : Port) → same_port p p ≡ true
port-is (Fetch c) = eq-eqb c c refl
port-is (Access c) = eq-eqb c c refl

pub port-other : (p q : Port) → q ≢ p → same_port p q ≡ false
port-other (Fetch c) (Fetch k) ne = ne_eqb c k (λ e. ne (ap Fetch (sym e)))
port-other (Fetch c) (Access k) ne = refl
port-other (Access c) (Fetch k) ne = refl
port-other (Access c) (Access k) ne = ne_eqb c k (λ e. ne (ap Access (sym e)))

pub waits-waiting : (s : PortState) → IsWaiting s → waits s ≡ true
waits-waiting Free h = absurd h
waits-waiting (Asked r) h = absurd h
waits-waiting (Waiting r) h = refl
waits-waiting (Answered r word) h = absurd h
waits-waiting Closed h = absurd h

pub waits-cases : (s : PortState) → (waits s ≡ false) ⊎ IsWaiting s
waits-cases Free = inl refl
waits-cases (Asked r) = inl refl
waits-cases (Waiting r) = inr tt
waits-cases (Answered r word) = inl refl
waits-cases Closed = inl refl

-- The distance of a waiting request and the steps that helped it.

pub helped-new : (m : MemoryView) → ((q : Port) → m.port q ≡ Free) → IsHelped m no_numbers
helped-new m free = λ told q w. absurd (waiting_along {a = Free} (free q) w)

-- A call on one port that leaves it not waiting.
helped-other : (p q : Port) (old new : MemoryView) (n : Numbers) → Keeps old new → LeavesPorts p old new → q ≢ p → IsHelped old n
    → IsTrue new.tells_distances → IsWaiting (new.port q) → n.helping q + new.distance q ≤ new.bound
helped-other p q old new n kept others ne h told w =
    let t = sym kept.tells_distances ∙ told in
    let was = waiting_along (others.ports q ne) w in
    let less = others.distances t q ne was in
    let within = h t q was in
    let bound = kept.bound in
    omega (arith, less, within, bound)

pub helped-asks : (p : Port) (r : Request) (old new : MemoryView) (n : Numbers) → Asks p r old new → IsHelped old n
    → IsHelped new (with_ask p n)
helped-asks p r old new n a h = λ told q w. elim (cases_port p q) as (λ _. n.helping q + new.distance q ≤ new.bound) [
  | inl e ↦ absurd (waiting_along {a = Asked r} (ap new.port e ∙ a.port) w)
  | inr ne ↦ helped-other p q old new n a.kept a.others ne h told w
]

pub helped-serves : (p : Port) (r : Request) (old new : MemoryView) (n : Numbers) → IsLawful new → Serves p r old new → IsHelped old n
    → IsHelped new (with_serve p n)
helped-serves p r old new n lawful s h =
    λ told q w. elim (cases_port p q) as (λ _. (if same_port p q then 0 else n.helping q) + new.distance q ≤ new.bound) [
      | inl e ↦ (let is : same_port p q ≡ true = ap (same_port p) e
          ∙ port-is p in let near = (lawful.near told q w).1 in rw is (omega (arith, near)))
      | inr ne ↦ rw (port-other p q ne) (helped-other p q old new n s.kept s.others ne h told w)
    ]

one_more : (b : Bool) (h d l m : ℕ) → h + d ≤ l → m + 1 ≤ d → (if b then h + 1 else h) + m ≤ l
one_more true h d l m a b = omega (arith, a, b)
one_more false h d l m a b = omega (arith, a, b)

pub helped-steps : (result : Moved) (core : ℕ) (old new : MemoryView) (n : Numbers) → Steps result old new → IsHelped old n
    → IsHelped new (with_step result core old n)
helped-steps moved.Moved core old new n s h = λ told q w. (
    let t = sym s.kept.tells_distances ∙ told in
    let was = steps-waited moved.Moved old new s q w in
    let a = h t q was in
    let P : ℕ → Type 0 = λ b. (if (core == core_of q) && waits (old.port q) then n.helping q + 1 else n.helping q) + new.distance q ≤ b in
    subst P (sym s.kept.bound) (one_more ((core == core_of q) && waits (old.port q)) (n.helping q) (old.distance q) old.bound
    (new.distance q) a (s.distances t q w)))
helped-steps moved.Idle core old new n s h = λ told q w. (
    let a = h (sym s.1.kept.tells_distances ∙ told) q (waiting_along (s.1.ports q) w) in
    let b = s.1.distances q in
    let c = s.1.kept.bound in
    omega (arith, a, b, c))

-- The load and the steps that were made.

pub paid-new : (m : MemoryView) → IsLawful m → ((q : Port) → m.port q ≡ Free) → IsPaid m no_numbers
paid-new m lawful free = λ told core.
    (let e = lawful.unloaded told free in let P : ℕ
    → Type 0 = λ l. 0 + l ≤ steps_of_request m * all_asked no_numbers.asked m.cores in subst P (sym e) (omega arith))

pub asked-else : (p : Port) (asked : Port → ℕ) (cores : ℕ) → cores ≤ core_of p
    → all_asked (λ q. if same_port p q then asked q + 1 else asked q) cores ≡ all_asked asked cores
asked-else p asked zero h = refl
asked-else p asked (suc c) h =
    let f = port-other p (Fetch c) (λ e. let i = ap core_of e in absurd (omega (arith, i, h))) in
    let a = port-other p (Access c) (λ e. let i = ap core_of e in absurd (omega (arith, i, h))) in
    let i = asked-else p asked c (omega (arith, h)) in
    rw (f, a, i) refl

pub asked-once : (p : Port) (asked : Port → ℕ)
    → (if same_port p (Fetch (core_of p)) then asked (Fetch (core_of p)) + 1 else asked (Fetch (core_of p)))
    + (if same_port p (Access (core_of p)) then asked (Access (core_of p)) + 1 else asked (Access (core_of p))) ≡ asked (Fetch (core_of p))
    + asked (Access (core_of p)) + 1
asked-once (Fetch c) asked = let e = eq-eqb c c refl in rw e (omega arith)
asked-once (Access c) asked = let e = eq-eqb c c refl in rw e (omega arith)

pub asked-more : (p : Port) (asked : Port → ℕ) (cores : ℕ) → core_of p < cores
    → all_asked (λ q. if same_port p q then asked q + 1 else asked q) cores ≡ all_asked asked cores + 1
asked-more p asked zero h = absurd (omega (arith, h))
asked-more p asked (suc c) h =
    elim (cases_eq c (core_of p)) as
    (λ _. all_asked (λ q. if same_port p q then asked q + 1 else asked q) (suc c) ≡ all_asked asked (suc c) + 1) [
      | inl e ↦
          (let P : ℕ → Type 0 = λ k. (if same_port p (Fetch k) then asked (Fetch k) + 1 else asked (Fetch k))
          + (if same_port p (Access k) then asked (Access k) + 1 else asked (Access k)) ≡ asked (Fetch k) + asked (Access k) + 1 in
          let here = subst P (sym e) (asked-once p asked) in
          let i = asked-else p asked c (omega (arith, e)) in
          omega (arith, here, i))
      | inr ne ↦
          (let f = port-other p (Fetch c) (λ e. ne (ap core_of e)) in
          let a = port-other p (Access c) (λ e. ne (ap core_of e)) in
          let i = asked-more p asked c (omega (arith, h, ne)) in
          rw (f, a, i) (omega arith))
    ]

pay : (s l m k a : ℕ) → s + l ≤ k * a → m ≤ l + k → s + m ≤ k * (a + 1)
pay s l m k a h g = omega (arith, h, g)

pub paid-asks : (p : Port) (r : Request) (old new : MemoryView) (n : Numbers) → core_of p < old.cores → Asks p r old new → IsPaid old n
    → IsPaid new (with_ask p n)
paid-asks p r old new n in_range a h = λ told core. (
    let t = sym a.kept.tells_load ∙ told in
    let P : ℕ → Type 0 = λ c. n.moved core + new.load ≤ (4 * c + 3) * all_asked (λ q. if same_port p q then n.asked q + 1 else n.asked q) c
    in
    let Q : ℕ → Type 0 = λ x. n.moved core + new.load ≤ (4 * old.cores + 3) * x in
    subst P (sym a.kept.cores) (subst Q (sym (asked-more p n.asked old.cores in_range))
    (pay (n.moved core) old.load new.load (steps_of_request old) (all_asked n.asked old.cores) (h t core) (a.load t))))

paid-less : (old new : MemoryView) (n : Numbers) → Keeps old new → (IsTrue old.tells_load → new.load ≤ old.load) → IsPaid old n
    → IsPaid new n
paid-less old new n kept less h = λ told core. (
    let t = sym kept.tells_load ∙ told in
    let P : ℕ → Type 0 = λ c. n.moved core + new.load ≤ (4 * c + 3) * all_asked n.asked c in
    let a = h t core in let b = less t in
    subst P (sym kept.cores) (omega (arith, a, b)))

pub paid-serves : (p : Port) (r : Request) (old new : MemoryView) (n : Numbers) → Serves p r old new → IsPaid old n
    → IsPaid new (with_serve p n)
paid-serves p r old new n s h = paid-less old new n s.kept s.load h

one_step : (b : Bool) (s l k m : ℕ) → s + l ≤ k → m + 1 ≤ l → (if b then s + 1 else s) + m ≤ k
one_step true s l k m a b = omega (arith, a, b)
one_step false s l k m a b = omega (arith, a, b)

pub paid-steps : (result : Moved) (core : ℕ) (old new : MemoryView) (n : Numbers) → Steps result old new → IsPaid old n
    → IsPaid new (with_step result core old n)
paid-steps moved.Moved core old new n s h = λ told c. (
    let t = sym s.kept.tells_load ∙ told in
    let P : ℕ → Type 0 = λ k. (if core == c then n.moved c + 1 else n.moved c) + new.load ≤ (4 * k + 3) * all_asked n.asked k in
    subst P (sym s.kept.cores) (one_step (core == c) (n.moved c) old.load _ new.load (h t c) (s.load t)))
paid-steps moved.Idle core old new n s h = paid-less old new n s.1.kept (λ t. let e = s.1.load in omega (arith, e)) h
