-- A memory in which served requests wait in a queue keeps the law.
use Rattle.std.proofs.Common.{◌≡◌, ◌≢◌, ℕ, zero, suc, ◌+◌, ◌-◌, ◌*◌, ◌<◌, ◌≤◌, inl, inr, Bool, true, false, Option, Some, None, option_map}
use Rattle.std.proofs.Common.{List, [], ◌∷◌, length, refl, ap, sym, ◌∙◌, subst, arith}
use Rattle.std.specs.List.{remove}
use Rattle.std.proofs.Math.Nat.{mul-le-mul_left}
use Rattle.std.specs.Option.{option_len}
use Rattle.image_file.specs.Value.{ImageValue}
use Rattle.access_log.specs.declared.request.Request.{Request}
use Rattle.access_log.specs.declared.Entry.{Entry}
use Rattle.access_log.specs.Items.{own_items}
use Rattle.mem_port.specs.declared.port.Port.{Port}
use Rattle.mem_port.specs.declared.port.Port.TheVariants.{Fetch, Access}
use Rattle.mem_port.specs.declared.port.PortState.{PortState}
use Rattle.mem_port.specs.declared.port.PortState.TheVariants.{Free, Asked, Waiting, Answered, Closed}
use Rattle.mem_port.specs.Ports.{core_of, IsWaiting, HoldsProper, HoldsCode, HoldsEntry}
use Rattle.mem_port.specs.Flat.{pending}
use Rattle.mem_port.specs.Memory.{MemoryView, IsLawful, IsAtOnce, Keeps, steps_of_request}
use Rattle.mem_port.proofs.PortLaws.{cases_port}
use Rattle.queued_memory.specs.Queue.{QueueView, index_of, some_wait, empty, joined, shown, answers_before, steps_to, asked_in, queued}
use Rattle.queued_memory.specs.Queue.{IsQueue, StaysFresh}
use Rattle.queued_memory.proofs.QueueLemmas.{index_of-push_other, index_of-within, index_of-removed_self, index_of-removed_other}
use Rattle.queued_memory.proofs.QueueLemmas.{index_before, distinct-push, distinct-removed, over-change, over-mono, over-two, over-zero}
use Rattle.queued_memory.proofs.QueueLemmas.{length-index_of}

-- A request that is asked and not served.
pub asked-is : (s : PortState) → pending s ≡ 1 → (r : Request) × (s ≡ Asked r)
asked-is Free e = cc
asked-is (Asked r) e = (r, refl)
asked-is (Waiting r) e = cc
asked-is (Answered r word) e = cc
asked-is Closed e = cc

pending-few : (s : PortState) → pending s ≤ 1
pending-few Free = omega arith
pending-few (Asked r) = omega arith
pending-few (Waiting r) = omega arith
pending-few (Answered r word) = omega arith
pending-few Closed = omega arith

-- What is shown of a port tells of the port inside.
shown-free : (index : Option ℕ) (s : PortState) → shown index s ≡ Free → s ≡ Free
shown-free None s is = is
shown-free (Some i) Free is = refl
shown-free (Some i) (Asked r) is = cc
shown-free (Some i) (Waiting r) is = cc
shown-free (Some i) (Answered r word) is = cc
shown-free (Some i) Closed is = cc

shown-proper : (image : ImageValue) (q : Port) (index : Option ℕ) (s : PortState) → HoldsProper image q s
    → HoldsProper image q (shown index s)
shown-proper image q None s holds = holds
shown-proper image q (Some i) Free holds = holds
shown-proper image q (Some i) (Asked r) holds = holds
shown-proper image q (Some i) (Waiting r) holds = holds
shown-proper image q (Some i) (Answered r word) holds = holds
shown-proper image q (Some i) Closed holds = holds

shown-code : (image : ImageValue) (index : Option ℕ) (s : PortState) → HoldsCode image s → HoldsCode image (shown index s)
shown-code image None s holds = holds
shown-code image (Some i) Free holds = holds
shown-code image (Some i) (Asked r) holds = holds
shown-code image (Some i) (Waiting r) holds = holds
shown-code image (Some i) (Answered r word) holds = holds
shown-code image (Some i) Closed holds = holds

shown-entry : (core : ℕ) (own : List Entry) (index : Option ℕ) (s : PortState) → HoldsEntry core own s → HoldsEntry core own (shown index s)
shown-entry core own None s holds = holds
shown-entry core own (Some i) Free holds = holds
shown-entry core own (Some i) (Asked r) holds = holds
shown-entry core own (Some i) (Waiting r) holds = holds
shown-entry core own (Some i) (Answered r word) holds = holds
shown-entry core own (Some i) Closed holds = holds

-- The same is shown at any index.
pub shown-moved : (move : ℕ → ℕ) (index : Option ℕ) (s : PortState) → shown (option_map move index) s ≡ shown index s
shown-moved move None s = refl
shown-moved move (Some i) Free = refl
shown-moved move (Some i) (Asked r) = refl
shown-moved move (Some i) (Waiting r) = refl
shown-moved move (Some i) (Answered r word) = refl
shown-moved move (Some i) Closed = refl

-- Numbers of steps.

pub load-rises : (latency steps old new : ℕ) → steps ≤ latency → new ≡ old + 1
    → latency * new - (latency - steps) ≤ (latency * old - (latency - steps)) + latency
load-rises latency steps old new few e = omega (arith, ap (λ k. latency * k) e)

pub load-stays : (latency left old new : ℕ) → new ≤ old → latency * new - left ≤ latency * old - left
load-stays latency left old new h = omega (arith, mul-le-mul_left latency h)

pub load-leaves : (latency steps left old new : ℕ) → steps ≤ latency → old ≡ new + 1
    → latency * new - left ≤ latency * old - (latency - steps)
load-leaves latency steps left old new few e = omega (arith, ap (λ k. latency * k) e)

pub load-falls : (latency old new asked : ℕ) → old ≤ latency → new + 1 ≡ old → 1 ≤ asked
    → (latency * asked - (latency - new)) + 1 ≤ latency * asked - (latency - old)
load-falls latency old new asked few e some = omega (arith, mul-le-mul_left latency some)

pub load-answers : (latency steps old new : ℕ) → 1 ≤ steps → steps ≤ latency → old ≡ new + 1
    → (latency * new - (latency - latency)) + 1 ≤ latency * old - (latency - steps)
load-answers latency steps old new some few e = omega (arith, ap (λ k. latency * k) e)

few-before : (index : ℕ) (passed : Bool) → answers_before index passed ≤ index + 1
few-before zero true = omega arith
few-before zero false = omega arith
few-before (suc index) passed = omega arith

-- Before a first one that wasn't passed over there may be an answer.
pub before-unpassed : (index : ℕ) → answers_before index false ≡ index + 1
before-unpassed zero = refl
before-unpassed (suc index) = omega arith

index-near : (latency steps cores index before : ℕ) → 1 ≤ steps → steps ≤ latency → index < 2 * cores → before ≤ index + 1
    → (1 ≤ steps + latency * before) × (steps + latency * before ≤ latency * (2 * cores + 1))
index-near latency steps cores index before some few within fits =
    let below : before ≤ 2 * cores = omega arith in
    (omega arith, omega (arith, mul-le-mul_left latency below))

-- How many requests are asked inside.

option_len-asked : (index : Option ℕ) (asked : ℕ) → ((i : ℕ) → index ≡ Some i → asked ≡ 1) → option_len index ≤ asked
option_len-asked None asked h = omega arith
option_len-asked (Some i) asked h = omega (arith, h i refl)

-- A call on one port.
pub asked-change : (p : Port) (m n : MemoryView) → core_of p < m.cores → n.cores ≡ m.cores → ((q : Port) → q ≢ p → n.port q ≡ m.port q)
    → asked_in n + pending (m.port p) ≡ asked_in m + pending (n.port p)
asked-change p m n below cores same =
    rw cores (over-change (λ q. pending (n.port q)) (λ q. pending (m.port q)) p m.cores below (λ q ne. ap pending (same q ne)))

pub some-busy : (waiting : List Port) → 0 < length waiting → some_wait waiting ≡ true
some-busy [] some = absurd (omega arith)
some-busy (p ∷ waiting) some = refl

pub no-wait : (m : MemoryView) → IsLawful m → IsAtOnce m → (q : Port) → IsWaiting (m.port q) → ⊥
no-wait m law once q waits = let near = law.near once.told q waits in absurd (omega (arith, near.0, near.1, once.bound))

pub once-kept : (m n : MemoryView) → Keeps m n → IsAtOnce m → IsAtOnce n
once-kept m n kept once = record { told = kept.tells_distances ∙ once.told; bound = kept.bound ∙ once.bound }

module _ (queue : QueueView) (m : MemoryView) (is : IsQueue queue m) where
  pub asked-many : length queue.waiting ≤ asked_in m
  asked-many =
      omega (
        arith,
        length-index_of queue.waiting m.cores is.distinct is.within,
        over-mono (λ q. option_len (index_of queue.waiting q)) (λ q. pending (m.port q)) m.cores
            (λ q. option_len-asked (index_of queue.waiting q) (pending (m.port q)) (is.asked q)),
      )

  -- A queue is no longer than all ports are many.
  pub queue-few : length queue.waiting ≤ 2 * m.cores
  queue-few = omega (arith, asked-many, over-two (λ q. pending (m.port q)) m.cores (λ q. pending-few (m.port q)))

  waits-busy : (q : Port) (index : Option ℕ) → index_of queue.waiting q ≡ index → IsWaiting (shown index (m.port q))
      → some_wait queue.waiting ≡ true
  waits-busy q None at waits = absurd (no-wait m is.lawful is.at_once q waits)
  waits-busy q (Some i) at waits = some-busy queue.waiting (omega (arith, index_of-within queue.waiting q i at))

  waits-near : (q : Port) (index : Option ℕ) → index_of queue.waiting q ≡ index → IsWaiting (shown index (m.port q))
      → (1 ≤ steps_to queue index) × (steps_to queue index ≤ queue.latency * (2 * m.cores + 1))
  waits-near q None at waits = absurd (no-wait m is.lawful is.at_once q waits)
  waits-near q (Some i) at waits =
      index-near queue.latency queue.steps_left m.cores i (answers_before i queue.passed) is.some_left is.few_left
      (omega (arith, index_of-within queue.waiting q i at, queue-few)) (few-before i queue.passed)

  -- The law of the whole.
  pub queued-lawful : IsLawful (queued queue m)
  queued-lawful = record {
    good = is.lawful.good;
    legal = is.lawful.legal;
    follows = is.lawful.follows;
    lines = is.lawful.lines;
    within = is.lawful.within;
    proper = λ q. shown-proper m.image q (index_of queue.waiting q) (m.port q) (is.lawful.proper q);
    fetched = λ core. shown-code m.image (index_of queue.waiting (Fetch core)) (m.port (Fetch core)) (is.lawful.fetched core);
    served = λ core. shown-entry core (own_items m.history core) (index_of queue.waiting (Access core)) (m.port (Access core))
        (is.lawful.served core);
    waiting = λ q waits. waits-busy q (index_of queue.waiting q) refl waits;
    near = λ told q waits. waits-near q (index_of queue.waiting q) refl waits;
    unloaded = λ told free. (let none = over-zero (λ q. pending (m.port q)) m.cores
        (λ q. ap pending (shown-free (index_of queue.waiting q) (m.port q) (free q))) in omega (arith, ap (λ k. queue.latency * k) none));
  }

  -- A call on a port that doesn't stand in the queue.
  pub queue-call : (p : Port) (n : MemoryView) → index_of queue.waiting p ≡ None → IsLawful n → Keeps m n
      → ((q : Port) → q ≢ p → n.port q ≡ m.port q) → IsQueue queue n
  queue-call p n none law kept same = record {
    lawful = law;
    at_once = once-kept m n kept is.at_once;
    latency_is = rw kept.cores is.latency_is;
    some_left = is.some_left;
    few_left = is.few_left;
    distinct = is.distinct;
    within = λ q i at. rw kept.cores (is.within q i at);
    asked = λ q i at. ap pending (same q
        (λ e. (let P : Port → Type 0 = λ r. index_of queue.waiting r ≡ Some i in let f : None ≡ Some i = sym none ∙ subst P e at in cc)))
        ∙ is.asked q i at;
  }

  -- A request joins the queue.
  pub queue-joins : (p : Port) (r : Request) → index_of queue.waiting p ≡ None → m.port p ≡ Asked r → core_of p < m.cores
      → IsQueue (joined p queue) m
  queue-joins p r none asked below = record {
    lawful = is.lawful;
    at_once = is.at_once;
    latency_is = is.latency_is;
    some_left = is.some_left;
    few_left = is.few_left;
    distinct = distinct-push queue.waiting p is.distinct none;
    within = λ q i at. elim (cases_port p q) as (λ _. core_of q < m.cores) [
      | inl e ↦ (let P : Port → Type 0 = λ r. core_of r < m.cores in subst P (sym e) below)
      | inr ne ↦ is.within q i (sym (index_of-push_other queue.waiting p q ne) ∙ at)
    ];
    asked = λ q i at. elim (cases_port p q) as (λ _. pending (m.port q) ≡ 1) [
      | inl e ↦ (let P : Port → Type 0 = λ r. pending (m.port r) ≡ 1 in subst P (sym e) (ap pending asked))
      | inr ne ↦ is.asked q i (sym (index_of-push_other queue.waiting p q ne) ∙ at)
    ];
  }

  -- A port that stands in the queue when another one went stood there before.
  stood-before : (p q : Port) (index j : ℕ) → index_of queue.waiting p ≡ Some index → index_of (remove queue.waiting index) q ≡ Some j
      → (q ≢ p) × (index_of queue.waiting q ≡ Some (index_before index j))
  stood-before p q index j at later =
      let ne : q ≢ p = λ e. (let P : Port
      → Type 0 = λ r. index_of (remove queue.waiting index) r ≡ Some j in let f : None ≡ Some j =
      sym (index_of-removed_self queue.waiting p index is.distinct at) ∙ subst P e later in cc) in
      (ne, index_of-removed_other queue.waiting p q index ne at ∙ ap (λ t. option_map (index_before index) t) later)

  -- A request leaves the queue.
  pub queue-leaves : (p : Port) (index steps : ℕ) (passed : Bool) (n : MemoryView) → index_of queue.waiting p ≡ Some index → 1 ≤ steps
      → steps ≤ queue.latency → IsLawful n → Keeps m n → ((q : Port) → q ≢ p → n.port q ≡ m.port q)
      → IsQueue (record queue { waiting = remove queue.waiting index; steps_left = steps; passed = passed }) n
  queue-leaves p index steps passed n at some few law kept same = record {
    lawful = law;
    at_once = once-kept m n kept is.at_once;
    latency_is = rw kept.cores is.latency_is;
    some_left = some;
    few_left = few;
    distinct = distinct-removed queue.waiting p index is.distinct at;
    within = λ q j later. (let before = stood-before p q index j at later in rw kept.cores (is.within q (index_before index j) before.1));
    asked = λ q j later. (let before = stood-before p q index j at later in ap pending (same q before.0)
        ∙ is.asked q (index_before index j) before.1);
  }

  -- The cores are the same, while a request needs as many steps.
  pub cores-same : (later : QueueView) (n : MemoryView) → later.latency ≡ queue.latency → IsQueue later n → n.cores ≡ m.cores
  cores-same later n same after = omega (arith, is.latency_is, after.latency_is)

-- Before the first call.

empty-queue : (latency : ℕ) (m : MemoryView) → IsLawful m → IsAtOnce m → latency ≡ steps_of_request m → IsQueue (empty latency) m
empty-queue latency m law once is = record {
  lawful = law;
  at_once = once;
  latency_is = is;
  some_left = omega arith;
  few_left = omega arith;
  distinct = tt;
  within = λ q i at. cc;
  asked = λ q i at. cc;
}

pub stays-fresh : (latency : ℕ) (m : MemoryView) → IsLawful m → IsAtOnce m → latency ≡ steps_of_request m
    → StaysFresh m (queued (empty latency) m)
stays-fresh latency m law once is image cores asks caches fresh = record {
  lawful = queued-lawful (empty latency) m (empty-queue latency m law once is);
  image_is = fresh.image_is;
  cores_are = fresh.cores_are;
  caches_are = fresh.caches_are;
  history = fresh.history;
  ports = fresh.ports;
  asks_left = fresh.asks_left;
  idle = refl;
}
