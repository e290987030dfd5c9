-- Each call on a memory in which served requests wait is as the law says.
use Rattle.std.proofs.Common.{◌≡◌, ◌≢◌, ℕ, zero, suc, ◌+◌, ◌-◌, ◌*◌, ◌<◌, ◌≤◌, inl, inr, Bool, true, false, Option, Some, None, option_map}
use Rattle.std.proofs.Common.{[], ◌∷◌, ◌++◌, length, append-nil, refl, ap, sym, ◌∙◌, subst, arith}
use Rattle.std.specs.Prelude.{◌%◌, ◌==◌, nat_lt, not, ◌&&◌, if◌then◌else◌}
use Rattle.std.specs.List.{remove}
use Rattle.std.proofs.lemmas.Bool.{lt-ltb, le-ltb}
use Rattle.std.proofs.lemmas.List.{length_push}
use Rattle.std.proofs.Math.Nat.{mul-le-mul_left}
use Rattle.access_log.specs.declared.request.Request.{Request}
use Rattle.mem_port.specs.declared.port.Port.{Port}
use Rattle.mem_port.specs.declared.port.PortState.{PortState}
use Rattle.mem_port.specs.declared.port.PortState.TheVariants.{Free, Asked, Waiting, Answered, Closed}
use Rattle.mem_port.specs.declared.port.Withdrawal.{Withdrawal}
use Rattle.mem_port.specs.declared.port.Withdrawal.TheVariants as withdrawal
use Rattle.mem_port.specs.Ports.{core_of, IsWaiting, IsUnanswered, items_of}
use Rattle.mem_port.specs.Flat.{pending}
use Rattle.mem_port.specs.Memory.{MemoryView, IsLawful, Keeps, LeavesPorts, Asks, Serves, Moves, Leaves, Takes, Withdraws}
use Rattle.mem_port.proofs.PortLaws.{cases_port}
use Rattle.queued_memory.specs.Queue.{QueueView, index_of, some_wait, joined, left, counted, answered, next_index, stepped, shown, steps_to}
use Rattle.queued_memory.specs.Queue.{asked_in, queued, IsQueue}
use Rattle.queued_memory.proofs.QueueLemmas.{index_of-push_self, index_of-push_other, index_of-within, index_of-removed_self}
use Rattle.queued_memory.proofs.QueueLemmas.{index_of-removed_other, index_before, index_before-later}
use Rattle.queued_memory.proofs.QueueLaws.{asked-is, asked-change, asked-many, before-unpassed, queue-few, queue-call, queue-joins}
use Rattle.queued_memory.proofs.QueueLaws.{queue-leaves, no-wait, once-kept, shown-moved, load-rises, load-stays, load-leaves, load-falls}
use Rattle.queued_memory.proofs.QueueLaws.{load-answers, some-busy}

-- What is shown of a port tells of the port inside.
free-inside : (index : Option ℕ) (s : PortState) → ((i : ℕ) → index ≡ Some i → pending s ≡ 1) → shown index s ≡ Free → (index ≡ None)
    × (s ≡ Free)
free-inside None s asked is = (refl, is)
free-inside (Some i) Free asked is = let e = asked i refl in cc
free-inside (Some i) (Asked r) asked is = cc
free-inside (Some i) (Waiting r) asked is = cc
free-inside (Some i) (Answered r word) asked is = cc
free-inside (Some i) Closed asked is = cc

asked-inside : (index : Option ℕ) (s : PortState) (r : Request) → shown index s ≡ Asked r → (index ≡ None) × (s ≡ Asked r)
asked-inside None s r is = (refl, is)
asked-inside (Some i) Free r is = cc
asked-inside (Some i) (Asked t) r is = cc
asked-inside (Some i) (Waiting t) r is = cc
asked-inside (Some i) (Answered t word) r is = cc
asked-inside (Some i) Closed r is = cc

-- A port is as it is inside, where it doesn't stand in the queue.
shown-at : (index : Option ℕ) (s t : PortState) → index ≡ None → s ≡ t → shown index s ≡ t
shown-at None s t none is = is
shown-at (Some i) s t none is = cc

-- What was asked inside waits in the queue.
shown-waiting : (index : Option ℕ) (s : PortState) (r : Request) (i : ℕ) → index ≡ Some i → s ≡ Asked r → shown index s ≡ Waiting r
shown-waiting index s r i at is = rw (at, is) refl

module _ (queue : QueueView) (m : MemoryView) (is : IsQueue queue m) where
  keeps-queued : (later : QueueView) (n : MemoryView) → later.latency ≡ queue.latency → Keeps m n → Keeps (queued queue m) (queued later n)
  keeps-queued later n same kept = record {
    image = kept.image;
    cores = kept.cores;
    caches = kept.caches;
    tells_distances = refl;
    bound = rw (same, kept.cores) refl;
    tells_load = refl;
  }

  keeps-itself : Keeps m m
  keeps-itself = record { image = refl; cores = refl; caches = refl; tells_distances = refl; bound = refl; tells_load = refl }

  -- Calls on a port that doesn't stand in the queue.

  leaves-others : (p : Port) (n : MemoryView) → LeavesPorts p m n → LeavesPorts p (queued queue m) (queued queue n)
  leaves-others p n others = record {
    ports = λ q ne. ap (λ s. shown (index_of queue.waiting q) s) (others.ports q ne);
    asks = others.asks;
    distances = λ told q ne waits. omega arith;
  }

  free-outside : (p : Port) → (queued queue m).port p ≡ Free → (index_of queue.waiting p ≡ None) × (m.port p ≡ Free)
  free-outside p free = free-inside (index_of queue.waiting p) (m.port p) (is.asked p) free

  pub asks-keeps : (p : Port) (r : Request) (n : MemoryView) → (queued queue m).port p ≡ Free → IsLawful n → Asks p r m n → IsQueue queue n
  asks-keeps p r n free law asks = queue-call queue m is p n (free-outside p free).0 law asks.kept asks.others.ports

  pub asks-queued : (p : Port) (r : Request) (n : MemoryView) → (queued queue m).port p ≡ Free → core_of p < m.cores → Asks p r m n
      → Asks p r (queued queue m) (queued queue n)
  asks-queued p r n free below asks =
      let outside = free-outside p free in
      let one = asked-change p m n below asks.kept.cores asks.others.ports in
      let more : asked_in n ≡ asked_in m + 1 = omega (arith, one, ap pending outside.1, ap pending asks.port) in
      record {
        kept = keeps-queued queue n refl asks.kept;
        others = leaves-others p n asks.others;
        port = shown-at (index_of queue.waiting p) (n.port p) (Asked r) outside.0 asks.port;
        asks = asks.asks;
        history = asks.history;
        busy = refl;
        load = λ told. omega (arith, load-rises queue.latency queue.steps_left (asked_in m) (asked_in n) is.few_left more, is.latency_is);
      }

  leaves-queued : (p : Port) (state : PortState) (n : MemoryView) → index_of queue.waiting p ≡ None → core_of p < m.cores
      → pending state ≡ 0 → Leaves p state m n → Leaves p state (queued queue m) (queued queue n)
  leaves-queued p state n none below quiet leaves =
      let one = asked-change p m n below leaves.kept.cores leaves.others.ports in
      let fewer : asked_in n ≤ asked_in m = omega (arith, one, ap pending leaves.port, quiet) in
      record {
        kept = keeps-queued queue n refl leaves.kept;
        others = leaves-others p n leaves.others;
        port = shown-at (index_of queue.waiting p) (n.port p) state none leaves.port;
        asks = leaves.asks;
        history = leaves.history;
        busy = λ busy. busy;
        load = λ told. load-stays queue.latency (queue.latency - queue.steps_left) (asked_in m) (asked_in n) fewer;
      }

  pub takes-queued : (p : Port) (result : Option ℕ) (n : MemoryView) → index_of queue.waiting p ≡ None → core_of p < m.cores
      → Takes result p m n → Takes result p (queued queue m) (queued queue n)
  takes-queued p None n none below takes = absurd (no-wait m is.lawful is.at_once p takes.0)
  takes-queued p (Some word) n none below takes = (
    (takes.0.0, shown-at (index_of queue.waiting p) (m.port p) (Answered takes.0.0 word) none takes.0.1),
    leaves-queued p Free n none below refl takes.1,
  )

  pub withdraws-queued : (p : Port) (result : Withdrawal) (n : MemoryView) → index_of queue.waiting p ≡ None → core_of p < m.cores
      → Withdraws result p m n → Withdraws result p (queued queue m) (queued queue n)
  withdraws-queued p withdrawal.Withdrawn n none below withdraws =
      let P : Option ℕ → Type 0 = λ index. IsUnanswered (shown index (m.port p)) in
      (subst P (sym none) withdraws.0, leaves-queued p Closed n none below refl withdraws.1)
  withdraws-queued p (withdrawal.Answered word) n none below withdraws = (
    (withdraws.0.0, shown-at (index_of queue.waiting p) (m.port p) (Answered withdraws.0.0 word) none withdraws.0.1),
    leaves-queued p Closed n none below refl withdraws.1,
  )

  pub takes-keeps : (p : Port) (result : Option ℕ) (n : MemoryView) → index_of queue.waiting p ≡ None → IsLawful n → Takes result p m n
      → IsQueue queue n
  takes-keeps p None n none law takes = queue-call queue m is p n none law takes.1.kept (λ q ne. takes.1.ports q)
  takes-keeps p (Some word) n none law takes = queue-call queue m is p n none law takes.1.kept takes.1.others.ports

  pub withdraws-keeps : (p : Port) (result : Withdrawal) (n : MemoryView) → index_of queue.waiting p ≡ None → IsLawful n
      → Withdraws result p m n → IsQueue queue n
  withdraws-keeps p withdrawal.Withdrawn n none law withdraws = queue-call queue m is p n none law withdraws.1.kept withdraws.1.others.ports
  withdraws-keeps p (withdrawal.Answered word) n none law withdraws =
      queue-call queue m is p n none law withdraws.1.kept withdraws.1.others.ports

  -- A request joins the queue.

  pub serves-keeps : (p : Port) (r : Request) → (queued queue m).port p ≡ Asked r → core_of p < m.cores → IsQueue (joined p queue) m
  serves-keeps p r asked below = let outside =
      asked-inside (index_of queue.waiting p) (m.port p) r asked in queue-joins queue m is p r outside.0 outside.1 below

  pub serves-queued : (p : Port) (r : Request) → (queued queue m).port p ≡ Asked r → Serves p r (queued queue m) (queued (joined p queue) m)
  serves-queued p r asked =
      let outside = asked-inside (index_of queue.waiting p) (m.port p) r asked in
      let waits = shown-waiting (index_of (queue.waiting ++ p ∷ []) p) (m.port p) r (length queue.waiting)
      (index_of-push_self queue.waiting p outside.0) outside.1 in
      record {
        kept = keeps-queued (joined p queue) m refl keeps-itself;
        others = record {
          ports = λ q ne. ap (λ index. shown index (m.port q)) (index_of-push_other queue.waiting p q ne);
          asks = λ q ne. refl;
          distances = λ told q ne waits.
              (let e = ap (λ index. steps_to queue index) (index_of-push_other queue.waiting p q ne) in omega (arith, e));
        };
        asks = refl;
        outcome = inl (waits, refl);
        busy = λ busy. inr waits;
        load = λ told. omega arith;
      }

  -- The room that it needs.
  pub serves-room : (p : Port) (r : Request) → (queued queue m).port p ≡ Asked r → core_of p < m.cores → length queue.waiting < 2 * m.cores
  serves-room p r asked below = omega (arith, length_push queue.waiting p, queue-few (joined p queue) m (serves-keeps p r asked below))

  -- A request leaves the queue.

  -- What is on the other ports.
  others-same : (p q : Port) (index : ℕ) (n : MemoryView) → index_of queue.waiting p ≡ Some index → q ≢ p → n.port q ≡ m.port q
      → shown (index_of (remove queue.waiting index) q) (n.port q) ≡ shown (index_of queue.waiting q) (m.port q)
  others-same p q index n at ne same =
      let later = index_of (remove queue.waiting index) q in
      ap (λ s. shown later s) same ∙
      (sym (shown-moved (index_before index) later (m.port q))
      ∙ ap (λ t. shown t (m.port q)) (sym (index_of-removed_other queue.waiting p q index ne at)))

  -- One request fewer is asked, where one was answered or withdrawn.
  one-fewer : (p : Port) (index : ℕ) (n : MemoryView) → index_of queue.waiting p ≡ Some index → Keeps m n
      → ((q : Port) → q ≢ p → n.port q ≡ m.port q) → pending (n.port p) ≡ 0 → asked_in m ≡ asked_in n + 1
  one-fewer p index n at kept same quiet =
      omega (arith, asked-change p m n (is.within p index at) kept.cores same, is.asked p index at, quiet)

  was-busy : (p : Port) (index : ℕ) → index_of queue.waiting p ≡ Some index → some_wait queue.waiting ≡ true
  was-busy p index at = some-busy queue.waiting (omega (arith, index_of-within queue.waiting p index at))

  -- It is withdrawn.

  pub left-keeps : (index : ℕ) → (left index queue).latency ≡ queue.latency
  left-keeps zero = refl
  left-keeps (suc index) = refl

  left-waiting : (index : ℕ) → (left index queue).waiting ≡ remove queue.waiting index
  left-waiting zero = refl
  left-waiting (suc index) = refl

  leaves-of : (p : Port) (index : ℕ) (result : Withdrawal) (n : MemoryView) → index_of queue.waiting p ≡ Some index → Withdraws result p m n
      → (result ≡ withdrawal.Withdrawn) × Leaves p Closed m n
  leaves-of p index withdrawal.Withdrawn n at withdraws = (refl, withdraws.1)
  leaves-of p index (withdrawal.Answered word) n at withdraws =
      let asked = asked-is (m.port p) (is.asked p index at) in
      let e : Asked asked.0 ≡ Answered withdraws.0.0 word = sym asked.1 ∙ withdraws.0.1 in cc

  left-queue : (p : Port) (index : ℕ) (n : MemoryView) → index_of queue.waiting p ≡ Some index → IsLawful n → Leaves p Closed m n
      → IsQueue (left index queue) n
  left-queue p zero n at law leaves =
      queue-leaves queue m is p zero queue.latency false n at (omega (arith, is.some_left, is.few_left)) (omega arith) law leaves.kept
      leaves.others.ports
  left-queue p (suc index) n at law leaves =
      queue-leaves queue m is p (suc index) queue.steps_left queue.passed n at is.some_left is.few_left law leaves.kept leaves.others.ports

  pub withdrawn-keeps : (p : Port) (index : ℕ) (result : Withdrawal) (n : MemoryView) → index_of queue.waiting p ≡ Some index → IsLawful n
      → Withdraws result p m n → IsQueue (left index queue) n
  withdrawn-keeps p index result n at law withdraws = left-queue p index n at law (leaves-of p index result n at withdraws).1

  none-later : (index : ℕ) (later : Option ℕ) → steps_to (left index queue) later ≤ steps_to queue (option_map (index_before index) later)
  none-later index None = omega arith
  none-later zero (Some j) = omega (arith, ap (λ k. queue.latency * k) (before-unpassed j), is.few_left)
  none-later (suc index) (Some zero) = omega arith
  none-later (suc index) (Some (suc j)) =
      let h : suc j + 1 ≤ suc (index_before index j) + 1 =
      omega (arith, index_before-later index j) in omega (arith, mul-le-mul_left queue.latency h)

  pub withdraws-waiting : (p : Port) (index : ℕ) (result : Withdrawal) (n : MemoryView) → index_of queue.waiting p ≡ Some index
      → Withdraws result p m n → Withdraws result p (queued queue m) (queued (left index queue) n)
  withdraws-waiting p index result n at withdraws =
      let asked = asked-is (m.port p) (is.asked p index at) in
      let found = leaves-of p index result n at withdraws in
      let leaves = found.1 in
      let P : PortState → Type 0 = λ s. IsUnanswered s in
      let R : Withdrawal → Type 0 = λ o. Withdraws o p (queued queue m) (queued (left index queue) n) in
      subst R (sym found.0) (
        subst P (sym (shown-waiting (index_of queue.waiting p) (m.port p) asked.0 index at asked.1)) tt,
        record {
          kept = keeps-queued (left index queue) n (left-keeps index) leaves.kept;
          others = record {
            ports = λ q ne. rw (left-waiting index) (others-same p q index n at ne (leaves.others.ports q ne));
            asks = leaves.others.asks;
            distances = λ told q ne waits. rw (left-waiting index, index_of-removed_other queue.waiting p q index ne at)
                (none-later index (index_of (remove queue.waiting index) q));
          };
          port = rw (left-waiting index)
              (shown-at (index_of (remove queue.waiting index) p) (n.port p) Closed
              (index_of-removed_self queue.waiting p index is.distinct at) leaves.port);
          asks = leaves.asks;
          history = leaves.history;
          busy = λ busy. was-busy p index at;
          load = λ told. rw (left-keeps index)
              (load-leaves queue.latency queue.steps_left (queue.latency - (left index queue).steps_left) (asked_in m) (asked_in n)
              is.few_left (one-fewer p index n at leaves.kept leaves.others.ports (ap pending leaves.port)));
        },
      )

  -- A step.

  counts-near : (q : Port) (index : Option ℕ) → 1 < queue.steps_left → IsWaiting (shown index (m.port q))
      → steps_to (counted queue) index + 1 ≤ steps_to queue index
  counts-near q None some waits = absurd (no-wait m is.lawful is.at_once q waits)
  counts-near q (Some i) some waits = omega arith

  -- It brings the next answer nearer.
  pub counts-queued : 0 < length queue.waiting → 1 < queue.steps_left → Moves (queued queue m) (queued (counted queue) m)
  counts-queued waiting some = record {
    kept = keeps-queued (counted queue) m refl keeps-itself;
    was_busy = some-busy queue.waiting waiting;
    asks = λ q. refl;
    outcome = inl (None, record { ports = λ q. refl; history = sym (append-nil m.history) });
    distances = λ told q waits. counts-near q (index_of queue.waiting q) some waits;
    load = λ told. load-falls queue.latency queue.steps_left (queue.steps_left - 1) (asked_in m) is.few_left (omega arith)
        (omega (arith, asked-many queue m is));
  }

  pub counts-made : 0 < length queue.waiting → 1 < queue.steps_left → (choice : ℕ)
      → counted queue ≡ (if some_wait queue.waiting then stepped choice queue else queue)
  counts-made waiting some choice = rw (some-busy queue.waiting waiting, lt-ltb 1 queue.steps_left some) refl

  -- Or it answers a request.

  pub asked-waiting : (p : Port) (index : ℕ) → index_of queue.waiting p ≡ Some index → (r : Request) × (m.port p ≡ Asked r)
  asked-waiting p index at = asked-is (m.port p) (is.asked p index at)

  pub answers-keeps : (p : Port) (index : ℕ) (n : MemoryView) → index_of queue.waiting p ≡ Some index → IsLawful n
      → ((r : Request) → m.port p ≡ Asked r → Serves p r m n) → IsQueue (answered index queue) n
  answers-keeps p index n at law serves =
      let asked = asked-waiting p index at in
      let served = serves asked.0 asked.1 in
      queue-leaves queue m is p index queue.latency (index == 1) n at (omega (arith, is.some_left, is.few_left)) (omega arith) law
      served.kept served.others.ports

  -- The next index: that of the first one, or the second, where the first wasn't passed over.
  abbrev IsNext : ℕ → Bool → Type 0
  IsNext zero passed = Unit {0}
  IsNext (suc zero) passed = passed ≡ false
  IsNext (suc (suc index)) passed = ⊥

  answers-near : (index : ℕ) (later : Option ℕ) (q : Port) (n : MemoryView) → IsNext index queue.passed → (IsWaiting (n.port q) → ⊥)
      → IsWaiting (shown later (n.port q))
      → steps_to (answered index queue) later + 1 ≤ steps_to queue (option_map (index_before index) later)
  answers-near index None q n next rests waits = absurd (rests waits)
  answers-near zero (Some i) q n next rests waits = omega (arith, ap (λ k. queue.latency * k) (before-unpassed i), is.some_left)
  answers-near (suc zero) (Some zero) q n next rests waits = rw next (omega (arith, is.some_left))
  answers-near (suc zero) (Some (suc i)) q n next rests waits = omega (arith, is.some_left)
  answers-near (suc (suc index)) (Some i) q n next rests waits = absurd next

  -- A memory that lets no request wait answers one as it is served.
  answer-of : (p : Port) (r : Request) (n : MemoryView) → (IsWaiting (n.port p) → ⊥) → Serves p r m n → (word : ℕ)
      × ((n.port p ≡ Answered r word) × (n.history ≡ m.history ++ items_of p r word))
  answer-of p r n rests serves =
      let P : PortState → Type 0 = λ s. IsWaiting s in
      elim serves.outcome as (λ _. (word : ℕ) × ((n.port p ≡ Answered r word) × (n.history ≡ m.history ++ items_of p r word))) [
        | inl waits ↦ absurd (rests (subst P (sym waits.0) tt))
        | inr answered ↦ (answered.0, (answered.1, answered.2))
      ]

  asks-same : (p q : Port) (r : Request) (n : MemoryView) → Serves p r m n → n.asks_left q ≡ m.asks_left q
  asks-same p q r n serves =
      elim (cases_port p q) as (λ _. n.asks_left q ≡ m.asks_left q) [
        | inl e ↦ (let P : Port → Type 0 = λ t. n.asks_left t ≡ m.asks_left t in subst P (sym e) serves.asks)
        | inr ne ↦ serves.others.asks q ne
      ]

  answers-all : (p q : Port) (index : ℕ) (n : MemoryView) → index_of queue.waiting p ≡ Some index → IsNext index queue.passed
      → index_of (remove queue.waiting index) p ≡ None → ((q : Port) → IsWaiting (n.port q) → ⊥)
      → IsWaiting (shown (index_of (remove queue.waiting index) q) (n.port q))
      → steps_to (answered index queue) (index_of (remove queue.waiting index) q) + 1 ≤ steps_to queue (index_of queue.waiting q)
  answers-all p q index n at next gone rests waits =
      elim (cases_port p q) as (λ _. steps_to (answered index queue) (index_of (remove queue.waiting index) q) + 1
      ≤ steps_to queue (index_of queue.waiting q)) [
        | inl e ↦ (let P : Option ℕ → Type 0 = λ index. IsWaiting (shown index (n.port q)) in let Q : Port
            → Type 0 = λ t. index_of (remove queue.waiting index) t ≡ None in absurd (rests q (subst P (subst Q (sym e) gone) waits)))
        | inr ne ↦ rw (index_of-removed_other queue.waiting p q index ne at)
            (answers-near index (index_of (remove queue.waiting index) q) q n next (rests q) waits)
      ]

  answers-queued : (p : Port) (index : ℕ) (n : MemoryView) → index_of queue.waiting p ≡ Some index → IsNext index queue.passed → IsLawful n
      → ((r : Request) → m.port p ≡ Asked r → Serves p r m n) → Moves (queued queue m) (queued (answered index queue) n)
  answers-queued p index n at next law serves =
      let asked = asked-waiting p index at in
      let served = serves asked.0 asked.1 in
      let rests = no-wait n law (once-kept m n served.kept is.at_once) in
      let answer = answer-of p asked.0 n (rests p) served in
      let gone = index_of-removed_self queue.waiting p index is.distinct at in
      record {
        kept = keeps-queued (answered index queue) n refl served.kept;
        was_busy = was-busy p index at;
        asks = λ q. asks-same p q asked.0 n served;
        outcome = inr (
          p,
          (
            asked.0,
            (
              answer.0,
              (
                None,
                record {
                  was = shown-waiting (index_of queue.waiting p) (m.port p) asked.0 index at asked.1;
                  is = shown-at (index_of (remove queue.waiting index) p) (n.port p) (Answered asked.0 answer.0) gone answer.1.0;
                  others = λ q ne. others-same p q index n at ne (served.others.ports q ne);
                  history = answer.1.1 ∙ ap (λ t. t ++ items_of p asked.0 answer.0) (sym (append-nil m.history));
                },
              ),
            ),
          ),
        );
        distances = λ told q waits. answers-all p q index n at next gone rests waits;
        load = λ told. load-answers queue.latency queue.steps_left (asked_in m) (asked_in n) is.some_left is.few_left
            (one-fewer p index n at served.kept served.others.ports (ap pending answer.1.0));
      }

  -- The choice takes one of the first two.
  next-is : (odd passed more : Bool) → IsNext (if odd && not passed && more then 1 else 0) passed
  next-is false passed more = tt
  next-is true true more = tt
  next-is true false false = tt
  next-is true false true = refl

  pub steps-answer : (choice : ℕ) (p : Port) (n : MemoryView) → index_of queue.waiting p ≡ Some (next_index choice queue) → IsLawful n
      → ((r : Request) → m.port p ≡ Asked r → Serves p r m n) → Moves (queued queue m) (queued (answered (next_index choice queue) queue) n)
  steps-answer choice p n at law serves =
      answers-queued p (next_index choice queue) n at (next-is (choice % 2 == 1) queue.passed (nat_lt 1 (length queue.waiting))) law serves

  pub answers-made : 0 < length queue.waiting → queue.steps_left ≤ 1 → (choice : ℕ)
      → answered (next_index choice queue) queue ≡ (if some_wait queue.waiting then stepped choice queue else queue)
  answers-made waiting few choice = rw (some-busy queue.waiting waiting, le-ltb 1 queue.steps_left few) refl
