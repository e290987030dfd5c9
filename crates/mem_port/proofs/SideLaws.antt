-- A caller that has a memory for itself keeps the law of a core's side: what each call leaves of the other cores, what it
-- means to its own, and who pays for its steps.
use Rattle.std.proofs.Common.{◌≡◌, ◌≢◌, ℕ, ◌+◌, ◌-◌, ◌*◌, ◌≤◌, inl, inr, false, IsTrue, Option, Some, None, List, [], ◌++◌}
use Rattle.std.proofs.Common.{append_assoc, append-nil, refl, ap, sym, ◌∙◌, subst, arith, add-zero, rules}
use Rattle.std.proofs.lemmas.Bool.{cases_eq}
use Rattle.std.proofs.Math.Nat.{le_trans, le_of_suc-le}
use Rattle.std.proofs.Math.Numerals.{add-one}
use Rattle.access_log.specs.Items.{own_items}
use Rattle.access_log.specs.Requests.{entry_of}
use Rattle.access_log.specs.declared.Entry.{Entry}
use Rattle.access_log.specs.declared.request.Request.{Request}
use Rattle.access_log.specs.declared.Transaction.{Transaction}
use Rattle.access_log.specs.declared.Item.{Item}
use Rattle.mem_port.specs.declared.port.Port.{Port}
use Rattle.mem_port.specs.declared.port.Port.TheVariants.{Fetch, Access}
use Rattle.mem_port.specs.declared.port.Moved.{Moved}
use Rattle.mem_port.specs.declared.port.Moved.TheVariants as moved
use Rattle.mem_port.specs.declared.port.Withdrawal.{Withdrawal}
use Rattle.mem_port.specs.declared.port.Withdrawal.TheVariants as withdrawal
use Rattle.mem_port.specs.declared.port.PortState.{PortState}
use Rattle.mem_port.specs.declared.port.PortState.TheVariants.{Free, Asked, Waiting, Answered, Closed}
use Rattle.mem_port.specs.Ports.{core_of, IsWaiting, IsServed, IsOpen, IsUnanswered, IsAtRest, but_last, taken_of, items_of}
use Rattle.mem_port.specs.Memory.{MemoryView, IsLawful, Keeps, LeavesPorts, Asks, Serves, Answers, Moves, Same, Steps, Leaves, Takes}
use Rattle.mem_port.specs.Memory.{Withdraws, steps_of_request, committed, bus_items}
use Rattle.mem_port.specs.Side.{Served, Holds, port_phase, Evolves, KeepsSide, LeavesPort, SideAsks, SideServes, SideStays, SideSteps}
use Rattle.mem_port.specs.Side.{SideTakes, SideWithdraws, LeavesOthers, Paid, potential, remaining_wait_of, side_of}
use Rattle.mem_port.proofs.PortLaws.{cases_port, but_last-append, own-answered_other, own-answered_same, own-bus_after}

-- Facts that go along an equation.

pub waiting_along : {a b : PortState} → b ≡ a → IsWaiting b → IsWaiting a
waiting_along e h = let P : PortState → Type 0 = λ x. IsWaiting x in subst P e h

not_waiting : {s : PortState} {r : Request} {word : ℕ} → s ≡ Answered r word → IsWaiting s → ⊥
not_waiting e h = waiting_along {a = Answered _ _} e h

other_port : {p q : Port} → core_of q ≢ core_of p → q ≢ p
other_port ne e = ne (ap core_of e)

access_not_fetch : (c k : ℕ) → Access k ≢ Fetch c
access_not_fetch c k e = cc

fetch_not_access : (c k : ℕ) → Fetch k ≢ Access c
fetch_not_access c k e = cc

-- A port that was answered meanwhile has the phase that it had.
pub port_phase-evolves : (a b : PortState) → Evolves a b → port_phase b ≡ port_phase a
port_phase-evolves a b (inl e) = ap port_phase e
port_phase-evolves a b (inr s) = ap port_phase s.1.1.1 ∙ sym (ap port_phase s.1.1.0)

-- A phase tells of its port whether it was served, and whether there is a request. What was served waits or is answered.

pub port_phase-served : (a : PortState) (r : Request) → port_phase a ≡ Served r → IsServed a
port_phase-served Free r e = cc
port_phase-served (Asked q) r e = cc
port_phase-served (Waiting q) r e = tt
port_phase-served (Answered q word) r e = tt
port_phase-served Closed r e = cc

pub port_phase-open : (a : PortState) (r : Request) → Holds (port_phase a) r → IsOpen a
port_phase-open Free r h = absurd h
port_phase-open (Asked q) r h = tt
port_phase-open (Waiting q) r h = tt
port_phase-open (Answered q word) r h = tt
port_phase-open Closed r h = absurd h

pub port_phase-answered : (a : PortState) (r : Request) → port_phase a ≡ Served r → (IsWaiting a → ⊥) → (word : ℕ) × (a ≡ Answered r word)
port_phase-answered Free r e not = cc
port_phase-answered (Asked q) r e not = cc
port_phase-answered (Waiting q) r e not = absurd (not tt)
port_phase-answered (Answered q word) r e not = let same : q ≡ r = cc in (word, ap (λ s. Answered s word) same)
port_phase-answered Closed r e not = cc

-- A port that waits or has no answer did so before; one at rest stays as it was.
pub still_waiting : {a b : PortState} → Evolves a b → IsWaiting b → IsWaiting a
still_waiting {a} {b} (inl e) h = waiting_along e h
still_waiting {a} {b} (inr s) h = absurd (not_waiting s.1.1.1 h)

pub still_unanswered : {a b : PortState} → Evolves a b → IsUnanswered b → IsUnanswered a
still_unanswered {a} {b} (inl e) h = let P : PortState → Type 0 = λ x. IsUnanswered x in subst P e h
still_unanswered {a} {b} (inr s) h = let P : PortState → Type 0 = λ x. IsUnanswered x in absurd (subst P s.1.1.1 h)

pub rest-evolves : {a b : PortState} → Evolves a b → IsAtRest a → b ≡ a
rest-evolves {a} {b} (inl e) h = e
rest-evolves {a} {b} (inr s) h = let P : PortState → Type 0 = λ x. IsAtRest x in absurd (subst P s.1.1.0 h)

-- A port that is as one was that is as another was is as that was.
pub evolves-twice : {a b d : PortState} → Evolves a b → Evolves b d → Evolves a d
evolves-twice {a} {b} {d} (inl e) (inl f) = inl (f ∙ e)
evolves-twice {a} {b} {d} (inl e) (inr s) = inr (s.0, (s.1.0, (sym e ∙ s.1.1.0, s.1.1.1)))
evolves-twice {a} {b} {d} (inr s) (inl f) = inr (s.0, (s.1.0, (s.1.1.0, f ∙ s.1.1.1)))
evolves-twice {a} {b} {d} (inr s) (inr t) = let e : Answered s.0 s.1.0 ≡ Waiting t.0 = sym s.1.1.1 ∙ t.1.1.0 in cc

-- What is kept twice is kept.
pub kept_twice : {a b d : MemoryView} → Keeps a b → Keeps b d → Keeps a d
kept_twice h k = record {
  image = k.image ∙ h.image;
  cores = k.cores ∙ h.cores;
  caches = k.caches ∙ h.caches;
  tells_distances = k.tells_distances ∙ h.tells_distances;
  bound = k.bound ∙ h.bound;
  tells_load = k.tells_load ∙ h.tells_load;
}

-- What calls leave of the other cores is reflexive and transitive.

pub stays-view : (core : ℕ) (m : MemoryView) → LeavesOthers core m m
stays-view core m = record {
  kept = record { image = refl; cores = refl; caches = refl; tells_distances = refl; bound = refl; tells_load = refl };
  history = ([], sym (append-nil m.history));
  ports = λ q ne. inl refl;
  asks = λ q ne. refl;
  taken = λ k ne. refl;
  distances = λ t q ne w. omega arith;
  load = λ t. omega arith;
}

pub goes_on-view : (core : ℕ) (a b d : MemoryView) → LeavesOthers core a b → LeavesOthers core b d → LeavesOthers core a d
goes_on-view core a b d h k = record {
  kept = kept_twice h.kept k.kept;
  history = (
    h.history.0 ++ k.history.0,
    k.history.1
        ∙ (ap (λ t. t ++ k.history.0) h.history.1 ∙ append_assoc a.history h.history.0 k.history.0),
  );
  ports = λ q ne. evolves-twice (h.ports q ne) (k.ports q ne);
  asks = λ q ne. k.asks q ne ∙ h.asks q ne;
  taken = λ n ne. k.taken n ne ∙ h.taken n ne;
  distances = λ t q ne w. le_trans (k.distances (h.kept.tells_distances ∙ t) q ne w)
      (h.distances t q ne (still_waiting (k.ports q ne) w));
  load = λ t. le_trans (k.load (h.kept.tells_load ∙ t)) (h.load t);
}

-- Potential.

-- Where nothing is asked, steps are paid by the load.
potential-same : (core steps : ℕ) (old new : MemoryView) → Keeps old new → new.asks_left (Fetch core) ≡ old.asks_left (Fetch core)
    → new.asks_left (Access core) ≡ old.asks_left (Access core) → new.load + steps ≤ old.load →
    potential core new + steps ≤ potential core old
potential-same core steps old new kept f a h = let e = kept.cores in rw (e, f, a) (omega arith)

-- The load that a request adds is paid by asking it.
potential_ask : (l m k f g a b : ℕ) → m ≤ l + k → g + 1 ≡ f → b ≡ a → m + k * (g + b) ≤ l + k * (f + a)
potential_ask l m k f g a b h e i = rw (← e, i) (omega arith)

potential_at : (core : ℕ) (old new : MemoryView) → Keeps old new
    → new.load + steps_of_request old * (new.asks_left (Fetch core) + new.asks_left (Access core)) ≤ potential core old
    → potential core new ≤ potential core old
potential_at core old new kept h = rw kept.cores h

asks-load : (p : Port) (r : Request) (old new : MemoryView) → Asks p r old new → IsTrue old.tells_load
    → potential (core_of p) new ≤ potential (core_of p) old
asks-load (Fetch c) r old new h t =
    potential_at c old new h.kept (potential_ask _ _ _ _ _ _ _ (h.load t) h.asks (h.others.asks (Access c) (access_not_fetch c c)))
asks-load (Access c) r old new h t =
    potential_at c old new h.kept
    (let e = potential_ask old.load new.load (steps_of_request old) (old.asks_left (Access c)) (new.asks_left (Access c))
    (old.asks_left (Fetch c)) (new.asks_left (Fetch c)) (h.load t) h.asks (h.others.asks (Fetch c) (fetch_not_access c c))
    in omega arith)

-- A call on a port that asks for nothing.
same-load : (p : Port) (old new : MemoryView) → Keeps old new → LeavesPorts p old new → new.asks_left p ≡ old.asks_left p
    → new.load ≤ old.load → potential (core_of p) new ≤ potential (core_of p) old
same-load (Fetch c) old new kept others asks h =
    rw add-zero at (potential-same c 0 old new kept asks (others.asks (Access c) (access_not_fetch c c)) (omega arith))
same-load (Access c) old new kept others asks h =
    rw add-zero at (potential-same c 0 old new kept (others.asks (Fetch c) (fetch_not_access c c)) asks (omega arith))

-- What each call leaves of the other cores.

committed-same : (old new : MemoryView) (core : ℕ) → new.port (Access core) ≡ old.port (Access core)
    → own_items new.history core ≡ own_items old.history core → committed new core ≡ committed old core
committed-same old new core e f = ap (λ s. taken_of s (own_items new.history core)) e ∙ ap (λ es. taken_of (old.port (Access core)) es) f

-- Any call on a port, by what it does to the history and the load.
call-leaves : (p : Port) (old new : MemoryView) → Keeps old new → LeavesPorts p old new
    → ((more : List Item) × (new.history ≡ old.history ++ more))
    → ((core : ℕ) → core ≢ core_of p → own_items new.history core ≡ own_items old.history core)
    → (IsTrue old.tells_load → potential (core_of p) new ≤ potential (core_of p) old) →
    LeavesOthers (core_of p) old new
call-leaves p old new kept others history own load = record {
  kept = kept;
  history = history;
  ports = λ q ne. inl (others.ports q (other_port ne));
  asks = λ q ne. others.asks q (other_port ne);
  taken = λ k ne. committed-same old new k (others.ports (Access k) (other_port ne)) (own k ne);
  distances = λ t q ne w. others.distances t q (other_port ne) (waiting_along (others.ports q (other_port ne)) w);
  load = load;
}

same-history : (old new : MemoryView) → new.history ≡ old.history → (more : List Item) × (new.history ≡ old.history ++ more)
same-history old new e = ([], e ∙ sym (append-nil old.history))

pub asks-leaves : (p : Port) (r : Request) (old new : MemoryView) → Asks p r old new → LeavesOthers (core_of p) old new
asks-leaves p r old new h = call-leaves p old new h.kept h.others (same-history old new h.history)
    (λ k ne. ap (λ t. own_items t k) h.history) (asks-load p r old new h)

own-served : (p : Port) (r : Request) (old new : MemoryView) → Serves p r old new → (core : ℕ) → core ≢ core_of p
    → own_items new.history core ≡ own_items old.history core
own-served p r old new h core ne =
    elim h.outcome as (λ _. own_items new.history core ≡ own_items old.history core) [
      | inl o ↦ ap (λ t. own_items t core) o.1
      | inr o ↦ ap (λ t. own_items t core) o.2 ∙ own-answered_other old.history p r o.0 core ne
    ]

served-history : (p : Port) (r : Request) (old new : MemoryView) → Serves p r old new → (more : List Item)
    × (new.history ≡ old.history ++ more)
served-history p r old new h =
    elim h.outcome as (λ _. (more : List Item) × (new.history ≡ old.history ++ more)) [
      | inl o ↦ same-history old new o.1
      | inr o ↦ (items_of p r o.0, o.2)
    ]

pub serves-leaves : (p : Port) (r : Request) (old new : MemoryView) → Serves p r old new → LeavesOthers (core_of p) old new
serves-leaves p r old new h = call-leaves p old new h.kept h.others (served-history p r old new h) (own-served p r old new h)
    (λ t. same-load p old new h.kept h.others h.asks (h.load t))

leaves-leaves : (p : Port) (state : PortState) (old new : MemoryView) → Leaves p state old new → LeavesOthers (core_of p) old new
leaves-leaves p state old new h =
    call-leaves p old new h.kept h.others (same-history old new h.history) (λ k ne. ap (λ t. own_items t k) h.history)
    (λ t. same-load p old new h.kept h.others h.asks (h.load t))

same-leaves : (core : ℕ) (old new : MemoryView) → Same old new → LeavesOthers core old new
same-leaves core old new h = record {
  kept = h.kept;
  history = same-history old new h.history;
  ports = λ q ne. inl (h.ports q);
  asks = λ q ne. h.asks q;
  taken = λ k ne. committed-same old new k (h.ports (Access k)) (ap (λ t. own_items t k) h.history);
  distances = λ t q ne w. let e = h.distances q in omega (arith, e);
  load = λ t. rw add-zero at (potential-same core 0 old new h.kept (h.asks (Fetch core)) (h.asks (Access core))
      (let e = h.load in omega (arith, e)));
}

answers-port : (p : Port) (r : Request) (word : ℕ) (bus : Option Transaction) (old new : MemoryView) → Answers p r word bus old new
    → (q : Port) → Evolves (old.port q) (new.port q)
answers-port p r word bus old new a q =
    elim (cases_port p q) as (λ _. Evolves (old.port q) (new.port q)) [
      | inl e ↦ inr (r, (word, (ap old.port e ∙ a.was, ap new.port e ∙ a.is)))
      | inr ne ↦ inl (a.others q ne)
    ]

moves-port : (old new : MemoryView) → Moves old new → (q : Port) → Evolves (old.port q) (new.port q)
moves-port old new h q =
    elim h.outcome as (λ _. Evolves (old.port q) (new.port q)) [
      | inl o ↦ inl (o.1.ports q)
      | inr o ↦ answers-port o.0 o.1.0 o.1.1.0 o.1.1.1.0 old new o.1.1.1.1 q
    ]

-- A port that waits behind a step waited before it.
pub steps-waited : (result : Moved) (old new : MemoryView) → Steps result old new → (q : Port) → IsWaiting (new.port q)
    → IsWaiting (old.port q)
steps-waited moved.Moved old new h q w = still_waiting (moves-port old new h q) w
steps-waited moved.Idle old new h q w = waiting_along (h.1.ports q) w

-- An entry that was just made is not taken yet.
answered-committed : (core : ℕ) (r : Request) (word : ℕ) (bus : Option Transaction) (old new : MemoryView)
    → Answers (Access core) r word bus old new → committed new core ≡ committed old core
answered-committed core r word bus old new a =
    ap (λ s. taken_of s (own_items new.history core)) a.is
    ∙ (ap but_last (ap (λ t. own_items t core) a.history ∙ own-answered_same (old.history ++ bus_items bus) core r word)
    ∙ (but_last-append (own_items (old.history ++ bus_items bus) core) (entry_of core r word)
    ∙ (own-bus_after old.history bus core
    ∙ sym (ap (λ s. taken_of s (own_items old.history core)) a.was))))

answers-committed : (p : Port) (r : Request) (word : ℕ) (bus : Option Transaction) (old new : MemoryView) → Answers p r word bus old new
    → (core : ℕ) → committed new core ≡ committed old core
answers-committed (Fetch c) r word bus old new a core =
    committed-same old new core (a.others (Access core) (access_not_fetch c core))
    (ap (λ t. own_items t core) (a.history ∙ append-nil (old.history ++ bus_items bus)) ∙ own-bus_after old.history bus core)
answers-committed (Access c) r word bus old new a core =
    elim (cases_eq core c) as (λ _. committed new core ≡ committed old core) [
      | inl e ↦ let P : ℕ → Type 0 = λ n. committed new n ≡ committed old n in subst P (sym e) (answered-committed c r word bus old new a)
      | inr ne ↦
          committed-same old new core (a.others (Access core) (λ e. ne (ap core_of e)))
          (ap (λ t. own_items t core) a.history
          ∙ (own-answered_other (old.history ++ bus_items bus) (Access c) r word core ne ∙ own-bus_after old.history bus core))
    ]

moves-committed : (old new : MemoryView) → Moves old new → (core : ℕ) → committed new core ≡ committed old core
moves-committed old new h core =
    elim h.outcome as (λ _. committed new core ≡ committed old core) [
      | inl o ↦ committed-same old new core (o.1.ports (Access core))
          (ap (λ t. own_items t core) o.1.history ∙ own-bus_after old.history o.0 core)
      | inr o ↦ answers-committed o.0 o.1.0 o.1.1.0 o.1.1.1.0 old new o.1.1.1.1 core
    ]

moves-history : (old new : MemoryView) → Moves old new → (more : List Item) × (new.history ≡ old.history ++ more)
moves-history old new h =
    elim h.outcome as (λ _. (more : List Item) × (new.history ≡ old.history ++ more)) [
      | inl o ↦ (bus_items o.0, o.1.history)
      | inr o ↦ (
        bus_items o.1.1.1.0 ++ items_of o.0 o.1.0 o.1.1.0,
        o.1.1.1.1.history
            ∙ append_assoc old.history (bus_items o.1.1.1.0) (items_of o.0 o.1.0 o.1.1.0),
      )
    ]

-- A step that moves something is paid by the core for which it is made.
moves-paid : (core : ℕ) (old new : MemoryView) → Moves old new → Paid core 1 old new
moves-paid core old new h t = potential-same core 1 old new h.kept (h.asks (Fetch core)) (h.asks (Access core)) (h.load t)

moves-leaves : (core : ℕ) (old new : MemoryView) → Moves old new → LeavesOthers core old new
moves-leaves core old new h = record {
  kept = h.kept;
  history = moves-history old new h;
  ports = λ q ne. moves-port old new h q;
  asks = λ q ne. h.asks q;
  taken = λ k ne. moves-committed old new h k;
  distances = λ t q ne w. le_of_suc-le (rw add-one at (h.distances t q w));
  load = λ t. le_of_suc-le (rw add-one at (moves-paid core old new h t));
}

pub steps-leaves : (result : Moved) (core : ℕ) (old new : MemoryView) → Steps result old new → LeavesOthers core old new
steps-leaves moved.Moved core old new h = moves-leaves core old new h
steps-leaves moved.Idle core old new h = same-leaves core old new h.1

pub takes-leaves : (result : Option ℕ) (p : Port) (old new : MemoryView) → Takes result p old new → LeavesOthers (core_of p) old new
takes-leaves None p old new h = same-leaves (core_of p) old new h.1
takes-leaves (Some word) p old new h = leaves-leaves p Free old new h.1

pub withdraws-leaves : (result : Withdrawal) (p : Port) (old new : MemoryView) → Withdraws result p old new
    → LeavesOthers (core_of p) old new
withdraws-leaves withdrawal.Withdrawn p old new h = leaves-leaves p Closed old new h.1
withdraws-leaves (withdrawal.Answered word) p old new h = leaves-leaves p Closed old new h.1

-- Who pays for steps.

pub leaves-paid : (core : ℕ) (old new : MemoryView) → LeavesOthers core old new → Paid core 0 old new
leaves-paid core old new h t = let e = h.load t in omega (arith, e)

pub asks-paid : (p : Port) (r : Request) (old new : MemoryView) → Asks p r old new → Paid (core_of p) 0 old new
asks-paid p r old new h = leaves-paid (core_of p) old new (asks-leaves p r old new h)

paid_in_turn : (a b d j k : ℕ) → b + j ≤ a → d + k ≤ b → d + (j + k) ≤ a
paid_in_turn a b d j k h i = omega arith

pub paid-twice : (core j k : ℕ) (a b d : MemoryView) → Paid core j a b → Paid core k b d → Keeps a b → Paid core (j + k) a d
paid-twice core j k a b d h i kept t =
    paid_in_turn (potential core a) (potential core b) (potential core d) j k (h t)
    (i (kept.tells_load ∙ t))

-- What a core's side sees of each call.

side-kept : (core : ℕ) (old new : MemoryView) → Keeps old new → KeepsSide (side_of old core) (side_of new core)
side-kept core old new k = record { image = k.image; cores = k.cores; tells_distances = k.tells_distances; bound = k.bound }

-- A port's remaining wait falls with its distance, by as many steps, and is within it.

pub remaining_wait-falls : (a b : PortState) (d e steps : ℕ) → Evolves a b → (IsWaiting b → e ≤ d - steps)
    → remaining_wait_of b e ≤ remaining_wait_of a d - steps
remaining_wait-falls a Free d e steps m h = omega arith
remaining_wait-falls a (Asked r) d e steps m h = omega arith
remaining_wait-falls a (Waiting r) d e steps (inl eq) h =
    let P : PortState → Type 0 = λ s. e ≤ remaining_wait_of s d - steps in subst P eq (h tt)
remaining_wait-falls a (Waiting r) d e steps (inr s) h = let eq = s.1.1.1 in cc
remaining_wait-falls a (Answered r word) d e steps m h = omega arith
remaining_wait-falls a Closed d e steps m h = omega arith

pub remaining_wait-within : (s : PortState) (d : ℕ) → remaining_wait_of s d ≤ d
remaining_wait-within Free d = omega arith
remaining_wait-within (Asked r) d = omega arith
remaining_wait-within (Waiting r) d = omega arith
remaining_wait-within (Answered r word) d = omega arith
remaining_wait-within Closed d = omega arith

side-other : (p : Port) (old new : MemoryView) → LeavesPorts p old new → LeavesPort p (side_of old (core_of p)) (side_of new (core_of p))
side-other p old new h = record {
  port = λ q ne c. inl (h.ports q ne);
  asks = λ q ne c. h.asks q ne;
  remaining_wait = λ t q ne c.
      let falls = remaining_wait-falls (old.port q) (new.port q) (old.distance q) (new.distance q) 0 (inl (h.ports q ne))
      (λ w. let near = h.distances t q ne (waiting_along (h.ports q ne) w) in omega (arith, near))
      in omega (arith, falls);
}

-- A call on a port that makes no entry takes none, where its access port tells of no more than before.
taken-quiet : (p : Port) (old new : MemoryView)
    → taken_of (new.port p) (own_items old.history (core_of p)) ≡ taken_of (old.port p) (own_items old.history (core_of p))
    → LeavesPorts p old new → new.history ≡ old.history → committed new (core_of p) ≡ committed old (core_of p)
taken-quiet (Fetch c) old new t h e = committed-same old new c (h.ports (Access c) (access_not_fetch c c)) (ap (λ t. own_items t c) e)
taken-quiet (Access c) old new t h e = ap (λ x. taken_of (new.port (Access c)) (own_items x c)) e ∙ t

-- A request that is answered as it is served has its entry, and its core hasn't taken that.
taken-answered : (p : Port) (r : Request) (word : ℕ) (old new : MemoryView) → old.port p ≡ Asked r → new.port p ≡ Answered r word
    → LeavesPorts p old new → new.history ≡ old.history ++ items_of p r word → committed new (core_of p) ≡ committed old (core_of p)
taken-answered (Fetch c) r word old new was is h e =
    committed-same old new c (h.ports (Access c) (access_not_fetch c c)) (ap (λ t. own_items t c) (e ∙ append-nil old.history))
taken-answered (Access c) r word old new was is h e =
    ap (λ s. taken_of s (own_items new.history c)) is
    ∙ (ap but_last (ap (λ t. own_items t c) e ∙ own-answered_same old.history c r word)
    ∙ (but_last-append (own_items old.history c) (entry_of c r word)
    ∙ sym (ap (λ s. taken_of s (own_items old.history c)) was)))

states-taken : {a b x y : PortState} (own : List Entry) → a ≡ x → b ≡ y → taken_of x own ≡ taken_of y own → taken_of a own ≡ taken_of b own
states-taken own e f h = ap (λ s. taken_of s own) e ∙ (h ∙ sym (ap (λ s. taken_of s own) f))

pub asks-side : (p : Port) (r : Request) (old new : MemoryView) → old.port p ≡ Free → Asks p r old new
    → SideAsks p r (side_of old (core_of p)) (side_of new (core_of p))
asks-side p r old new free h = search rules

near-bound : (p : Port) (r : Request) (old new : MemoryView) → IsLawful new → Keeps old new → IsTrue old.tells_distances
    → new.port p ≡ Waiting r → remaining_wait_of (new.port p) (new.distance p) ≤ old.bound
near-bound p r old new lawful kept t is =
    let close = (lawful.near (kept.tells_distances ∙ t) p (waiting_along {b = Waiting r} (sym is) tt)).1 in
    let e = kept.bound in
    let within = remaining_wait-within (new.port p) (new.distance p) in
    omega (arith, close, e, within)

pub serves-side : (p : Port) (r : Request) (old new : MemoryView) → IsLawful new → old.port p ≡ Asked r → Serves p r old new
    → SideServes p r (side_of old (core_of p)) (side_of new (core_of p))
serves-side p r old new lawful was h =
    elim h.outcome as (λ _. SideServes p r (side_of old (core_of p)) (side_of new (core_of p))) [
      | inl o ↦ record {
        kept = side-kept (core_of p) old new h.kept;
        other = side-other p old new h.others;
        port = ap port_phase o.0;
        asks = h.asks;
        taken = taken-quiet p old new (states-taken (own_items old.history (core_of p)) o.0 was refl) h.others o.1;
        remaining_wait = λ t. near-bound p r old new lawful h.kept t o.0;
      }
      | inr o ↦ record {
        kept = side-kept (core_of p) old new h.kept;
        other = side-other p old new h.others;
        port = ap port_phase o.1;
        asks = h.asks;
        taken = taken-answered p r o.0 old new was o.1 h.others o.2;
        remaining_wait = λ t. let P : PortState → Type 0 =
            λ s. remaining_wait_of s (new.distance p) ≤ old.bound in subst P (sym o.1) (omega arith);
      }
    ]

-- What doesn't wait has no remaining wait.
remaining_wait-rests : (s : PortState) (e : ℕ) → (IsWaiting s → ⊥) → remaining_wait_of s e ≡ 0
remaining_wait-rests Free e h = refl
remaining_wait-rests (Asked r) e h = refl
remaining_wait-rests (Waiting r) e h = absurd (h tt)
remaining_wait-rests (Answered r word) e h = refl
remaining_wait-rests Closed e h = refl

idle-rests : (old new : MemoryView) → IsLawful old → old.is_busy ≡ false → Same old new → (q : Port) → IsWaiting (new.port q) → ⊥
idle-rests old new lawful e same q w = let b = lawful.waiting q (waiting_along (same.ports q) w) in cc

same-stays : (core : ℕ) (old new : MemoryView) → Same old new → SideStays core (side_of old core) (side_of new core)
same-stays core old new h = record {
  kept = side-kept core old new h.kept;
  ports = λ q c. inl (h.ports q);
  asks = λ q c. h.asks q;
  taken = committed-same old new core (h.ports (Access core)) (ap (λ t. own_items t core) h.history);
}

pub steps-side : (result : Moved) (core : ℕ) (old new : MemoryView) → IsLawful old → Steps result old new
    → SideSteps result core (side_of old core) (side_of new core)
steps-side moved.Moved core old new lawful h = record {
  stays = record {
    kept = side-kept core old new h.kept;
    ports = λ q c. moves-port old new h q;
    asks = λ q c. h.asks q;
    taken = moves-committed old new h core;
  };
  idle = λ e q c w. cc;
  remaining_wait = λ t q c. remaining_wait-falls (old.port q) (new.port q) (old.distance q) (new.distance q) 1 (moves-port old new h q)
      (λ w. let nearer = h.distances t q w in omega (arith, nearer));
}
steps-side moved.Idle core old new lawful h = record {
  stays = same-stays core old new h.1;
  idle = λ e q c w. idle-rests old new lawful h.0 h.1 q w;
  remaining_wait = λ t q c. rw (remaining_wait-rests (new.port q) (new.distance q) (idle-rests old new lawful h.0 h.1 q)) (omega arith);
}

pub takes-side : (result : Option ℕ) (p : Port) (r : Request) (old new : MemoryView) → IsLawful old → port_phase (old.port p) ≡ Served r
    → Takes result p old new
    → SideTakes result p r (side_of old (core_of p)) (side_of new (core_of p))
takes-side result p r old new lawful is h = search rules

pub withdraws-side : (result : Withdrawal) (p : Port) (r : Request) (old new : MemoryView) → IsLawful old
    → Holds (port_phase (old.port p)) r → Withdraws result p old new
    → SideWithdraws result p r (side_of old (core_of p)) (side_of new (core_of p))
withdraws-side result p r old new lawful is h = search rules
