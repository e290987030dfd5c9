-- What a call for a core leaves of the other cores and of their numbers, what it asks, and what causes its answer.
use Rattle.std.proofs.Common.{◌≡◌, ◌≢◌, ℕ, ◌+◌, Some, None, refl, sym, ap, ◌∙◌, subst, arith, eq-eqb, ne_eqb}
use Rattle.access_log.specs.declared.request.Request.{Request}
use Rattle.mem_port.specs.declared.port.Port.{Port}
use Rattle.mem_port.specs.declared.port.Port.TheVariants.{Fetch, Access}
use Rattle.mem_port.specs.declared.port.Moved.TheVariants as moved
use Rattle.mem_port.specs.declared.port.Withdrawal.TheVariants as withdrawal
use Rattle.mem_port.specs.Calls.{Call, Ask, Serve, Step, Take, Withdraw}
use Rattle.mem_port.specs.Ports.{core_of}
use Rattle.mem_port.specs.Memory.{MemoryView, Asks, Serves, Steps, Takes, Withdraws}
use Rattle.mem_port.specs.Side.{LeavesOthers}
use Rattle.mem_port.proofs.SideLaws.{asks-leaves, serves-leaves, steps-leaves, takes-leaves, withdraws-leaves}
use Rattle.turn.specs.Numbers.{with_ask, with_step, with_call}
use Rattle.turn.specs.Views.{CountedView, LeavesCores}
use Rattle.turn.specs.Rule.{IsCaused, moves_in}
use Rattle.turn.specs.Passes.{event_of, requests_of, moves_of}
use Rattle.turn.proofs.NumberLaws.{port-other, asked-once}

-- A core's call led from one memory to another, by the law.
abbrev pub Leads : ℕ → Call → MemoryView → MemoryView → Type 0
Leads core (Ask p r) old new = (core_of p ≡ core) × Asks p r old new
Leads core (Serve p) old new = (core_of p ≡ core) × ((r : Request) × Serves p r old new)
Leads core (Step choice result) old new = Steps result old new
Leads core (Take p result) old new = (core_of p ≡ core) × Takes result p old new
Leads core (Withdraw p result) old new = (core_of p ≡ core) × Withdraws result p old new

other-port : (p q : Port) (core : ℕ) → core_of p ≡ core → core_of q ≢ core → q ≢ p
other-port p q core is ne e = ne (ap core_of e ∙ is)

-- What a call on a port leaves, at the number of the port's core.
leaves-at : (p : Port) (core : ℕ) (old new : MemoryView) → core_of p ≡ core → LeavesOthers (core_of p) old new → LeavesOthers core old new
leaves-at p core old new is h = let P : ℕ → Type 0 = λ c. LeavesOthers c old new in subst P is h

module _ (core : ℕ) (x y : CountedView) where
  same-numbers : LeavesOthers core x.memory y.memory → y.numbers ≡ x.numbers → LeavesCores core x y
  same-numbers h n = record {
    memory = h;
    asked = λ q ne. ap (λ z. z.asked q) n;
    helping = λ q ne. ap (λ z. z.helping q) n;
    moved = λ c ne. ap (λ z. z.moved c) n;
  }

  pub call-leaves : (call : Call) → Leads core call x.memory y.memory → y.numbers ≡ with_call call core x.memory x.numbers
      → LeavesCores core x y
  call-leaves (Ask p r) h n = record {
    memory = leaves-at p core x.memory y.memory h.0 (asks-leaves p r x.memory y.memory h.1);
    asked = λ q ne. ap (λ z. z.asked q) n ∙ (let o = port-other p q (other-port p q core h.0 ne) in rw o refl);
    helping = λ q ne. ap (λ z. z.helping q) n;
    moved = λ c ne. ap (λ z. z.moved c) n;
  }
  call-leaves (Serve p) h n = record {
    memory = leaves-at p core x.memory y.memory h.0 (serves-leaves p h.1.0 x.memory y.memory h.1.1);
    asked = λ q ne. ap (λ z. z.asked q) n;
    helping = λ q ne. ap (λ z. z.helping q) n ∙ (let o = port-other p q (other-port p q core h.0 ne) in rw o refl);
    moved = λ c ne. ap (λ z. z.moved c) n;
  }
  call-leaves (Step choice moved.Moved) h n = record {
    memory = steps-leaves moved.Moved core x.memory y.memory h;
    asked = λ q ne. ap (λ z. z.asked q) n;
    helping = λ q ne. ap (λ z. z.helping q) n ∙ (let o = ne_eqb core (core_of q) (λ e. ne (sym e)) in rw o refl);
    moved = λ c ne. ap (λ z. z.moved c) n ∙ (let o = ne_eqb core c (λ e. ne (sym e)) in rw o refl);
  }
  call-leaves (Step choice moved.Idle) h n = same-numbers (steps-leaves moved.Idle core x.memory y.memory h) n
  call-leaves (Take p result) h n = same-numbers (leaves-at p core x.memory y.memory h.0 (takes-leaves result p x.memory y.memory h.1)) n
  call-leaves (Withdraw p result) h n =
      same-numbers (leaves-at p core x.memory y.memory h.0 (withdraws-leaves result p x.memory y.memory h.1)) n

  asked-same : y.numbers.asked ≡ x.numbers.asked
      → y.numbers.asked (Fetch core) + y.numbers.asked (Access core) ≡ x.numbers.asked (Fetch core) + x.numbers.asked (Access core) + 0
  asked-same n = let f = ap (λ z. z (Fetch core)) n in let a = ap (λ z. z (Access core)) n in omega (arith, f, a)

  -- The requests that the core asks.
  pub call-asked : (call : Call) → Leads core call x.memory y.memory → y.numbers ≡ with_call call core x.memory x.numbers
      → y.numbers.asked (Fetch core) + y.numbers.asked (Access core)
      ≡ x.numbers.asked (Fetch core) + x.numbers.asked (Access core) + requests_of call
  call-asked (Ask p r) h n =
      let P : ℕ → Type 0 = λ c. (with_ask p x.numbers).asked (Fetch c) + (with_ask p x.numbers).asked (Access c)
      ≡ x.numbers.asked (Fetch c) + x.numbers.asked (Access c) + 1 in
      let once = subst P h.0 (asked-once p x.numbers.asked) in
      let f = ap (λ z. z.asked (Fetch core)) n in
      let a = ap (λ z. z.asked (Access core)) n in
      omega (arith, once, f, a)
  call-asked (Serve p) h n = asked-same (ap (λ z. z.asked) n)
  call-asked (Step choice moved.Moved) h n = asked-same (ap (λ z. z.asked) n)
  call-asked (Step choice moved.Idle) h n = asked-same (ap (λ z. z.asked) n)
  call-asked (Take p result) h n = asked-same (ap (λ z. z.asked) n)
  call-asked (Withdraw p result) h n = asked-same (ap (λ z. z.asked) n)

  moved-same : y.numbers.moved ≡ x.numbers.moved → y.numbers.moved core ≡ x.numbers.moved core + 0
  moved-same n = let e = ap (λ z. z core) n in omega (arith, e)

  moved-once : y.numbers ≡ with_step moved.Moved core x.memory x.numbers → y.numbers.moved core ≡ x.numbers.moved core + 1
  moved-once n = ap (λ z. z.moved core) n ∙ (let o = eq-eqb core core refl in rw o refl)

  pub call-caused : (call : Call) → Leads core call x.memory y.memory → y.numbers ≡ with_call call core x.memory x.numbers
      → IsCaused (event_of call) core x y
  call-caused (Ask p r) h n = record { may = tt; moved = moved-same (ap (λ z. z.moved) n) }
  call-caused (Serve p) h n = record { may = tt; moved = moved-same (ap (λ z. z.moved) n) }
  call-caused (Step choice moved.Moved) h n = record { may = h.was_busy; moved = moved-once n }
  call-caused (Step choice moved.Idle) h n = record { may = h.0; moved = moved-same (ap (λ z. z.moved) n) }
  call-caused (Take p None) h n = record { may = (p, (h.0, h.1.0)); moved = moved-same (ap (λ z. z.moved) n) }
  call-caused (Take p (Some word)) h n = record { may = tt; moved = moved-same (ap (λ z. z.moved) n) }
  call-caused (Withdraw p withdrawal.Withdrawn) h n = record { may = (p, (h.0, h.1.0)); moved = moved-same (ap (λ z. z.moved) n) }
  call-caused (Withdraw p (withdrawal.Answered word)) h n = record { may = tt; moved = moved-same (ap (λ z. z.moved) n) }

-- An event tells the steps that moved something.
pub event-moves : (call : Call) → moves_in (event_of call) ≡ moves_of call
event-moves (Ask p r) = refl
event-moves (Serve p) = refl
event-moves (Step choice moved.Moved) = refl
event-moves (Step choice moved.Idle) = refl
event-moves (Take p None) = refl
event-moves (Take p (Some word)) = refl
event-moves (Withdraw p withdrawal.Withdrawn) = refl
event-moves (Withdraw p (withdrawal.Answered word)) = refl
