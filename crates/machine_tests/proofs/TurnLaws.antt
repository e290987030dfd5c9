-- What a caller knows of its pass stays so in its calls.
use Rattle.std.proofs.Common.{◌≡◌, ℕ, ◌+◌, ◌-◌, ◌<◌, ◌≤◌, Some, None, List, [], ◌∷◌, ◌++◌, length, length-append, suc, refl, ap, sym}
use Rattle.std.proofs.Common.{◌∙◌, subst, arith}
use Rattle.std.specs.Prelude.{slice_get}
use Rattle.image_file.specs.Value.{ImageValue}
use Rattle.access_log.specs.declared.request.Request.{Request}
use Rattle.mem_port.specs.declared.memory.MemoryCore.{Ghosts}
use Rattle.mem_port.specs.declared.port.Port.TheVariants.{Fetch, Access}
use Rattle.mem_port.specs.declared.port.PortState.{PortState}
use Rattle.mem_port.specs.declared.port.PortState.TheVariants.{Free, Asked, Waiting, Closed}
use Rattle.mem_port.specs.declared.port.Moved.{Moved}
use Rattle.mem_port.specs.declared.port.Moved.TheVariants as moved
use Rattle.mem_port.specs.declared.port.Withdrawal.TheVariants as withdrawal
use Rattle.mem_port.specs.Calls.{Call, Ask, Serve, Step, Take, Withdraw}
use Rattle.mem_port.specs.Side.{Served, port_phase, Evolves, SideAsks, SideServes, SideSteps, SideTakes, SideWithdraws}
use Rattle.mem_port.proofs.SideLaws.{port_phase-evolves}
use Rattle.mem_port.specs.Memory.{IsFresh}
use Rattle.turn.specs.declared.views.CoreView.{CoreView}
use Rattle.turn.specs.declared.pass.Turn.{Turn}
use Rattle.turn.specs.declared.pass.Pass.{Pass}
use Rattle.turn.specs.Numbers.{no_numbers}
use Rattle.turn.specs.Views.{counted, core_view, asks_of}
use Rattle.turn.specs.Rule.{own_core, joined_cores}
use Rattle.turn.specs.Passes.{HasMade, IsFirst, first_view, own, port_of, side, counts, requests_of, moves_of}
use Rattle.machine_tests.specs.declared.answers.Answers.{Answers}
use Rattle.machine_tests.specs.Turns.{Counts, Knows}

module _ {M : Type 0} {g : Ghosts M} (turn : Turn M g) (made : PortState) (left : ℕ) (answers : Answers) (old new : Pass M g)
    (knows : Knows turn made left answers old) where
  -- By what a call leaves of the ports, and by what its caller then has counted.
  knows-after : (call : Call) (state : PortState) (less : ℕ) (after : Answers) (core : ℕ) → HasMade turn call old new
      → Evolves (port_of old (Fetch core)).state (port_of new (Fetch core)).state
      → port_phase (port_of new (Access core)).state ≡ port_phase state → less ≤ (port_of new (Access core)).asks_left
      → less + requests_of call ≡ left → after.moved ≡ answers.moved + moves_of call → Counts after new → Knows turn state less after new
  knows-after call state less after core h fetch access asks asked moved counts = record {
    turn_is = h.turn_is;
    fetch = port_phase-evolves _ _ fetch ∙ knows.fetch;
    access = access;
    asks = asks;
    asked = let a = h.asked in let b = knows.asked in omega (arith, a, b, asked);
    moved = let a = h.moved in let b = knows.moved in omega (arith, a, b, moved);
    answers_are = counts;
    alone = h.joined ∙ knows.alone;
  }

  counts-same : counts new ≡ counts old → Counts answers new
  counts-same e = record {
    nones = ap (λ n. n.nones) e ∙ knows.answers_are.nones;
    idles = ap (λ n. n.idles) e ∙ knows.answers_are.idles;
    withdrawns = ap (λ n. n.withdrawns) e ∙ knows.answers_are.withdrawns;
  }

  pub knows-asks : (core : ℕ) (r : Request) → HasMade turn (Ask (Access core) r) old new
      → SideAsks (Access core) r (side turn old) (side turn new) → 0 < left → Knows turn (Asked r) (left - 1) answers new
  knows-asks core r h s some =
      knows-after (Ask (Access core) r) (Asked r) (left - 1) answers core h (s.other.port (Fetch core) (λ e. cc) refl)
      (ap port_phase s.port) (let a = s.asks in let b = knows.asks in omega (arith, a, b, some)) (omega (arith, some)) (omega arith)
      (counts-same h.counts_are)

  pub knows-serves : (core : ℕ) (r : Request) → HasMade turn (Serve (Access core)) old new
      → SideServes (Access core) r (side turn old) (side turn new) → Knows turn (Waiting r) left answers new
  knows-serves core r h s =
      knows-after (Serve (Access core)) (Waiting r) left answers core h (s.other.port (Fetch core) (λ e. cc) refl) s.port
      (let a = s.asks in let b = knows.asks in omega (arith, a, b)) (omega arith) (omega arith) (counts-same h.counts_are)

  step-asks : (result : Moved) → SideSteps result old.core (side turn old) (side turn new)
      → left ≤ (port_of new (Access old.core)).asks_left
  step-asks result s = let a = s.stays.asks (Access old.core) refl in let b = knows.asks in omega (arith, a, b)

  pub knows-moves : (choice : ℕ) → HasMade turn (Step choice moved.Moved) old new
      → SideSteps moved.Moved old.core (side turn old) (side turn new) → (after : Answers)
      → after ≡ record answers { moved = answers.moved + 1 } → Knows turn made left after new
  knows-moves choice h s after is =
      let c = old.core in
      knows-after (Step choice moved.Moved) made left after c h (s.stays.ports (Fetch c) refl)
      (port_phase-evolves _ _ (s.stays.ports (Access c) refl) ∙ knows.access) (step-asks moved.Moved s) (omega arith)
      (ap (λ (a : Answers). a.moved) is)
      (subst (λ (a : Answers). Counts a new) (sym is)
      (let e = counts-same h.counts_are in record { nones = e.nones; idles = e.idles; withdrawns = e.withdrawns }))

  pub knows-idles : (choice : ℕ) → HasMade turn (Step choice moved.Idle) old new
      → SideSteps moved.Idle old.core (side turn old) (side turn new) → (after : Answers)
      → after ≡ record answers { idles = answers.idles + 1 } → Knows turn made left after new
  knows-idles choice h s after is =
      let c = old.core in
      knows-after (Step choice moved.Idle) made left after c h (s.stays.ports (Fetch c) refl)
      (port_phase-evolves _ _ (s.stays.ports (Access c) refl) ∙ knows.access) (step-asks moved.Idle s) (omega arith)
      (let e = ap (λ (a : Answers). a.moved) is in omega (arith, e))
      (subst (λ (a : Answers). Counts a new) (sym is) record {
        nones = ap (λ n. n.nones) h.counts_are ∙ knows.answers_are.nones;
        idles = ap (λ n. n.idles) h.counts_are ∙ ap (λ k. k + 1) knows.answers_are.idles;
        withdrawns = ap (λ n. n.withdrawns) h.counts_are ∙ knows.answers_are.withdrawns;
      })

  pub knows-waits : (core : ℕ) (r : Request) → HasMade turn (Take (Access core) None) old new
      → port_phase made ≡ Served r → SideTakes None (Access core) r (side turn old) (side turn new) → (after : Answers)
      → after ≡ record answers { nones = answers.nones + 1 } → Knows turn made left after new
  knows-waits core r h made_is s after is =
      knows-after (Take (Access core) None) made left after core h (s.stays.ports (Fetch core) refl)
      (ap port_phase s.port ∙ sym made_is)
      (let a = s.stays.asks (Access core) refl in let b = knows.asks in omega (arith, a, b)) (omega arith)
      (let e = ap (λ (a : Answers). a.moved) is in omega (arith, e))
      (subst (λ (a : Answers). Counts a new) (sym is) record {
        nones = ap (λ n. n.nones) h.counts_are ∙ ap (λ k. k + 1) knows.answers_are.nones;
        idles = ap (λ n. n.idles) h.counts_are ∙ knows.answers_are.idles;
        withdrawns = ap (λ n. n.withdrawns) h.counts_are ∙ knows.answers_are.withdrawns;
      })

  pub knows-takes : (word core : ℕ) (r : Request) → HasMade turn (Take (Access core) (Some word)) old new
      → SideTakes (Some word) (Access core) r (side turn old) (side turn new) → Knows turn Free left answers new
  knows-takes word core r h s = knows-after (Take (Access core) (Some word)) Free left answers core h
      (s.1.0.other.port (Fetch core) (λ e. cc) refl) (ap port_phase s.1.0.port)
      (let a = s.1.0.asks in let b = knows.asks in omega (arith, a, b)) (omega arith) (omega arith) (counts-same h.counts_are)

  pub knows-withdraws : (core : ℕ) (r : Request) → HasMade turn (Withdraw (Access core) withdrawal.Withdrawn) old new
      → SideWithdraws withdrawal.Withdrawn (Access core) r (side turn old) (side turn new) → (after : Answers)
      → after ≡ record answers { withdrawns = answers.withdrawns + 1 } → Knows turn Closed left after new
  knows-withdraws core r h s after is = knows-after (Withdraw (Access core) withdrawal.Withdrawn) Closed left after core h
      (s.0.other.port (Fetch core) (λ e. cc) refl) (ap port_phase s.0.port)
      (let a = s.0.asks in let b = knows.asks in omega (arith, a, b)) (omega arith)
      (let e = ap (λ (a : Answers). a.moved) is in omega (arith, e))
      (subst (λ (a : Answers). Counts a new) (sym is) record {
        nones = ap (λ n. n.nones) h.counts_are ∙ knows.answers_are.nones;
        idles = ap (λ n. n.idles) h.counts_are ∙ knows.answers_are.idles;
        withdrawns = ap (λ n. n.withdrawns) h.counts_are ∙ ap (λ k. k + 1) knows.answers_are.withdrawns;
      })

  pub knows-answered : (word core : ℕ) (r : Request) → HasMade turn (Withdraw (Access core) (withdrawal.Answered word)) old new
      → SideWithdraws (withdrawal.Answered word) (Access core) r (side turn old) (side turn new) → Knows turn Closed left answers new
  knows-answered word core r h s =
      knows-after (Withdraw (Access core) (withdrawal.Answered word)) Closed left answers core h
      (s.0.other.port (Fetch core) (λ e. cc) refl) (ap port_phase s.0.port)
      (let a = s.0.asks in let b = knows.asks in omega (arith, a, b)) (omega arith) (omega arith) (counts-same h.counts_are)

-- At first nothing was made of a port.
pub knows-first : {M : Type 0} {g : Ghosts M} (turn : Turn M g) (core : ℕ) (pass : Pass M g) (image : ImageValue) → IsFirst turn core pass
    → core < 2 → IsFresh image 2 10 None (first_view turn)
    → Knows turn Free 10 (record { moved = 0; nones = 0; idles = 0; withdrawns = 0 }) pass
knows-first turn core pass image first within fresh =
    let is : own pass ≡ core_view (counted (first_view turn) no_numbers) core = ap own_core first.cores in
    record {
      turn_is = first.turn_is;
      fetch = ap (λ (v : CoreView). port_phase v.fetch.state) is ∙ ap port_phase (fresh.ports (Fetch core));
      access = ap (λ (v : CoreView). port_phase v.access.state) is ∙ ap port_phase (fresh.ports (Access core));
      asks = let a = ap (λ (v : CoreView). v.access.asks_left) is in
          let b = fresh.asks_left (Access core) within in omega (arith, a, b);
      asked = let a = ap (λ (v : CoreView). asks_of v) is in omega (arith, a);
      moved = ap (λ (v : CoreView). v.moved) is;
      answers_are = record {
        nones = ap (λ n. n.nones) first.none_counted;
        idles = ap (λ n. n.idles) first.none_counted;
        withdrawns = ap (λ n. n.withdrawns) first.none_counted;
      };
      alone = ap joined_cores first.cores;
    }

-- The elements of a list of two that are popped one after the other.
pub popped : {X : Type 0} (xs ys zs : List X) (zero one : X) → length xs ≡ 2 → xs ≡ ys ++ one ∷ [] → ys ≡ zs ++ zero ∷ []
    → (slice_get xs 0 ≡ Some zero) × (slice_get xs 1 ≡ Some one)
popped xs ys [] zero one two first second =
    let all : xs ≡ zero ∷ one ∷ [] = first ∙ ap (λ l. l ++ one ∷ []) second in
    (ap (λ l. slice_get l 0) all, ap (λ l. slice_get l 1) all)
popped xs ys (z ∷ zs) zero one two first second =
    let all : xs ≡ ((z ∷ zs) ++ zero ∷ []) ++ one ∷ [] = first ∙ ap (λ l. l ++ one ∷ []) second in
    let more : length xs ≡ suc (length ((zs ++ zero ∷ []) ++ one ∷ [])) = ap length all in
    absurd (let a = length-append (zs ++ zero ∷ []) (one ∷ []) in let b = length-append zs (zero ∷ []) in omega (arith, a, b, more, two))
