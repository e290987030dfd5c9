-- A core's cycles, one after the other.
use Rattle.std.proofs.Common.{◌≡◌, ℕ, ◌+◌, Bool, true, false, List, [], ◌∷◌, ◌++◌, length, None, refl, ap, sym, ◌∙◌, subst, arith}
use Rattle.std.specs.Prelude.{◌==◌, Option, is_some, flat_map}
use Rattle.std.proofs.lemmas.Bool.{eq-eqb, ne_eqb}
use Rattle.std.proofs.lemmas.Grind.{flat_map-append}
use Rattle.std.proofs.lemmas.List.{length-append}
use Rattle.std.proofs.lemmas.Option.{slice_get_within}
use Rattle.std_laws.proofs.ListLaws.{AtEach, AtEach-push}
use Rattle.mem_port.specs.Calls.{Call, Lead}
use Rattle.timetable.specs.declared.End.{End}
use Rattle.mem_port.specs.Engine.{EngineView}
use Rattle.mem_port.specs.ServiceHistory.{ServiceHistory}
use Rattle.mem_port.specs.Side.{SideView, KeepsSide}
use Rattle.core_run.specs.declared.lane.Lane.{Lane}
use Rattle.core_run.specs.Running.{IsOnOrOver, AreOfCycle, IsServedAt}
use Rattle.core_run.proofs.LeadLaws.{lead-append}
use Rattle.core_threads.specs.Runs.{HasRun}

-- So many cycles of a core, none of which was its last one.
pub record HasCycles {S : Type 0} (makes : Call → S → S → Type 0) (core cycles : ℕ) (old new : S) : Type 0 where
  pub calls : List (List Call)
  pub count : length calls ≡ cycles
  pub are : AtEach (λ n those. AreOfCycle core (n + 1) false those) calls
  pub lead : Lead makes (flat_map (λ those. those) calls) old new

-- The calls of a core's next cycle.
abbrev pub Next : {S : Type 0} → (Call → S → S → Type 0) → ℕ → ℕ → Bool → S → S → Type 0
Next makes core choice is_last old new = (those : List Call) × (AreOfCycle core choice is_last those × Lead makes those old new)

module _ {S : Type 0} (makes : Call → S → S → Type 0) (core : ℕ) where
  pub none-yet : (s : S) → HasCycles makes core 0 s s
  none-yet s = record { calls = []; count = refl; are = λ n those got. cc; lead = refl }

  module _ (cycles : ℕ) (s t u : S) (h : HasCycles makes core cycles s t) where
    leads-on : (those : List Call) → Lead makes those t u → Lead makes (flat_map (λ those. those) (h.calls ++ those ∷ [])) s u
    leads-on those lead = subst (λ (calls : List Call). Lead makes calls s u) (sym (flat_map-append (λ those. those) h.calls (those ∷ [])))
        (lead-append makes (flat_map (λ those. those) h.calls) (those ++ []) s t u h.lead
        (lead-append makes those [] t u u lead refl))

    counts-on : (those : List Call) → length (h.calls ++ those ∷ []) ≡ cycles + 1
    counts-on those = length-append h.calls (those ∷ []) ∙ ap (λ n. n + 1) h.count

    pub cycle-more : Next makes core (cycles + 1) false t u → HasCycles makes core (cycles + 1) s u
    cycle-more next = record {
      calls = h.calls ++ next.0 ∷ [];
      count = counts-on next.0;
      are = AtEach-push (λ n those. AreOfCycle core (n + 1) false those) h.calls next.0 h.are
          (subst (λ (n : ℕ). AreOfCycle core (n + 1) false next.0) (sym h.count) next.1.0);
      lead = leads-on next.0 next.1.1;
    }

    -- The last one.
    pub run-ended : Next makes core (cycles + 1) true t u → HasRun makes core (cycles + 1) s u
    run-ended next = record {
      calls = h.calls ++ next.0 ∷ [];
      count = counts-on next.0;
      are = AtEach-push (λ n those. AreOfCycle core (n + 1) (n + 1 == cycles + 1) those) h.calls next.0
          (λ n those got.
          (let within = slice_get_within h.calls n those got in
          let other : (n + 1 == cycles + 1) ≡ false = ne_eqb (n + 1) (cycles + 1) (λ same. omega (arith, same, within, h.count)) in
          subst (λ (is_last : Bool). AreOfCycle core (n + 1) is_last those) (sym other) (h.are n those got)))
          (let P : ℕ → Type 0 = λ n. AreOfCycle core (n + 1) (n + 1 == cycles + 1) next.0 in
          let same : (cycles + 1 == cycles + 1) ≡ true = eq-eqb (cycles + 1) (cycles + 1) refl in
          subst P (sym h.count) (subst (λ (is_last : Bool). AreOfCycle core (cycles + 1) is_last next.0) (sym same) next.1.0));
      lead = leads-on next.0 next.1.1;
    }

-- Calls on what has a turn and a pass are calls of the pass on the turn, which stays the same.
module _ {S T P : Type 0} (makes : Call → S → S → Type 0) (does : T → Call → P → P → Type 0) (turn : S → T) (pass : S → P)
    (each : (call : Call) (s t : S) → makes call s t → does (turn s) call (pass s) (pass t) × (turn t ≡ turn s)) where
  lead-of : (calls : List Call) (s t : S) → Lead makes calls s t → Lead (does (turn s)) calls (pass s) (pass t)
  lead-of [] s t same = ap pass same
  lead-of (call ∷ calls) s t h =
      let made = each call s h.0 h.1.0 in
      (pass h.0, (made.0, subst (λ (it : T). Lead (does it) calls (pass h.0) (pass t)) made.1 (lead-of calls h.0 t h.1.1)))

  pub run-of : (core cycles : ℕ) (s t : S) → HasRun makes core cycles s t → HasRun (does (turn s)) core cycles (pass s) (pass t)
  run-of core cycles s t h = record {
    calls = h.calls;
    count = h.count;
    are = h.are;
    lead = lead-of (flat_map (λ those. those) h.calls) s t h.lead;
  }

-- What a cycle of a core says, and its end, where it was the last one.
pub record Cycled {E S : Type 0} (view : E → EngineView) (times : ServiceHistory → E → Type 0) (serves : S → ℕ → Type 0)
    (side : S → ℕ → SideView) (leaves : ℕ → S → S → Type 0) (makes : Call → S → S → Type 0)
    (budget cycles : ℕ) (end : Option End) (s t : S) (e f : E) (before after : Lane) (core : ℕ) : Type 0 where
  pub serves_on : serves t core
  pub on_or_over : IsOnOrOver end budget (side t core) (view f) after (cycles + 1)
  pub kept : KeepsSide (side s core) (side t core)
  pub others : leaves core s t
  pub made : Next makes core (cycles + 1) (is_some end) s t
  pub served : (history : ServiceHistory) → IsServedAt view times (side s core) e before None cycles history
      → (later : ServiceHistory) × IsServedAt view times (side t core) f after end (cycles + 1) later
