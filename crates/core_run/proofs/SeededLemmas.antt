-- Turns that a seed draws: what one more makes of those before it.
use Rattle.std.proofs.Common.{◌≡◌, ◌≢◌, ℕ, ◌+◌, ◌*◌, ◌-◌, ◌<◌, ◌≤◌, inl, inr, Bool, false, Some, None, List, [], ◌∷◌}
use Rattle.std.proofs.Common.{◌++◌, length, take, refl, ap, sym, ◌∙◌, subst, arith}
use Rattle.std.specs.Prelude.{Option, is_some, ◌==◌, flat_map, slice_get, slice_index, sum_by, option_map}
use Rattle.std.proofs.Math.Seq.{take-append_seam}
use Rattle.std.proofs.lemmas.Bool.{cases_eq, eq-eqb, ne_eqb}
use Rattle.std.proofs.lemmas.Grind.{flat_map-append}
use Rattle.std.proofs.lemmas.List.{take-append-le, length-append, length-map, length-set}
use Rattle.std.proofs.lemmas.List.Sums.{sum_by_push, sum_by-set}
use Rattle.std.proofs.lemmas.Option.{same_Some, slice_get_within, slice_get-map, get_or_from_slice_get}
use Rattle.std_laws.proofs.ListLaws.{slice_get_some, AtEach-set, slice_get-append_left, slice_get_at, slice_get-set_same}
use Rattle.std_laws.proofs.ListLaws.{slice_get-set_other}
use Rattle.std_laws.proofs.ListLaws.{slice_get-push_cases}
use Rattle.std_laws.proofs.OptionLaws.{option_map_parts}
use Rattle.access_log.specs.declared.Entry.{Entry}
use Rattle.access_log.specs.Stamps.{Stamp}
use Rattle.timetable.specs.declared.CoreEnd.{CoreEnd}
use Rattle.timetable.specs.declared.End.{End}
use Rattle.timetable.specs.declared.rows.TimeRow.{TimeRow}
use Rattle.right_run.specs.Seeded.{word_of, turns_of, cores_left, drawn, AreDrawn, AreAll, HasTurn, HaveTurns}
use Rattle.right_run.specs.Turns.{cycles_of}
use Rattle.mem_port.specs.Calls.{Call, Lead}
use Rattle.mem_port.specs.Memory.{MemoryView}
use Rattle.mem_port.specs.Engine.{EngineView}
use Rattle.mem_port.specs.ServiceHistory.{ServiceHistory}
use Rattle.core_run.specs.declared.serial.CoreSlot.{CoreSlot}
use Rattle.core_run.specs.Running.{AreOfCycle}
use Rattle.core_run.specs.Serial.{IsSlotOf, AreServed}
use Rattle.core_run.specs.Seeded.{running, AreSlots, HasPlayed, IsTotal, AreTotals, AreTurns, HaveHad}
use Rattle.core_run.proofs.LeadLaws.{lead-append}
use Rattle.core_run.proofs.RunningLaws.{is-on}
use Rattle.core_run.proofs.SerialLemmas.{slot-kept}
use Rattle.core_run.proofs.ServedLemmas.{Adds, served-turn}
use Rattle.core_run.proofs.DrawLemmas.{none-runs, left-running}
use Rattle.core_run.proofs.RunLemmas.{IsEndedSlot, slot-ended, AreEnds}

-- The turns of the core that has one more, and of another one.
turns-own : (core : ℕ) (turns : List ℕ) → turns_of core (turns ++ core ∷ []) ≡ turns_of core turns + 1
turns-own core turns = sum_by_push _ turns core ∙ rw (eq-eqb core core refl) refl

turns-other : (any core : ℕ) (turns : List ℕ) → any ≢ core → turns_of any (turns ++ core ∷ []) ≡ turns_of any turns
turns-other any core turns ne =
    let other : (core == any) ≡ false = ne_eqb core any (λ e. ne (sym e)) in
    sum_by_push _ turns core ∙ rw other (omega arith)

-- Turns before stay as they are.
has-more : (turns : List ℕ) (core : ℕ) (stamp : Stamp) (turn : ℕ) → HasTurn turns stamp turn → HasTurn (turns ++ core ∷ []) stamp turn
has-more turns core stamp turn h =
    let inside = slice_get_within turns turn stamp.entry.core h.core in
    record {
      core = slice_get-append_left turns (core ∷ []) turn inside ∙ h.core;
      cycle = subst (λ (t : List ℕ). turns_of stamp.entry.core t + 1 ≡ stamp.cycle)
          (sym (take-append-le turn turns (core ∷ []) (omega arith))) h.cycle;
    }

has-last : (turns : List ℕ) (core cycle : ℕ) (entry : Entry) → entry.core ≡ core → cycle ≡ turns_of core turns + 1
    → HasTurn (turns ++ core ∷ []) (record { entry = entry; cycle = cycle }) (length turns)
has-last turns core cycle entry own is = record {
  core = slice_get_at turns core [] (length turns) refl ∙ ap Some (sym own);
  cycle = subst (λ (t : List ℕ). turns_of entry.core t + 1 ≡ cycle) (sym (take-append_seam turns (core ∷ [])))
      (subst (λ (n : ℕ). turns_of n turns + 1 ≡ cycle) (sym own) (sym is));
}

-- What a core receives in its turn has this turn, behind those before.
pub adds-seeded : (first : ℕ) (turns : List ℕ) (core cycle : ℕ) → first ≤ length turns → cycle ≡ turns_of core turns + 1
    → Adds (HaveTurns first turns) (HaveTurns first (turns ++ core ∷ [])) core cycle
adds-seeded first turns core cycle behind is [] [] one own h = tt
adds-seeded first turns core cycle behind is [] (entry ∷ []) one own h =
    (length turns, (behind, (has-last turns core cycle entry own.0 is, tt)))
adds-seeded first turns core cycle behind is [] (a ∷ b ∷ more) one own h = absurd (omega (arith, one))
adds-seeded first turns core cycle behind is (stamp ∷ stamps) more one own h =
    let turn = h.0 in
    let inside = slice_get_within turns turn stamp.entry.core h.1.1.0.core in (
      turn,
      (
        h.1.0,
        (has-more turns core stamp turn h.1.1.0, adds-seeded (turn + 1) turns core cycle (omega arith) is stamps more one own h.1.1.1),
      ),
    )

drawn-push : (seed : ℕ) (cycles turns : List ℕ) (core : ℕ) → AreDrawn seed cycles turns
    → drawn (word_of seed (2 * length turns)) (cores_left cycles turns) ≡ Some core → AreDrawn seed cycles (turns ++ core ∷ [])
drawn-push seed cycles turns core each last turn any got =
    let D : ℕ → List ℕ → ℕ → Type 0 = λ n t c. drawn (word_of seed (2 * n)) (cores_left cycles t) ≡ Some c in
    elim (slice_get-push_cases turns core turn any got) as (λ _. D turn (take turn (turns ++ core ∷ [])) any) [
      | inl h ↦ (let lt = h.0 in
          subst (λ (t : List ℕ). D turn t any) (sym (take-append-le turn turns (core ∷ []) (omega (arith, lt)))) (each turn any h.1))
      | inr h ↦ subst (λ (n : ℕ). D n (take n (turns ++ core ∷ [])) any) (sym h.0)
          (subst (λ (t : List ℕ). D (length turns) t any) (sym (take-append_seam turns (core ∷ [])))
          (subst (λ (c : ℕ). D (length turns) turns c) (sym h.1) last))
    ]

-- A cycle is the last one where it is the last of all.
is-last : (end : Option End) (cycles had total : ℕ) → IsTotal end cycles total → cycles ≡ had + 1 → is_some end ≡ (had + 1 == total)
is-last None cycles had total h is = sym (ne_eqb (had + 1) total (λ e. omega arith))
is-last (Some end) cycles had total h is = sym (eq-eqb (had + 1) total (omega arith))

total-before : (end later : Option End) (had cycles total : ℕ) → end ≡ None → cycles ≡ had + 1 → IsTotal later cycles total
    → IsTotal end had total
total-before (Some end) later had cycles total none is h = cc
total-before None None had cycles total none is h = omega arith
total-before None (Some end) had cycles total none is h = omega arith

-- The cycles that a core may have yet.
abbrev pub cycles_to_go : ℕ → Option End → ℕ → ℕ
cycles_to_go budget None had = budget - had
cycles_to_go budget (Some end) had = 0

fewer : (budget : ℕ) (end later : Option End) (had cycles : ℕ) → end ≡ None → had < budget → cycles ≡ had + 1
    → cycles_to_go budget later cycles < cycles_to_go budget end had
fewer budget (Some end) later had cycles none more is = cc
fewer budget None None had cycles none more is = omega arith
fewer budget None (Some end) had cycles none more is = omega arith

abbrev pub all_to_go : {E : Type 0} → ℕ → List (CoreSlot E) → ℕ
all_to_go {E} budget slots = sum_by (λ (s : CoreSlot E). cycles_to_go budget s.end s.cycles) slots

-- Before the first turn.
pub had-none : {E M : Type 0} (view : E → EngineView) (times : ServiceHistory → E → Type 0) (sees : M → MemoryView)
    (makes : Call → M → M → Type 0) (budget seed : ℕ) (first : M) (slots : List (CoreSlot E)) → AreSlots view budget (sees first) slots
    → ((core : ℕ) (s : CoreSlot E) → slice_get slots core ≡ Some s → s.cycles ≡ 0)
    → HaveHad view times sees makes budget seed [] first first slots slots
had-none view times sees makes budget seed first slots at no_cycle = record {
  slots = at;
  cycles = no_cycle;
  calls = [];
  lead = refl;
  are = λ totals h. record { drawn = λ turn core got. cc; count = refl; made = λ turn core those got made. cc };
  served = λ histories served. (histories, served);
}

module _ {E M : Type 0} (view : E → EngineView) (times : ServiceHistory → E → Type 0) (sees : M → MemoryView)
    (makes : Call → M → M → Type 0) (budget core choice : ℕ) (old new : M) (before after : List (CoreSlot E))
    (played : HasPlayed view times sees makes budget core choice old new before after) where
  inside : core < length before
  inside = slice_get_within before core played.was played.at

  -- There is less to go.
  pub less-to-go : AreSlots view budget (sees old) before → all_to_go budget after < all_to_go budget before
  less-to-go at =
      let left = λ (s : CoreSlot E). cycles_to_go budget s.end s.cycles in
      let on = is-on played.was.end played.no_end (at core played.was played.at).holds in
      let less = fewer budget played.was.end played.is.end played.was.cycles played.is.cycles played.no_end on.more played.cycles in
      let here = get_or_from_slice_get before core played.was played.was played.at in
      let sum = rw here at (sum_by-set left before core played.is played.was inside) in
      subst (λ (t : List (CoreSlot E)). sum_by left t < sum_by left before) (sym played.slots) (omega (arith, sum, less))

  totals-before : (totals : List ℕ) → AreTotals after totals → AreTotals before totals
  totals-before totals h = record {
    count = h.count ∙ (ap length played.slots ∙ length-set before core played.is);
    each = λ any s got.
        elim (cases_eq any core) as (λ _. IsTotal s.end s.cycles (slice_index totals any)) [
          | inl is ↦
              (let same : s ≡ played.was = same_Some s played.was (sym got ∙ (ap (slice_get before) is ∙ played.at)) in
              let now : slice_get after core ≡ Some played.is =
              ap (λ t. slice_get t core) played.slots ∙ slice_get-set_same before core played.is inside in
              let T : ℕ → CoreSlot E → Type 0 = λ n x. IsTotal x.end x.cycles (slice_index totals n) in
              subst (λ (n : ℕ). T n s) (sym is) (subst (λ (x : CoreSlot E). T core x) (sym same)
              (total-before played.was.end played.is.end played.was.cycles played.is.cycles (slice_index totals core) played.no_end
              played.cycles (h.each core played.is now))))
          | inr ne ↦ h.each any s (ap (λ t. slice_get t any) played.slots ∙ (slice_get-set_other before core any played.is ne ∙ got))
        ];
  }

  -- Behind turns that a seed drew, the next one, of the core and with the choice that it draws.
  module _ (seed : ℕ) (turns : List ℕ) (first : M) (begin : List (CoreSlot E))
      (had : HaveHad view times sees makes budget seed turns first old begin before)
      (is_drawn : drawn (word_of seed (2 * length turns)) (running before) ≡ Some core)
      (is_choice : choice ≡ word_of seed (2 * length turns + 1)) where
    cycles-now : played.is.cycles ≡ turns_of core turns + 1
    cycles-now = played.cycles ∙ ap (λ n. n + 1) (had.cycles core played.was played.at)

    slots-after : AreSlots view budget (sees new) after
    slots-after = subst (λ (t : List (CoreSlot E)). AreSlots view budget (sees new) t) (sym played.slots)
        (AtEach-set (λ any s. IsSlotOf any budget (sees old) (view s.engine) s.lane s.end s.cycles)
        (λ any s. IsSlotOf any budget (sees new) (view s.engine) s.lane s.end s.cycles) before core played.is inside played.slot
        (λ any s ne h. slot-kept core (sees old) (sees new) played.others any budget (view s.engine) s.lane s.end s.cycles ne h) had.slots)

    cycles-after : (any : ℕ) (s : CoreSlot E) → slice_get after any ≡ Some s → s.cycles ≡ turns_of any (turns ++ core ∷ [])
    cycles-after = subst (λ (t : List (CoreSlot E)). (any : ℕ) (s : CoreSlot E) → slice_get t any ≡ Some s
        → s.cycles ≡ turns_of any (turns ++ core ∷ [])) (sym played.slots)
        (AtEach-set (λ any s. s.cycles ≡ turns_of any turns) (λ any s. s.cycles ≡ turns_of any (turns ++ core ∷ [])) before core played.is
        inside (cycles-now ∙ sym (turns-own core turns)) (λ any s ne h. h ∙ sym (turns-other any core turns ne)) had.cycles)

    made-after : (totals : List ℕ) → AreTotals after totals → AreTurns seed totals turns had.calls → (turn any : ℕ) (those : List Call)
        → slice_get (turns ++ core ∷ []) turn ≡ Some any → slice_get (had.calls ++ played.calls ∷ []) turn ≡ Some those
        → AreOfCycle any (word_of seed (2 * turn + 1))
        (turns_of any (take turn (turns ++ core ∷ [])) + 1 == slice_index totals any) those
    made-after totals h are turn any those got called =
        let A : ℕ → List ℕ → ℕ → List Call → Type 0 = λ n t c calls.
        AreOfCycle c (word_of seed (2 * n + 1)) (turns_of c t + 1 == slice_index totals c) calls in
        let count = are.count in
        let now : slice_get after core ≡ Some played.is =
        ap (λ t. slice_get t core) played.slots ∙ slice_get-set_same before core played.is inside in
        let last = is-last played.is.end played.is.cycles (turns_of core turns) (slice_index totals core) (h.each core played.is now)
        cycles-now in
        let made = subst (λ (b : Bool). AreOfCycle core (word_of seed (2 * length turns + 1)) b played.calls) last
        (subst (λ (n : ℕ). AreOfCycle core n (is_some played.is.end) played.calls) is_choice played.made) in
        elim (slice_get-push_cases turns core turn any got) as (λ _. A turn (take turn (turns ++ core ∷ [])) any those) [
          | inl k ↦
              (let lt = k.0 in
              let was = sym (slice_get-append_left had.calls (played.calls ∷ []) turn (omega (arith, lt, count))) ∙ called in
              subst (λ (t : List ℕ). A turn t any those) (sym (take-append-le turn turns (core ∷ []) (omega (arith, lt))))
              (are.made turn any those k.1 was))
          | inr k ↦
              (let at = slice_get_at had.calls played.calls [] turn (count ∙ sym k.0) in
              let same : played.calls ≡ those = same_Some played.calls those (sym at ∙ called) in
              subst (λ (n : ℕ). A n (take n (turns ++ core ∷ [])) any those) (sym k.0)
              (subst (λ (t : List ℕ). A (length turns) t any those) (sym (take-append_seam turns (core ∷ [])))
              (subst (λ (c : ℕ). A (length turns) turns c those) (sym k.1)
              (subst (λ (calls : List Call). A (length turns) turns core calls) same made))))
        ]

    are-after : (totals : List ℕ) → AreTotals after totals → AreTurns seed totals (turns ++ core ∷ []) (had.calls ++ played.calls ∷ [])
    are-after totals h =
        let was = totals-before totals h in
        let are = had.are totals was in
        record {
          drawn = drawn-push seed totals turns core are.drawn
              (subst (λ (cores : List ℕ). drawn (word_of seed (2 * length turns)) cores ≡ Some core)
              (sym (left-running before turns totals had.cycles was)) is_drawn);
          count = length-append had.calls (played.calls ∷ []) ∙ (ap (λ n. n + 1) are.count ∙ sym (length-append turns (core ∷ [])));
          made = made-after totals h are;
        }

    served-after : (histories : ℕ → ServiceHistory) → AreServed view times (HaveTurns 0 []) (sees first) begin histories
        → (later : ℕ → ServiceHistory) × AreServed view times (HaveTurns 0 (turns ++ core ∷ [])) (sees new) after later
    served-after histories start =
        let h = had.served histories start in
        subst (λ (t : List (CoreSlot E)). (later : ℕ → ServiceHistory)
        × AreServed view times (HaveTurns 0 (turns ++ core ∷ [])) (sees new) t later) (sym played.slots)
        (served-turn (HaveTurns 0 turns) (HaveTurns 0 (turns ++ core ∷ [])) core played.is.cycles
        (adds-seeded 0 turns core played.is.cycles (omega arith) cycles-now) view times (sees old) (sees new) before core played.is h.0
        inside refl played.others (λ any s got. (had.slots any s got).lane_is) h.1
        (played.served (h.0 core) (h.1.each core played.was played.at)))

    pub had-more : HaveHad view times sees makes budget seed (turns ++ core ∷ []) first new begin after
    had-more = record {
      slots = slots-after;
      cycles = cycles-after;
      calls = had.calls ++ played.calls ∷ [];
      lead = subst (λ (calls : List Call). Lead makes calls first new)
          (sym (flat_map-append (λ (those : List Call). those) had.calls (played.calls ∷ [])))
          (lead-append makes (flat_map (λ those. those) had.calls) (played.calls ++ []) first old new had.lead
          (lead-append makes played.calls [] old new new played.lead refl));
      are = are-after;
      served = served-after;
    }

-- Where no core runs on, each has ended.
pub all-ended : {E : Type 0} (view : E → EngineView) (budget : ℕ) (m : MemoryView) (slots : List (CoreSlot E))
    → AreSlots view budget m slots → running slots ≡ [] → (core : ℕ) (s : CoreSlot E) → slice_get slots core ≡ Some s
    → IsEndedSlot core budget m (view s.engine) s.lane s.end s.cycles
all-ended view budget m slots at none core s got =
    slot-ended core budget m (view s.engine) s.lane s.end s.cycles (at core s got)
    (none-runs slots core s got none (slice_get_within slots core s got))

total-ended : (end : Option End) (it : End) (had total : ℕ) → end ≡ Some it → total ≡ had → IsTotal end had total
total-ended None it had total is same = cc
total-ended (Some end) it had total is same = same

-- The cycles of all ends, by the slots of cores that have ended.
module _ {E : Type 0} (view : E → EngineView) (rows : E → List TimeRow) (slots : List (CoreSlot E)) (ends : List CoreEnd)
    (told : AreEnds view rows slots ends) where
  pub ends-totals : length ends ≡ length slots → AreTotals slots (cycles_of ends)
  ends-totals count = record {
    count = length-map ends (λ (ended : CoreEnd). ended.cycles) ∙ count;
    each = λ core s got.
        (let within = slice_get_within slots core s got in
        let last = slice_get_some ends core (omega (arith, within, count)) in
        let t = told core last.0 last.1 in
        let same : t.0 ≡ s = same_Some t.0 s (sym t.1.0 ∙ got) in
        let there = slice_get-map (λ (ended : CoreEnd). ended.cycles) ends core ∙ ap (option_map (λ (ended : CoreEnd). ended.cycles)) last.1
        in
        let total : slice_index (cycles_of ends) core ≡ last.0.cycles = get_or_from_slice_get (cycles_of ends) core last.0.cycles 0 there in
        subst (λ (x : CoreSlot E). IsTotal x.end x.cycles (slice_index (cycles_of ends) core)) same
        (total-ended t.0.end last.0.end t.0.cycles (slice_index (cycles_of ends) core) t.1.1.ends (total ∙ t.1.1.took)));
  }

  pub ends-all : (turns : List ℕ)
      → ((core : ℕ) (s : CoreSlot E) → slice_get slots core ≡ Some s → s.cycles ≡ turns_of core turns) → AreAll (cycles_of ends) turns
  ends-all turns cycles core n got =
      let part = option_map_parts (λ (ended : CoreEnd). ended.cycles) (slice_get ends core) n
      (sym (slice_get-map (λ (ended : CoreEnd). ended.cycles) ends core) ∙ got) in
      let t = told core part.0 part.1 in
      sym (cycles core t.0 t.1.0) ∙ (sym t.1.1.took ∙ part.2)
