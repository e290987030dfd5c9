-- No judgment of the rows of all cores differs exactly where each core catches up to its row and its end is as due there.
use Rattle.std.proofs.Common.{◌≡◌, ℕ, zero, suc, ◌+◌, ◌-◌, List, [], ◌∷◌, length, refl, sym, ap, ◌∙◌, subst, arith}
use Rattle.std.specs.Prelude.{Some, map, slice_get}
use Rattle.std.specs.List.{AllByRecursion}
use Rattle.std.proofs.lemmas.Option.{none-some, same_Some}
use Rattle.std_laws.proofs.ListLaws.{AllByRecursion-append, AllByRecursion-parts}
use Rattle.kmp_base.specs.declared.setup.Setup.{Setup}
use Rattle.image_file.specs.Value.{ImageValue}
use Rattle.access_log.specs.declared.Core.{Core}
use Rattle.access_log.specs.declared.Entry.{Entry}
use Rattle.access_log.specs.Replay.{FlatMachine, memory_bytes, own}
use Rattle.timetable.specs.declared.CoreEnd.{CoreEnd}
use Rattle.timetable.specs.Outcome.{final_of}
use Rattle.report_rows.specs.Bounds.{IsEnd}
use Rattle.report_rows.specs.Ends.{EndValue, end_value}
use Rattle.row_check.specs.Judgments.{Judgment}
use Rattle.row_check.proofs.JudgmentLaws.{Agree, Agrees}
use Rattle.replayer.specs.Cores.{core_to, core_judged, cores_judged}
use Rattle.replayer.specs.Timetables.{timetable_judged, timetables_judged}
use Rattle.replayer.proofs.RightEnds.{IsAsDue, core_is, is_as_due, as_due_agrees}
use Rattle.replayer.proofs.RightMachines.{core_end}
use Rattle.replayer.proofs.RightCores.{core_of, caught_up-farthest, farthest-caught_up}
use Rattle.replayer.proofs.RightRegisters.{HasRegisters, farthest-registers}
use Rattle.replayer.proofs.RightFinals.{AreCaughtUp}

abbrev pub retired_of : EndValue → ℕ
retired_of kept = kept.retired

module _ (setup : Setup) (image : ImageValue) (order : List Entry) where
  -- The end of the core at an index is as due, where it stands there.
  abbrev pub IsDueAt : ℕ → EndValue → Core → Type 0
  IsDueAt index kept there = IsAsDue setup.machine setup image index (own order index) kept there

  -- The end of each core from an index on is as due, where these stand.
  abbrev pub AreAsDue : ℕ → List EndValue → List Core → Type 0
  AreAsDue index [] [] = Unit {0}
  AreAsDue index (kept ∷ ends) (there ∷ finals) = IsDueAt index kept there × AreAsDue (index + 1) ends finals
  AreAsDue index ends finals = ⊥

  -- Each core from an index on catches up to its row, and its end is as due there.
  pub record AreRight (machine : FlatMachine) (index : ℕ) (ends : List EndValue) (cores : List Core) : Type 0 where
    pub finals : List Core
    pub caught : AreCaughtUp machine.code (memory_bytes machine) (map retired_of ends) cores finals
    pub due : AreAsDue index ends finals

  abbrev judged : ℕ → ℕ → EndValue → Core → List Judgment
  judged line index kept there = core_judged line setup image index (own order index) kept there

  pub cores_right : (line most : ℕ) (machine : FlatMachine) (index : ℕ) (ends : List EndValue) (cores : List Core)
      → length ends ≡ length cores
      → AllByRecursion (IsEnd setup.budget most) ends → AllByRecursion HasRegisters cores
      → Agree (cores_judged line setup image machine order index ends cores) → AreRight machine index ends cores
  cores_right line most machine index [] [] same are have all = record { finals = []; caught = tt; due = tt }
  cores_right line most machine index [] (core ∷ cores) same are have all = absurd (omega (arith, same))
  cores_right line most machine index (kept ∷ ends) [] same are have all = absurd (omega (arith, same))
  cores_right line most machine index (kept ∷ ends) (core ∷ cores) same are have all =
      let there : Core = core_to machine kept.retired core in
      let parts = AllByRecursion-parts Agrees (judged line index kept there)
      (cores_judged (line + 5) setup image machine order (index + 1) ends cores) all in
      let first = is_as_due line setup image index (own order index) kept there are.0.registers
      (farthest-registers machine.code (memory_bytes machine) (kept.retired - core.executed) core have.0) parts.0 in
      let others = cores_right (line + 5) most machine (index + 1) ends cores (omega (arith, same)) are.1 have.1 parts.1 in
      record {
        finals = there ∷ others.finals;
        caught = (caught_up-farthest machine.code (memory_bytes machine) kept.retired core (sym first.retired), others.caught);
        due = (first, others.due);
      }

  pub cores_agree : (line : ℕ) (machine : FlatMachine) (index : ℕ) (ends : List EndValue) (cores finals : List Core)
      → AreCaughtUp machine.code (memory_bytes machine) (map retired_of ends) cores finals
      → AreAsDue index ends finals
      → Agree (cores_judged line setup image machine order index ends cores)
  cores_agree line machine index [] [] [] caught due = tt
  cores_agree line machine index (kept ∷ ends) (core ∷ cores) (final ∷ finals) caught due =
      let there : core_to machine kept.retired core ≡ final =
      farthest-caught_up machine.code (memory_bytes machine) kept.retired core final caught.0 in
      let row = as_due_agrees line setup image index (own order index) kept final due.0 in
      AllByRecursion-append Agrees (judged line index kept (core_to machine kept.retired core))
      (cores_judged (line + 5) setup image machine order (index + 1) ends cores)
      (subst (λ (c : Core). Agree (judged line index kept c)) (sym there) row)
      (cores_agree (line + 5) machine (index + 1) ends cores finals caught.1 due.1)
  cores_agree line machine index [] (core ∷ cores) finals caught due = absurd caught
  cores_agree line machine index [] [] (final ∷ finals) caught due = absurd due
  cores_agree line machine index (kept ∷ ends) [] finals caught due = absurd caught
  cores_agree line machine index (kept ∷ ends) (core ∷ cores) [] caught due = absurd due

  -- ---- where the cores stand then

  pub finals_are : (index : ℕ) (ends : List EndValue) (finals : List Core) → AreAsDue index ends finals
      → finals ≡ map final_of (map core_end ends)
  finals_are index [] [] due = refl
  finals_are index (kept ∷ ends) (there ∷ finals) due =
      ap (λ c. c ∷ finals) (sym (core_is due.0))
      ∙ ap (λ (cs : List Core). final_of (core_end kept) ∷ cs) (finals_are (index + 1) ends finals due.1)
  finals_are index [] (there ∷ finals) due = absurd due
  finals_are index (kept ∷ ends) [] due = absurd due

  pub due_at : (index : ℕ) (ends : List EndValue) (finals : List Core) → AreAsDue index ends finals
      → (c : ℕ) (kept : EndValue) → slice_get ends c ≡ Some kept → IsDueAt (index + c) kept (core_of kept.retired kept.state)
  due_at index [] finals due c kept here = absurd (none-some kept here)
  due_at index (kept ∷ ends) [] due c other here = absurd due
  due_at index (kept ∷ ends) (there ∷ finals) due zero other here =
      let e : index + 0 ≡ index = omega arith in
      rw (e, ← same_Some kept other here) (subst (IsDueAt index kept) (sym (core_is due.0)) due.0)
  due_at index (kept ∷ ends) (there ∷ finals) due (suc c) other here =
      let e : index + suc c ≡ index + 1 + c = omega arith in
      rw e (due_at (index + 1) ends finals due.1 c other here)

  pub all_due : (index : ℕ) (cores : List CoreEnd)
      → ((c : ℕ) (ended : CoreEnd) → slice_get cores c ≡ Some ended → IsDueAt (index + c) (end_value ended) (final_of ended))
      → AreAsDue index (map end_value cores) (map final_of cores)
  all_due index [] each = tt
  all_due index (ended ∷ cores) each =
      let e : index + 0 ≡ index = omega arith in
      (rw e at (each zero ended refl), all_due (index + 1) cores next)
    where
      next : (c : ℕ) (other : CoreEnd) → slice_get cores c ≡ Some other → IsDueAt (index + 1 + c) (end_value other) (final_of other)
      next c other there =
          let e : index + suc c ≡ index + 1 + c = omega arith in
          rw e at (each (suc c) other there)

  -- ---- timetables

  abbrev table : ℕ → ℕ → EndValue → List Judgment
  table line index kept = timetable_judged line setup image index (own order index) kept

  pub tables_parts : (line index : ℕ) (ends : List EndValue) → Agree (timetables_judged line setup image order index ends)
      → (c : ℕ) (kept : EndValue) → slice_get ends c ≡ Some kept → (at : ℕ) × Agree (table at (index + c) kept)
  tables_parts line index [] all c kept here = absurd (none-some kept here)
  tables_parts line index (kept ∷ ends) all zero other here =
      let e : index + 0 ≡ index = omega arith in
      let parts = AllByRecursion-parts Agrees (table line index kept)
      (timetables_judged (line + length kept.rows) setup image order (index + 1) ends) all in
      (line, rw (e, ← same_Some kept other here) parts.0)
  tables_parts line index (kept ∷ ends) all (suc c) other here =
      let e : index + suc c ≡ index + 1 + c = omega arith in
      let parts = AllByRecursion-parts Agrees (table line index kept)
      (timetables_judged (line + length kept.rows) setup image order (index + 1) ends) all in
      rw e (tables_parts (line + length kept.rows) (index + 1) ends parts.1 c other here)

  pub tables_agree : (line index : ℕ) (ends : List EndValue)
      → ((c : ℕ) (kept : EndValue) → slice_get ends c ≡ Some kept → (at : ℕ) → Agree (table at (index + c) kept))
      → Agree (timetables_judged line setup image order index ends)
  tables_agree line index [] each = tt
  tables_agree line index (kept ∷ ends) each =
      let e : index + 0 ≡ index = omega arith in
      AllByRecursion-append Agrees (table line index kept)
      (timetables_judged (line + length kept.rows) setup image order (index + 1) ends) (rw e at (each zero kept refl line))
      (tables_agree (line + length kept.rows) (index + 1) ends next)
    where
      next : (c : ℕ) (other : EndValue) → slice_get ends c ≡ Some other → (at : ℕ) → Agree (table at (index + 1 + c) other)
      next c other there at =
          let e : index + suc c ≡ index + 1 + c = omega arith in
          rw e at (each (suc c) other there at)
