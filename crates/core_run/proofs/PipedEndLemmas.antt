-- What the end of a core with five stages tells: on every memory, and where none of its wants stayed unmet.
use Rattle.std.proofs.Common.{◌≡◌, ℕ, inl, Bool, true, false, List, [], ◌∷◌, refl, ap, sym, ◌∙◌, subst}
use Rattle.std.specs.Prelude.{Option, Some, None, map, ◌&&◌, not}
use Rattle.std.specs.List.{AllByRecursion}
use Rattle.mips_isa.specs.declared.Instr.{Instr}
use Rattle.mips_isa.specs.declared.Next.{Next}
use Rattle.mips_isa.specs.Steps.{next_of}
use Rattle.image_file.specs.Value.{ImageValue, memory_bytes, start_state}
use Rattle.access_log.specs.Stamps.{Stamp}
use Rattle.timetable.specs.declared.rows.TimeRow.{TimeRow}
use Rattle.timetable.specs.declared.End.{End}
use Rattle.timetable.specs.declared.End.TheVariants as ends
use Rattle.timetable.specs.declared.CoreEnd.{CoreEnd}
use Rattle.timetable.specs.Trace.{trace, instr_on}
use Rattle.timetable.specs.Ends.{EndsInStop, EndsSpent}
use Rattle.timetable.proofs.BoundLaws.{table-unbounded, stop-unbounded}
use Rattle.right_run.specs.Stages.{found_by, executed_by, EndsInStages, IsStagedEnd}
use Rattle.mem_port.specs.Loaded.{stop}
use Rattle.mem_port.specs.ServiceHistory.{ServiceHistory}
use Rattle.pipe_core.specs.Chain.{state_of}
use Rattle.pipe_core.specs.PipeView.{PipeValue, pipe_view}
use Rattle.pipe_core.specs.PipeRun.{olds_of, HasClock}
use Rattle.pipe_core.specs.PipeHistory.{IsUnderWay, HasStopped, IsDrained, told_by, pipe_timed}
use Rattle.pipe_core.proofs.RowLaws.{clocks-stay}
use Rattle.pipe_core.proofs.EndLaws.{spent}
use Rattle.core_run.specs.Running.{EndFits, goes_on}
use Rattle.core_run.specs.Outcomes.{IsEngineOf}
use Rattle.core_run.proofs.PlainEndLemmas.{next-stops, undrained}
use Rattle.core_run.proofs.RunLaws.{entry_in}

-- What stamps found is what their entries found.
found-of : (accesses : List Stamp) → olds_of accesses ≡ found_by (map entry_in accesses)
found-of [] = refl
found-of (stamp ∷ accesses) = ap (λ olds. stamp.entry.old ∷ olds) (found-of accesses)

-- What holds of the end of a timetable holds of the same one.
moved : (P : Option ℕ → List (Option Instr) → Option Instr → ℕ → List TimeRow → Type 0) (bound bound' : Option ℕ)
    (instrs instrs' : List (Option Instr)) (instr instr' : Option Instr) (cycles cycles' : ℕ) (rows rows' : List TimeRow)
    → bound ≡ bound' → instrs ≡ instrs' → instr ≡ instr' → cycles ≡ cycles' → rows ≡ rows' → P bound instrs instr cycles rows
    → P bound' instrs' instr' cycles' rows'
moved P bound bound' instrs instrs' instr instr' cycles cycles' rows rows' b is i c r h = rw (← b, ← is, ← i, ← c, ← r) h

-- What a core with these accesses tells of its end: each access was made in the cycle of its row, and the end is right.
pub record IsStagedInTime (image : ImageValue) (core cores : ℕ) (accesses : List Stamp) (ended : CoreEnd) : Type 0 where
  pub clocks : AllByRecursion (HasClock ended.rows.rows) accesses
  pub rightly : (budget : ℕ) → EndFits ended.end budget ended.cycles (stop image ended.state)
      → IsStagedEnd (Some 0) budget image core cores (map entry_in accesses) ended

module _ (image : ImageValue) (core cores : ℕ) (bound : Option ℕ) (ended : CoreEnd) (history : ServiceHistory) (e : PipeValue)
    (is : IsEngineOf image core cores bound ended history (pipe_view e)) (rows_are : ended.rows.rows ≡ e.table.rows) where
  abbrev executed : List (Option Instr)
  executed = executed_by image core cores (map entry_in history.service.accesses) ended.retired

  -- The instruction that comes next, and what it does.
  abbrev due : Option Instr
  due = instr_on image.code ended.state.dpc

  abbrev next : Next
  next = next_of image.code (memory_bytes image) ended.state

  -- The instructions that the engine kept are those of its accesses.
  same-trace : trace e.image.code (memory_bytes e.image) e.flight.executed (start_state e.image e.core e.cores)
      (olds_of history.service.accesses) ≡ executed
  same-trace = rw (is.image_is, is.core_is, is.cores_are, is.retired, found-of history.service.accesses) refl

  same-instr : instr_on e.image.code (state_of e.flight).dpc ≡ due
  same-instr = rw is.image_is (ap (λ state. instr_on image.code state.dpc) is.state)

  -- An engine that stopped.
  stopped : HasStopped history e → EndsInStop bound executed due ended.cycles ended.rows.rows
  stopped h = moved EndsInStop _ _ _ _ _ _ _ _ _ _ is.bound_is (h.run.instrs_are ∙ same-trace) same-instr is.clocks (sym rows_are)
      (record { earlier = h.earlier; row = h.row; are = h.rows_are; table = h.table; last = h.last; at = h.at })

  stopped-clocks : HasStopped history e → AllByRecursion (HasClock ended.rows.rows) history.service.accesses
  stopped-clocks h = rw (rows_are ∙ h.rows_are) (clocks-stay h.earlier h.row history.service.accesses h.run.clocks)

  -- An engine whose budget was spent, and one whose budget ended while an access was open, on a memory that tells no bound.
  under-way : IsUnderWay history e → EndsSpent None executed due ended.cycles ended.rows.rows
  under-way h = moved EndsSpent _ _ _ _ _ _ _ _ _ _ refl (h.run.instrs_are ∙ same-trace) same-instr is.clocks (sym rows_are) (record {
    table = table-unbounded history.bound [] e.table.instrs e.table.rows h.timed.rows;
    within = inl (rw h.clocks h.timed.punctual.before.m);
    no_more = tt;
  })

  drained : IsDrained history e → EndsSpent None executed due ended.cycles ended.rows.rows
  drained h = moved EndsSpent _ _ _ _ _ _ _ _ _ _ refl (h.run.instrs_are ∙ same-trace) same-instr is.clocks (sym rows_are) (record {
    table = table-unbounded history.bound [] e.table.instrs e.table.rows h.table;
    within = h.within;
    no_more = tt;
  })

  late-spent : (budget : ℕ) → ended.cycles ≡ budget → EndsSpent None executed due ended.cycles ended.rows.rows
      → EndsInStages ends.Spent None budget executed due next ended.cycles ended.rows.rows
  late-spent budget fits h = (fits, subst (λ (n : ℕ). EndsSpent None executed due n ended.rows.rows) fits h)

  -- By how it ended, and whether an access was open.
  late-by : (end : End) (is_drained : Bool) → (goes_on (Some end) ≡ false → is_drained ≡ false)
      → told_by (goes_on (Some end) && not is_drained) is_drained history e
      → (budget : ℕ) → EndFits end budget ended.cycles (stop image ended.state)
      → EndsInStages end None budget executed due next ended.cycles ended.rows.rows
  late-by (ends.Stopped why) true closed told budget fits = (let none = closed refl in cc)
  late-by (ends.Stopped why) false closed told budget fits =
      (next-stops image ended.state why fits.0, fits.1, stop-unbounded bound executed due ended.cycles ended.rows.rows (stopped told))
  late-by ends.Spent true closed told budget fits = late-spent budget fits (drained told)
  late-by ends.Spent false closed told budget fits = late-spent budget fits (under-way told)

  -- So it is on every memory.
  pub late-end : pipe_timed history e → (budget : ℕ) → EndFits ended.end budget ended.cycles (stop image ended.state)
      → IsStagedEnd None budget image core cores (map entry_in history.service.accesses) ended
  late-end timed budget fits =
      late-by ended.end history.is_drained is.stopped
      (subst (λ (live : Bool). told_by live history.is_drained history e) is.live timed) budget fits

-- Where each answer came as its request was served, and the budget didn't end while one was open.
module _ (image : ImageValue) (core cores : ℕ) (ended : CoreEnd) (history : ServiceHistory) (e : PipeValue)
    (is : IsEngineOf image core cores (Some 0) ended history (pipe_view e)) (rows_are : ended.rows.rows ≡ e.table.rows) where
  abbrev did : List (Option Instr)
  did = executed_by image core cores (map entry_in history.service.accesses) ended.retired

  -- An engine whose budget was spent.
  still-on : IsUnderWay history e
      → EndsSpent (Some 0) did (instr_on image.code ended.state.dpc) ended.cycles ended.rows.rows
  still-on h = moved EndsSpent _ _ _ _ _ _ _ _ _ _ refl
      (h.run.instrs_are ∙ same-trace image core cores (Some 0) ended history e is rows_are)
      (same-instr image core cores (Some 0) ended history e is rows_are) is.clocks (sym rows_are)
      (spent history e is.bound_is h)

  -- By how it ended.
  staged-by : (end : End) → e.live ≡ goes_on (Some end) → told_by e.live false history e
      → AllByRecursion (HasClock ended.rows.rows) history.service.accesses
      × ((budget : ℕ) → EndFits end budget ended.cycles (stop image ended.state)
      → EndsInStages end (Some 0) budget did (instr_on image.code ended.state.dpc)
      (next_of image.code (memory_bytes image) ended.state) ended.cycles ended.rows.rows)
  staged-by (ends.Stopped why) dead told =
      let h : HasStopped history e = subst (λ (live : Bool). told_by live false history e) dead told in (
        stopped-clocks image core cores (Some 0) ended history e is rows_are h,
        λ budget fits. (
          next-stops image ended.state why fits.0,
          fits.1,
          stopped image core cores (Some 0) ended history e is rows_are h,
        ),
      )
  staged-by ends.Spent live told =
      let h : IsUnderWay history e = subst (λ (live : Bool). told_by live false history e) live told in (
        rw rows_are h.run.clocks,
        λ budget fits. (
          fits,
          subst (λ (n : ℕ). EndsSpent (Some 0) did (instr_on image.code ended.state.dpc) n ended.rows.rows) fits
              (still-on h),
        ),
      )

  pub staged-end : pipe_timed history e → history.is_drained ≡ false
      → IsStagedInTime image core cores history.service.accesses ended
  staged-end timed waited =
      let live : e.live ≡ goes_on (Some ended.end) = undrained e.live (goes_on (Some ended.end)) history.is_drained waited is.live in
      let told = subst (λ (is_drained : Bool). told_by e.live is_drained history e) waited timed in
      let all = staged-by ended.end live told in
      record { clocks = all.0; rightly = all.1 }
