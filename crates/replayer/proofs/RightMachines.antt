-- By the machine: a core ended rightly exactly where its end is as due, and no row of its timetable differs.
use Rattle.std.proofs.Common.{◌≡◌, ℕ, ◌+◌, ◌≤◌, List, [], ◌∷◌, length, refl, sym, ap, subst, arith}
use Rattle.std.specs.Prelude.{Option, Some}
use Rattle.std.specs.Option.{option_map}
use Rattle.std.proofs.lemmas.List.{nil_from_length}
use Rattle.std.proofs.lemmas.Option.{same_Some}
use Rattle.kmp_base.specs.declared.setup.Setup.{Setup}
use Rattle.kmp_base.specs.declared.setup.MachineKind.{MachineKind}
use Rattle.kmp_base.specs.declared.setup.MachineKind.TheVariants.{Plain, Pipe, Full}
use Rattle.mips_isa.specs.declared.Instr.{Instr}
use Rattle.mips_isa.specs.declared.Next.{Next}
use Rattle.image_file.specs.Value.{ImageValue}
use Rattle.access_log.specs.declared.Entry.{Entry}
use Rattle.access_log.specs.Items.{entries}
use Rattle.access_log.specs.Replay.{own}
use Rattle.timetable.specs.declared.CoreEnd.{CoreEnd}
use Rattle.timetable.specs.declared.End.{End}
use Rattle.timetable.specs.declared.End.TheVariants.{Stopped, Spent}
use Rattle.timetable.specs.declared.rows.TimeRow.{TimeRow}
use Rattle.timetable.specs.Recurrence.{last_where}
use Rattle.timetable.specs.Tables.{Timed, IsTable, past_of}
use Rattle.timetable.specs.AtOnce.{first_m, past_at_once}
use Rattle.timetable.specs.Ends.{IsBeyond}
use Rattle.timetable.specs.Outcome.{OutcomeValue, final_of}
use Rattle.timetable.specs.Trace.{instr_on}
use Rattle.right_run.specs.Cycles.{EndsRightly}
use Rattle.right_run.specs.Stages.{executed_by, EndsInStages, IsStagedEnd}
use Rattle.right_run.specs.Right.{EndsOn}
use Rattle.report_rows.specs.Ends.{EndValue, end_value}
use Rattle.row_check.specs.Rows.{rows_judged}
use Rattle.row_check.proofs.JudgmentLaws.{Agree}
use Rattle.row_check.proofs.EndLaws.{table-from, spent-from, spent-to, stopped-from, stopped-to, beyond-from, beyond-to}
use Rattle.replayer.specs.declared.ends.Timing.{Timing}
use Rattle.replayer.specs.Cores.{plain_timing, stop_rows, done_by}
use Rattle.replayer.specs.Timetables.{bound_on, limit_of}
use Rattle.replayer.proofs.RightCores.{core_of}
use Rattle.replayer.proofs.RightEnds.{IsLate, EndsBy, IsAsDue, next_there, timing_there}

-- what a core leaves that ended so, with no room for more rows
abbrev pub core_end : EndValue → CoreEnd
core_end kept = record {
  end = kept.end;
  cycles = kept.cycles;
  retired = kept.retired;
  state = kept.state;
  rows = record { rows = kept.rows; spare = 0 };
}

-- ---- an unpipelined core

plain_right : (budget cycles used : ℕ) (kept : End) (next : Next) → cycles ≤ budget
    → EndsBy kept budget cycles (plain_timing used next) next → EndsRightly kept budget cycles used next
plain_right budget cycles used (Stopped stop) next within by = (by.0, sym (same_Some (used + 1) cycles by.1), within)
plain_right budget cycles used Spent next within by = by

plain_by : (budget cycles used : ℕ) (kept : End) (next : Next) → EndsRightly kept budget cycles used next
    → EndsBy kept budget cycles (plain_timing used next) next
plain_by budget cycles used (Stopped stop) next right = (right.0, ap (λ n. Some n) (sym right.1))
plain_by budget cycles used Spent next right = right

-- no row is judged where none is kept
none_judged : (line : ℕ) (bound limit : Option ℕ) (past : List Timed) (instrs : List (Option Instr)) (stop : Option Instr)
    → Agree (rows_judged line bound limit past instrs stop [])
none_judged line bound limit past [] stop = tt
none_judged line bound limit past (instr ∷ instrs) stop = tt

-- ---- a core with five stages

-- what its end is judged by, where its timetable is to have so many rows
abbrev staged : Option ℕ → End → List (Option Instr) → Option Instr → List TimeRow → ℕ → Timing
staged bound kept instrs instr rows count = record {
  used = 0;
  done = done_by bound kept (first_m (past_at_once [] instrs) instr);
  stopped = option_map (λ (row : TimeRow). row.m) (last_where rows);
  rows = count;
}

-- what comes next is done in this cycle at the latest, by the instructions alone, where that is told
abbrev done_on : MachineKind → List (Option Instr) → Option Instr → Option ℕ
done_on machine instrs instr = done_by (bound_on machine) Spent (first_m (past_at_once [] instrs) instr)

-- it is beyond the budget then exactly where it is behind the rows
beyond_behind : (machine : MachineKind) (budget : ℕ) (instrs : List (Option Instr)) (instr : Option Instr) (rows : List TimeRow)
    → IsTable (bound_on machine) [] instrs rows → IsLate budget (done_on machine instrs instr)
    → IsBeyond (bound_on machine) budget (past_of [] instrs rows) instr
beyond_behind Plain budget instrs instr rows table late = beyond-from instrs instr rows budget table late
beyond_behind Pipe budget instrs instr rows table late = beyond-from instrs instr rows budget table late
beyond_behind Full budget instrs instr rows table late = tt

late_behind : (machine : MachineKind) (budget : ℕ) (instrs : List (Option Instr)) (instr : Option Instr) (rows : List TimeRow)
    → IsTable (bound_on machine) [] instrs rows → IsBeyond (bound_on machine) budget (past_of [] instrs rows) instr
    → IsLate budget (done_on machine instrs instr)
late_behind Plain budget instrs instr rows table beyond = beyond-to instrs instr rows budget table beyond
late_behind Pipe budget instrs instr rows table beyond = beyond-to instrs instr rows budget table beyond
late_behind Full budget instrs instr rows table beyond = tt

module _ (machine : MachineKind) (line budget cycles : ℕ) (instrs : List (Option Instr)) (instr : Option Instr) (next : Next)
    (rows : List TimeRow) where
  abbrev bound : Option ℕ
  bound = bound_on machine

  -- no row of its timetable differs, by its end
  abbrev JudgedBy : End → Type 0
  JudgedBy kept = Agree (rows_judged line bound (limit_of budget kept) [] instrs instr rows)

  -- it ended by its timing, which is to tell so many rows
  abbrev By : End → ℕ → Type 0
  By kept count = EndsBy kept budget cycles (staged bound kept instrs instr rows count) next

  staged_right : (kept : End) (count : ℕ) → cycles ≤ budget → length rows ≡ length instrs + stop_rows kept → By kept count → JudgedBy kept
      → EndsInStages kept bound budget instrs instr next cycles rows
  staged_right (Stopped stop) count within all by judged =
      (by.0, within, stopped-from line bound instrs instr rows cycles all judged by.1)
  staged_right Spent count within all by judged =
      let few : length rows ≡ length instrs = omega (arith, all) in
      let table = table-from line bound instrs instr rows (Some budget) few judged in
      (by.0, spent-from line bound instrs instr rows budget few judged (beyond_behind machine budget instrs instr rows table by.2))

  record StagedAgrees (kept : End) (count : ℕ) : Type 0 where
    pub all : length rows ≡ length instrs + stop_rows kept
    pub by : By kept count
    pub judged : JudgedBy kept

  staged_agrees : (kept : End) (count : ℕ) → EndsInStages kept bound budget instrs instr next cycles rows → StagedAgrees kept count
  staged_agrees (Stopped stop) count right =
      let to = stopped-to line bound instrs instr rows cycles right.2 in
      record { all = to.0; by = (right.0, to.2); judged = to.1 }
  staged_agrees Spent count right =
      let to = spent-to line bound instrs instr rows budget right.1 in
      record {
        all = omega (arith, to.0);
        by = (right.0, omega arith, late_behind machine budget instrs instr rows right.1.table right.1.no_more);
        judged = to.1;
      }

-- ---- by the machine

module _ (setup : Setup) (image : ImageValue) (outcome : OutcomeValue) (core : ℕ) where
  abbrev accesses : List Entry
  accesses = own (entries outcome.items) core

  -- the instructions of a core that executed so many
  abbrev instrs : ℕ → List (Option Instr)
  instrs retired = executed_by image core setup.cores accesses retired

  -- no row of a timetable differs
  abbrev pub JudgedOn : MachineKind → ℕ → EndValue → Type 0
  JudgedOn machine line kept =
      JudgedBy machine line setup.budget kept.cycles (instrs kept.retired) (instr_on image.code kept.state.dpc)
      (next_there image (core_of kept.retired kept.state)) kept.rows kept.end

  staged_on : (machine : MachineKind) (line : ℕ) (kept : EndValue) → kept.cycles ≤ setup.budget
      → length (instrs kept.retired) ≡ kept.retired → length kept.rows ≡ kept.retired + stop_rows kept.end
      → By machine line setup.budget kept.cycles (instrs kept.retired) (instr_on image.code kept.state.dpc)
      (next_there image (core_of kept.retired kept.state)) kept.rows kept.end (kept.retired + stop_rows kept.end)
      → JudgedOn machine line kept
      → IsStagedEnd (bound_on machine) setup.budget image core setup.cores accesses (core_end kept)
  staged_on machine line kept within all rows by judged =
      staged_right machine line setup.budget kept.cycles (instrs kept.retired) (instr_on image.code kept.state.dpc)
      (next_there image (core_of kept.retired kept.state)) kept.rows kept.end (kept.retired + stop_rows kept.end) within
      (omega (arith, all, rows)) by judged

  pub ends_on : (machine : MachineKind) (line : ℕ) (kept : EndValue) → kept.cycles ≤ setup.budget
      → length (instrs kept.retired) ≡ kept.retired
      → IsAsDue machine setup image core accesses kept (core_of kept.retired kept.state)
      → JudgedOn machine line kept → EndsOn machine setup image outcome core (core_end kept)
  ends_on Plain line kept within all due judged = (
    plain_right setup.budget kept.cycles (kept.retired + length accesses) kept.end
        (next_there image (core_of kept.retired kept.state)) within due.ends,
    nil_from_length kept.rows due.rows,
  )
  ends_on Pipe line kept within all due judged = staged_on Pipe line kept within all due.rows due.ends judged
  ends_on Full line kept within all due judged = staged_on Full line kept within all due.rows due.ends judged

  -- what is judged of a core that ended rightly
  pub record EndAsDue (machine : MachineKind) (ended : CoreEnd) : Type 0 where
    pub due : IsAsDue machine setup image core accesses (end_value ended) (final_of ended)
    pub judged : (line : ℕ) → JudgedOn machine line (end_value ended)

  -- a core with five stages, with the timing of its machine
  staged_due : (machine : MachineKind) (ended : CoreEnd) → length (instrs ended.retired) ≡ ended.retired
      → timing_there machine setup image core accesses (end_value ended) (final_of ended)
      ≡ staged (bound_on machine) ended.end (instrs ended.retired) (instr_on image.code ended.state.dpc) ended.rows.rows
      (ended.retired + stop_rows ended.end)
      → IsStagedEnd (bound_on machine) setup.budget image core setup.cores accesses ended
      → EndAsDue machine ended
  staged_due machine ended all timing_is right =
      let instr = instr_on image.code ended.state.dpc in
      let next = next_there image (final_of ended) in
      let count = ended.retired + stop_rows ended.end in
      let agrees : (line : ℕ)
      → StagedAgrees machine line setup.budget ended.cycles (instrs ended.retired) instr next ended.rows.rows ended.end count =
      λ line. staged_agrees machine line setup.budget ended.cycles (instrs ended.retired) instr next ended.rows.rows ended.end count right
      in
      record {
        due = record {
          retired = refl;
          state = refl;
          ends = rw timing_is (agrees 0).by;
          rows = rw timing_is (omega (arith, all, (agrees 0).all));
        };
        judged = λ line. (agrees line).judged;
      }

  pub end_as_due : (machine : MachineKind) (ended : CoreEnd) → length (instrs ended.retired) ≡ ended.retired
      → EndsOn machine setup image outcome core ended → EndAsDue machine ended
  end_as_due Plain ended all right = record {
    due = record {
      retired = refl;
      state = refl;
      ends = plain_by setup.budget ended.cycles (ended.retired + length accesses) ended.end (next_there image (final_of ended)) right.0;
      rows = ap (λ (rows : List TimeRow). length rows) right.1;
    };
    judged = λ line. subst (λ rows. Agree (rows_judged line (Some 0) (limit_of setup.budget ended.end) [] (instrs ended.retired)
        (instr_on image.code ended.state.dpc) rows)) (sym right.1)
        (none_judged line (Some 0) (limit_of setup.budget ended.end) [] (instrs ended.retired) (instr_on image.code ended.state.dpc));
  }
  end_as_due Pipe ended all right = staged_due Pipe ended all refl right
  end_as_due Full ended all right = staged_due Full ended all refl right
