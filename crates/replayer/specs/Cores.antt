-- What is due in the rows of cores.
use Rattle.std.specs.Prelude.{ℕ, zero, suc, ◌+◌, ◌-◌, Bool, true, ◌&&◌, nat_le, nat_lt, if◌then◌else◌, List, [], ◌∷◌, ◌++◌, length}
use Rattle.std.specs.Prelude.{Option, Some, None}
use Rattle.std.specs.Option.{option_map}
use Rattle.kmp_base.specs.declared.setup.Setup.{Setup}
use Rattle.kmp_base.specs.declared.setup.MachineKind.{MachineKind}
use Rattle.kmp_base.specs.declared.setup.MachineKind.TheVariants.{Plain}
use Rattle.mips_isa.specs.declared.Instr.{Instr}
use Rattle.mips_isa.specs.declared.Next.{Next}
use Rattle.mips_isa.specs.declared.Next.TheVariants.{Stops, Asks, Goes}
use Rattle.mips_isa.specs.Steps.{next_of}
use Rattle.image_file.specs.Value.{ImageValue, memory_bytes}
use Rattle.access_log.specs.declared.Core.{Core}
use Rattle.access_log.specs.declared.Entry.{Entry}
use Rattle.access_log.specs.Replay.{FlatMachine, quiet, own}
use Rattle.access_log.specs.Replay as replays
use Rattle.access_log.specs.declared.field.Field.TheVariants as fields
use Rattle.timetable.specs.declared.End.{End}
use Rattle.timetable.specs.declared.End.TheVariants.{Stopped, Spent}
use Rattle.timetable.specs.declared.rows.TimeRow.{TimeRow}
use Rattle.timetable.specs.Recurrence.{last_where}
use Rattle.timetable.specs.AtOnce.{first_m, past_at_once}
use Rattle.timetable.specs.Trace.{instr_on}
use Rattle.right_run.specs.Cycles.{plain_cycles}
use Rattle.right_run.specs.Stages.{executed_by}
use Rattle.report_rows.specs.Ends.{EndValue}
use Rattle.row_check.specs.Judgments.{Judgment, number, optional, word, end, allowed}
use Rattle.replayer.specs.declared.ends.Timing.{Timing}
use Rattle.replayer.specs.Lists.{registers_judged}
use Rattle.replayer.specs.Timetables.{bound_on}

-- A core after at most so many instructions: it goes no further than to an access or a stop.
unfoldable pub farthest : List ℕ → ℕ → ℕ → Core → Core
farthest code bytes zero core = core
farthest code bytes (suc steps) core = elim (quiet (next_of code bytes core.state)) [
  | Some state ↦ farthest code bytes steps (record { state = state; executed = core.executed + 1 })
  | None ↦ core
]

-- A core of a machine that was to catch up to n executed instructions, as far as it comes.
abbrev pub core_to : FlatMachine → ℕ → Core → Core
core_to machine n core = farthest machine.code (replays.memory_bytes machine) (n - core.executed) core

-- ---- what the end of a core is judged by

-- An unpipelined core that used so many cycles has no timetable. A stop takes a cycle.
abbrev pub plain_timing : ℕ → Next → Timing
plain_timing used next = record { used = used; done = Some (used + plain_cycles next); stopped = Some (used + 1); rows = 0 }

-- A stop has a row of its own.
abbrev pub stop_rows : End → ℕ
stop_rows (Stopped stop) = 1
stop_rows Spent = 0

-- The cycle in which what comes next is done at the latest, by the end that is kept: of a spent core, where nothing waits. A core that
-- stopped has nothing to come, and where words and answers may come late nothing tells the cycle.
abbrev pub done_by : Option ℕ → End → ℕ → Option ℕ
done_by (Some zero) Spent at_once = Some at_once
done_by bound kept at_once = None

-- A core with five stages that executed these instructions, and comes to this one next, has its cycles in its timetable.
abbrev pub staged_timing : Option ℕ → EndValue → ℕ → List (Option Instr) → Option Instr → Timing
staged_timing bound kept executed instrs instr = record {
  used = 0;
  done = done_by bound kept.end (first_m (past_at_once [] instrs) instr);
  stopped = option_map (λ (row : TimeRow). row.m) (last_where kept.rows);
  rows = executed + stop_rows kept.end;
}

-- By the machine: of the core with a number, of so many, that made these accesses and stands there.
abbrev pub timing_on : MachineKind → ImageValue → ℕ → ℕ → List Entry → EndValue → Core → Next → Timing
timing_on Plain image core cores accesses kept there next = plain_timing (there.executed + length accesses) next
timing_on machine image core cores accesses kept there next =
    staged_timing (bound_on machine) kept there.executed (executed_by image core cores accesses there.executed)
    (instr_on image.code there.state.dpc)

-- ---- its end

-- Whether what comes next may be done only beyond the budget: it may where nothing tells its cycle.
abbrev pub may_be_beyond : ℕ → Option ℕ → Bool
may_be_beyond budget None = true
may_be_beyond budget (Some cycle) = nat_lt budget cycle

-- The stop that comes next is due, and else that the budget is spent. A spent core may be at a stop that its budget didn't reach.
abbrev pub due_end : ℕ → Option ℕ → End → Next → End
due_end budget cycle Spent (Stops stop) = if may_be_beyond budget cycle then Spent else Stopped stop
due_end budget cycle (Stopped kept) (Stops stop) = Stopped stop
due_end budget cycle kept (Goes state) = Spent
due_end budget cycle kept (Asks access) = Spent

-- A spent core used no more than its budget, and what comes next need not be done within it.
abbrev pub may_be_spent : ℕ → Timing → End → Bool
may_be_spent budget timing (Stopped stop) = true
may_be_spent budget timing Spent = nat_le timing.used budget && may_be_beyond budget timing.done

-- A core that stopped took the cycle of its stop; a spent one took all of its budget.
abbrev pub due_cycles : ℕ → Option ℕ → End → Option ℕ
due_cycles budget stopped (Stopped stop) = stopped
due_cycles budget stopped Spent = Some budget

-- ---- the rows

-- The row of a core's end, by its timing, where it stands, and what comes next.
abbrev pub end_judged : ℕ → ℕ → EndValue → Timing → Core → Next → List Judgment
end_judged line budget kept timing there next =
    number line fields.Retired kept.retired there.executed
    ∷ end line kept.end (due_end budget timing.done kept.end next)
    ∷ allowed line fields.Retired kept.retired (may_be_spent budget timing kept.end)
    ∷ optional line fields.Cycles (Some kept.cycles) (due_cycles budget timing.stopped kept.end)
    ∷ number line fields.Rows (length kept.rows) timing.rows
    ∷ word line fields.Pc kept.state.pc there.state.pc
    ∷ word line fields.Dpc kept.state.dpc there.state.dpc
    ∷ []

-- The five rows of the core with a number that made these accesses and stands there.
abbrev pub core_judged : ℕ → Setup → ImageValue → ℕ → List Entry → EndValue → Core → List Judgment
core_judged line setup image core accesses kept there =
    let next = next_of image.code (memory_bytes image) there.state in
    end_judged line setup.budget kept (timing_on setup.machine image core setup.cores accesses kept there next) there next
    ++ registers_judged (line + 1) kept.state.regs there.state.regs

-- The rows of the cores from a number on, from a line on, behind these accesses.
abbrev pub cores_judged : ℕ → Setup → ImageValue → FlatMachine → List Entry → ℕ → List EndValue → List Core → List Judgment
cores_judged line setup image machine order index (kept ∷ ends) (core ∷ cores) =
    core_judged line setup image index (own order index) kept (core_to machine kept.retired core)
    ++ cores_judged (line + 5) setup image machine order (index + 1) ends cores
cores_judged line setup image machine order index ends cores = []
