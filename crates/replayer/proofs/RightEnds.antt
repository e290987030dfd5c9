-- No judgment of a core's rows differs exactly where it ended by its timing, in the state that is due.
use Rattle.std.proofs.Common.{◌≡◌, ℕ, ◌+◌, ◌<◌, ◌≤◌, true, List, length, refl, sym, ap, ◌∙◌}
use Rattle.std.specs.Prelude.{Option, Some, None, IfSome, nat_le}
use Rattle.std.proofs.lemmas.Bool.{eqb-true, eq-eqb, and_parts, and_from, leb-true, le-leb, ltb-true, lt-ltb}
use Rattle.std.proofs.lemmas.Option.{same_Some}
use Rattle.std_laws.proofs.ListLaws.{AllByRecursion-append, AllByRecursion-parts}
use Rattle.kmp_base.specs.declared.setup.Setup.{Setup}
use Rattle.kmp_base.specs.declared.setup.MachineKind.{MachineKind}
use Rattle.mips_isa.specs.declared.CoreState.{CoreState}
use Rattle.mips_isa.specs.declared.Next.{Next}
use Rattle.mips_isa.specs.declared.Next.TheVariants.{Stops, Asks, Goes}
use Rattle.mips_isa.specs.Steps.{next_of}
use Rattle.image_file.specs.Value.{ImageValue, memory_bytes}
use Rattle.access_log.specs.declared.Core.{Core}
use Rattle.access_log.specs.declared.Entry.{Entry}
use Rattle.timetable.specs.declared.End.{End}
use Rattle.timetable.specs.declared.End.TheVariants.{Stopped, Spent}
use Rattle.report_rows.specs.Ends.{EndValue}
use Rattle.row_check.specs.Judgments.{is_same_end, is_same_optional}
use Rattle.row_check.proofs.JudgmentLaws.{Agree, Agrees, stop_is, stop_same, optional_is, optional_same}
use Rattle.replayer.specs.declared.ends.Timing.{Timing}
use Rattle.replayer.specs.Lists.{registers_judged}
use Rattle.replayer.specs.Cores.{may_be_beyond, due_end, may_be_spent, due_cycles, timing_on, end_judged, core_judged}
use Rattle.replayer.proofs.RightJudgments.{registers_same, registers_agree}
use Rattle.replayer.proofs.RightCores.{core_of}

-- where its cycle is told, it is beyond the budget
abbrev pub IsLate : ℕ → Option ℕ → Type 0
IsLate budget done = IfSome done (λ cycle. budget < cycle)

-- Stopped: this stop comes next, and it took the cycles. Spent: all cycles of the budget are gone, no more were used, and what comes
-- next would not be done within them, where that is told.
abbrev pub EndsBy : End → ℕ → ℕ → Timing → Next → Type 0
EndsBy (Stopped stop) budget cycles timing next = (next ≡ Stops stop) × (timing.stopped ≡ Some cycles)
EndsBy Spent budget cycles timing next = (cycles ≡ budget) × (timing.used ≤ budget) × IsLate budget timing.done

-- an end, judged
record EndAgrees (budget cycles : ℕ) (timing : Timing) (kept : End) (next : Next) : Type 0 where
  pub end : is_same_end kept (due_end budget timing.done kept next) ≡ true
  pub allowed : may_be_spent budget timing kept ≡ true
  pub cycles_are : is_same_optional (Some cycles) (due_cycles budget timing.stopped kept) ≡ true

late : (budget : ℕ) (done : Option ℕ) → may_be_beyond budget done ≡ true → IsLate budget done
late budget None may = tt
late budget (Some cycle) may = ltb-true budget cycle may

may_be : (budget : ℕ) (done : Option ℕ) → IsLate budget done → may_be_beyond budget done ≡ true
may_be budget None late = refl
may_be budget (Some cycle) late = lt-ltb budget cycle late

ends_by : (budget cycles : ℕ) (timing : Timing) (kept : End) (next : Next) → EndAgrees budget cycles timing kept next
    → EndsBy kept budget cycles timing next
ends_by budget cycles timing (Stopped stop) (Stops due) h =
    (ap Stops (sym (stop_is stop due h.end)), sym (optional_is (Some cycles) timing.stopped h.cycles_are))
ends_by budget cycles timing (Stopped stop) (Goes state) h = (let e = h.end in cc)
ends_by budget cycles timing (Stopped stop) (Asks access) h = (let e = h.end in cc)
ends_by budget cycles timing Spent next h =
    let may = and_parts (nat_le timing.used budget) (may_be_beyond budget timing.done) h.allowed in (
      same_Some cycles budget (optional_is (Some cycles) (Some budget) h.cycles_are),
      leb-true timing.used budget may.0,
      late budget timing.done may.1,
    )

spent_due : (budget : ℕ) (done : Option ℕ) (next : Next) → may_be_beyond budget done ≡ true
    → is_same_end Spent (due_end budget done Spent next) ≡ true
spent_due budget cycle (Stops stop) may = rw may refl
spent_due budget cycle (Goes state) may = refl
spent_due budget cycle (Asks access) may = refl

end_agrees : (budget cycles : ℕ) (timing : Timing) (kept : End) (next : Next) → EndsBy kept budget cycles timing next
    → EndAgrees budget cycles timing kept next
end_agrees budget cycles timing (Stopped stop) next by = record {
  end = ap (λ n. is_same_end (Stopped stop) (due_end budget timing.done (Stopped stop) n)) by.0 ∙ stop_same stop;
  allowed = refl;
  cycles_are = optional_same (Some cycles) timing.stopped (sym by.1);
}
end_agrees budget cycles timing Spent next by = record {
  end = spent_due budget timing.done next (may_be budget timing.done by.2);
  allowed = and_from (nat_le timing.used budget) (may_be_beyond budget timing.done) (le-leb timing.used budget by.1)
      (may_be budget timing.done by.2);
  cycles_are = optional_same (Some cycles) (Some budget) (ap (λ n. Some n) by.0);
}

-- ---- the rows of a core

-- what a core that stands there does next, and what its end is judged by
abbrev pub next_there : ImageValue → Core → Next
next_there image there = next_of image.code (memory_bytes image) there.state

abbrev pub timing_there : MachineKind → Setup → ImageValue → ℕ → List Entry → EndValue → Core → Timing
timing_there machine setup image core accesses kept there =
    timing_on machine image core setup.cores accesses kept there (next_there image there)

-- On a machine, the end of a core is as it is due where it stands there.
pub record IsAsDue (machine : MachineKind) (setup : Setup) (image : ImageValue) (core : ℕ) (accesses : List Entry) (kept : EndValue)
    (there : Core) : Type 0 where
  pub retired : kept.retired ≡ there.executed
  pub state : kept.state ≡ there.state
  pub ends : EndsBy kept.end setup.budget kept.cycles (timing_there machine setup image core accesses kept there) (next_there image there)
  pub rows : length kept.rows ≡ (timing_there machine setup image core accesses kept there).rows

-- so it stands where the row says
pub core_is : {machine : MachineKind} {setup : Setup} {image : ImageValue} {core : ℕ} {accesses : List Entry} {kept : EndValue}
    {there : Core} → IsAsDue machine setup image core accesses kept there → core_of kept.retired kept.state ≡ there
core_is {kept = kept} {there = there} is = ap (λ n. core_of n kept.state) is.retired ∙ ap (core_of there.executed) is.state

state_is : (a b : CoreState) → a.pc ≡ b.pc → a.dpc ≡ b.dpc → a.regs ≡ b.regs → a ≡ b
state_is a b pc dpc regs =
    ap (λ (n : ℕ). make n a.dpc a.regs) pc ∙ ap (λ (n : ℕ). make b.pc n a.regs) dpc ∙ ap (make b.pc b.dpc) regs
  where
    make : ℕ → ℕ → List ℕ → CoreState
    make n m rs = record { pc = n; dpc = m; regs = rs }

module _ (line : ℕ) (setup : Setup) (image : ImageValue) (core : ℕ) (accesses : List Entry) (kept : EndValue) (there : Core) where
  abbrev timing : Timing
  timing = timing_there setup.machine setup image core accesses kept there

  pub is_as_due : length kept.state.regs ≡ 32 → length there.state.regs ≡ 32
      → Agree (core_judged line setup image core accesses kept there) → IsAsDue setup.machine setup image core accesses kept there
  is_as_due kept_has there_has all =
      let parts = AllByRecursion-parts Agrees (end_judged line setup.budget kept timing there (next_there image there))
      (registers_judged (line + 1) kept.state.regs there.state.regs) all in
      let row = parts.0 in
      record {
        retired = eqb-true kept.retired there.executed row.0;
        state = state_is kept.state there.state
            (eqb-true kept.state.pc there.state.pc row.1.1.1.1.1.0)
            (eqb-true kept.state.dpc there.state.dpc row.1.1.1.1.1.1.0)
            (registers_same (line + 1) kept.state.regs there.state.regs kept_has there_has parts.1);
        ends = ends_by setup.budget kept.cycles timing kept.end (next_there image there)
            (record { end = row.1.0; allowed = row.1.1.0; cycles_are = row.1.1.1.0 });
        rows = eqb-true (length kept.rows) timing.rows row.1.1.1.1.0;
      }

  pub as_due_agrees : IsAsDue setup.machine setup image core accesses kept there
      → Agree (core_judged line setup image core accesses kept there)
  as_due_agrees due =
      let ends = end_agrees setup.budget kept.cycles timing kept.end (next_there image there) due.ends in
      let pc = eq-eqb kept.state.pc there.state.pc (ap (λ (s : CoreState). s.pc) due.state) in
      let dpc = eq-eqb kept.state.dpc there.state.dpc (ap (λ (s : CoreState). s.dpc) due.state) in
      let rows = eq-eqb (length kept.rows) timing.rows due.rows in
      AllByRecursion-append Agrees (end_judged line setup.budget kept timing there (next_there image there))
      (registers_judged (line + 1) kept.state.regs there.state.regs)
      (eq-eqb kept.retired there.executed due.retired, (ends.end, (ends.allowed, (ends.cycles_are, (rows, (pc, (dpc, tt)))))))
      (registers_agree (line + 1) kept.state.regs there.state.regs (ap (λ (s : CoreState). s.regs) due.state))
