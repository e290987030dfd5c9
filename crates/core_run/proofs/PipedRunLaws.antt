-- What a run of cores with five stages says of their cycles and their turns: where each answer came as its request was served, and
-- over caches, where it may have come later.
use Rattle.std.proofs.Common.{◌≡◌, ℕ, ◌<◌, Bool, true, false, List, [], ◌∷◌, refl, ap, sym, ◌∙◌, arith, subst}
use Rattle.std.specs.Prelude.{Some, None, map, slice_get, ◌==◌}
use Rattle.std.specs.List.{AllByRecursion}
use Rattle.std.proofs.lemmas.Bool.{eq-eqb}
use Rattle.std.proofs.lemmas.Option.{slice_get-map}
use Rattle.std_laws.proofs.ListLaws.{slice_get_some, AllByRecursion-weaker}
use Rattle.kmp_base.specs.declared.setup.Setup.{Setup}
use Rattle.kmp_base.specs.declared.setup.MachineKind.{MachineKind}
use Rattle.kmp_base.specs.declared.setup.MachineKind.TheVariants as machines
use Rattle.image_file.specs.Value.{ImageValue}
use Rattle.access_log.specs.declared.Entry.{Entry}
use Rattle.access_log.specs.Items.{entries}
use Rattle.access_log.specs.Stamps.{Stamp, own_stamps}
use Rattle.timetable.specs.declared.CoreEnd.{CoreEnd}
use Rattle.timetable.specs.declared.rows.TimeRow.{TimeRow}
use Rattle.timetable.specs.Outcome.{OutcomeValue}
use Rattle.right_run.specs.Right.{IsRight, caches_on}
use Rattle.right_run.specs.Stages.{IsStagedEnd}
use Rattle.right_run.specs.Turns.{told_cycle, in_told_cycles, AreInTurns, IsInTurns, cycles_of, tables_of}
use Rattle.right_run.proofs.MachineLaws.{right-from, in-turns}
use Rattle.mem_port.specs.Memory.{MemoryView, IsFresh, IsAtOnce}
use Rattle.mem_port.specs.ServiceHistory.{ServiceHistory}
use Rattle.mem_port.specs.Side.{side_of}
use Rattle.pipe_core.specs.PipeView.{PipeValue, pipe_view}
use Rattle.pipe_core.specs.PipeRun.{HasClock}
use Rattle.pipe_core.specs.PipeHistory.{pipe_timed}
use Rattle.core_run.specs.Lanes.{bound_of}
use Rattle.core_run.specs.Outcomes.{IsPipedMemory, IsRun, EndsServed, NoneWaited}
use Rattle.core_run.specs.Serial.{AreReceived, IsServedRun}
use Rattle.core_run.proofs.PipedEndLemmas.{IsStagedInTime, staged-end, late-end}
use Rattle.core_run.proofs.RunLaws.{entry_in, IsUnstalledRun, run-fresh, run-unstalled, run-served}

abbrev pub rows_of : PipeValue → List TimeRow
rows_of e = e.table.rows

-- A stamp is in the cycle that timetables tell of its entry, if that is of a core.
TellsCycle : List (List TimeRow) → ℕ → Stamp → Type 0
TellsCycle tables core stamp = stamp.cycle ≡ told_cycle tables (record stamp.entry { core = core })

-- The row of an access tells its cycle.
clock-told : (tables : List (List TimeRow)) (core : ℕ) (rows : List TimeRow) → slice_get tables core ≡ Some rows → (stamp : Stamp)
    → HasClock rows stamp → TellsCycle tables core stamp
unfolding TellsCycle
clock-told tables core rows at stamp h = rw (at, h.1.0, h.1.1) refl

-- What holds of the stamps of each core holds of all.
others-if : (is_own : Bool) (P : Stamp → Type 0) (stamp : Stamp) (stamps : List Stamp) (core : ℕ) → (stamp.entry.core == core) ≡ is_own
    → AllByRecursion P (own_stamps (stamp ∷ stamps) core) → AllByRecursion P (own_stamps stamps core)
others-if true P stamp stamps core is h = (let all = rw is at h in all.1)
others-if false P stamp stamps core is h = rw is at h

all-own : (P : ℕ → Stamp → Type 0) (cores : ℕ) (stamps : List Stamp)
    → AllByRecursion (λ entry. entry.core < cores) (map entry_in stamps)
    → ((core : ℕ) → core < cores → AllByRecursion (P core) (own_stamps stamps core))
    → AllByRecursion (λ stamp. P stamp.entry.core stamp) stamps
all-own P cores [] within h = tt
all-own P cores (stamp ∷ stamps) within h =
    let is_own : (stamp.entry.core == stamp.entry.core) ≡ true = eq-eqb _ _ refl in
    let first = rw is_own at (h stamp.entry.core within.0) in (
      first.0,
      all-own P cores stamps within.1
          (λ core in_range. others-if (stamp.entry.core == core) (P core) stamp stamps core refl (h core in_range)),
    )

-- Stamps that are all in the cycles that timetables tell.
told-cycles : (tables : List (List TimeRow)) (stamps : List Stamp)
    → AllByRecursion (λ stamp. TellsCycle tables stamp.entry.core stamp) stamps
    → stamps ≡ in_told_cycles tables (map entry_in stamps)
unfolding TellsCycle
told-cycles tables [] h = refl
told-cycles tables (stamp ∷ stamps) h =
    let first : stamp ≡ record { entry = stamp.entry; cycle = told_cycle tables stamp.entry } =
    ap (λ (cycle : ℕ). (let at : Stamp = record { entry = stamp.entry; cycle = cycle } in at)) h.0 in
    let others = told-cycles tables stamps h.1 in
    cc (first, others)

module _ (setup : Setup) (image : ImageValue) (outcome : OutcomeValue) (histories : ℕ → ServiceHistory)
    (is : IsUnstalledRun pipe_view rows_of pipe_timed image setup.cores setup.budget outcome histories) where
  end-at : (core : ℕ) (ended : CoreEnd) → slice_get outcome.cores core ≡ Some ended
      → IsStagedInTime image core setup.cores (histories core).service.accesses ended
  end-at core ended got =
      let f = is.each core ended got in
      staged-end image core setup.cores ended (histories core) f.1.0 f.1.1.0 f.1.1.1.0 f.1.1.1.1.0 f.0

  -- Such a run is right.
  pub piped-right : setup.machine ≡ machines.Pipe → IsRight setup image outcome
  piped-right pipe = right-from machines.Pipe setup image outcome pipe (record {
    replays = is.run.replays;
    ends = λ core ended got.
        subst (λ (accesses : List Entry). IsStagedEnd (Some 0) setup.budget image core setup.cores accesses ended)
        (is.each core ended got).1.1.1.1.1 ((end-at core ended got).rightly setup.budget (is.run.ends core ended got));
    follows = is.run.follows;
  })

  -- The stamps of a core are in the cycles that its timetable tells.
  own-told : (stamps : List Stamp) → ((core : ℕ) → (histories core).service.accesses ≡ own_stamps stamps core)
      → (core : ℕ) → core < setup.cores → AllByRecursion (TellsCycle (tables_of outcome.cores) core) (own_stamps stamps core)
  own-told stamps received core in_range =
      let some = slice_get_some outcome.cores core (omega (arith, is.run.count)) in
      let tables = tables_of outcome.cores in
      let at : slice_get tables core ≡ Some some.0.rows.rows =
      slice_get-map (λ (ended : CoreEnd). ended.rows.rows) outcome.cores core ∙ rw some.1 refl in
      AllByRecursion-weaker (HasClock some.0.rows.rows) (TellsCycle tables core) (clock-told tables core some.0.rows.rows at)
      (own_stamps stamps core)
      (subst (AllByRecursion (HasClock some.0.rows.rows)) (received core) (end-at core some.0 some.1).clocks)

  -- Its accesses are received in the cycles that the timetables tell.
  pub piped-ordered : (in_order : List Stamp → Type 0) → AreReceived in_order outcome.items histories
      → in_order (in_told_cycles (tables_of outcome.cores) (entries outcome.items))
  piped-ordered in_order received =
      let tables = tables_of outcome.cores in
      let within = subst (AllByRecursion (λ (entry : Entry). entry.core < setup.cores)) (sym received.are) is.run.within in
      let all = all-own (TellsCycle tables) setup.cores received.stamps within (own-told received.stamps received.received) in
      subst in_order (told-cycles tables received.stamps all ∙ ap (in_told_cycles tables) received.are) received.ordered

-- Over caches such a run is right, whenever the answers came.
pub cached-right : (setup : Setup) (image : ImageValue) (m : MemoryView) (outcome : OutcomeValue) (histories : ℕ → ServiceHistory)
    → setup.machine ≡ machines.Full → IsFresh image setup.cores setup.budget (caches_on machines.Full setup) m
    → IsRun m.image m.cores setup.budget m.caches outcome → EndsServed pipe_view rows_of pipe_timed m outcome histories
    → IsRight setup image outcome
cached-right setup image m outcome histories full fresh run served =
    let same = run-fresh image setup.cores setup.budget (caches_on machines.Full setup) m outcome fresh run in
    right-from machines.Full setup image outcome full (record {
      replays = same.replays;
      ends = λ core ended got.
          (let f = rw (fresh.image_is, fresh.cores_are) at served core ended got in
          subst (λ (accesses : List Entry). IsStagedEnd None setup.budget image core setup.cores accesses ended) f.1.1.1.1
          (late-end image core setup.cores (bound_of (side_of m core)) ended (histories core) f.0 f.1.0 f.1.1.0 f.1.1.1.0 setup.budget
          (same.ends core ended got)));
      follows = same.follows;
    })

-- By the machine.
module _ (setup : Setup) (image : ImageValue) (m : MemoryView) (outcome : OutcomeValue) (histories : ℕ → ServiceHistory) where
  pub piped-run-right : (machine : MachineKind) → setup.machine ≡ machine → IsPipedMemory machine m
      → IsFresh image setup.cores setup.budget (caches_on machine setup) m → IsRun m.image m.cores setup.budget m.caches outcome
      → EndsServed pipe_view rows_of pipe_timed m outcome histories → (IsAtOnce m → NoneWaited m.cores histories)
      → IsRight setup image outcome
  piped-run-right machines.Plain is fits fresh run served waited = absurd fits
  piped-run-right machines.Pipe is once fresh run served waited =
      piped-right setup image outcome histories
      (run-unstalled pipe_view rows_of pipe_timed image setup.cores setup.budget m outcome histories fresh once run served (waited once)) is
  piped-run-right machines.Full is fits fresh run served waited = cached-right setup image m outcome histories is fresh run served

  pub piped-run-turns : (machine : MachineKind) → setup.machine ≡ machine → IsPipedMemory machine m
      → IsFresh image setup.cores setup.budget (caches_on machine setup) m → IsRun m.image m.cores setup.budget m.caches outcome
      → IsServedRun pipe_view rows_of pipe_timed m (AreInTurns setup.turns setup.seed (cycles_of outcome.cores)) outcome histories
      → IsInTurns setup (cycles_of outcome.cores) (tables_of outcome.cores) (entries outcome.items)
  piped-run-turns machines.Plain is fits fresh run served = absurd fits
  piped-run-turns machines.Pipe is once fresh run served =
      let in_order = AreInTurns setup.turns setup.seed (cycles_of outcome.cores) in
      in-turns machines.Pipe setup.turns setup (cycles_of outcome.cores) (tables_of outcome.cores) (entries outcome.items) is refl
      (piped-ordered setup image outcome histories
      (run-served pipe_view rows_of pipe_timed in_order image setup.cores setup.budget m outcome histories fresh once run served) in_order
      (served.at_once once).received)
  piped-run-turns machines.Full is fits fresh run served =
      in-turns machines.Full setup.turns setup (cycles_of outcome.cores) (tables_of outcome.cores) (entries outcome.items) is refl tt
