-- What a run of unpipelined cores says of their cycles and their turns, where each answer came as its request was served.
use Rattle.std.proofs.Common.{◌≡◌, ℕ, ◌+◌, ◌<◌, ◌≤◌, ◌⊎◌, inl, inr, Bool, true, false, List, [], ◌∷◌, ◌++◌, length, refl, ap, sym, ◌∙◌}
use Rattle.std.proofs.Common.{arith, subst}
use Rattle.std.specs.Prelude.{Some, None, map, slice_get, ◌==◌}
use Rattle.std.specs.List.{AllByRecursion}
use Rattle.std.proofs.lemmas.Bool.{cases_lt, eq-eqb, ne_eqb}
use Rattle.std.proofs.lemmas.List.Elements.{filter-append}
use Rattle.std.proofs.lemmas.List.{append-nil, length-append, length-map}
use Rattle.std_laws.proofs.ListLaws.{slice_get_some}
use Rattle.kmp_base.specs.declared.setup.Setup.{Setup}
use Rattle.kmp_base.specs.declared.setup.MachineKind.TheVariants as machines
use Rattle.image_file.specs.Value.{ImageValue}
use Rattle.access_log.specs.declared.Entry.{Entry}
use Rattle.access_log.specs.Items.{entries}
use Rattle.access_log.specs.Replay.{own}
use Rattle.access_log.specs.Stamps.{Stamp, own_stamps}
use Rattle.access_log.proofs.StampLaws.{own-stamps}
use Rattle.timetable.specs.declared.CoreEnd.{CoreEnd}
use Rattle.timetable.specs.declared.rows.TimeRow.{TimeRow}
use Rattle.timetable.specs.Outcome.{OutcomeValue}
use Rattle.right_run.specs.Right.{IsRight}
use Rattle.right_run.specs.Turns.{in_cycles}
use Rattle.right_run.proofs.MachineLaws.{right-from}
use Rattle.mem_port.specs.Engine.{EngineView}
use Rattle.mem_port.specs.ServiceHistory.{ServiceHistory, IsFirstHistory}
use Rattle.core_run.specs.Lanes.{IsStarted, IsClosed}
use Rattle.core_run.specs.PlainView.{in_own_cycles, plain_view, IsPlainHistory}
use Rattle.core_run.specs.Outcomes.{IsStartSlot}
use Rattle.core_run.specs.Serial.{AreReceived}
use Rattle.core_run.specs.declared.plain.Plain.{Plain}
use Rattle.core_run.specs.declared.serial.CoreSlot.{CoreSlot}
use Rattle.core_run.proofs.PlainEndLemmas.{IsUnstalledEnd, unstalled-end}
use Rattle.core_run.proofs.RunLaws.{entry_in, IsUnstalledRun}

-- The stamps of one core are in its own cycles, behind entries of an order.
record HasOwnCycles (before : List Entry) (stamps : List Stamp) (core : ℕ) : Type 0 where
  are : own_stamps stamps core ≡ in_own_cycles (length (own before core)) (own (map entry_in stamps) core)

-- The first one is in its cycle.
first-in-cycle : (before : List Entry) (stamp : Stamp) (stamps : List Stamp) → HasOwnCycles before (stamp ∷ stamps) stamp.entry.core
    → (stamp ≡ record { entry = stamp.entry; cycle = stamp.entry.nth + length (own before stamp.entry.core) + 2 })
first-in-cycle before stamp stamps h =
    let is_own : (stamp.entry.core == stamp.entry.core) ≡ true = eq-eqb _ _ refl in
    let all = rw is_own at h.are in
    cc all

-- So are all behind it.
others-own-if : (is_own : Bool) (before : List Entry) (stamp : Stamp) (stamps : List Stamp) (core : ℕ) → (stamp.entry.core == core) ≡ is_own
    → HasOwnCycles before (stamp ∷ stamps) core → HasOwnCycles (before ++ stamp.entry ∷ []) stamps core
others-own-if true before stamp stamps core is h =
    let all = rw is at h.are in
    let count : length (own (before ++ stamp.entry ∷ []) core) ≡ length (own before core) + 1 =
    rw (filter-append, is) (length-append _ _) in
    record { are = rw count (cc all) }
others-own-if false before stamp stamps core is h =
    let all = rw is at h.are in
    let same : own (before ++ stamp.entry ∷ []) core ≡ own before core = rw (filter-append, is) (append-nil _) in
    record { are = rw same all }

-- Stamps of single cores, each in its core's own cycles, are in the cycles of the whole order.
in-cycles : (before : List Entry) (stamps : List Stamp) → ((core : ℕ) → HasOwnCycles before stamps core)
    → stamps ≡ in_cycles before (map entry_in stamps)
in-cycles before [] h = refl
in-cycles before (stamp ∷ stamps) h =
    let first = first-in-cycle before stamp stamps (h stamp.entry.core) in
    let others = in-cycles (before ++ stamp.entry ∷ []) stamps
    (λ core. others-own-if (stamp.entry.core == core) before stamp stamps core refl (h core)) in
    cc (first, others)

-- A core that makes no entry has no stamp.
own-none : (order : List Entry) (cores core : ℕ) → AllByRecursion (λ entry. entry.core < cores) order → cores ≤ core → own order core ≡ []
own-none [] cores core h out = refl
own-none (entry ∷ order) cores core h out =
    let other : (entry.core == core) ≡ false = ne_eqb _ _ (λ same. omega (arith, h.0, same)) in
    rw other (own-none order cores core h.1 out)

none-mapped : (stamps : List Stamp) → map entry_in stamps ≡ [] → stamps ≡ []
none-mapped [] h = refl
none-mapped (stamp ∷ stamps) h = cc

own-cycles-of : (cores : ℕ) (stamps : List Stamp) → AllByRecursion (λ entry. entry.core < cores) (map entry_in stamps)
    → ((core : ℕ) → core < cores → own_stamps stamps core ≡ in_own_cycles 0 (map entry_in (own_stamps stamps core)))
    → (core : ℕ) → core < cores ⊎ cores ≤ core → HasOwnCycles [] stamps core
own-cycles-of cores stamps within own_cycles core (inl in_range) =
    record { are = own_cycles core in_range ∙ ap (in_own_cycles 0) (sym (own-stamps stamps core)) }
own-cycles-of cores stamps within own_cycles core (inr out) =
    let none = own-none (map entry_in stamps) cores core within out in
    record { are = none-mapped _ (sym (own-stamps stamps core) ∙ none) ∙ sym (ap (in_own_cycles 0) none) }

-- Accesses of cores that each make them in their own cycles are in the cycles of the whole order.
received-cycles : (cores : ℕ) (order : List Entry) (stamps : List Stamp) → map entry_in stamps ≡ order
    → AllByRecursion (λ entry. entry.core < cores) order
    → ((core : ℕ) → core < cores → own_stamps stamps core ≡ in_own_cycles 0 (map entry_in (own_stamps stamps core)))
    → stamps ≡ in_cycles [] order
received-cycles cores order stamps are within own_cycles =
    let inside = subst (AllByRecursion (λ (entry : Entry). entry.core < cores)) (sym are) within in
    in-cycles [] stamps (λ core. own-cycles-of cores stamps inside own_cycles core (cases_lt core cores)) ∙ ap (in_cycles []) are

abbrev pub view_of : Plain → EngineView
view_of e = plain_view e.image.now e.core e.cores e.state e.executed e.phase e.clocks_left

abbrev pub times_of : ServiceHistory → Plain → Type 0
times_of history e = IsPlainHistory history (view_of e) e.phase

-- The slot of an unpipelined core before its first cycle.
pub record IsFirstSlot (image : ImageValue) (cores core : ℕ) (s : CoreSlot Plain) : Type 0 where
  pub slot : (budget : ℕ) → budget ≤ 4294967295 → IsStartSlot image core cores budget (view_of s.engine) s.lane s.end s.cycles
  pub timed : (history : ServiceHistory) → IsFirstHistory history → times_of history s.engine

-- A slot as it was made with its engine.
pub first-slot : (image : ImageValue) (cores core : ℕ) (engine : Plain) (s : CoreSlot Plain) → IsStarted image core cores (view_of engine)
    → engine.clocks_left ≡ 4294967295
    → ((history : ServiceHistory) → IsFirstHistory history → times_of history engine)
    → s.engine ≡ engine → s.lane.core ≡ core → IsClosed s.lane → s.end ≡ None → s.cycles ≡ 0 → IsFirstSlot image cores core s
first-slot image cores core engine s started clocks timed is lane_is closed no_end no_cycle = record {
  slot = λ budget few.
      record {
        engine = rw is started;
        clocks = rw (is, clocks) few;
        lane_is = lane_is;
        closed = closed;
        no_end = no_end;
        no_cycle = no_cycle;
      };
  timed = λ history first. rw is (timed history first);
}

-- It leaves no timetable.
abbrev pub rows_of : Plain → List TimeRow
rows_of e = []

module _ (setup : Setup) (image : ImageValue) (outcome : OutcomeValue) (histories : ℕ → ServiceHistory)
    (is : IsUnstalledRun view_of rows_of times_of image setup.cores setup.budget outcome histories) where
  end-at : (core : ℕ) (ended : CoreEnd) → slice_get outcome.cores core ≡ Some ended
      → IsUnstalledEnd image (histories core).service.accesses ended
  end-at core ended got =
      let f = is.each core ended got in
      let e = f.1.0 in
      unstalled-end image e.image.now core setup.cores e.core e.cores ended (histories core) e.state e.executed e.clocks_left e.phase
      f.1.1.0 f.1.1.1.1.0 f.0

  -- Such a run is right.
  pub plain-right : setup.machine ≡ machines.Plain → IsRight setup image outcome
  plain-right plain = right-from machines.Plain setup image outcome plain (record {
    replays = is.run.replays;
    ends = λ core ended got.
        (let accesses = (histories core).service.accesses in
        let own_are = (is.each core ended got).1.1.1.1.1 in
        let count : length accesses ≡ length (own (entries outcome.items) core) = sym (length-map accesses entry_in)
        ∙ ap length own_are in
        (rw (← count) ((end-at core ended got).rightly setup.budget (is.run.ends core ended got)), (is.each core ended got).1.1.1.0));
    follows = is.run.follows;
  })

  -- Its accesses are received in the cycles that their order tells.
  pub plain-ordered : (in_order : List Stamp → Type 0) → AreReceived in_order outcome.items histories
      → in_order (in_cycles [] (entries outcome.items))
  plain-ordered in_order received =
      subst in_order (received-cycles setup.cores (entries outcome.items) received.stamps received.are is.run.within
      (λ core in_range.
      (let some = slice_get_some outcome.cores core (omega (arith, is.run.count)) in
      subst (λ (own : List Stamp). own ≡ in_own_cycles 0 (map entry_in own)) (received.received core) (end-at core some.0 some.1).cycles)))
      received.ordered
