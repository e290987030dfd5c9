-- The end of a run: every core has ended, and what it did is what the sequential machine does.
use Rattle.std.proofs.Common.{◌≡◌, ℕ, ◌<◌, Some, None, List, [], ◌∷◌, ◌++◌, length, append-nil, refl, ap, sym, ◌∙◌, subst, false, arith}
use Rattle.std.specs.Prelude.{Option, slice_get, map, ◌&&◌, not}
use Rattle.std.proofs.lemmas.List.{length-map}
use Rattle.std.proofs.lemmas.Option.{same_Some, slice_get-map, slice_get_within}
use Rattle.std_laws.proofs.ListLaws.{slice_get_some}
use Rattle.std_laws.proofs.OptionLaws.{option_map_parts}
use Rattle.mips_isa.specs.declared.CoreState.{CoreState}
use Rattle.image_file.specs.Value.{ImageValue, IsGood, memory_bytes, start_memory, start_state, start_states}
use Rattle.image_file.proofs.StartLaws.{bytes-start_memory, length-start_states, start_states-at}
use Rattle.access_log.specs.declared.Core.{Core}
use Rattle.access_log.specs.declared.Entry.{Entry}
use Rattle.access_log.specs.declared.Item.{Item}
use Rattle.access_log.specs.declared.Item.TheVariants.{Bus}
use Rattle.access_log.specs.declared.Transaction.{Transaction}
use Rattle.access_log.specs.Alone.{ComesTo}
use Rattle.access_log.specs.Interleaving.{RunsAlone, Interleaves}
use Rattle.access_log.specs.Items.{entries, own_items}
use Rattle.access_log.specs.Replay.{own}
use Rattle.access_log.proofs.AloneLaws.{comes-alone}
use Rattle.access_log.proofs.InterleavingLaws.{interleaving}
use Rattle.access_log.proofs.ItemLaws.{entries-append, own-entries, memory_after-entries, length-after_items}
use Rattle.timetable.specs.declared.End.{End}
use Rattle.timetable.specs.declared.CoreEnd.{CoreEnd}
use Rattle.timetable.specs.declared.rows.TimeRow.{TimeRow}
use Rattle.timetable.specs.Outcome.{final_of}
use Rattle.mem_port.specs.declared.port.Port.{Port}
use Rattle.mem_port.specs.declared.port.Port.TheVariants.{Fetch, Access}
use Rattle.mem_port.specs.declared.port.PortState.{PortState}
use Rattle.mem_port.specs.declared.port.PortState.TheVariants.{Free, Asked, Waiting, Answered, Closed}
use Rattle.mem_port.specs.Loaded.{stop}
use Rattle.mem_port.specs.Ports.{core_of, IsAtRest, taken_of}
use Rattle.mem_port.specs.Memory.{MemoryView, IsLawful, Settles, bus_items, committed}
use Rattle.mem_port.specs.Engine.{EngineView}
use Rattle.mem_port.specs.ServiceHistory.{ServiceHistory}
use Rattle.mem_port.specs.Side.{SideView, port_phase, side_of}
use Rattle.core_run.specs.declared.lane.Lane.{Lane}
use Rattle.core_run.specs.Lanes.{HasCome, IsQuiet, IsFinished, bound_of}
use Rattle.core_run.specs.Running.{EndFits, IsServedAt, goes_on}
use Rattle.core_run.specs.Outcomes.{IsRun, IsEngineOf, IsEndOf}
use Rattle.core_run.proofs.OwnLemmas.{entries-within}

-- At rest a core has taken all its entries.
pub taken-all : (port : PortState) (own : List Entry) → IsQuiet (port_phase port) → taken_of port own ≡ own
taken-all Free own h = refl
taken-all (Asked r) own h = absurd h
taken-all (Waiting r) own h = absurd h
taken-all (Answered r word) own h = absurd h
taken-all Closed own h = refl

at-rest : (port : PortState) → IsQuiet (port_phase port) → IsAtRest port
at-rest Free h = tt
at-rest (Asked r) h = absurd h
at-rest (Waiting r) h = absurd h
at-rest (Answered r word) h = absurd h
at-rest Closed h = tt

-- The end of a core, by the memory that it leaves: what is in its history is all that the core did.
pub record IsDone (budget : ℕ) (m : MemoryView) (core : ℕ) (ended : CoreEnd) : Type 0 where
  pub comes : ComesTo m.image.code (memory_bytes m.image) (start_state m.image core m.cores) (own_items m.history core) ended.retired
      ended.state
  pub fits : EndFits ended.end budget ended.cycles (stop m.image ended.state)
  pub fetch : IsAtRest (m.port (Fetch core))
  pub access : IsAtRest (m.port (Access core))

pub finished-done : (budget : ℕ) (m : MemoryView) (core : ℕ) (e : EngineView) (ended : CoreEnd) → IsFinished e (side_of m core) core
    → HasCome e (committed m core)
    → e.executed ≡ ended.retired → e.state ≡ ended.state → EndFits ended.end budget ended.cycles (stop e.image e.state)
    → IsDone budget m core ended
finished-done budget m core e ended h runs retired state fits = record {
  comes = rw (h.image, h.cores, h.core_is, taken-all (m.port (Access core)) (own_items m.history core) h.access, retired, state) at
      runs.comes;
  fits = rw (h.image, state) at fits;
  fetch = at-rest (m.port (Fetch core)) h.fetch;
  access = at-rest (m.port (Access core)) h.access;
}

-- At most a transaction stands behind the last entry.
entries-bus : (history : List Item) (bus : Option Transaction) → entries (history ++ bus_items bus) ≡ entries history
entries-bus history None = entries-append history [] ∙ append-nil (entries history)
entries-bus history (Some transaction) = entries-append history (Bus transaction ∷ []) ∙ append-nil (entries history)

pub entries-settled : {m : MemoryView} {words : List ℕ} {items : List Item} → Settles m words items → entries items ≡ entries m.history
entries-settled {m} h = ap entries h.history.1 ∙ entries-bus m.history h.history.0

-- A core that has ended has taken all its entries.
pub finished-own : (m : MemoryView) (core : ℕ) (e : EngineView) (items : List Item) → IsFinished e (side_of m core) core
    → entries items ≡ entries m.history → committed m core ≡ own (entries items) core
finished-own m core e items h same =
    taken-all (m.port (Access core)) (own_items m.history core) h.access
    ∙ (sym (own-entries m.history core) ∙ ap (λ order. own order core) (sym same))

-- The engine of a core that has ended, by what its slot tells.
pub engine-of : {E : Type 0} (view : E → EngineView) (times : ServiceHistory → E → Type 0) (image : ImageValue) (core cores : ℕ)
    (s : SideView) (engine : E) (rows : List TimeRow) (lane : Lane) (end : Option End) (cycles : ℕ) (ended : CoreEnd)
    (history : ServiceHistory) → s.image ≡ image → s.cores ≡ cores → lane.core ≡ core → IsFinished (view engine) s lane.core
    → IsServedAt view times s engine lane end cycles history → IsEndOf (view engine) rows end cycles ended
    → IsEngineOf image core cores (bound_of s) ended history (view engine)
engine-of view times image core cores s engine rows lane end cycles ended history same_image same_cores same finished served told = record {
  image_is = finished.image ∙ same_image;
  core_is = finished.core_is ∙ same;
  cores_are = finished.cores ∙ same_cores;
  retired = told.retired;
  state = told.state;
  live = served.live ∙ ap (λ (it : Option End). goes_on it && not history.is_drained) told.ends;
  stopped = subst (λ (it : Option End). goes_on it ≡ false → history.is_drained ≡ false) told.ends served.stopped;
  clocks = served.clocks ∙ sym told.took;
  bound_is = served.bound;
}

-- All cores have ended.
module _ (budget : ℕ) (m : MemoryView) (ends : List CoreEnd) (count : length ends ≡ m.cores)
    (done : (core : ℕ) (ended : CoreEnd) → slice_get ends core ≡ Some ended → IsDone budget m core ended) where
  pub ports-rest : (q : Port) → core_of q < m.cores → IsAtRest (m.port q)
  ports-rest (Fetch core) within = let last = slice_get_some ends core (rw count within) in (done core last.0 last.1).fetch
  ports-rest (Access core) within = let last = slice_get_some ends core (rw count within) in (done core last.0 last.1).access

  abbrev retired : List ℕ
  retired = map (λ (ended : CoreEnd). ended.retired) ends

  abbrev finals : List Core
  finals = map final_of ends

  runs-alone : (good : IsGood m.image) (core n : ℕ) (start : CoreState) (final : Core)
      → slice_get (start_states m.image m.cores) core ≡ Some start
      → slice_get retired core ≡ Some n → slice_get finals core ≡ Some final
      → RunsAlone m.image.code (start_memory m.image) start (entries m.history) core n final
  runs-alone good core n start final begins counted ends_so =
      let a = option_map_parts (λ (ended : CoreEnd). ended.retired) (slice_get ends core) n
      (sym (slice_get-map (λ (ended : CoreEnd). ended.retired) ends core) ∙ counted) in
      let b = option_map_parts final_of (slice_get ends core) final (sym (slice_get-map final_of ends core) ∙ ends_so) in
      let same : a.0 ≡ b.0 = same_Some a.0 b.0 (sym a.1 ∙ b.1) in
      let number : b.0.retired ≡ n = ap (λ (ended : CoreEnd). ended.retired) (sym same) ∙ a.2 in
      let within : core < m.cores = (let some = slice_get_within ends core a.0 a.1 in omega (arith, some, count)) in
      let begun : start_state m.image core m.cores ≡ start = same_Some _ _ (sym (start_states-at m.image m.cores core within) ∙ begins) in
      let runs = comes-alone m.image.code (start_memory m.image) (memory_bytes m.image) (start_state m.image core m.cores) core
      (entries m.history) (own_items m.history core) b.0.retired b.0.state
      (bytes-start_memory m.image good) (own-entries m.history core) (done core b.0 b.1).comes in
      rw (b.2, number, begun) at runs

  interleaves : (words : List ℕ) (items : List Item) → IsLawful m → Settles m words items
      → Interleaves m.image.code (start_memory m.image) (start_states m.image m.cores) (entries items) retired finals words
  interleaves words items lawful settles = rw (entries-settled settles) (record {
    within = rw (length-start_states m.image m.cores) (entries-within m.history m.cores lawful.within);
    remembers = memory_after-entries (start_memory m.image) m.history lawful.legal ∙ ap Some (sym settles.memory);
    counts_are = length-map ends (λ (ended : CoreEnd). ended.retired) ∙ (count ∙ sym (length-start_states m.image m.cores));
    finals_are = length-map ends final_of ∙ (count ∙ sym (length-start_states m.image m.cores));
    alone = runs-alone lawful.good;
  })

  pub run-is : (words : List ℕ) (items : List Item) → IsLawful m → Settles m words items
      → IsRun m.image m.cores budget m.caches (record { cores = ends; words = words; items = items })
  run-is words items lawful settles = record {
    count = count;
    within = rw (entries-settled settles) (entries-within m.history m.cores lawful.within);
    words = ap length settles.memory ∙ length-after_items (start_memory m.image) m.history;
    replays = interleaving m.image.code (start_memory m.image) (start_states m.image m.cores) (entries items) retired finals words
        (interleaves words items lawful settles);
    follows = settles.follows;
    lines = settles.lines;
    ends = λ core ended got. (done core ended got).fits;
  }
