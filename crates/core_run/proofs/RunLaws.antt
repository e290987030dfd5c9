-- What a run is whose cores were all served without a wait, whatever their engines are.
use Rattle.std.proofs.Common.{◌≡◌, ℕ, List, arith}
use Rattle.std.specs.Prelude.{Option, Some, None, false, map, slice_get}
use Rattle.std.proofs.lemmas.Option.{slice_get_within}
use Rattle.image_file.specs.Value.{ImageValue}
use Rattle.access_log.specs.declared.Entry.{Entry}
use Rattle.access_log.specs.Items.{entries}
use Rattle.access_log.specs.Replay.{own}
use Rattle.access_log.specs.Stamps.{Stamp}
use Rattle.letters.specs.Caches.{Caches}
use Rattle.timetable.specs.declared.CoreEnd.{CoreEnd}
use Rattle.timetable.specs.declared.rows.TimeRow.{TimeRow}
use Rattle.timetable.specs.Outcome.{OutcomeValue}
use Rattle.mem_port.specs.Engine.{EngineView}
use Rattle.mem_port.specs.Memory.{MemoryView, IsFresh, IsAtOnce}
use Rattle.mem_port.specs.ServiceHistory.{ServiceHistory}
use Rattle.core_run.specs.Outcomes.{IsRun, IsEngineOf, EndsServed, NoneWaited}
use Rattle.core_run.specs.Serial.{IsServedRun}

abbrev pub entry_in : Stamp → Entry
entry_in stamp = stamp.entry

module _ {E : Type 0} (view : E → EngineView) (rows : E → List TimeRow) (times : ServiceHistory → E → Type 0) where
  -- Each core ended with an engine that left these rows and was served by its history, without a wait.
  abbrev pub EndsUnstalled : ImageValue → ℕ → OutcomeValue → (ℕ → ServiceHistory) → Type 0
  EndsUnstalled image cores outcome histories = (core : ℕ) (ended : CoreEnd) → slice_get outcome.cores core ≡ Some ended
      → ((histories core).is_drained ≡ false) × ((e : E) × (IsEngineOf image core cores (Some 0) ended (histories core) (view e)
      × ((ended.rows.rows ≡ rows e) × (times (histories core) e
      × (map entry_in (histories core).service.accesses ≡ own (entries outcome.items) core)))))

  -- What a run leaves of a memory without caches, and how its cores were served.
  pub record IsUnstalledRun (image : ImageValue) (cores budget : ℕ) (outcome : OutcomeValue) (histories : ℕ → ServiceHistory) : Type 0
    where
      pub run : IsRun image cores budget None outcome
      pub each : EndsUnstalled image cores outcome histories

-- A run on a memory that was fresh, of the words of its setup.
pub run-fresh : (image : ImageValue) (cores budget : ℕ) (caches : Option Caches) (m : MemoryView) (outcome : OutcomeValue)
    → IsFresh image cores budget caches m → IsRun m.image m.cores budget m.caches outcome → IsRun image cores budget caches outcome
run-fresh image cores budget caches m outcome fresh run = rw (fresh.image_is, fresh.cores_are, fresh.caches_are) at run

-- So is a run on such a memory that answers each request as it is served, where no budget ended while a core waited.
pub run-unstalled : {E : Type 0} (view : E → EngineView) (rows : E → List TimeRow) (times : ServiceHistory → E → Type 0)
    (image : ImageValue) (cores budget : ℕ) (m : MemoryView) (outcome : OutcomeValue) (histories : ℕ → ServiceHistory)
    → IsFresh image cores budget None m → IsAtOnce m → IsRun m.image m.cores budget m.caches outcome
    → EndsServed view rows times m outcome histories → NoneWaited m.cores histories
    → IsUnstalledRun view rows times image cores budget outcome histories
run-unstalled view rows times image cores budget m outcome histories fresh once run served waited =
    let same = run-fresh image cores budget None m outcome fresh run in
    record {
      run = same;
      each = λ core ended got. (
        waited core (let within = slice_get_within outcome.cores core ended got in omega (arith, within, same.count, fresh.cores_are)),
        rw (fresh.image_is, fresh.cores_are, once.told, once.bound) at served core ended got,
      );
    }

-- So is one that was served in an order.
pub run-served : {E : Type 0} (view : E → EngineView) (rows : E → List TimeRow) (times : ServiceHistory → E → Type 0)
    (in_order : List Stamp → Type 0) (image : ImageValue) (cores budget : ℕ) (m : MemoryView) (outcome : OutcomeValue)
    (histories : ℕ → ServiceHistory) → IsFresh image cores budget None m → IsAtOnce m → IsRun m.image m.cores budget m.caches outcome
    → IsServedRun view rows times m in_order outcome histories
    → IsUnstalledRun view rows times image cores budget outcome histories
run-served view rows times in_order image cores budget m outcome histories fresh once run served =
    run-unstalled view rows times image cores budget m outcome histories fresh once run served.ends (served.at_once once).waited
