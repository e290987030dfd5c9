-- When the outcome of a run is right.
use Rattle.std.specs.Prelude.{◌≡◌, ℕ, List, [], map, length, Option, None, Some, slice_get}
use Rattle.kmp_base.specs.declared.setup.Setup.{Setup}
use Rattle.kmp_base.specs.declared.setup.MachineKind.{MachineKind}
use Rattle.kmp_base.specs.declared.setup.MachineKind.TheVariants.{Plain, Pipe, Full}
use Rattle.mips_isa.specs.Steps.{next_of}
use Rattle.image_file.specs.Value.{ImageValue, memory_bytes, code_lines, start_memory, start_states}
use Rattle.access_log.specs.declared.Item.{Item}
use Rattle.access_log.specs.Items.{entries}
use Rattle.access_log.specs.Replay.{own, replay}
use Rattle.letters.specs.Caches.{Caches, moesi, all_with}
use Rattle.letters.specs.Fold.{Follows}
use Rattle.timetable.specs.declared.CoreEnd.{CoreEnd}
use Rattle.timetable.specs.Outcome.{OutcomeValue, final_of}
use Rattle.right_run.specs.Cycles.{IsPlainEnd}
use Rattle.right_run.specs.Stages.{IsStagedEnd}

-- The end of a core, by the machine: an unpipelined core ends by the number of its accesses and by what it would do next, and
-- has no timetable; a core with five stages ends by its timetable. Flat memory lets nothing wait. Over caches a request may wait
-- for the bus, and nothing is told of how long: its word or its answer came when the timetable says so.
abbrev pub EndsOn : MachineKind → Setup → ImageValue → OutcomeValue → ℕ → CoreEnd → Type 0
EndsOn Plain setup image outcome core ended =
    IsPlainEnd setup.budget (length (own (entries outcome.items) core)) (next_of image.code (memory_bytes image) ended.state) ended
    × (ended.rows.rows ≡ [])
EndsOn Pipe setup image outcome core ended =
    IsStagedEnd (Some 0) setup.budget image core setup.cores (own (entries outcome.items) core) ended
EndsOn Full setup image outcome core ended =
    IsStagedEnd None setup.budget image core setup.cores (own (entries outcome.items) core) ended

abbrev pub EndsAt : Setup → ImageValue → OutcomeValue → ℕ → CoreEnd → Type 0
EndsAt setup image outcome core ended = EndsOn setup.machine setup image outcome core ended

-- The caches of a machine: over flat memory there are none, else they are those of the setup and keep their lines by MOESI.
abbrev pub caches_on : MachineKind → Setup → Option Caches
caches_on Plain setup = None
caches_on Pipe setup = None
caches_on Full setup = Some (all_with moesi setup.sets setup.ways)

abbrev pub caches_of : Setup → Option Caches
caches_of setup = caches_on setup.machine setup

-- The letters, by the machine: without caches there is no transaction.
abbrev pub FollowsOn : MachineKind → Setup → ImageValue → List Item → Type 0
FollowsOn machine setup image items = Follows (caches_on machine setup) setup.cores (code_lines image) items

-- The outcome of a run is right.
pub record IsRight (setup : Setup) (image : ImageValue) (outcome : OutcomeValue) : Type 0 where
  -- The sequential machine, stepped by the accesses in their order, comes to exactly these cores and this memory.
  pub replays : replay image.code (start_memory image) (start_states image setup.cores) (entries outcome.items)
      (map (λ (ended : CoreEnd). ended.retired) outcome.cores)
      ≡ Some (record { code = image.code; cores = map final_of outcome.cores; memory = outcome.words })
  -- Each core ended at the first stop that it came to, or with its budget spent.
  pub ends : (core : ℕ) (ended : CoreEnd) → slice_get outcome.cores core ≡ Some ended → EndsAt setup image outcome core ended
  -- Each access is a hit in the caches of the machine, and each transaction is allowed.
  pub follows : FollowsOn setup.machine setup image outcome.items
