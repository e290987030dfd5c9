-- What the end of an unpipelined core tells, where none of its wants stayed unmet.
use Rattle.std.proofs.Common.{◌≡◌, ℕ, ◌+◌, ◌≤◌, Bool, true, false, Some, List, length, refl, ap, sym, ◌∙◌, arith}
use Rattle.std.specs.Prelude.{◌&&◌, not, map}
use Rattle.std.proofs.lemmas.Option.{same_Some}
use Rattle.mips_isa.specs.declared.CoreState.{CoreState}
use Rattle.mips_isa.specs.declared.Next.{Next}
use Rattle.mips_isa.specs.declared.Next.TheVariants.{Stops, Asks, Goes}
use Rattle.mips_isa.specs.declared.Stop.{Stop}
use Rattle.mips_isa.specs.Steps.{next_of}
use Rattle.image_file.specs.Value.{ImageValue, memory_bytes}
use Rattle.access_log.specs.declared.request.Request.{Request}
use Rattle.access_log.specs.Requests.{access_of}
use Rattle.access_log.specs.Stamps.{Stamp}
use Rattle.timetable.specs.declared.End.{End}
use Rattle.timetable.specs.declared.End.TheVariants as ends
use Rattle.timetable.specs.declared.CoreEnd.{CoreEnd}
use Rattle.right_run.specs.Cycles.{plain_cycles, EndsRightly}
use Rattle.mem_port.specs.Loaded.{next_in, stop_in, stop, request}
use Rattle.mem_port.specs.ServiceHistory.{ServiceHistory}
use Rattle.mem_port.proofs.LoadedLaws.{request-asks}
use Rattle.core_run.specs.PlainView.{is_live, is_drained, under_way, left_out, wanted_access, in_own_cycles, plain_view, IsPlainHistory}
use Rattle.core_run.specs.Running.{EndFits, goes_on}
use Rattle.core_run.specs.Outcomes.{IsEngineOf}
use Rattle.core_run.specs.declared.plain.Phase.{Phase}
use Rattle.core_run.specs.declared.plain.Phase.TheVariants as phases

stops-case : (next : Next) (why : Stop) → stop_in next ≡ Some why → next ≡ Stops why
stops-case (Stops why) other h = ap Stops (same_Some _ _ h)
stops-case (Asks access) other h = cc
stops-case (Goes state) other h = cc

-- A core that stands at a stop has it next.
pub next-stops : (image : ImageValue) (state : CoreState) (why : Stop) → stop image state ≡ Some why
    → next_of image.code (memory_bytes image) state ≡ Stops why
unfolding stop next_in
next-stops image state why h = stops-case (next_of image.code (memory_bytes image) state) why h

-- A core that asks for a request makes its access next.
pub next-asks : (image : ImageValue) (executed : ℕ) (state : CoreState) (r : Request) → request image executed state ≡ Some r
    → next_of image.code (memory_bytes image) state ≡ Asks (access_of r)
unfolding next_in
next-asks image executed state r h = (request-asks image executed state r h).0

some-cycle : (next : Next) → 1 ≤ plain_cycles next
some-cycle (Stops why) = omega arith
some-cycle (Asks access) = omega arith
some-cycle (Goes state) = omega arith

-- The end of a core that used these clocks.
ends-rightly : (image : ImageValue) (state : CoreState) (end : End) (phase : Phase) (budget cycles executed used : ℕ)
    → is_live phase ≡ goes_on (Some end) → is_drained phase ≡ false
    → cycles ≡ used + under_way phase → ((r : Request) → wanted_access phase ≡ Some r → request image executed state ≡ Some r)
    → EndFits end budget cycles (stop image state)
    → EndsRightly end budget cycles used (next_of image.code (memory_bytes image) state)
ends-rightly image state (ends.Stopped why) phases.Stopped budget cycles executed used live not_drained took asks fits =
    (next-stops image state why fits.0, took, fits.1)
ends-rightly image state (ends.Stopped why) phases.Begin budget cycles executed used live not_drained took asks fits = cc
ends-rightly image state (ends.Stopped why) (phases.Access r) budget cycles executed used live not_drained took asks fits = cc
ends-rightly image state (ends.Stopped why) phases.GivenUp budget cycles executed used live not_drained took asks fits = cc
ends-rightly image state (ends.Stopped why) phases.FoundDone budget cycles executed used live not_drained took asks fits = cc
ends-rightly image state ends.Spent phases.Begin budget cycles executed used live not_drained took asks fits =
    (fits, omega (arith, fits), omega (arith, fits, some-cycle (next_of image.code (memory_bytes image) state)))
ends-rightly image state ends.Spent (phases.Access r) budget cycles executed used live not_drained took asks fits =
    let two : plain_cycles (next_of image.code (memory_bytes image) state) ≡ 2 =
    ap plain_cycles (next-asks image executed state r (asks r refl)) in
    (fits, omega (arith, fits), omega (arith, fits, two))
ends-rightly image state ends.Spent phases.Stopped budget cycles executed used live not_drained took asks fits = cc
ends-rightly image state ends.Spent phases.GivenUp budget cycles executed used live not_drained took asks fits = cc
ends-rightly image state ends.Spent phases.FoundDone budget cycles executed used live not_drained took asks fits = cc

none-left_out : (phase : Phase) → is_drained phase ≡ false → left_out phase ≡ 0
none-left_out phases.Begin h = refl
none-left_out (phases.Access r) h = refl
none-left_out phases.Stopped h = refl
none-left_out phases.GivenUp h = refl
none-left_out phases.FoundDone h = cc

pub undrained : (is_live goes is_drained : Bool) → is_drained ≡ false → is_live ≡ (goes && not is_drained) → is_live ≡ goes
undrained is_live true is_drained none h = h ∙ ap not none
undrained is_live false is_drained none h = h

-- What a core with these accesses tells of its end: each access was made in its cycle, and the end is right.
pub record IsUnstalledEnd (image : ImageValue) (accesses : List Stamp) (ended : CoreEnd) : Type 0 where
  pub cycles : accesses ≡ in_own_cycles 0 (map (λ (stamp : Stamp). stamp.entry) accesses)
  pub rightly : (budget : ℕ) → EndFits ended.end budget ended.cycles (stop image ended.state)
      → EndsRightly ended.end budget ended.cycles (ended.retired + length accesses) (next_of image.code (memory_bytes image) ended.state)

-- So it is where each answer came as its request was served, and the budget didn't end while one was open.
pub unstalled-end : (image own_image : ImageValue) (core cores own_core own_cores : ℕ) (ended : CoreEnd) (history : ServiceHistory)
    (state : CoreState) (executed clocks_left : ℕ) (phase : Phase)
    → IsEngineOf image core cores (Some 0) ended history (plain_view own_image own_core own_cores state executed phase clocks_left)
    → IsPlainHistory history (plain_view own_image own_core own_cores state executed phase clocks_left) phase → history.is_drained ≡ false
    → IsUnstalledEnd image history.service.accesses ended
unstalled-end image own_image core cores own_core own_cores ended history state executed clocks_left phase is timed waited =
    let unmet = (timed.unstalled is.bound_is).unmet in
    let not_drained : is_drained phase ≡ false = sym timed.drained ∙ waited in
    let out = none-left_out phase not_drained in
    let clocks = timed.clocks in
    let cycles = is.clocks in
    let retired : executed ≡ ended.retired = is.retired in
    let used : ended.cycles ≡ ended.retired + length history.service.accesses + under_way phase =
    omega (arith, clocks, cycles, retired, out, unmet) in
    let asks : (r : Request) → wanted_access phase ≡ Some r → request image executed ended.state ≡ Some r =
    rw (is.image_is, is.state) at timed.sound.access_next in
    record {
      cycles = timed.cycles unmet;
      rightly = λ budget fits.
          ends-rightly image ended.state ended.end phase budget ended.cycles executed (ended.retired + length history.service.accesses)
          (undrained (is_live phase) (goes_on (Some ended.end)) history.is_drained waited is.live) not_drained used asks fits;
    }
