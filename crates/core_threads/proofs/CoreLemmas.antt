-- A core by what its pass has seen: before its first cycle, and where it has ended.
use Rattle.std.proofs.Common.{◌≡◌, ℕ, ◌<◌, refl, sym, ◌∙◌, subst, arith}
use Rattle.mem_port.specs.declared.port.Port.TheVariants.{Fetch, Access}
use Rattle.mem_port.specs.declared.port.PortState.{PortState}
use Rattle.mem_port.specs.declared.port.PortState.TheVariants.{Free, Asked, Waiting, Answered, Closed}
use Rattle.mem_port.specs.Engine.{EngineView}
use Rattle.mem_port.specs.Memory.{MemoryView, Keeps, IsFresh, committed}
use Rattle.mem_port.specs.Side.{PortPhase, port_phase, side_of}
use Rattle.mem_port.proofs.SideLaws.{port_phase-evolves}
use Rattle.core_run.specs.Lanes.{IsQuiet, IsFinished}
use Rattle.core_run.specs.Running.{IsUnused}
use Rattle.core_run.proofs.StartLaws.{fresh-unused}
use Rattle.turn.specs.declared.views.CoreView.{CoreView}
use Rattle.turn.specs.Numbers.{no_numbers}
use Rattle.turn.specs.Views.{CountedView, CoreFits, counted, core_view, side_in, open_on, open_of}

-- A pass that is new sees its core's side before the first call.
pub first-unused : (x : MemoryView) (v : CoreView) (core asks : ℕ) → core < x.cores → IsFresh x.image x.cores asks x.caches x
    → v ≡ core_view (counted x no_numbers) core → IsUnused asks core (side_in x v)
first-unused x v core asks within fresh same =
    let unused = fresh-unused x core asks within fresh in
    subst (λ (w : CoreView). IsUnused asks core (side_in x w)) (sym same)
    (record {
      fetch = unused.fetch;
      access = unused.access;
      fetches = unused.fetches;
      accesses = unused.accesses;
      taken = unused.taken;
    })

-- A core that has ended has no open request.
quiet-open : (s : PortState) → IsQuiet (port_phase s) → open_on s ≡ 0
quiet-open Free h = refl
quiet-open (Asked r) h = absurd h
quiet-open (Waiting r) h = absurd h
quiet-open (Answered r word) h = absurd h
quiet-open Closed h = refl

pub finished-rest : (x : MemoryView) (v : CoreView) (core : ℕ) (e : EngineView) → IsFinished e (side_in x v) core → open_of v ≡ 0
finished-rest x v core e h =
    let fetch = quiet-open v.fetch.state h.fetch in
    let access = quiet-open v.access.state h.access in
    omega (arith, fetch, access)

-- What it has done by what its pass has seen, it has done in a memory of which that is so.
module _ (x : MemoryView) (y : CountedView) (v : CoreView) (core : ℕ) (kept : Keeps x y.memory) (fits : CoreFits y v) (same : v.core ≡ core)
  where
    quiet-along : {old new : PortPhase} → new ≡ old → IsQuiet old → IsQuiet new
    quiet-along e h = subst (λ (phase : PortPhase). IsQuiet phase) (sym e) h

    pub finished-there : (e : EngineView) → IsFinished e (side_in x v) core → IsFinished e (side_of y.memory core) core
    finished-there e h =
        let F : ℕ → Type 0 = λ k. IsFinished e (side_of y.memory k) k in
        subst F same (record {
          core_is = h.core_is ∙ sym same;
          image = h.image ∙ sym kept.image;
          cores = h.cores ∙ sym kept.cores;
          fetch = quiet-along (port_phase-evolves v.fetch.state (y.memory.port (Fetch v.core)) fits.fetch.state) h.fetch;
          access = quiet-along (port_phase-evolves v.access.state (y.memory.port (Access v.core)) fits.access.state) h.access;
        })

    pub taken-there : v.entries ≡ committed y.memory core
    taken-there = subst (λ (k : ℕ). v.entries ≡ committed y.memory k) same fits.entries
