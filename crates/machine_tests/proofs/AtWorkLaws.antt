-- Cores at work on a memory: before their first cycles, and while others have theirs.
use Rattle.std.proofs.Common.{◌≡◌, ◌≢◌, ℕ, ◌<◌, None, option_map, refl, sym, ◌∙◌, subst, arith}
use Rattle.image_file.specs.Value.{ImageValue}
use Rattle.access_log.specs.Requests.{fetch_of}
use Rattle.mem_port.specs.declared.port.Port.TheVariants.{Fetch, Access}
use Rattle.mem_port.specs.Engine.{EngineView}
use Rattle.mem_port.specs.Memory.{MemoryView, IsLawful, IsFresh}
use Rattle.mem_port.specs.Side.{PortPhase, LeavesOthers}
use Rattle.mem_port.proofs.SideLaws.{port_phase-evolves}
use Rattle.core_run.specs.declared.lane.Lane.{Lane}
use Rattle.core_run.specs.Lanes.{IsClosed, PortHolds}
use Rattle.machine_tests.specs.Eager.{IsEager}
use Rattle.machine_tests.specs.AtWork.{IsAtWork}

pub works-first : {image : ImageValue} {core cores left : ℕ} {e : EngineView} {lane : Lane} {m : MemoryView} → IsEager image core cores e
    → IsFresh image cores 100 None m → core < cores → lane.core ≡ core → IsClosed lane → left ≡ 100 → IsAtWork left e lane m
works-first {image} {core} {cores} {left} {e} {lane} {m} eager fresh below is closed all =
    let within : lane.core < cores = omega (arith, is, below) in
    record {
      lawful = fresh.lawful;
      within = omega (arith, within, fresh.cores_are);
      coupled = record {
        core = eager.core_is ∙ sym is;
        image = eager.image_is ∙ sym fresh.image_is;
        cores = eager.cores_are ∙ sym fresh.cores_are;
        sound = eager.sound;
        fetch = rw (closed.fetch, fresh.ports (Fetch lane.core)) refl;
        access = rw (closed.access, fresh.ports (Access lane.core)) refl;
      };
      live = eager.live;
      clocks = omega (arith, all, eager.clocks);
      fetches = omega (arith, all, fresh.asks_left (Fetch lane.core) within);
      accesses = omega (arith, all, fresh.asks_left (Access lane.core) within);
    }

pub works-beside : {left : ℕ} {e : EngineView} {lane : Lane} {m n : MemoryView} (core : ℕ) → IsAtWork left e lane m → IsLawful n
    → lane.core ≢ core → LeavesOthers core m n → IsAtWork left e lane n
works-beside {left} {e} {lane} {m} {n} core works law ne others =
    let HoldsFetch : PortPhase → Type 0 = λ port. PortHolds lane.open_fetch port (option_map fetch_of e.fetch) in
    let HoldsAccess : PortPhase → Type 0 = λ port. PortHolds lane.open_access port e.access in
    record {
      lawful = law;
      within = omega (arith, works.within, others.kept.cores);
      coupled = record {
        core = works.coupled.core;
        image = works.coupled.image ∙ sym others.kept.image;
        cores = works.coupled.cores ∙ sym others.kept.cores;
        sound = works.coupled.sound;
        fetch = subst HoldsFetch (sym (port_phase-evolves _ _ (others.ports (Fetch lane.core) ne))) works.coupled.fetch;
        access = subst HoldsAccess (sym (port_phase-evolves _ _ (others.ports (Access lane.core) ne))) works.coupled.access;
      };
      live = works.live;
      clocks = works.clocks;
      fetches = omega (arith, works.fetches, others.asks (Fetch lane.core) ne);
      accesses = omega (arith, works.accesses, others.asks (Access lane.core) ne);
    }
