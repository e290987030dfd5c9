-- A core at work, which has cycles on a memory.
use Rattle.std.specs.Prelude.{◌≡◌, ℕ, ◌<◌, ◌≤◌, true}
use Rattle.mem_port.specs.declared.port.Port.TheVariants.{Fetch, Access}
use Rattle.mem_port.specs.Engine.{EngineView}
use Rattle.mem_port.specs.Memory.{MemoryView, IsLawful}
use Rattle.mem_port.specs.Side.{side_of}
use Rattle.core_run.specs.declared.lane.Lane.{Lane}
use Rattle.core_run.specs.Lanes.{IsCoupled}

-- There are clocks and asks for so many cycles.
pub record IsAtWork (left : ℕ) (e : EngineView) (lane : Lane) (m : MemoryView) : Type 0 where
  pub lawful : IsLawful m
  pub within : lane.core < m.cores
  pub coupled : IsCoupled e (side_of m lane.core) lane
  pub live : e.is_live ≡ true
  pub clocks : left ≤ e.clocks_left
  pub fetches : left ≤ m.asks_left (Fetch lane.core)
  pub accesses : left ≤ m.asks_left (Access lane.core)
