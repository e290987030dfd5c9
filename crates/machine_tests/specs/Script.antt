-- What a test's script knows of a memory of two cores, in which it loads and stores the word at the byte address 256.
use Rattle.std.specs.Prelude.{◌≡◌, ℕ, ◌*◌, ◌<◌, ◌≤◌, List, length, slice_index_or}
use Rattle.image_file.specs.Value.{memory_bytes}
use Rattle.mem_port.specs.declared.port.Port.TheVariants.{Fetch, Access}
use Rattle.mem_port.specs.declared.port.PortState.{PortState}
use Rattle.mem_port.specs.declared.port.PortState.TheVariants.{Free}
use Rattle.mem_port.specs.Memory.{MemoryView, IsLawful}
use Rattle.mem_port.specs.Side.{Unasked, port_phase}

-- Each core has so many asks left, and its access port has the phase of what the script made of it.
pub record Fits (made : List PortState) (left : ℕ) (m : MemoryView) : Type 0 where
  pub lawful : IsLawful m
  pub cores : m.cores ≡ 2
  -- The word stands behind the code and within memory.
  pub code_ends : 4 * length m.image.code ≤ 256
  pub memory_ends : 256 < memory_bytes m.image
  pub fetches : (core : ℕ) → core < 2 → port_phase (m.port (Fetch core)) ≡ Unasked
  pub accesses : (core : ℕ) → core < 2 → port_phase (m.port (Access core)) ≡ port_phase (slice_index_or made core Free)
  pub asks : (core : ℕ) → core < 2 → left ≤ m.asks_left (Access core)
