-- What a core's caller knows of its pass, with which it loads and stores the word at the byte address 256.
use Rattle.std.specs.Prelude.{◌≡◌, ℕ, ◌+◌, ◌*◌, ◌<◌, ◌≤◌, [], length}
use Rattle.image_file.specs.Value.{memory_bytes}
use Rattle.mem_port.specs.declared.memory.MemoryCore.{Ghosts}
use Rattle.mem_port.specs.declared.port.Port.TheVariants.{Fetch, Access}
use Rattle.mem_port.specs.declared.port.PortState.{PortState}
use Rattle.mem_port.specs.Memory.{MemoryView}
use Rattle.mem_port.specs.Side.{Unasked, port_phase}
use Rattle.turn.specs.declared.pass.Turn.{Turn}
use Rattle.turn.specs.declared.pass.Pass.{Pass}
use Rattle.turn.specs.Views.{asks_of}
use Rattle.turn.specs.Rule.{joined_cores}
use Rattle.turn.specs.Passes.{IsOf, all_cores, own, port_of, counts}
use Rattle.machine_tests.specs.declared.answers.Answers.{Answers}

-- There are two cores, and the word stands behind the code and within memory.
pub record HasWord (m : MemoryView) : Type 0 where
  pub cores : m.cores ≡ 2
  pub code_ends : 4 * length m.image.code ≤ 256
  pub memory_ends : 256 < memory_bytes m.image

-- A pass counts the answers that its caller counted.
pub record Counts {M : Type 0} {g : Ghosts M} (answers : Answers) (pass : Pass M g) : Type 0 where
  pub nones : (counts pass).nones ≡ answers.nones
  pub idles : (counts pass).idles ≡ answers.idles
  pub withdrawns : (counts pass).withdrawns ≡ answers.withdrawns

-- The access port has the phase of what the caller made of it, and of ten requests so many are left; the pass counts what the
-- caller counted.
pub record Knows {M : Type 0} {g : Ghosts M} (turn : Turn M g) (made : PortState) (left : ℕ) (answers : Answers) (pass : Pass M g)
    : Type 0 where
  pub turn_is : IsOf turn pass
  pub fetch : port_phase (port_of pass (Fetch pass.core)).state ≡ Unasked
  pub access : port_phase (port_of pass (Access pass.core)).state ≡ port_phase made
  pub asks : left ≤ (port_of pass (Access pass.core)).asks_left
  pub asked : asks_of (own pass) + left ≡ 10
  pub moved : (own pass).moved ≡ answers.moved
  pub answers_are : Counts answers pass
  pub alone : joined_cores (all_cores pass) ≡ []
