-- What holds of a machine at any time.
use Rattle.std.specs.Prelude.{◌^◌, ◌≤◌, length}
use Rattle.mips_isa.specs.Steps.{IsCode}
use Rattle.access_log.specs.Replay.{FlatMachine}

-- Its code spells instructions and has at most 65,536 words, and its memory has at most 2^22.
pub record IsSound (machine : FlatMachine) : Type 0 where
  pub code : IsCode machine.code
  pub few : length machine.code ≤ 2 ^ 16
  pub small : length machine.memory ≤ 2 ^ 22
