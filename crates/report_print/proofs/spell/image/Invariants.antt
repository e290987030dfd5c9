use Rattle.std.proofs.Common.{◌≡◌, ◌+◌, ◌*◌, ◌≤◌, ◌++◌, length, take, drop, flat_map, codes}
use Rattle.std.specs.Int.{w32, to_le_bytes}
use Rattle.hex.specs.Hex.{encode_lower}
use Rattle.report_print.proofs.spell.image.Given as goal

abbrev pub invariant-numbers : goal.invariant-numbers
invariant-numbers l = record {
  bytes : l.row ≡ codes "I" ++ codes " " ++ encode_lower (flat_map (to_le_bytes w32) (take l.counter l.initial.numbers));
  left : l.numbers ≡ drop l.counter l.initial.numbers;
  room : length l.row ≤ 2 + 8 * l.counter;
}
