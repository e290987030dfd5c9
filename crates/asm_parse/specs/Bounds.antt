-- The bounds of numbers.
use Rattle.std.specs.Prelude.{◌%◌, Bool, not, ◌&&◌, ◌||◌, ◌==◌, nat_le, if◌then◌else◌}
use Rattle.asm_token.specs.declared.number.Number.{Number}
use Rattle.asm_parse.specs.declared.bounds.Bounds.{Bounds}

-- A number is as far from 0 at most as its sign allows, and a multiple of 4 where one is wanted.
abbrev pub is_within : Bounds → Number → Bool
is_within bounds n =
    nat_le n.magnitude (if n.negative then bounds.below else bounds.above) && (not bounds.aligned || (n.magnitude % 4 == 0))
