-- Where a line stands in a set.
use Rattle.std.specs.Prelude.{ℕ, suc, ◌==◌, if◌then◌else◌, List, [], ◌∷◌, Option, Some, None, option_map}
use Rattle.item_check.specs.declared.held.HeldLine.{HeldLine}

abbrev pub place_of : List HeldLine → ℕ → Option ℕ
place_of [] line = None
place_of (held ∷ more) line = if held.line == line then Some 0 else option_map suc (place_of more line)
