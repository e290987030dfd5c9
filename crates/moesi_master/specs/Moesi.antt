-- The letters of the MOESI protocol, and what a cache does with its own line.
use Rattle.std.specs.Prelude.{ℕ, Bool, true, false, ◌==◌, if◌then◌else◌}
use Rattle.mips_isa.specs.declared.Kind.{Kind}
use Rattle.mips_isa.specs.Kinds.{stores}
use Rattle.access_log.specs.declared.Letter.{Letter}
use Rattle.access_log.specs.declared.Letter.TheVariants.{M, O, E, S, I}

-- Whether a line with this letter is there to be read.
abbrev pub is_held : Letter → Bool
is_held I = false
is_held letter = true

-- Whether it is the only copy.
abbrev pub is_sole : Letter → Bool
is_sole M = true
is_sole E = true
is_sole letter = false

-- Whether main memory is behind it, so that its cache has to supply its words.
abbrev pub is_dirty : Letter → Bool
is_dirty M = true
is_dirty O = true
is_dirty letter = false

-- Whether a line with this letter needs no transaction, by the intent to modify.
abbrev pub suffices : Letter → Bool → Bool
suffices letter true = is_sole letter
suffices letter false = is_held letter

-- Whether an access of a kind can be done with no transaction: one that may store needs the only copy.
abbrev pub is_hit : Letter → Kind → Bool
is_hit letter kind = if stores kind then is_sole letter else is_held letter

-- The letter after such an access, by whether it stored.
abbrev pub after_hit : Letter → Bool → Letter
after_hit letter true = M
after_hit letter false = letter

-- The master's letter after its transaction, by the intent to modify and by the other caches that held the line.
abbrev pub after_finish : Bool → ℕ → Letter
after_finish true held_by = M
after_finish false held_by = if held_by == 0 then E else S
