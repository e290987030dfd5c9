-- Where the statements of a source stand in memory.
use Rattle.std.specs.Prelude.{ℕ, ◌+◌, ◌*◌, ◌/◌, List, [], ◌∷◌, sum_by}
use Rattle.asm_parse.specs.declared.statement.Body.{Body}
use Rattle.asm_parse.specs.declared.statement.Body.TheVariants.{DataAt, Word, Space, Plain, BranchTo, JumpTo, Load}
use Rattle.asm_parse.specs.declared.statement.Part.{Part}
use Rattle.asm_parse.specs.declared.statement.Part.TheVariants as parts
use Rattle.asm_parse.specs.declared.statement.Statement.{Statement}
use Rattle.asm_parse.specs.Statements.{part_moved}
use Rattle.asm_layout.specs.declared.place.Place.{Place}

-- how many bytes of code a statement has
abbrev pub code_size : Body → ℕ
code_size (Plain instr) = 4
code_size (BranchTo instr label) = 4
code_size (JumpTo link label) = 4
code_size (Load rt value) = 8
code_size other = 0

-- how many bytes of data a statement has
abbrev pub data_size : Body → ℕ
data_size (Word value) = 4
data_size (Space bytes) = bytes
data_size other = 0

-- the end of the data behind a statement, where it was at `end` before
abbrev pub data_moved : ℕ → Body → ℕ
data_moved end (DataAt start) = start
data_moved end other = end + data_size other

-- The bytes of code of statements: the sum of their sizes.
unfoldable pub code_behind : List Statement → ℕ
code_behind before = sum_by (λ s. code_size s.body) before

-- The end of the data behind statements: the last start of a segment, or `end` where there is none, and the sizes behind it.
unfoldable pub data_behind : ℕ → List Statement → ℕ
data_behind end [] = end
data_behind end (s ∷ ss) = data_behind (data_moved end s.body) ss

-- the part in force behind statements, where it was `part` before
unfoldable pub part_behind : Part → List Statement → Part
part_behind part [] = part
part_behind part (s ∷ ss) = part_behind (part_moved part s.body) ss

-- The end of all code. An odd number of words is followed by one `nop`.
abbrev pub code_end : List Statement → ℕ
code_end ss = (code_behind ss + 7) / 8 * 8

-- The place behind statements of a source whose code ends at `end`. Data before the first segment with an address begins there.
abbrev pub place_behind : ℕ → List Statement → Place
place_behind end before = record { part = part_behind parts.Text before; code_end = code_behind before; data_end = data_behind end before }

-- A label's address is the end of the part in force.
abbrev pub address_at : Place → ℕ
address_at place = (elim place.part [ parts.Text ↦ place.code_end | parts.Data ↦ place.data_end ])

-- the place behind one more statement
abbrev pub place_moved : Place → Body → Place
place_moved place body = record
    { part = part_moved place.part body; code_end = place.code_end + code_size body; data_end = data_moved place.data_end body }
