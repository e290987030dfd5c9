-- The rows of a report, each as the list of its parts.
use Rattle.std.specs.Prelude.{ℕ, ◌*◌, List, [], ◌∷◌, ◌+◌, ◌++◌, take, drop, map, codes, decimal, slice_index, slice_index_or}
use Rattle.std.specs.List.{range_with_len}
use Rattle.hex.specs.Hex.{encode_lower}
use Rattle.kmp_base.specs.Text.{hex8, hex4}
use Rattle.kmp_base.specs.Names.{machine_name, policy_name, turns_name}
use Rattle.kmp_base.specs.declared.setup.Setup.{Setup}
use Rattle.access_log.specs.Names.{letter_name}
use Rattle.access_log.specs.declared.Entry.{Entry}
use Rattle.access_log.specs.declared.Transaction.{Transaction}
use Rattle.access_log.specs.declared.Item.{Item}
use Rattle.access_log.specs.declared.Item.TheVariants.{Done, Bus}
use Rattle.row_reader.specs.Numbers.{word_or_dash, number_or_dash}
use Rattle.report_rows.specs.declared.MemoryWord.{MemoryWord}
use Rattle.report_rows.specs.Ends.{EndValue}
use Rattle.mips_isa.specs.Names.{kind_name}
use Rattle.timetable.specs.Names.{end_name}
use Rattle.timetable.specs.declared.rows.TimeRow.{TimeRow}
use Rattle.report_rows.specs.Names.{bit_name, count_names}

-- a name and a word
abbrev pub text_row : List ℕ → List ℕ → List (List ℕ)
text_row name word = name ∷ word ∷ []

-- a name and a number
abbrev pub number_row : List ℕ → ℕ → List (List ℕ)
number_row name n = name ∷ decimal n ∷ []

-- bytes of the image
abbrev pub bytes_row : List ℕ → List (List ℕ)
bytes_row bytes = codes "I" ∷ encode_lower bytes ∷ []

-- the 32 bytes of the image from index 32 k on, or as many as there are
abbrev pub bytes_row_at : List ℕ → ℕ → List (List ℕ)
bytes_row_at bytes k = bytes_row (take 32 (drop (32 * k) bytes))

-- an access
abbrev pub entry_row : Entry → List (List ℕ)
entry_row entry =
    codes "A" ∷ decimal entry.core ∷ decimal entry.nth ∷ kind_name entry.kind
    ∷ hex8 entry.addr ∷ hex8 entry.old ∷ word_or_dash entry.new ∷ []

-- a transaction of the bus
abbrev pub transaction_row : Transaction → List (List ℕ)
transaction_row bus =
    codes "B" ∷ decimal bus.master ∷ decimal bus.line ∷ bit_name bus.im ∷ hex4 bus.ch
    ∷ number_or_dash bus.di ∷ number_or_dash bus.victim ∷ letter_name bus.letter ∷ []

abbrev pub item_row : Item → List (List ℕ)
item_row (Done entry) = entry_row entry
item_row (Bus transaction) = transaction_row transaction

-- how a core ended
abbrev pub core_row : ℕ → EndValue → List (List ℕ)
core_row core ended =
    codes "C" ∷ decimal core ∷ end_name ended.end ∷ decimal ended.cycles ∷ decimal ended.retired
    ∷ hex8 ended.state.pc ∷ hex8 ended.state.dpc ∷ []

-- eight registers of a core, from the first
abbrev pub registers_row : ℕ → ℕ → List ℕ → List (List ℕ)
registers_row core first regs = codes "R" ∷ decimal core ∷ decimal first ∷ map hex8 (take 8 (drop first regs))

-- a memory word
abbrev pub memory_row : MemoryWord → List (List ℕ)
memory_row word = codes "W" ∷ hex8 word.addr ∷ hex8 word.value ∷ []

-- the cycles in which an instruction passed the stages of a pipeline
abbrev pub stage_parts : TimeRow → List (List ℕ)
stage_parts row =
    decimal row.i ∷ decimal row.f ∷ decimal row.d ∷ decimal row.e
    ∷ number_or_dash row.a ∷ decimal row.m ∷ number_or_dash row.w ∷ []

-- the row of instruction n in the timetable of a core
abbrev pub timed_row : ℕ → ℕ → TimeRow → List (List ℕ)
timed_row core n row = codes "T" ∷ decimal core ∷ decimal n ∷ stage_parts row

-- a count
abbrev pub count_row : List ℕ → ℕ → List (List ℕ)
count_row name n = codes "N" ∷ name ∷ decimal n ∷ []

-- ---- rows that stand together

-- the rows of each thing by its number, from a number on
abbrev pub rows_of_each : {X : Type 0} → (ℕ → X → List (List (List ℕ))) → ℕ → List X → List (List (List ℕ))
rows_of_each rows_at n [] = []
rows_of_each rows_at n (x ∷ xs) = rows_at n x ++ rows_of_each rows_at (n + 1) xs

-- what was asked for
unfoldable pub header_rows : Setup → List (List (List ℕ))
header_rows setup =
    text_row (codes "kmp-report") (codes "1")
    ∷ text_row (codes "machine") (machine_name setup.machine)
    ∷ number_row (codes "cores") setup.cores
    ∷ number_row (codes "budget") setup.budget
    ∷ text_row (codes "arbitration") (policy_name setup.policy)
    ∷ text_row (codes "turns") (turns_name setup.turns)
    ∷ number_row (codes "seed") setup.seed
    ∷ number_row (codes "sets") setup.sets
    ∷ number_row (codes "ways") setup.ways
    ∷ []

-- a core's end and its registers
unfoldable pub core_rows : ℕ → EndValue → List (List (List ℕ))
core_rows core ended =
    core_row core ended
    ∷ registers_row core 0 ended.state.regs
    ∷ registers_row core 8 ended.state.regs
    ∷ registers_row core 16 ended.state.regs
    ∷ registers_row core 24 ended.state.regs
    ∷ []

-- the timetable of a core, from its instruction 0 on
abbrev pub timetable_rows : ℕ → List TimeRow → List (List (List ℕ))
timetable_rows core rows = rows_of_each (λ n row. timed_row core n row ∷ []) 0 rows

-- the row of the count at an index
abbrev pub count_row_at : List ℕ → ℕ → List (List ℕ)
count_row_at counts index = count_row (slice_index_or count_names index []) (slice_index counts index)

-- the counts of accesses, of transactions, and of the cycles waited
unfoldable pub access_count_rows : List ℕ → List (List (List ℕ))
access_count_rows counts = map (count_row_at counts) (range_with_len 0 5)

unfoldable pub bus_count_rows : List ℕ → List (List (List ℕ))
bus_count_rows counts = map (count_row_at counts) (range_with_len 5 5)

unfoldable pub wait_count_rows : List ℕ → List (List (List ℕ))
wait_count_rows counts = map (count_row_at counts) (range_with_len 10 3)
