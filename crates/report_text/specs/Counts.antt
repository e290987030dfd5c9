-- What a report counts.
use Rattle.std.specs.Prelude.{ℕ, ◌+◌, Bool, true, false, ◌&&◌, if◌then◌else◌, Option, None, Some, is_some, List, [], ◌∷◌, ◌++◌, length, replicate}
use Rattle.std.specs.Prelude.{count_by, sum_by}
use Rattle.mips_isa.specs.declared.Kind.{Kind}
use Rattle.mips_isa.specs.declared.Kind.TheVariants.{Fetch, Lw, Sw, Cas}
use Rattle.access_log.specs.declared.Entry.{Entry}
use Rattle.access_log.specs.declared.Letter.{Letter}
use Rattle.access_log.specs.declared.Letter.TheVariants.{O, S}
use Rattle.access_log.specs.declared.Transaction.{Transaction}
use Rattle.access_log.specs.declared.Item.{Item}
use Rattle.access_log.specs.declared.Item.TheVariants.{Done, Bus}
use Rattle.access_log.specs.Items.{entries, transactions}
use Rattle.moesi_master.specs.Moesi.{is_dirty}
use Rattle.letters.specs.Caches.{Caches}
use Rattle.letters.specs.Fold.{LettersValue, no_letters, after_entry, after_transaction}
use Rattle.timetable.specs.Waits.{fetch_waits, operand_waits, access_waits}
use Rattle.report_rows.specs.Ends.{EndValue}

abbrev pub is_same_kind : Kind → Kind → Bool
is_same_kind Fetch Fetch = true
is_same_kind Lw Lw = true
is_same_kind Sw Sw = true
is_same_kind Cas Cas = true
is_same_kind a b = false

abbrev pub is_of_kind : Kind → Entry → Bool
is_of_kind kind entry = is_same_kind entry.kind kind

-- a compare-and-swap that stored
abbrev pub is_swap : Entry → Bool
is_swap entry = is_of_kind Cas entry && is_some entry.new

-- The instructions that the cores retired; the loads, stores and compare-and-swaps, and those of the last that stored.
abbrev pub access_counts_of : List EndValue → List Entry → List ℕ
access_counts_of cores accesses =
    sum_by (λ (ended : EndValue). ended.retired) cores
    ∷ count_by (is_of_kind Lw) accesses
    ∷ count_by (is_of_kind Sw) accesses
    ∷ count_by (is_of_kind Cas) accesses
    ∷ count_by is_swap accesses
    ∷ []

-- The cycles that the cores' timetables tell as waits: for words, for operands, and for the answers to accesses.
abbrev pub wait_counts_of : List EndValue → List ℕ
wait_counts_of cores =
    sum_by (λ (ended : EndValue). fetch_waits ended.rows) cores
    ∷ sum_by (λ (ended : EndValue). operand_waits ended.rows) cores
    ∷ sum_by (λ (ended : EndValue). access_waits ended.rows) cores
    ∷ []

-- Whether a line with this letter may have copies in other caches.
abbrev pub is_shared : Letter → Bool
is_shared O = true
is_shared S = true
is_shared letter = false

-- A transaction of a master that holds the line, so that it keeps its own words.
abbrev pub is_upgrade : LettersValue → Transaction → Bool
is_upgrade letters bus = is_shared (letters.letter bus.master bus.line)

-- whether a cache holds a line, where there is one, with words that main memory lacks
abbrev pub holds_dirty : LettersValue → ℕ → Option ℕ → Bool
holds_dirty letters cache None = false
holds_dirty letters cache (Some line) = is_dirty (letters.letter cache line)

-- A transaction whose victim's words go to main memory.
abbrev pub is_flush : LettersValue → Transaction → Bool
is_flush letters bus = holds_dirty letters bus.master bus.victim

-- How many transactions pass a test, which sees the letters before each.
abbrev pub count_transactions : Caches → (LettersValue → Transaction → Bool) → LettersValue → List Item → ℕ
count_transactions caches test letters [] = 0
count_transactions caches test letters (Done entry ∷ items) = count_transactions caches test (after_entry letters entry) items
count_transactions caches test letters (Bus bus ∷ items) =
    (if test letters bus then 1 else 0) + count_transactions caches test (after_transaction caches letters bus) items

-- The transactions; those with the intent to modify, those whose words another cache supplied, the upgrades and the flushes.
-- Without a bus all are 0.
abbrev pub bus_counts_of : Option Caches → List Item → List ℕ
bus_counts_of None items = replicate 5 0
bus_counts_of (Some caches) items =
    length (transactions items)
    ∷ count_by (λ (bus : Transaction). bus.im) (transactions items)
    ∷ count_by (λ (bus : Transaction). is_some bus.di) (transactions items)
    ∷ count_transactions caches is_upgrade no_letters items
    ∷ count_transactions caches is_flush no_letters items
    ∷ []

unfoldable pub counts_of : Option Caches → List EndValue → List Item → List ℕ
counts_of caches cores items = access_counts_of cores (entries items) ++ bus_counts_of caches items ++ wait_counts_of cores

-- whether an item is an entry that passes a test
abbrev pub at_entry : (Entry → Bool) → Item → Bool
at_entry test (Done entry) = test entry
at_entry test (Bus transaction) = false
