-- Whether a history follows the letters, by computation.
use Rattle.std.specs.Prelude.{ℕ, ◌*◌, ◌%◌, ◌==◌, Bool, true, ◌&&◌, ◌||◌, not, nat_lt, List, [], ◌∷◌}
use Rattle.access_log.specs.declared.Letter.{Letter}
use Rattle.access_log.specs.declared.Letter.TheVariants.{M, O, E, S, I}
use Rattle.access_log.specs.declared.Transaction.{Transaction}
use Rattle.access_log.specs.declared.Item.{Item}
use Rattle.access_log.specs.declared.Item.TheVariants.{Done, Bus}
use Rattle.access_log.specs.Memory.{is_same_word}
use Rattle.moesi_master.specs.Moesi.{is_hit, suffices}
use Rattle.letters.specs.Caches.{Caches}
use Rattle.letters.specs.Fold.{LettersValue, cache_of, line_of, after_entry, after_transaction, holders, supplier_of, victim_of}

-- A number for each letter, by which letters are compared.
abbrev pub letter_number : Letter → ℕ
letter_number M = 0
letter_number O = 1
letter_number E = 2
letter_number S = 3
letter_number I = 4

abbrev pub may_read : ℕ → Transaction → Bool
may_read code_lines bus = not (bus.master % 2 == 0) || (not bus.im && nat_lt bus.line code_lines)

abbrev pub is_allowed : Caches → ℕ → ℕ → LettersValue → Transaction → Bool
is_allowed caches cores code_lines letters bus =
    nat_lt bus.master (2 * cores)
    && (not (suffices (letters.letter bus.master bus.line) bus.im)
    && (may_read code_lines bus
    && ((bus.ch == holders letters.letter bus.master bus.line (2 * cores))
    && (is_same_word bus.di (supplier_of letters.letter bus.master bus.line (2 * cores))
    && (is_same_word bus.victim (victim_of caches.ways (letters.letter bus.master bus.line)
    (letters.filled bus.master (bus.line % caches.sets)))
    && (letter_number bus.letter == letter_number ((caches.protocol bus.master).after_finish bus.im bus.ch)))))))

abbrev pub follows_from : Caches → ℕ → ℕ → LettersValue → List Item → Bool
follows_from caches cores code_lines letters [] = true
follows_from caches cores code_lines letters (Done entry ∷ items) =
    is_hit (letters.letter (cache_of entry) (line_of entry)) entry.kind
    && follows_from caches cores code_lines (after_entry letters entry) items
follows_from caches cores code_lines letters (Bus bus ∷ items) =
    is_allowed caches cores code_lines letters bus
    && follows_from caches cores code_lines (after_transaction caches letters bus) items
