-- The decision is right, both ways.
use Rattle.std.proofs.Common.{◌≡◌, ℕ, ◌*◌, ◌%◌, ◌<◌, List, [], ◌∷◌, refl, sym, ◌∙◌, ap, inl, inr}
use Rattle.std.specs.Prelude.{◌⊎◌, ◌==◌, Bool, true, false, ◌&&◌, not, nat_lt, if◌then◌else◌}
use Rattle.std.proofs.lemmas.Bool.{and_parts, and_from, or_cases, or_left, or_right, not-true, not_from_false, ltb-true, lt-ltb, eqb-true}
use Rattle.std.proofs.lemmas.Bool.{eq-eqb, both_ways, cases_Bool}
use Rattle.access_log.specs.declared.Letter.{Letter}
use Rattle.access_log.specs.declared.Letter.TheVariants.{M, O, E, S, I}
use Rattle.access_log.specs.declared.Transaction.{Transaction}
use Rattle.access_log.specs.declared.Item.{Item}
use Rattle.access_log.specs.declared.Item.TheVariants.{Done, Bus}
use Rattle.access_log.specs.Memory.{is_same_word}
use Rattle.access_log.proofs.EntryLaws.{same_word, is_same_word-same}
use Rattle.moesi_master.specs.Moesi.{is_hit, suffices}
use Rattle.letters.specs.Caches.{Caches}
use Rattle.letters.specs.Fold.{LettersValue, cache_of, line_of, after_entry}
use Rattle.letters.specs.Fold.{after_transaction, holders, victim_of, supplier_of, IsAllowed, FollowsFrom}
use Rattle.letters.proofs.DecidingLaws.{letter_number, may_read, is_allowed, follows_from}

abbrev letter_of_number : ℕ → Letter
letter_of_number n = if n == 0 then M else (if n == 1 then O else (if n == 2 then E else (if n == 3 then S else I)))

letter_of_number-letter_number : (letter : Letter) → letter_of_number (letter_number letter) ≡ letter
letter_of_number-letter_number M = refl
letter_of_number-letter_number O = refl
letter_of_number-letter_number E = refl
letter_of_number-letter_number S = refl
letter_of_number-letter_number I = refl

same_letter : (a b : Letter) → letter_number a ≡ letter_number b → a ≡ b
same_letter a b e = sym (letter_of_number-letter_number a) ∙ (ap letter_of_number e ∙ letter_of_number-letter_number b)

code-true : (code_lines : ℕ) (bus : Transaction) → may_read code_lines bus ≡ true → bus.master % 2 ≡ 0 → (bus.im ≡ false)
    × (bus.line < code_lines)
code-true code_lines bus h even = by (or_cases (not (bus.master % 2 == 0)) (not bus.im && nat_lt bus.line code_lines) h)
  where
    by : (not (bus.master % 2 == 0) ≡ true) ⊎ ((not bus.im && nat_lt bus.line code_lines) ≡ true) → (bus.im ≡ false)
        × (bus.line < code_lines)
    by (inl odd) = absurd (both_ways (bus.master % 2 == 0) (not-true (bus.master % 2 == 0) odd) (eq-eqb (bus.master % 2) 0 even))
    by (inr reads) =
        let parts = and_parts (not bus.im) (nat_lt bus.line code_lines) reads in
        (not-true bus.im parts.0, ltb-true bus.line code_lines parts.1)

code-from : (code_lines : ℕ) (bus : Transaction) → (bus.master % 2 ≡ 0 → (bus.im ≡ false) × (bus.line < code_lines))
    → may_read code_lines bus ≡ true
code-from code_lines bus h = by (cases_Bool (bus.master % 2 == 0))
  where
    reads : Bool
    reads = not bus.im && nat_lt bus.line code_lines

    by : ((bus.master % 2 == 0) ≡ true) ⊎ ((bus.master % 2 == 0) ≡ false) → may_read code_lines bus ≡ true
    by (inl even) =
        let parts = h (eqb-true (bus.master % 2) 0 even) in
        or_right (not (bus.master % 2 == 0)) (not bus.im && nat_lt bus.line code_lines)
        (and_from (not bus.im) (nat_lt bus.line code_lines) (not_from_false bus.im parts.0) (lt-ltb bus.line code_lines parts.1))
    by (inr odd) = or_left (not (bus.master % 2 == 0)) (not bus.im && nat_lt bus.line code_lines) (not_from_false (bus.master % 2 == 0) odd)

module _ (caches : Caches) (cores code_lines : ℕ) where
  allowed-true : (letters : LettersValue) (bus : Transaction)
      → is_allowed caches cores code_lines letters bus ≡ true → IsAllowed caches cores code_lines letters bus
  allowed-true letters bus h =
      let victim = victim_of caches.ways (letters.letter bus.master bus.line) (letters.filled bus.master (bus.line % caches.sets)) in
      let letter = (caches.protocol bus.master).after_finish bus.im bus.ch in
      let di = supplier_of letters.letter bus.master bus.line (2 * cores) in
      let held = holders letters.letter bus.master bus.line (2 * cores) in
      let master = and_parts _ _ h in
      let lacks = and_parts _ _ master.1 in
      let code = and_parts _ _ lacks.1 in
      let held_by = and_parts _ _ code.1 in
      let supplier = and_parts _ _ held_by.1 in
      let room = and_parts _ _ supplier.1 in
      record {
        master = ltb-true bus.master (2 * cores) master.0;
        lacks = not-true (suffices (letters.letter bus.master bus.line) bus.im) lacks.0;
        code = code-true code_lines bus code.0;
        held_by = eqb-true bus.ch held held_by.0;
        supplier = same_word bus.di di supplier.0;
        makes_room = same_word bus.victim victim room.0;
        becomes = same_letter bus.letter letter (eqb-true (letter_number bus.letter) (letter_number letter) room.1);
      }

  allowed-from : (letters : LettersValue) (bus : Transaction) → IsAllowed caches cores code_lines letters bus
      → is_allowed caches cores code_lines letters bus ≡ true
  allowed-from letters bus h =
      let victim = victim_of caches.ways (letters.letter bus.master bus.line) (letters.filled bus.master (bus.line % caches.sets)) in
      let di = supplier_of letters.letter bus.master bus.line (2 * cores) in
      let supplier : is_same_word bus.di di ≡ true = rw h.supplier (is_same_word-same di) in
      let room : is_same_word bus.victim victim ≡ true = rw h.makes_room (is_same_word-same victim) in
      let letter : (letter_number bus.letter == letter_number ((caches.protocol bus.master).after_finish bus.im bus.ch)) ≡ true =
      eq-eqb _ _ (ap letter_number h.becomes) in
      rw (
        lt-ltb bus.master (2 * cores) h.master,
        h.lacks,
        code-from code_lines bus h.code,
        eq-eqb bus.ch (holders letters.letter bus.master bus.line (2 * cores)) h.held_by,
        supplier,
        room,
        letter,
      ) refl

  pub follows-true : (letters : LettersValue) (items : List Item) → follows_from caches cores code_lines letters items ≡ true
      → FollowsFrom caches cores code_lines letters items
  follows-true letters [] h = tt
  follows-true letters (Done entry ∷ items) h =
      let parts = and_parts (is_hit (letters.letter (cache_of entry) (line_of entry)) entry.kind)
      (follows_from caches cores code_lines (after_entry letters entry) items) h in
      (parts.0, follows-true (after_entry letters entry) items parts.1)
  follows-true letters (Bus bus ∷ items) h =
      let parts = and_parts (is_allowed caches cores code_lines letters bus)
      (follows_from caches cores code_lines (after_transaction caches letters bus) items) h in
      (allowed-true letters bus parts.0, follows-true (after_transaction caches letters bus) items parts.1)

  pub follows-from : (letters : LettersValue) (items : List Item) → FollowsFrom caches cores code_lines letters items
      → follows_from caches cores code_lines letters items ≡ true
  follows-from letters [] h = refl
  follows-from letters (Done entry ∷ items) h =
      and_from (is_hit (letters.letter (cache_of entry) (line_of entry)) entry.kind)
      (follows_from caches cores code_lines (after_entry letters entry) items)
      h.0 (follows-from (after_entry letters entry) items h.1)
  follows-from letters (Bus bus ∷ items) h =
      and_from (is_allowed caches cores code_lines letters bus)
      (follows_from caches cores code_lines (after_transaction caches letters bus) items)
      (allowed-from letters bus h.0) (follows-from (after_transaction caches letters bus) items h.1)
