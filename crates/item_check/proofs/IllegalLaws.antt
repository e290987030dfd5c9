-- Something is illegal exactly where the letters don't allow it.
use Rattle.std.proofs.Common.{◌≡◌, ℕ, ◌*◌, ◌%◌, ◌<◌, inl, inr, Bool, true, false, List, [], ◌∷◌, ◌++◌, refl}
use Rattle.std.specs.Prelude.{◌||◌, not, nat_lt, Option, Some, None}
use Rattle.std.proofs.lemmas.Bool.{or_cases, or_left, or_right, not-true, not_from_false, ltb-true, lt-ltb, eqb-true, eq-eqb, both_ways}
use Rattle.std.proofs.lemmas.Bool.{cases_Bool}
use Rattle.access_log.specs.declared.Letter.{Letter}
use Rattle.access_log.specs.declared.Letter.TheVariants.{M, O, E, S, I}
use Rattle.access_log.specs.declared.Transaction.{Transaction}
use Rattle.access_log.specs.declared.Item.{Item}
use Rattle.access_log.specs.declared.Item.TheVariants.{Done, Bus}
use Rattle.access_log.specs.Memory.{is_same_word}
use Rattle.access_log.proofs.EntryLaws.{same_word, is_same_word-same}
use Rattle.moesi_master.specs.Moesi.{suffices}
use Rattle.item_check.specs.declared.Illegal.{Illegal}
use Rattle.letters.specs.Caches.{Caches}
use Rattle.letters.specs.Fold.{LettersValue, cache_of, line_of, holders, supplier_of, victim_of, IsAllowed, FollowsFrom}
use Rattle.item_check.specs.Illegal.{Due, first_difference, is_same_letter, illegal_in, reads_code, IsOfCores, IllegalIsNotAllowed}
use Rattle.item_check.specs.Illegal.{im_due, line_due, held_due, ch_due, di_due, victim_due, letter_due, entry_due, transaction_dues}

same_letter : (a b : Letter) → is_same_letter a b ≡ true → a ≡ b
same_letter M M h = refl
same_letter M O h = cc
same_letter M E h = cc
same_letter M S h = cc
same_letter M I h = cc
same_letter O M h = cc
same_letter O O h = refl
same_letter O E h = cc
same_letter O S h = cc
same_letter O I h = cc
same_letter E M h = cc
same_letter E O h = cc
same_letter E E h = refl
same_letter E S h = cc
same_letter E I h = cc
same_letter S M h = cc
same_letter S O h = cc
same_letter S E h = cc
same_letter S S h = refl
same_letter S I h = cc
same_letter I M h = cc
same_letter I O h = cc
same_letter I E h = cc
same_letter I S h = cc
same_letter I I h = refl

is_same_letter-self : (a : Letter) → is_same_letter a a ≡ true
is_same_letter-self M = refl
is_same_letter-self O = refl
is_same_letter-self E = refl
is_same_letter-self S = refl
is_same_letter-self I = refl

-- Where a field is as is due, the ones behind it tell.
met : (due : Due) (more : List Due) → due.is_met ≡ true → first_difference more ≡ None → first_difference (due ∷ more) ≡ None
met due more e rest = rw e rest

unmet : (due : Due) (more : List Due) → first_difference (due ∷ more) ≡ None → (due.is_met ≡ true) × (first_difference more ≡ None)
unmet due more h = by due.is_met refl
  where
    by : (b : Bool) → due.is_met ≡ b → (due.is_met ≡ true) × (first_difference more ≡ None)
    by true e = (e, rw e at h)
    by false e =
        let some : Some (record { field = due.field; found = due.found }) ≡ None = rw e at h in
        cc

-- What differs first among some fields does so among more.
first-among : (some more : List Due) (illegal : Illegal) → Some illegal ≡ first_difference some
    → Some illegal ≡ first_difference (some ++ more)
first-among [] more illegal is = cc
first-among (due ∷ some) more illegal is = by due.is_met refl (first-among some more illegal)
  where
    by : (b : Bool) → due.is_met ≡ b → (Some illegal ≡ first_difference some → Some illegal ≡ first_difference (some ++ more))
        → Some illegal ≡ first_difference ((due ∷ some) ++ more)
    by true e behind = rw e (behind (rw e at is))
    by false e behind = rw e (rw e at is)

module _ (caches : Caches) (cores code_lines : ℕ) (letters : LettersValue) (bus : Transaction) where
  code-im : (not (reads_code bus) || not bus.im) ≡ true → bus.master % 2 ≡ 0 → bus.im ≡ false
  code-im h even = elim (or_cases (not (reads_code bus)) (not bus.im) h) as (λ _. bus.im ≡ false) [
    | inl odd ↦ absurd (both_ways (reads_code bus) (not-true (reads_code bus) odd) (eq-eqb (bus.master % 2) 0 even))
    | inr reads ↦ not-true bus.im reads
  ]

  code-line : (not (reads_code bus) || nat_lt bus.line code_lines) ≡ true → bus.master % 2 ≡ 0 → bus.line < code_lines
  code-line h even = elim (or_cases (not (reads_code bus)) (nat_lt bus.line code_lines) h) as (λ _. bus.line < code_lines) [
    | inl odd ↦ absurd (both_ways (reads_code bus) (not-true (reads_code bus) odd) (eq-eqb (bus.master % 2) 0 even))
    | inr reads ↦ ltb-true bus.line code_lines reads
  ]

  im-code : (bus.master % 2 ≡ 0 → (bus.im ≡ false) × (bus.line < code_lines)) → (not (reads_code bus) || not bus.im) ≡ true
  im-code code = elim (cases_Bool (reads_code bus)) as (λ _. (not (reads_code bus) || not bus.im) ≡ true) [
    | inl even ↦ or_right (not (reads_code bus)) (not bus.im) (not_from_false bus.im (code (eqb-true (bus.master % 2) 0 even)).0)
    | inr odd ↦ or_left (not (reads_code bus)) (not bus.im) (not_from_false (reads_code bus) odd)
  ]

  line-code : (bus.master % 2 ≡ 0 → (bus.im ≡ false) × (bus.line < code_lines)) → (not (reads_code bus) || nat_lt bus.line code_lines) ≡ true
  line-code code = elim (cases_Bool (reads_code bus)) as (λ _. (not (reads_code bus) || nat_lt bus.line code_lines) ≡ true) [
    | inl even ↦ or_right (not (reads_code bus)) (nat_lt bus.line code_lines)
        (lt-ltb bus.line code_lines (code (eqb-true (bus.master % 2) 0 even)).1)
    | inr odd ↦ or_left (not (reads_code bus)) (nat_lt bus.line code_lines) (not_from_false (reads_code bus) odd)
  ]

  abbrev held : Letter
  held = letters.letter bus.master bus.line

  abbrev others : ℕ
  others = holders letters.letter bus.master bus.line (2 * cores)

  abbrev supplier : Option ℕ
  supplier = supplier_of letters.letter bus.master bus.line (2 * cores)

  abbrev victim : Option ℕ
  victim = victim_of caches.ways held (letters.filled bus.master (bus.line % caches.sets))

  abbrev becomes : Letter
  becomes = (caches.protocol bus.master).after_finish bus.im bus.ch

  -- The fields behind each one.
  abbrev behind_six : List Due
  behind_six = letter_due becomes bus ∷ []

  abbrev behind_five : List Due
  behind_five = victim_due victim bus ∷ behind_six

  abbrev behind_four : List Due
  behind_four = di_due supplier bus ∷ behind_five

  abbrev behind_three : List Due
  behind_three = ch_due others bus ∷ behind_four

  abbrev behind_two : List Due
  behind_two = held_due held bus ∷ behind_three

  abbrev behind_one : List Due
  behind_one = line_due code_lines bus ∷ behind_two

  -- What differs first among im, line and held.
  pub front-illegal : (illegal : Illegal)
      → Some illegal ≡ first_difference (im_due bus ∷ line_due code_lines bus ∷ held_due held bus ∷ [])
      → Some illegal ≡ first_difference (transaction_dues caches cores code_lines letters bus)
  front-illegal illegal is = first-among (im_due bus ∷ line_due code_lines bus ∷ held_due held bus ∷ []) behind_three illegal is

  pub transaction-legal : IsAllowed caches cores code_lines letters bus
      → first_difference (transaction_dues caches cores code_lines letters bus) ≡ None
  transaction-legal h =
      let same_di : is_same_word bus.di supplier ≡ true = rw h.supplier (is_same_word-same supplier) in
      let same_victim : is_same_word bus.victim victim ≡ true = rw h.makes_room (is_same_word-same victim) in
      let same_becomes : is_same_letter bus.letter becomes ≡ true = rw h.becomes (is_same_letter-self becomes) in
      let behind_victim = met (letter_due becomes bus) [] same_becomes refl in
      let behind_di = met (victim_due victim bus) behind_six same_victim behind_victim in
      let behind_ch = met (di_due supplier bus) behind_five same_di behind_di in
      let behind_held = met (ch_due others bus) behind_four (eq-eqb bus.ch others h.held_by) behind_ch in
      let behind_line = met (held_due held bus) behind_three (not_from_false (suffices held bus.im) h.lacks) behind_held in
      met (im_due bus) behind_one (im-code h.code) (met (line_due code_lines bus) behind_two (line-code h.code) behind_line)

  pub legal-transaction : bus.master < 2 * cores → first_difference (transaction_dues caches cores code_lines letters bus) ≡ None
      → IsAllowed caches cores code_lines letters bus
  legal-transaction master h =
      let im = unmet (im_due bus) behind_one h in
      let line = unmet (line_due code_lines bus) behind_two im.1 in
      let lacks = unmet (held_due held bus) behind_three line.1 in
      let ch = unmet (ch_due others bus) behind_four lacks.1 in
      let di = unmet (di_due supplier bus) behind_five ch.1 in
      let room = unmet (victim_due victim bus) behind_six di.1 in
      let letter = unmet (letter_due becomes bus) [] room.1 in
      record {
        master = master;
        lacks = not-true (suffices held bus.im) lacks.0;
        code = λ even. (code-im im.0 even, code-line line.0 even);
        held_by = eqb-true bus.ch others ch.0;
        supplier = same_word bus.di supplier di.0;
        makes_room = same_word bus.victim victim room.0;
        becomes = same_letter bus.letter becomes letter.0;
      }

item-legal : (caches : Caches) (cores code_lines : ℕ) (letters : LettersValue) (item : Item)
    → FollowsFrom caches cores code_lines letters (item ∷ []) → illegal_in caches cores code_lines letters item ≡ None
item-legal caches cores code_lines letters (Done entry) h = rw h.0 refl
item-legal caches cores code_lines letters (Bus bus) h = transaction-legal caches cores code_lines letters bus h.0

pub legal-item : (caches : Caches) (cores code_lines : ℕ) (letters : LettersValue) (item : Item) → IsOfCores cores item
    → illegal_in caches cores code_lines letters item ≡ None → FollowsFrom caches cores code_lines letters (item ∷ [])
legal-item caches cores code_lines letters (Done entry) within h =
    ((unmet (entry_due (letters.letter (cache_of entry) (line_of entry)) entry) [] h).0, tt)
legal-item caches cores code_lines letters (Bus bus) within h = (legal-transaction caches cores code_lines letters bus within h, tt)

pub illegal-not_allowed : IllegalIsNotAllowed
illegal-not_allowed = record { allowed = item-legal; legal = legal-item }
