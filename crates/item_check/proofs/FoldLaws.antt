-- Lists of lines follow the fold of the letters, item by item.
use Rattle.std.proofs.Common.{◌≡◌, ◌≢◌, ℕ, suc, ◌+◌, ◌%◌, ◌<◌, ◌≤◌, inl, inr, Bool, true, false, List, [], ◌∷◌, ◌++◌}
use Rattle.std.proofs.Common.{length, refl, ap, sym, ◌∙◌, arith, subst}
use Rattle.std.specs.Prelude.{◌==◌, not, if◌then◌else◌, filter, Option, None, is_some, slice_get, nat_lt}
use Rattle.std.proofs.Math.Path.{fun_ext}
use Rattle.std.proofs.lemmas.List.{length-append}
use Rattle.std.proofs.lemmas.Bool.{cases_Bool, cases_eq, both_ways, eq-eqb, ne_eqb, lt-ltb, ltb-true}
use Rattle.access_log.specs.declared.Letter.{Letter}
use Rattle.access_log.specs.declared.Letter.TheVariants.{M, O, E, S, I}
use Rattle.access_log.specs.declared.Entry.{Entry}
use Rattle.access_log.specs.declared.Transaction.{Transaction}
use Rattle.moesi_master.specs.Moesi.{is_held, after_hit}
use Rattle.moesi_slave.specs.Slave.{after_act}
use Rattle.item_check.specs.declared.held.HeldLine.{HeldLine}
use Rattle.letters.specs.Caches.{Caches, moesi, all_with}
use Rattle.letters.specs.Fold.{LettersValue, cache_of, line_of, letter_after_entry, after_entry, is_that, letter_after_transaction}
use Rattle.letters.specs.Fold.{filled_after_transaction, after_transaction, victim_of}
use Rattle.item_check.specs.Held.{letter_in, numbers, with_letter, without_that, acted, finished}
use Rattle.letters.proofs.LetterLaws.{entry-else, bus-master, bus-slave, held-not}
use Rattle.item_check.proofs.SetLemmas.{AllIn, numbers-filter, letter-filter, all-filter, length-filter_le}
use Rattle.item_check.proofs.SetLemmas.{numbers-with, length-with, with-other}
use Rattle.item_check.proofs.SetLemmas.{with-same, with-none, all-with, numbers-push, push-other, push-same, all-push}

-- The letters of lists of lines, by cache and set.
abbrev pub fold_of : ℕ → (ℕ → ℕ → List HeldLine) → LettersValue
fold_of sets lines = record {
  letter = λ cache line. letter_in (lines cache (line % sets)) line;
  filled = λ cache set. numbers (lines cache set);
}

pub same_letters : (letter other : ℕ → ℕ → Letter) (filled more : ℕ → ℕ → List ℕ)
    → ((cache line : ℕ) → letter cache line ≡ other cache line)
    → ((cache set : ℕ) → filled cache set ≡ more cache set)
    → ◌≡◌ {A = LettersValue} (record { letter = letter; filled = filled }) (record { letter = other; filled = more })
same_letters letter other filled more letters lines =
    let a = fun_ext (λ cache. fun_ext (letters cache)) in
    let b = fun_ext (λ cache. fun_ext (lines cache)) in
    λ i. record { letter = a i; filled = b i }

-- An entry.
module _ (sets : ℕ) (lines next : ℕ → ℕ → List HeldLine) (entry : Entry)
    (held : is_held (letter_in (lines (cache_of entry) (line_of entry % sets)) (line_of entry)) ≡ true)
    (here : next (cache_of entry) (line_of entry % sets) ≡ with_letter (lines (cache_of entry) (line_of entry % sets)) (line_of entry)
    (after_hit (letter_in (lines (cache_of entry) (line_of entry % sets)) (line_of entry)) (is_some entry.new)))
    (else_same : (cache set : ℕ) → (cache ≡ cache_of entry → set ≡ line_of entry % sets → ⊥) → next cache set ≡ lines cache set) where
  abbrev letters : LettersValue
  letters = fold_of sets lines

  entry-here : letter_in (next (cache_of entry) (line_of entry % sets)) (line_of entry)
      ≡ letter_after_entry letters entry (cache_of entry) (line_of entry)
  entry-here =
      ap (λ xs. letter_in xs (line_of entry)) here
      ∙ (with-same (lines (cache_of entry) (line_of entry % sets)) (line_of entry) _ held
      ∙ rw (eq-eqb (cache_of entry) (cache_of entry) refl, eq-eqb (line_of entry) (line_of entry) refl) refl)

  entry-other : (cache line : ℕ) → (cache ≡ cache_of entry → line ≡ line_of entry → ⊥) → (set : ℕ) → set ≡ line % sets
      → letter_in (next cache set) line ≡ letter_in (lines cache set) line
  entry-other cache line other set is = elim (cases_eq cache (cache_of entry))
      as (λ _. letter_in (next cache set) line ≡ letter_in (lines cache set) line) [
        | inl mine ↦ elim (cases_eq set (line_of entry % sets)) as (λ _. letter_in (next cache set) line ≡ letter_in (lines cache set) line) [
          | inl beside ↦
              (let apart : line ≢ line_of entry = other mine in
              let at : next cache set ≡ with_letter (lines cache set) (line_of entry)
              (after_hit (letter_in (lines (cache_of entry) (line_of entry % sets)) (line_of entry)) (is_some entry.new)) =
              subst (λ k. next k set ≡ with_letter (lines k set) (line_of entry)
              (after_hit (letter_in (lines (cache_of entry) (line_of entry % sets)) (line_of entry)) (is_some entry.new)))
              (sym mine)
              (subst (λ s. next (cache_of entry) s ≡ with_letter (lines (cache_of entry) s) (line_of entry)
              (after_hit (letter_in (lines (cache_of entry) (line_of entry % sets)) (line_of entry)) (is_some entry.new)))
              (sym beside) here) in
              ap (λ xs. letter_in xs line) at ∙ with-other (lines cache set) (line_of entry) line _ apart)
          | inr away ↦ ap (λ xs. letter_in xs line) (else_same cache set (λ c s. away s))
        ]
        | inr away ↦ ap (λ xs. letter_in xs line) (else_same cache set (λ c s. away c))
      ]

  entry-letter : (cache line : ℕ) → letter_in (next cache (line % sets)) line ≡ letter_after_entry letters entry cache line
  entry-letter cache line = elim (cases_eq cache (cache_of entry))
      as (λ _. letter_in (next cache (line % sets)) line ≡ letter_after_entry letters entry cache line) [
        | inl mine ↦ elim (cases_eq line (line_of entry))
            as (λ _. letter_in (next cache (line % sets)) line ≡ letter_after_entry letters entry cache line) [
              | inl same ↦ subst (λ k. letter_in (next k (line % sets)) line ≡ letter_after_entry letters entry k line) (sym mine)
                  (subst (λ l. letter_in (next (cache_of entry) (l % sets)) l ≡ letter_after_entry letters entry (cache_of entry) l)
                  (sym same) entry-here)
              | inr other ↦ entry-other cache line (λ c l. other l) (line % sets) refl ∙ sym (entry-else letters entry cache line (λ c l. other l))
            ]
        | inr other ↦ entry-other cache line (λ c l. other c) (line % sets) refl ∙ sym (entry-else letters entry cache line (λ c l. other c))
      ]

  entry-filled : (cache set : ℕ) → numbers (next cache set) ≡ numbers (lines cache set)
  entry-filled cache set = elim (cases_eq cache (cache_of entry)) as (λ _. numbers (next cache set) ≡ numbers (lines cache set)) [
    | inl mine ↦ elim (cases_eq set (line_of entry % sets)) as (λ _. numbers (next cache set) ≡ numbers (lines cache set)) [
      | inl beside ↦ subst (λ k. numbers (next k set) ≡ numbers (lines k set)) (sym mine)
          (subst (λ s. numbers (next (cache_of entry) s) ≡ numbers (lines (cache_of entry) s)) (sym beside)
          (ap numbers here ∙ numbers-with (lines (cache_of entry) (line_of entry % sets)) (line_of entry) _))
      | inr away ↦ ap numbers (else_same cache set (λ c s. away s))
    ]
    | inr away ↦ ap numbers (else_same cache set (λ c s. away c))
  ]

  pub entry-follows : fold_of sets next ≡ after_entry letters entry
  entry-follows = same_letters _ _ _ _ entry-letter entry-filled

-- What a set of the master becomes.
module _ (sets ways : ℕ) (xs : List HeldLine) (line : ℕ) (victim : Option ℕ) (letter : Letter)
    (all : AllIn sets (line % sets) xs) (is : is_held letter ≡ true)
    (makes_room : victim ≡ victim_of ways (letter_in xs line) (numbers xs)) where
  abbrev pushed : List HeldLine
  pushed = without_that victim xs ++ record { line = line; letter = letter } ∷ []

  lacking : is_held (letter_in xs line) ≡ false → is_held (letter_in (without_that victim xs) line) ≡ false
  lacking none = ap is_held (letter-filter (λ l. not (is_that victim l)) xs line) ∙ by (not (is_that victim line))
    where
      by : (b : Bool) → is_held (if b then letter_in xs line else I) ≡ false
      by true = none
      by false = refl

  pub finished-same : letter_in (finished line victim letter xs) line ≡ letter
  finished-same = elim (cases_Bool (is_held (letter_in xs line))) as (λ _. letter_in (finished line victim letter xs) line ≡ letter) [
    | inl has ↦ rw has (with-same xs line letter has)
    | inr none ↦ rw none (push-same sets (line % sets) (without_that victim xs) line letter
        (all-filter (λ l. not (is_that victim l)) sets (line % sets) xs all) (lacking none))
  ]

  no_victim : is_held (letter_in xs line) ≡ true → victim ≡ None
  no_victim has = makes_room ∙ rw has refl

  pub finished-other : (other : ℕ) → other ≢ line
      → letter_in (finished line victim letter xs) other ≡ (if is_that victim other then I else letter_in xs other)
  finished-other other ne = elim (cases_Bool (is_held (letter_in xs line)))
      as (λ _. letter_in (finished line victim letter xs) other ≡ (if is_that victim other then I else letter_in xs other)) [
        | inl has ↦ rw (has, no_victim has) (with-other xs line other letter ne)
        | inr none ↦ rw none (push-other (without_that victim xs) line other letter ne
            ∙ (letter-filter (λ l. not (is_that victim l)) xs other ∙ by (is_that victim other)))
      ]
    where
      by : (b : Bool) → (if not b then letter_in xs other else I) ≡ (if b then I else letter_in xs other)
      by true = refl
      by false = refl

  pub finished-numbers : numbers (finished line victim letter xs) ≡ (if is_held (letter_in xs line) then numbers xs
      else (filter (λ l. not (is_that victim l)) (numbers xs) ++ line ∷ []))
  finished-numbers = elim (cases_Bool (is_held (letter_in xs line))) as (λ _. numbers (finished line victim letter xs)
      ≡ (if is_held (letter_in xs line) then numbers xs else (filter (λ l. not (is_that victim l)) (numbers xs) ++ line ∷ []))) [
        | inl has ↦ rw has (numbers-with xs line letter)
        | inr none ↦ rw none (numbers-push (without_that victim xs) line letter
            ∙ ap (λ ns. ns ++ line ∷ []) (numbers-filter (λ l. not (is_that victim l)) xs))
      ]

  pub finished-all : AllIn sets (line % sets) (finished line victim letter xs)
  finished-all = elim (cases_Bool (is_held (letter_in xs line))) as (λ _. AllIn sets (line % sets) (finished line victim letter xs)) [
    | inl has ↦ rw has (all-with sets (line % sets) xs line letter all is)
    | inr none ↦ rw none (all-push sets (line % sets) (without_that victim xs) line letter
        (all-filter (λ l. not (is_that victim l)) sets (line % sets) xs all) is refl)
  ]

  module _ (some : 0 < ways) (few : length xs ≤ ways) where
    -- There is room where the line isn't held.
    pub finished-room : is_held (letter_in xs line) ≡ false → length (without_that victim xs) + 1 ≤ ways
    finished-room none = elim (cases_Bool (nat_lt (length xs) ways)) as (λ _. length (without_that victim xs) + 1 ≤ ways) [
      | inl less ↦
          (let below = ltb-true (length xs) ways less in
          let kept = length-filter_le (λ l. not (is_that victim l)) xs in
          omega (arith, below, kept))
      | inr full ↦ by xs few (rw (none, length-numbers, full) at makes_room) full
    ]
      where
        length-numbers : length (numbers xs) ≡ length xs
        length-numbers = map-length xs
          where
            map-length : (ys : List HeldLine) → length (numbers ys) ≡ length ys
            map-length [] = refl
            map-length (y ∷ ys) = ap suc (map-length ys)

        by : (ys : List HeldLine) → length ys ≤ ways → victim ≡ slice_get (numbers ys) 0 → nat_lt (length ys) ways ≡ false
            → length (without_that victim ys) + 1 ≤ ways
        by [] short first not_less = absurd (both_ways (nat_lt 0 ways) not_less (lt-ltb 0 ways some))
        by (y ∷ ys) short first not_less =
            let gone : not (is_that victim y.line) ≡ false = rw (first, eq-eqb y.line y.line refl) refl in
            let kept = length-filter_le (λ l. not (is_that victim l)) ys in
            rw gone (omega (arith, kept, short))

    pub finished-length : length (finished line victim letter xs) ≤ ways
    finished-length = elim (cases_Bool (is_held (letter_in xs line))) as (λ _. length (finished line victim letter xs) ≤ ways) [
      | inl has ↦ rw has (omega (arith, length-with xs line letter, few))
      | inr none ↦ rw none (omega (
        arith,
        length-append (without_that victim xs) (record { line = line; letter = letter } ∷ []),
        finished-room none,
      ))
    ]

-- What a set of another cache becomes.
module _ (sets set : ℕ) (xs : List HeldLine) (line : ℕ) (im : Bool) (all : AllIn sets set xs) where
  pub acted-same : letter_in (acted line im xs) line ≡ after_act (letter_in xs line) im
  acted-same = by im
    where
      gone : is_held (letter_in xs line) ≡ false → letter_in xs line ≡ after_act (letter_in xs line) false
      gone none = let invalid = held-not (letter_in xs line) none in rw invalid refl

      by : (im : Bool) → letter_in (acted line im xs) line ≡ after_act (letter_in xs line) im
      by true = letter-filter (λ l. not (l == line)) xs line ∙ rw (eq-eqb line line refl) refl
      by false = elim (cases_Bool (is_held (letter_in xs line)))
          as (λ _. letter_in (acted line false xs) line ≡ after_act (letter_in xs line) false) [
            | inl has ↦ with-same xs line (after_act (letter_in xs line) false) has
            | inr none ↦ ap (λ ys. letter_in ys line) (with-none sets set xs line (after_act (letter_in xs line) false) all none) ∙ gone none
          ]

  pub acted-other : (other : ℕ) → other ≢ line → letter_in (acted line im xs) other ≡ letter_in xs other
  acted-other other ne = by im
    where
      by : (im : Bool) → letter_in (acted line im xs) other ≡ letter_in xs other
      by true = letter-filter (λ l. not (l == line)) xs other ∙ rw (ne_eqb other line ne) refl
      by false = with-other xs line other (after_act (letter_in xs line) false) ne

  pub acted-numbers : numbers (acted line im xs) ≡ (if im then filter (λ l. not (l == line)) (numbers xs) else numbers xs)
  acted-numbers = by im
    where
      by : (im : Bool) → numbers (acted line im xs) ≡ (if im then filter (λ l. not (l == line)) (numbers xs) else numbers xs)
      by true = numbers-filter (λ l. not (l == line)) xs
      by false = numbers-with xs line (after_act (letter_in xs line) false)

  pub acted-all : AllIn sets set (acted line im xs)
  acted-all = by im
    where
      stays : (x : Letter) → is_held x ≡ true → is_held (after_act x false) ≡ true
      stays M h = refl
      stays O h = refl
      stays E h = refl
      stays S h = refl
      stays I h = cc

      by : (im : Bool) → AllIn sets set (acted line im xs)
      by true = all-filter (λ l. not (l == line)) sets set xs all
      by false = elim (cases_Bool (is_held (letter_in xs line))) as (λ _. AllIn sets set (acted line false xs)) [
        | inl has ↦ all-with sets set xs line (after_act (letter_in xs line) false) all (stays (letter_in xs line) has)
        | inr none ↦ subst (AllIn sets set) (sym (with-none sets set xs line (after_act (letter_in xs line) false) all none)) all
      ]

  pub acted-length : length (acted line im xs) ≤ length xs
  acted-length = by im
    where
      by : (im : Bool) → length (acted line im xs) ≤ length xs
      by true = length-filter_le (λ l. not (l == line)) xs
      by false = let same = length-with xs line (after_act (letter_in xs line) false) in omega (arith, same)

-- A transaction.
module _ (sets ways : ℕ) (lines next : ℕ → ℕ → List HeldLine) (bus : Transaction)
    (all : (cache set : ℕ) → AllIn sets set (lines cache set))
    (is : is_held bus.letter ≡ true)
    (makes_room : bus.victim ≡ victim_of ways (letter_in (lines bus.master (bus.line % sets)) bus.line)
    (numbers (lines bus.master (bus.line % sets))))
    (mine : next bus.master (bus.line % sets) ≡ finished bus.line bus.victim bus.letter (lines bus.master (bus.line % sets)))
    (beside : (cache : ℕ) → cache ≢ bus.master → next cache (bus.line % sets) ≡ acted bus.line bus.im (lines cache (bus.line % sets)))
    (else_same : (cache set : ℕ) → set ≢ bus.line % sets → next cache set ≡ lines cache set) where
  abbrev before : LettersValue
  before = fold_of sets lines

  abbrev caches : Caches
  caches = all_with moesi sets ways

  abbrev own : List HeldLine
  own = lines bus.master (bus.line % sets)

  -- The victim stands in the set.
  victim-there : (line : ℕ) → line % sets ≢ bus.line % sets → is_that bus.victim line ≡ false
  victim-there line away = by own (all bus.master (bus.line % sets)) makes_room
    where
      first : (ys : List HeldLine) → AllIn sets (bus.line % sets) ys → (that : Option ℕ) → that ≡ slice_get (numbers ys) 0
          → is_that that line ≡ false
      first [] h that e = rw e refl
      first (y ∷ ys) h that e = rw e (ne_eqb line y.line (λ same. away (ap (λ n. n % sets) same ∙ h.0.here)))

      by : (ys : List HeldLine) → AllIn sets (bus.line % sets) ys → bus.victim ≡ victim_of ways (letter_in ys bus.line) (numbers ys)
          → is_that bus.victim line ≡ false
      by ys h e = cut (is_held (letter_in ys bus.line)) (nat_lt (length (numbers ys)) ways) e
        where
          cut : (held less : Bool) → bus.victim ≡ (if held then None else (if less then None else slice_get (numbers ys) 0))
              → is_that bus.victim line ≡ false
          cut true less e = rw e refl
          cut false true e = rw e refl
          cut false false e = first ys h bus.victim e

  abbrev Letter-at : ℕ → ℕ → Type 0
  Letter-at cache line = letter_in (next cache (line % sets)) line ≡ letter_after_transaction caches before bus cache line

  master-line : Letter-at bus.master bus.line
  master-line = ap (λ xs. letter_in xs bus.line) mine
      ∙ (finished-same sets ways own bus.line bus.victim bus.letter (all bus.master (bus.line % sets)) is makes_room
      ∙ sym (bus-master caches before bus))

  abbrev kept : ℕ → Letter
  kept line = if is_that bus.victim line then I else letter_in (lines bus.master (line % sets)) line

  master-kept : (line : ℕ) → line ≢ bus.line → letter_in (next bus.master (line % sets)) line ≡ kept line
  master-kept line ne = elim (cases_eq (line % sets) (bus.line % sets))
      as (λ _. letter_in (next bus.master (line % sets)) line ≡ kept line) [
        | inl same ↦ subst (λ s. letter_in (next bus.master s) line
            ≡ (if is_that bus.victim line then I else letter_in (lines bus.master s) line)) (sym same)
            (ap (λ xs. letter_in xs line) mine
            ∙ finished-other sets ways own bus.line bus.victim bus.letter (all bus.master (bus.line % sets)) is makes_room line ne)
        | inr away ↦ ap (λ xs. letter_in xs line) (else_same bus.master (line % sets) away) ∙ rw (victim-there line away) refl
      ]

  master-letter : (line : ℕ) → Letter-at bus.master line
  master-letter line = elim (cases_eq line bus.line) as (λ _. Letter-at bus.master line) [
    | inl same ↦ subst (λ l. Letter-at bus.master l) (sym same) master-line
    | inr ne ↦ master-kept line ne ∙ rw (eq-eqb bus.master bus.master refl, ne_eqb line bus.line ne) refl
  ]

  slave-letter : (cache line : ℕ) → cache ≢ bus.master → Letter-at cache line
  slave-letter cache line other = elim (cases_eq line bus.line) as (λ _. Letter-at cache line) [
    | inl same ↦ subst (λ l. Letter-at cache l) (sym same)
        (ap (λ xs. letter_in xs bus.line) (beside cache other)
        ∙ (acted-same sets (bus.line % sets) (lines cache (bus.line % sets)) bus.line bus.im (all cache (bus.line % sets))
        ∙ sym (bus-slave caches before bus cache other)))
    | inr ne ↦ stays line ne ∙ rw (ne_eqb cache bus.master other, ne_eqb line bus.line ne) refl
  ]
    where
      stays : (line : ℕ) → line ≢ bus.line → letter_in (next cache (line % sets)) line ≡ letter_in (lines cache (line % sets)) line
      stays line ne = elim (cases_eq (line % sets) (bus.line % sets))
          as (λ _. letter_in (next cache (line % sets)) line ≡ letter_in (lines cache (line % sets)) line) [
            | inl same ↦ subst (λ s. letter_in (next cache s) line ≡ letter_in (lines cache s) line) (sym same)
                (ap (λ xs. letter_in xs line) (beside cache other)
                ∙ acted-other sets (bus.line % sets) (lines cache (bus.line % sets)) bus.line bus.im (all cache (bus.line % sets)) line ne)
            | inr away ↦ ap (λ xs. letter_in xs line) (else_same cache (line % sets) away)
          ]

  bus-letter : (cache line : ℕ) → Letter-at cache line
  bus-letter cache line = elim (cases_eq cache bus.master) as (λ _. Letter-at cache line) [
    | inl same ↦ subst (λ k. Letter-at k line) (sym same) (master-letter line)
    | inr other ↦ slave-letter cache line other
  ]

  abbrev Filled-at : ℕ → ℕ → Type 0
  Filled-at cache set = numbers (next cache set) ≡ (if set == bus.line % sets
      then filled_after_transaction before bus cache (numbers (lines cache set))
      else numbers (lines cache set))

  master-filled : Filled-at bus.master (bus.line % sets)
  master-filled = rw (eq-eqb (bus.line % sets) (bus.line % sets) refl, eq-eqb bus.master bus.master refl)
      (ap numbers mine ∙ finished-numbers sets ways own bus.line bus.victim bus.letter (all bus.master (bus.line % sets)) is makes_room)

  slave-filled : (cache : ℕ) → cache ≢ bus.master → Filled-at cache (bus.line % sets)
  slave-filled cache other = rw (eq-eqb (bus.line % sets) (bus.line % sets) refl, ne_eqb cache bus.master other)
      (ap numbers (beside cache other)
      ∙ acted-numbers sets (bus.line % sets) (lines cache (bus.line % sets)) bus.line bus.im (all cache (bus.line % sets)))

  bus-filled : (cache set : ℕ) → Filled-at cache set
  bus-filled cache set = elim (cases_eq set (bus.line % sets)) as (λ _. Filled-at cache set) [
    | inl same ↦ subst (λ s. Filled-at cache s) (sym same) (elim (cases_eq cache bus.master) as (λ _. Filled-at cache (bus.line % sets)) [
      | inl mine ↦ subst (λ k. Filled-at k (bus.line % sets)) (sym mine) master-filled
      | inr other ↦ slave-filled cache other
    ])
    | inr away ↦ rw (ne_eqb set (bus.line % sets) away) (ap numbers (else_same cache set away))
  ]

  pub bus-follows : fold_of sets next ≡ after_transaction (all_with moesi sets ways) (fold_of sets lines) bus
  bus-follows = same_letters _ _ _ _ bus-letter bus-filled
