-- What entries and transactions make of single letters, and the letters over an append.
use Rattle.std.proofs.Common.{◌≡◌, ◌≢◌, ℕ, zero, suc, ◌^◌, ◌<◌, ◌⊎◌, inl, inr, Bool, true, false, List, [], ◌∷◌, ◌++◌}
use Rattle.std.proofs.Common.{refl, ap, sym, ◌∙◌, arith}
use Rattle.std.specs.Prelude.{◌==◌, ◌&&◌, not, if◌then◌else◌}
use Rattle.std.proofs.lemmas.Bool.{cases_eq, cases_Bool, both_ways, eq-eqb, eqb-true, ne_eqb, and_parts}
use Rattle.std.proofs.lemmas.Nat.{pow_pos}
use Rattle.access_log.specs.declared.Letter.{Letter}
use Rattle.access_log.specs.declared.Letter.TheVariants.{M, O, E, S, I}
use Rattle.access_log.specs.declared.Entry.{Entry}
use Rattle.access_log.specs.declared.Transaction.{Transaction}
use Rattle.access_log.specs.declared.Item.{Item}
use Rattle.access_log.specs.declared.Item.TheVariants.{Done, Bus}
use Rattle.moesi_master.specs.Moesi.{is_held}
use Rattle.letters.specs.Caches.{Caches}
use Rattle.letters.specs.Fold.{LettersValue, cache_of, line_of, letter_after_entry, after_entry, is_that, letter_after_transaction}
use Rattle.letters.specs.Fold.{after_transaction, letters_after, holders, FollowsFrom}

-- A line that isn't held has the letter I.
pub held-not : (x : Letter) → is_held x ≡ false → x ≡ I
held-not M h = cc
held-not O h = cc
held-not E h = cc
held-not S h = cc
held-not I h = refl

-- Who holds nothing says so.
pub holders-none : (letter : ℕ → ℕ → Letter) (master line n cache : ℕ) → holders letter master line n ≡ 0 → cache < n → cache ≢ master
    → letter cache line ≡ I
holders-none letter master line zero cache none below other = absurd (omega arith)
holders-none letter master line (suc n) cache none below other = elim (cases_eq cache n) as (λ _. letter cache line ≡ I) [
  | inl same ↦
      (let apart : (n == master) ≡ false = ne_eqb n master (λ is. other (same ∙ is)) in
      let bit : (if not (n == master) && is_held (letter n line) then 2 ^ n else 0) ≡ 0 = omega (arith, none) in
      let held : (if is_held (letter n line) then 2 ^ n else 0) ≡ 0 = rw apart at bit in
      ap (λ k. letter k line) same ∙ held-not (letter n line) (no_bit (is_held (letter n line)) held))
  | inr differs ↦ holders-none letter master line n cache (omega (arith, none)) (omega arith) other
]
  where
    no_bit : (held : Bool) → (if held then 2 ^ n else 0) ≡ 0 → held ≡ false
    no_bit true e = (let positive : 0 < 2 ^ n = pow_pos n in absurd (omega arith))
    no_bit false e = refl

-- The letters after a transaction.
module _ (caches : Caches) (letters : LettersValue) (bus : Transaction) where
  pub bus-master : letter_after_transaction caches letters bus bus.master bus.line ≡ bus.letter
  bus-master = rw (eq-eqb bus.master bus.master refl, eq-eqb bus.line bus.line refl) refl

  pub bus-slave : (cache : ℕ) → cache ≢ bus.master → letter_after_transaction caches letters bus cache bus.line
      ≡ (caches.protocol cache).after_act (letters.letter cache bus.line) bus.im
  bus-slave cache other = rw (ne_eqb cache bus.master other, eq-eqb bus.line bus.line refl) refl

  -- Another line keeps its letter or is gone.
  pub bus-else : (cache line : ℕ) → line ≢ bus.line → (letter_after_transaction caches letters bus cache line ≡ letters.letter cache line)
      ⊎ (letter_after_transaction caches letters bus cache line ≡ I)
  bus-else cache line differs = rw (ne_eqb line bus.line differs) (by (cache == bus.master) (is_that bus.victim line))
    where
      by : (mine dropped : Bool) → ((if mine then (if dropped then I else letters.letter cache line) else letters.letter cache line)
          ≡ letters.letter cache line)
          ⊎ ((if mine then (if dropped then I else letters.letter cache line) else letters.letter cache line) ≡ I)
      by true true = inr refl
      by true false = inl refl
      by false dropped = inl refl

  pub bus-gone : (cache line : ℕ) → line ≢ bus.line → letters.letter cache line ≡ I → letter_after_transaction caches letters bus cache line ≡ I
  bus-gone cache line differs none =
      elim (bus-else cache line differs) as (λ _. letter_after_transaction caches letters bus cache line ≡ I)
      [ inl e ↦ e ∙ none | inr e ↦ e ]

  pub bus-was : (test : Letter → Bool) → test I ≡ false → (cache line : ℕ) → line ≢ bus.line
      → test (letter_after_transaction caches letters bus cache line) ≡ true → test (letters.letter cache line) ≡ true
  bus-was test never cache line differs h = elim (bus-else cache line differs) as (λ _. test (letters.letter cache line) ≡ true) [
    | inl e ↦ ap test (sym e) ∙ h
    | inr e ↦ absurd (both_ways (test (letter_after_transaction caches letters bus cache line)) (ap test e ∙ never) h)
  ]

-- The letters after an entry.
module _ (letters : LettersValue) (entry : Entry) where
  pub entry-else : (cache line : ℕ) → (cache ≡ cache_of entry → line ≡ line_of entry → ⊥)
      → letter_after_entry letters entry cache line ≡ letters.letter cache line
  entry-else cache line other = by (cases_Bool ((cache == cache_of entry) && (line == line_of entry)))
    where
      by : (((cache == cache_of entry) && (line == line_of entry)) ≡ true)
          ⊎ (((cache == cache_of entry) && (line == line_of entry)) ≡ false)
          → letter_after_entry letters entry cache line ≡ letters.letter cache line
      by (inl is_so) =
          let same = and_parts (cache == cache_of entry) (line == line_of entry) is_so in
          absurd (other (eqb-true cache (cache_of entry) same.0) (eqb-true line (line_of entry) same.1))
      by (inr isnt) = rw isnt refl

-- Folds over an append.
pub letters_after-append : (caches : Caches) (letters : LettersValue) (xs ys : List Item)
    → letters_after caches letters (xs ++ ys) ≡ letters_after caches (letters_after caches letters xs) ys
letters_after-append caches letters [] ys = refl
letters_after-append caches letters (Done e ∷ xs) ys = letters_after-append caches (after_entry letters e) xs ys
letters_after-append caches letters (Bus t ∷ xs) ys = letters_after-append caches (after_transaction caches letters t) xs ys

pub FollowsFrom-append : (caches : Caches) (cores code_lines : ℕ) (letters : LettersValue) (xs ys : List Item)
    → FollowsFrom caches cores code_lines letters xs → FollowsFrom caches cores code_lines (letters_after caches letters xs) ys
    → FollowsFrom caches cores code_lines letters (xs ++ ys)
FollowsFrom-append caches cores code_lines letters [] ys h k = k
FollowsFrom-append caches cores code_lines letters (Done e ∷ xs) ys h k =
    (h.0, FollowsFrom-append caches cores code_lines (after_entry letters e) xs ys h.1 k)
FollowsFrom-append caches cores code_lines letters (Bus t ∷ xs) ys h k =
    (h.0, FollowsFrom-append caches cores code_lines (after_transaction caches letters t) xs ys h.1 k)
