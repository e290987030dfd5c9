-- What becomes of the letters and the numbers of a set.
use Rattle.std.proofs.Common.{◌≡◌, ◌≢◌, ℕ, suc, ◌%◌, ◌≤◌, ◌⊎◌, inl, inr, Bool, true, false, List, [], ◌∷◌, ◌++◌}
use Rattle.std.proofs.Common.{length, refl, ap, sym, ◌∙◌, arith}
use Rattle.std.specs.Prelude.{◌==◌, if◌then◌else◌, filter}
use Rattle.std.specs.List.{AllByRecursion}
use Rattle.std.proofs.lemmas.Bool.{cases_eq, both_ways, eq-eqb, ne_eqb}
use Rattle.access_log.specs.declared.Letter.{Letter}
use Rattle.access_log.specs.declared.Letter.TheVariants.{I}
use Rattle.moesi_master.specs.Moesi.{is_held}
use Rattle.item_check.specs.declared.held.HeldLine.{HeldLine}
use Rattle.item_check.specs.Held.{letter_in, numbers, with_letter, IsInSet}

-- All lines may stand in a set.
abbrev pub AllIn : ℕ → ℕ → List HeldLine → Type 0
AllIn sets set lines = AllByRecursion (IsInSet sets set) lines

-- Lines that pass a test of their numbers.
module _ (test : ℕ → Bool) where
  pub numbers-filter : (lines : List HeldLine) → numbers (filter (λ held. test held.line) lines) ≡ filter test (numbers lines)
  numbers-filter [] = refl
  numbers-filter (held ∷ more) = by (test held.line) refl (numbers-filter more)
    where
      by : (b : Bool) → test held.line ≡ b → numbers (filter (λ held. test held.line) more) ≡ filter test (numbers more)
          → numbers (filter (λ held. test held.line) (held ∷ more)) ≡ filter test (numbers (held ∷ more))
      by true e rest = rw e (ap (λ ns. held.line ∷ ns) rest)
      by false e rest = rw e rest

  pub letter-filter : (lines : List HeldLine) (line : ℕ) → letter_in (filter (λ held. test held.line) lines) line
      ≡ (if test line then letter_in lines line else I)
  letter-filter [] line = by (test line)
    where
      by : (b : Bool) → I ≡ (if b then I else I)
      by true = refl
      by false = refl
  letter-filter (held ∷ more) line = by (test held.line) refl (cases_eq held.line line) (letter-filter more line)
    where
      by : (b : Bool) → test held.line ≡ b → (held.line ≡ line) ⊎ (held.line ≢ line)
          → letter_in (filter (λ held. test held.line) more) line ≡ (if test line then letter_in more line else I)
          → letter_in (filter (λ held. test held.line) (held ∷ more)) line ≡ (if test line then letter_in (held ∷ more) line else I)
      by true e (inl same) rest =
          let passes : test line ≡ true = ap test (sym same) ∙ e in
          rw (e, passes, eq-eqb held.line line same) refl
      by true e (inr other) rest = rw (e, ne_eqb held.line line other) rest
      by false e (inl same) rest =
          let fails : test line ≡ false = ap test (sym same) ∙ e in
          rw (e, fails) (rest ∙ ap (λ b. if b then letter_in more line else I) fails)
      by false e (inr other) rest = rw (e, ne_eqb held.line line other) rest

  pub all-filter : (sets set : ℕ) (lines : List HeldLine) → AllIn sets set lines → AllIn sets set (filter (λ held. test held.line) lines)
  all-filter sets set [] h = tt
  all-filter sets set (held ∷ more) h = by (test held.line) refl (all-filter sets set more h.1)
    where
      by : (b : Bool) → test held.line ≡ b → AllIn sets set (filter (λ held. test held.line) more)
          → AllIn sets set (filter (λ held. test held.line) (held ∷ more))
      by true e rest = rw e (h.0, rest)
      by false e rest = rw e rest

  pub length-filter_le : (lines : List HeldLine) → length (filter (λ held. test held.line) lines) ≤ length lines
  length-filter_le [] = omega arith
  length-filter_le (held ∷ more) = by (test held.line) refl (length-filter_le more)
    where
      by : (b : Bool) → test held.line ≡ b → length (filter (λ held. test held.line) more) ≤ length more
          → length (filter (λ held. test held.line) (held ∷ more)) ≤ length (held ∷ more)
      by true e rest = rw e (omega (arith, rest))
      by false e rest = rw e (omega (arith, rest))

-- A line with another letter.
pub numbers-with : (lines : List HeldLine) (line : ℕ) (letter : Letter) → numbers (with_letter lines line letter) ≡ numbers lines
numbers-with [] line letter = refl
numbers-with (held ∷ more) line letter = by (cases_eq held.line line) (numbers-with more line letter)
  where
    by : (held.line ≡ line) ⊎ (held.line ≢ line) → numbers (with_letter more line letter) ≡ numbers more
        → numbers (with_letter (held ∷ more) line letter) ≡ numbers (held ∷ more)
    by (inl same) rest = rw (eq-eqb held.line line same) (ap (λ n. n ∷ numbers more) (sym same))
    by (inr other) rest = rw (ne_eqb held.line line other) (ap (λ ns. held.line ∷ ns) rest)

pub length-with : (lines : List HeldLine) (line : ℕ) (letter : Letter) → length (with_letter lines line letter) ≡ length lines
length-with [] line letter = refl
length-with (held ∷ more) line letter = by (held.line == line) refl (length-with more line letter)
  where
    by : (b : Bool) → (held.line == line) ≡ b → length (with_letter more line letter) ≡ length more
        → length (with_letter (held ∷ more) line letter) ≡ length (held ∷ more)
    by true e rest = rw e refl
    by false e rest = rw e (ap suc rest)

pub with-other : (lines : List HeldLine) (line other : ℕ) (letter : Letter) → other ≢ line
    → letter_in (with_letter lines line letter) other ≡ letter_in lines other
with-other [] line other letter ne = refl
with-other (held ∷ more) line other letter ne = by (cases_eq held.line line) (with-other more line other letter ne)
  where
    by : (held.line ≡ line) ⊎ (held.line ≢ line) → letter_in (with_letter more line letter) other ≡ letter_in more other
        → letter_in (with_letter (held ∷ more) line letter) other ≡ letter_in (held ∷ more) other
    by (inl same) rest =
        let apart : (line == other) ≡ false = ne_eqb line other (λ e. ne (sym e)) in
        let differs : (held.line == other) ≡ false = ne_eqb held.line other (λ e. ne (sym e ∙ same)) in
        rw (eq-eqb held.line line same, differs, apart) refl
    by (inr differs) rest = rw (ne_eqb held.line line differs) (ap (λ x. if held.line == other then held.letter else x) rest)

pub with-same : (lines : List HeldLine) (line : ℕ) (letter : Letter) → is_held (letter_in lines line) ≡ true
    → letter_in (with_letter lines line letter) line ≡ letter
with-same [] line letter h = absurd (both_ways (is_held I) refl h)
with-same (held ∷ more) line letter h = by (held.line == line) refl (with-same more line letter)
  where
    by : (b : Bool) → (held.line == line) ≡ b
        → (is_held (letter_in more line) ≡ true → letter_in (with_letter more line letter) line ≡ letter)
        → letter_in (with_letter (held ∷ more) line letter) line ≡ letter
    by true e rest = rw (e, eq-eqb line line refl) refl
    by false e rest = rw (e, e) (rest (rw e at h))

-- A line that isn't held stands nowhere.
pub with-none : (sets set : ℕ) (lines : List HeldLine) (line : ℕ) (letter : Letter) → AllIn sets set lines
    → is_held (letter_in lines line) ≡ false → with_letter lines line letter ≡ lines
with-none sets set [] line letter h none = refl
with-none sets set (held ∷ more) line letter h none = by (held.line == line) refl (with-none sets set more line letter h.1)
  where
    by : (b : Bool) → (held.line == line) ≡ b → (is_held (letter_in more line) ≡ false → with_letter more line letter ≡ more)
        → with_letter (held ∷ more) line letter ≡ held ∷ more
    by true e rest =
        let gone : is_held held.letter ≡ false = rw e at none in
        absurd (both_ways (is_held held.letter) gone h.0.held)
    by false e rest = rw e (ap (λ lines. held ∷ lines) (rest (rw e at none)))

pub all-with : (sets set : ℕ) (lines : List HeldLine) (line : ℕ) (letter : Letter) → AllIn sets set lines → is_held letter ≡ true
    → AllIn sets set (with_letter lines line letter)
all-with sets set [] line letter h is = tt
all-with sets set (held ∷ more) line letter h is = by (cases_eq held.line line) (all-with sets set more line letter h.1 is)
  where
    by : (held.line ≡ line) ⊎ (held.line ≢ line) → AllIn sets set (with_letter more line letter)
        → AllIn sets set (with_letter (held ∷ more) line letter)
    by (inl same) rest = rw (eq-eqb held.line line same) (record { held = is; here = ap (λ n. n % sets) (sym same) ∙ h.0.here }, h.1)
    by (inr other) rest = rw (ne_eqb held.line line other) (h.0, rest)

-- A line that is filled.
pub numbers-push : (lines : List HeldLine) (line : ℕ) (letter : Letter)
    → numbers (lines ++ record { line = line; letter = letter } ∷ []) ≡ numbers lines ++ line ∷ []
numbers-push [] line letter = refl
numbers-push (held ∷ more) line letter = ap (λ ns. held.line ∷ ns) (numbers-push more line letter)

pub push-other : (lines : List HeldLine) (line other : ℕ) (letter : Letter) → other ≢ line
    → letter_in (lines ++ record { line = line; letter = letter } ∷ []) other ≡ letter_in lines other
push-other [] line other letter ne = rw (ne_eqb line other (λ e. ne (sym e))) refl
push-other (held ∷ more) line other letter ne =
    ap (λ x. if held.line == other then held.letter else x) (push-other more line other letter ne)

pub push-same : (sets set : ℕ) (lines : List HeldLine) (line : ℕ) (letter : Letter) → AllIn sets set lines
    → is_held (letter_in lines line) ≡ false
    → letter_in (lines ++ record { line = line; letter = letter } ∷ []) line ≡ letter
push-same sets set [] line letter h none = rw (eq-eqb line line refl) refl
push-same sets set (held ∷ more) line letter h none = by (held.line == line) refl (push-same sets set more line letter h.1)
  where
    by : (b : Bool) → (held.line == line) ≡ b
        → (is_held (letter_in more line) ≡ false → letter_in (more ++ record { line = line; letter = letter } ∷ []) line ≡ letter)
        → letter_in (held ∷ (more ++ record { line = line; letter = letter } ∷ [])) line ≡ letter
    by true e rest =
        let gone : is_held held.letter ≡ false = rw e at none in
        absurd (both_ways (is_held held.letter) gone h.0.held)
    by false e rest = rw e (rest (rw e at none))

pub all-push : (sets set : ℕ) (lines : List HeldLine) (line : ℕ) (letter : Letter) → AllIn sets set lines → is_held letter ≡ true
    → line % sets ≡ set → AllIn sets set (lines ++ record { line = line; letter = letter } ∷ [])
all-push sets set [] line letter h is here = (record { held = is; here = here }, tt)
all-push sets set (held ∷ more) line letter h is here = (h.0, all-push sets set more line letter h.1 is here)
