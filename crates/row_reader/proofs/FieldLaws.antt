-- Fields one after another in a row.
use Rattle.std.proofs.Common.{◌≡◌, List, [], ◌∷◌, Option, Some, None, ℕ, refl, sym, ap, subst, ◌∙◌}
use Rattle.std.specs.Prelude.{IfSome, MatchOption}
use Rattle.std.proofs.lemmas.Option.{some_pair_parts}
pub use Rattle.std.proofs.lemmas.Option.{same_Some as some_is}
use Rattle.std_laws.proofs.OptionLaws.{none_from_no_some}
use Rattle.row_reader.specs.Rows.{Row}
use Rattle.row_reader.specs.Fields.{◌>>=◌, with_rest, field_at, ended}
use Rattle.row_reader.proofs.PartLaws.{IsRow}

-- the value of a first step that has one
pub bind_some : {A B : Type 0} (r : Option A) (f : A → Option B) (y : B) → (r >>= f) ≡ Some y → (x : A) × (r ≡ Some x) × (f x ≡ Some y)
bind_some (Some x) f y e = (x, refl, e)
bind_some None f y e = absurd cc

-- a part of a row that spells a value, in one way
pub record IsField {X : Type 0} (Fits : X → Type 0) (spell : X → List ℕ) (one : List ℕ → Option X) : Type 0 where
  pub found : (text : List ℕ) (x : X) → one text ≡ Some x → Fits x × (text ≡ spell x)
  pub again : (x : X) → Fits x → one (spell x) ≡ Some x

-- the spelling of a value is read as the value
pub field_is : {X : Type 0} (Fits : X → Type 0) (spell : X → List ℕ) (one : List ℕ → Option X) → IsField Fits spell one
    → (text : List ℕ) (x : X) → Fits x → text ≡ spell x → one text ≡ Some x
field_is Fits spell one law text x fits is = ap one is ∙ law.again x fits

-- a text that spells no value is read as none
pub field_none : {X : Type 0} (Fits : X → Type 0) (spell : X → List ℕ) (one : List ℕ → Option X) → IsField Fits spell one
    → (text : List ℕ) → ((x : X) → Fits x → text ≡ spell x → ⊥) → one text ≡ None
field_none Fits spell one law text other = none_from_no_some (one text) (λ x e. let f = law.found text x e in other x f.0 f.1)

-- a function that finds the value of each spelling, and no other, reads what the field does
pub field_match : {X : Type 0} (Fits : X → Type 0) (spell : X → List ℕ) (one : List ℕ → Option X) → IsField Fits spell one
    → (text : List ℕ) (o : Option X) → IfSome o Fits → MatchOption o ((x : X) → Fits x → text ≡ spell x → ⊥) (λ x. text ≡ spell x)
    → o ≡ one text
field_match Fits spell one law text (Some x) fits is = sym (field_is Fits spell one law text x fits is)
field_match Fits spell one law text None fits other = sym (field_none Fits spell one law text other)

with_rest_some : {X : Type 0} (o : Option X) (parts rest : Row) (x : X) → with_rest o parts ≡ Some (x, rest) → (o ≡ Some x) × (parts ≡ rest)
with_rest_some (Some y) parts rest x e =
    let p = some_pair_parts y x parts rest e in
    (ap (λ z. Some z) p.0, p.1)
with_rest_some None parts rest x e = absurd cc

-- a part that is read is the spelling of its value
pub field_some : {X : Type 0} (Fits : X → Type 0) (spell : X → List ℕ) (one : List ℕ → Option X) → IsField Fits spell one
    → (row rest : Row) (x : X) → field_at one row ≡ Some (x, rest) → Fits x × (row ≡ spell x ∷ rest)
field_some Fits spell one law [] rest x e = absurd cc
field_some Fits spell one law (part ∷ parts) rest x e =
    let p = with_rest_some (one part) parts rest x e in
    let f = law.found part x p.0 in
    (f.0, ap (λ (t : List ℕ). t ∷ parts) f.1 ∙ ap (λ (r : Row). spell x ∷ r) p.1)

-- A field, and what follows it. What is known of the value is kept in Known, and what is to be read in Rest.
pub then_field : {X Z : Type 0} (Fits : X → Type 0) (spell : X → List ℕ) (one : List ℕ → Option X)
    (first : Z → X) (Known Rest : Z → Type 0) (line_more : Z → Row) (read_more : X → Row → Option Z)
    → IsField Fits spell one
    → ((x : X) → Fits x → IsRow (λ z. ((first z ≡ x) × Known z) × Rest z) line_more (read_more x))
    → IsRow (λ z. Known z × (Fits (first z) × Rest z)) (λ z. spell (first z) ∷ line_more z)
    (λ row. field_at one row >>= λ p. read_more p.0 p.1)
then_field Fits spell one first Known Rest line_more read_more law more = record {
  found = λ row z e.
      let b = bind_some (field_at one row) (λ p. read_more p.0 p.1) z e in
      let f = field_some Fits spell one law row b.0.1 b.0.0 b.1 in
      let m = (more b.0.0 f.0).found b.0.1 z b.2 in (
        (m.0.0.1, (subst Fits (sym m.0.0.0) f.0, m.0.1)),
        f.1 ∙ ap (λ (r : Row). spell b.0.0 ∷ r) m.1 ∙ ap (λ x. spell x ∷ line_more z) (sym m.0.0.0),
      );
  again = λ z fits.
      ap (λ o. with_rest o (line_more z) >>= λ p. read_more p.0 p.1) (law.again (first z) fits.1.0)
      ∙ (more (first z) fits.1.0).again z ((refl, fits.0), fits.1.1);
}

ended_some : {Z : Type 0} (w z : Z) (row : Row) → ended w row ≡ Some z → (w ≡ z) × (row ≡ [])
ended_some w z [] e = (some_is w z e, refl)
ended_some w z (part ∷ parts) e = absurd cc

-- the row ends
pub last_field : {Z : Type 0} (w : Z) (Known : Z → Type 0) → ((z : Z) → Known z → w ≡ z) → Known w
    → IsRow (λ z. Known z × Unit {0}) (λ z. []) (ended w)
last_field w Known is known = record {
  found = λ row z e.
      let p = ended_some w z row e in
      ((subst Known p.0 known, tt), p.1);
  again = λ z fits. ap (λ x. Some x) (is z fits.0);
}

-- the same row in other words
pub row_as : {X : Type 0} (Fits Fits' : X → Type 0) (line line' : X → Row) (one : Row → Option X)
    → ((x : X) → Fits x → Fits' x) → ((x : X) → Fits' x → Fits x) → ((x : X) → line x ≡ line' x) → IsRow Fits line one
    → IsRow Fits' line' one
row_as Fits Fits' line line' one to from same law = record {
  found = λ row x e. let f = law.found row x e in (to x f.0, f.1 ∙ same x);
  again = λ x fits. ap one (sym (same x)) ∙ law.again x (from x fits);
}
