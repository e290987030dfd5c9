-- Main memory once each owner's words are written to it; caches that hold nothing.
use Rattle.std.proofs.Common.{◌≡◌, ◌≢◌, ℕ, ◌+◌, ◌/◌, ◌%◌, ◌<◌, ◌≤◌, inl, inr, false, List}
use Rattle.std.proofs.Common.{[], ◌∷◌, ◌++◌, length, refl, ap, sym, ◌∙◌, arith, subst}
use Rattle.std.specs.Prelude.{Option, slice_index}
use Rattle.std.proofs.Common.{ext_get_or}
use Rattle.std.proofs.lemmas.List.{get_or_past}
use Rattle.std.proofs.lemmas.Bool.{cases_eq, cases_lt}
use Rattle.std.proofs.lemmas.Grind.{common_steps}
use Rattle.access_log.specs.declared.Letter.TheVariants.{I}
use Rattle.moesi_master.specs.Moesi.{is_dirty}
use Rattle.cache_ram.specs.declared.line.Line.{Line}
use Rattle.cache_ram.specs.Lines.{letter_in, filled_in}
use Rattle.coherence.specs.Coherence.{IsCoherent, Agrees}
use Rattle.cache_bus.specs.Caches.{cache_at, letters_in, words_in, AreEmpty, Gathered}

-- A cache that isn't there holds nothing.
pub letter-empty : (l : ℕ) → letter_in [] l ≡ I
unfolding letter_in
letter-empty l = refl

pub filled-empty : (set : ℕ) → filled_in [] set ≡ []
unfolding filled_in
filled-empty set = refl

pub letter-past : (caches : List (List (Option Line))) (cache line : ℕ) → length caches ≤ cache → letters_in caches cache line ≡ I
letter-past caches cache line le = ap (λ slots. letter_in slots line) (get_or_past caches cache [] le) ∙ letter-empty line

-- Where no cache of the list owns a line, none does.
pub no-owner : (caches : List (List (Option Line))) (line n : ℕ) → n ≡ length caches
    → ((cache : ℕ) → cache < n → is_dirty (letters_in caches cache line) ≡ false) → (cache : ℕ)
    → is_dirty (letters_in caches cache line) ≡ false
no-owner caches line n e below cache = elim (cases_lt cache n) as (λ _. is_dirty (letters_in caches cache line) ≡ false) [
  | inl lt ↦ below cache lt
  | inr le ↦ ap is_dirty (letter-past caches cache line (omega (arith, e, le)))
]

-- One line more is gathered.
pub gathered-next : (caches : List (List (Option Line))) (n : ℕ) (old now new : List ℕ) → Gathered n caches old now
    → length new ≡ length now
    → ((i : ℕ) → i / 2 ≢ n → slice_index new i ≡ slice_index now i)
    → ((memory : List ℕ) → Agrees (letters_in caches) (words_in caches) memory
    → ((i : ℕ) → i / 2 ≡ n → ((cache : ℕ) → is_dirty (letters_in caches cache n) ≡ false) → slice_index now i ≡ slice_index memory i)
    → (i : ℕ) → i / 2 ≡ n → slice_index new i ≡ slice_index memory i)
    → Gathered (n + 1) caches old new
gathered-next caches n old now new was len others owned = record {
  len = len ∙ was.len;
  rest = λ i le. (let o : i / 2 ≢ n = (λ e. omega arith) in let l : n ≤ i / 2 = omega arith in others i o ∙ was.rest i l);
  done = λ memory coherent agrees i lt. elim (cases_eq (i / 2) n) as (λ _. slice_index new i ≡ slice_index memory i) [
    | inl e ↦
        owned memory agrees (λ j q none.
        (let l : n ≤ j / 2 = omega arith in
        was.rest j l ∙ coherent.clean j (λ cache. ap (λ z. is_dirty (letters_in caches cache z)) q ∙ none cache))) i e
    | inr o ↦ (let l : i / 2 < n = omega arith in others i o ∙ was.done memory coherent agrees i l)
  ];
}

-- All lines are.
pub gathered-all : (caches : List (List (Option Line))) (n : ℕ) (old now memory : List ℕ) → n ≡ length old / 2 → length old % 2 ≡ 0
    → Gathered n caches old now → IsCoherent (length caches) (letters_in caches) memory old
    → Agrees (letters_in caches) (words_in caches) memory → now ≡ memory
gathered-all caches n old now memory e even was coherent agrees =
    ext_get_or 0 now memory (was.len ∙ coherent.size) (λ i lt. was.done memory coherent agrees i (let len = was.len in omega arith))

-- No caches.
pub empty-none : (sets : ℕ) (caches : List (List (Option Line))) → caches ≡ [] → AreEmpty 0 sets caches
empty-none sets caches e =
    let P : List (List (Option Line)) → Type 0 = λ z. AreEmpty 0 sets z in
    subst P (sym e) (record {
      len = refl;
      letters = λ cache line. letter-empty line;
      filled = λ cache set. filled-empty set;
      sizes = λ cache lt. absurd (omega arith);
    })

module _ (caches : List (List (Option Line))) (slots : List (Option Line)) where
  cache-last : cache_at (caches ++ slots ∷ []) (length caches) ≡ slots
  cache-last = grind (arith, common_steps)

  cache-before : (cache : ℕ) → cache < length caches → cache_at (caches ++ slots ∷ []) cache ≡ cache_at caches cache
  cache-before cache lt = grind (arith, common_steps)

  cache-beyond : (cache : ℕ) → length caches < cache → cache_at (caches ++ slots ∷ []) cache ≡ []
  cache-beyond cache lt =
      let len : length (caches ++ slots ∷ []) ≡ length caches + 1 = grind (arith, common_steps) in
      get_or_past (caches ++ slots ∷ []) cache [] (omega (arith, len, lt))

  -- What holds of each cache holds of each with one more.
  cache-pushed : (P : List (Option Line) → Type 0) → P [] → P slots → ((cache : ℕ) → P (cache_at caches cache))
      → (cache : ℕ) → P (cache_at (caches ++ slots ∷ []) cache)
  cache-pushed P none last old cache = elim (cases_eq cache (length caches)) as (λ _. P (cache_at (caches ++ slots ∷ []) cache)) [
    | inl e ↦ subst P (sym (ap (λ z. cache_at (caches ++ slots ∷ []) z) e ∙ cache-last)) last
    | inr ne ↦ elim (cases_lt cache (length caches)) as (λ _. P (cache_at (caches ++ slots ∷ []) cache)) [
      | inl lt ↦ subst P (sym (cache-before cache lt)) (old cache)
      | inr le ↦ subst P (sym (cache-beyond cache (omega (arith, ne, le)))) none
    ]
  ]

  -- One empty cache more.
  pub empty-pushed : (count sets : ℕ) (new : List (List (Option Line))) → AreEmpty count sets caches → length slots ≡ sets
      → ((l : ℕ) → letter_in slots l ≡ I) → ((set : ℕ) → filled_in slots set ≡ []) → new ≡ caches ++ slots ∷ []
      → AreEmpty (count + 1) sets new
  empty-pushed count sets new old size letters_are filled_are e =
      let P : List (List (Option Line)) → Type 0 = λ z. AreEmpty (count + 1) sets z in
      subst P (sym e) (record {
        len = (let n = old.len in
            let m : length (caches ++ slots ∷ []) ≡ length caches + 1 = grind (arith, common_steps) in
            omega (arith, n, m));
        letters = cache-pushed (λ x. (l : ℕ) → letter_in x l ≡ I) letter-empty letters_are old.letters;
        filled = cache-pushed (λ x. (set : ℕ) → filled_in x set ≡ []) filled-empty filled_are old.filled;
        sizes = λ cache lt. elim (cases_eq cache (length caches)) as (λ _. length (cache_at (caches ++ slots ∷ []) cache) ≡ sets) [
          | inl g ↦ ap (λ z. length (cache_at (caches ++ slots ∷ []) z)) g ∙ (ap length cache-last ∙ size)
          | inr ne ↦
              (let n = old.len in
              let b : cache < length caches = omega (arith, n, ne, lt) in
              let d : cache < count = omega (arith, n, b) in
              ap length (cache-before cache b) ∙ old.sizes cache d)
        ];
      })
