-- What entries, write-backs and transactions do to letters, words and main memory: copies stay right.
use Rattle.std.proofs.Common.{◌≡◌, ◌≢◌, ℕ, ◌+◌, ◌*◌, ◌/◌, ◌<◌, ◌≤◌, ◌⊎◌, inl, inr, Bool, true, false, List, length, refl}
use Rattle.std.proofs.Common.{ap, sym, ◌∙◌, arith, subst, get_or-set_same, get_or-set_other, length-set}
use Rattle.std.specs.Prelude.{Option, Some, None, is_some, slice_index, slice_set, ◌==◌, ◌&&◌, if◌then◌else◌}
use Rattle.std.proofs.Math.Path.{fun_ext}
use Rattle.std.proofs.lemmas.Bool.{cases_eq, cases_Bool, cases_lt, both_ways, eq-eqb, ne_eqb, false_from_ne_true}
use Rattle.access_log.specs.declared.Letter.{Letter}
use Rattle.access_log.specs.declared.Letter.TheVariants.{M, I}
use Rattle.access_log.specs.declared.Entry.{Entry}
use Rattle.access_log.specs.declared.Transaction.{Transaction}
use Rattle.access_log.specs.Memory.{after}
use Rattle.mips_isa.specs.Kinds.{with_part}
use Rattle.moesi_master.specs.Moesi.{is_held, is_sole, is_dirty, after_hit, suffices}
use Rattle.letters.specs.Caches.{Caches}
use Rattle.letters.specs.Fold.{LettersValue, letter_after_entry, letter_after_transaction, cache_of}
use Rattle.letters.specs.Fold.{line_of, is_that, holders}
use Rattle.coherence.specs.Coherence.{AreTables, IsCoherent, word_after, with_line}
use Rattle.coherence.proofs.LetterLaws.{sole-held, dirty-held, invalid-sole, invalid-dirty, act-invalid, finish-sole, finish-dirty}
use Rattle.letters.proofs.LetterLaws.{holders-none}

-- One word of a list is another.
set-same : (xs : List ℕ) (i x : ℕ) → i < length xs → slice_index (slice_set xs i x) i ≡ x
set-same xs i x h = get_or-set_same xs i x 0 h

set-other : (xs : List ℕ) (i j x : ℕ) → j ≢ i → slice_index (slice_set xs i x) j ≡ slice_index xs j
set-other xs i j x ne = get_or-set_other xs i j x 0 ne

-- A list with a line of another one.
module _ (main memory : List ℕ) (v : ℕ) where
  pub with_line-length : length (with_line main memory v) ≡ length main
  with_line-length = simp length-set

  pub with_line-other : (i : ℕ) → i / 2 ≢ v → slice_index (with_line main memory v) i ≡ slice_index main i
  with_line-other i ne =
      let a : i ≢ 2 * v = (λ e. ne (omega arith)) in
      let b : i ≢ 2 * v + 1 = (λ e. ne (omega arith)) in
      set-other (slice_set main (2 * v) (slice_index memory (2 * v))) (2 * v + 1) i (slice_index memory (2 * v + 1)) b
      ∙ set-other main (2 * v) i (slice_index memory (2 * v)) a

  pub with_line-same : (i : ℕ) → i / 2 ≡ v → 2 * v + 1 < length main → slice_index (with_line main memory v) i ≡ slice_index memory i
  with_line-same i e lt = elim (cases_eq i (2 * v + 1)) [
    | inl same ↦
        (let P : ℕ → Type 0 = λ m. slice_index (with_line main memory v) m ≡ slice_index memory m in
        let len : length (slice_set main (2 * v) (slice_index memory (2 * v))) ≡ length main = simp length-set in
        subst P (sym same) (set-same (slice_set main (2 * v) (slice_index memory (2 * v))) (2 * v + 1) (slice_index memory (2 * v + 1))
        (omega arith)))
    | inr other ↦
        (let P : ℕ → Type 0 = λ m. slice_index (with_line main memory v) m ≡ slice_index memory m in
        let f : i ≡ 2 * v = omega arith in
        let ne : 2 * v ≢ 2 * v + 1 = (λ e. omega arith) in
        subst P (sym f) (set-other (slice_set main (2 * v) (slice_index memory (2 * v))) (2 * v + 1) (2 * v)
        (slice_index memory (2 * v + 1)) ne
        ∙ set-same main (2 * v) (slice_index memory (2 * v)) (omega arith)))
  ]

-- A line that is held is written back.
pub flush-coherent : (n : ℕ) (f : ℕ → ℕ → Letter) (memory main : List ℕ) (m v : ℕ) → IsCoherent n f memory main → is_held (f m v) ≡ true
    → IsCoherent n f memory (with_line main memory v)
flush-coherent n f memory main m v old held =
    let len : length (with_line main memory v) ≡ length main = with_line-length main memory v in
    let lt = old.inside m v held in
    let same = old.size in
    let room : 2 * v + 1 < length main = omega (arith, lt, same) in
    record {
      within = old.within;
      inside = old.inside;
      alone = old.alone;
      owner = old.owner;
      size = len ∙ old.size;
      clean = λ i none. elim (cases_eq (i / 2) v) [
        | inl e ↦ with_line-same main memory v i e room
        | inr ne ↦ with_line-other main memory v i ne ∙ old.clean i none
      ];
    }

-- The letters after a transaction.
module _ (caches : Caches) (letters : LettersValue) (t : Transaction) where
  abbrev next : ℕ → ℕ → Letter
  next k l = letter_after_transaction caches letters t k l

  abbrev acted : ℕ → ℕ → Letter
  acted k l = (caches.protocol k).after_act (letters.letter k l) t.im

  pub bus-master : (k l : ℕ) → k ≡ t.master → l ≡ t.line → next k l ≡ t.letter
  bus-master k l e g = rw (eq-eqb k t.master e, eq-eqb l t.line g) refl

  pub bus-slave : (k l : ℕ) → k ≢ t.master → l ≡ t.line → next k l ≡ acted k l
  bus-slave k l e g = rw (ne_eqb k t.master e, eq-eqb l t.line g) refl

  pub bus-else : (k l : ℕ) → k ≢ t.master → l ≢ t.line → next k l ≡ letters.letter k l
  bus-else k l e g = rw (ne_eqb k t.master e, ne_eqb l t.line g) refl

  pub bus-kept : (k l : ℕ) → k ≡ t.master → l ≢ t.line → is_that t.victim l ≡ false → next k l ≡ letters.letter k l
  bus-kept k l e g v = rw (eq-eqb k t.master e, ne_eqb l t.line g, v) refl

  pub bus-dropped : (k l : ℕ) → k ≡ t.master → l ≢ t.line → is_that t.victim l ≡ true → next k l ≡ I
  bus-dropped k l e g v = rw (eq-eqb k t.master e, ne_eqb l t.line g, v) refl

  -- Another line keeps its letter or is gone.
  pub bus-shrinks : (k l : ℕ) → l ≢ t.line → (next k l ≡ letters.letter k l) ⊎ (next k l ≡ I)
  bus-shrinks k l ne = elim (cases_eq k t.master) [
    | inl e ↦ elim (cases_Bool (is_that t.victim l)) [
      | inl h ↦ inr (bus-dropped k l e ne h)
      | inr h ↦ inl (bus-kept k l e ne h)
    ]
    | inr o ↦ inl (bus-else k l o ne)
  ]

  -- What a letter other than I has after, off the line, it had before.
  pub bus-was : (test : Letter → Bool) → test I ≡ false → (k l : ℕ) → l ≢ t.line → test (next k l) ≡ true → test (letters.letter k l) ≡ true
  bus-was test never k l ne h = elim (bus-shrinks k l ne) [
    | inl e ↦ ap test (sym e) ∙ h
    | inr e ↦ absurd (both_ways (test (next k l)) (ap test e ∙ never) h)
  ]

  pub bus-gone : (k l : ℕ) → l ≢ t.line → letters.letter k l ≡ I → next k l ≡ I
  bus-gone k l ne h = elim (bus-shrinks k l ne) [ inl e ↦ e ∙ h | inr e ↦ e ]

  -- A transaction whose dirty victim is written back already.
  module _ (n : ℕ) (memory main : List ℕ) (tables : AreTables caches)
      (old : IsCoherent n letters.letter memory main)
      (master : t.master < n)
      (inside : 2 * t.line + 1 < length memory)
      (lacks : suffices (letters.letter t.master t.line) t.im ≡ false)
      (held_by : t.ch ≡ holders letters.letter t.master t.line n)
      (becomes : t.letter ≡ (caches.protocol t.master).after_finish t.im t.ch)
      (written : (i : ℕ) → is_that t.victim (i / 2) ≡ true → is_dirty (letters.letter t.master (i / 2)) ≡ true
      → slice_index main i ≡ slice_index memory i) where
    others-none : t.ch ≡ 0 → (k : ℕ) → k ≢ t.master → letters.letter k t.line ≡ I
    others-none e k ne = elim (cases_lt k n) [
      | inl lt ↦ holders-none letters.letter t.master t.line n k (sym held_by ∙ e) lt ne
      | inr le ↦ old.within k t.line le
    ]

    gone : (j : ℕ) → t.im ≡ true → acted j t.line ≡ I
    gone j e = ap (λ b. (caches.protocol j).after_act (letters.letter j t.line) b) e ∙ (tables.tables j).gone (letters.letter j t.line)

    -- Where the master holds it alone, or dirty, no other one holds it.
    alone-line : (j : ℕ) → is_sole t.letter ≡ true → j ≢ t.master → acted j t.line ≡ I
    alone-line j sole ne =
        elim (finish-sole (caches.protocol t.master) (tables.tables t.master) t.im t.ch (ap is_sole (sym becomes) ∙ sole)) [
          | inl e ↦ gone j e
          | inr e ↦ ap (λ x. (caches.protocol j).after_act x t.im) (others-none e j ne)
              ∙ act-invalid (caches.protocol j) (tables.tables j) t.im
        ]

    owner-line : (j : ℕ) → is_dirty t.letter ≡ true → acted j t.line ≡ I
    owner-line j own = gone j (finish-dirty (caches.protocol t.master) (tables.tables t.master) t.im t.ch (ap is_dirty (sym becomes) ∙ own))

    bus-alone : (k j l : ℕ) → is_sole (next k l) ≡ true → j ≢ k → next j l ≡ I
    bus-alone k j l sole ne = elim (cases_eq l t.line) [
      | inl e ↦ elim (cases_eq k t.master) [
        | inl m ↦
            (let o : j ≢ t.master = (λ q. ne (q ∙ sym m)) in
            bus-slave j l o e ∙ (ap (λ z. acted j z) e ∙ alone-line j (ap is_sole (sym (bus-master k l m e)) ∙ sole) o))
        | inr o ↦ absurd (both_ways (is_sole (next k l)) (ap is_sole (bus-slave k l o e)
            ∙ (tables.tables k).not_sole (letters.letter k l) t.im) sole)
      ]
      | inr o ↦ bus-gone j l o (old.alone k j l (bus-was is_sole refl k l o sole) ne)
    ]

    slave-dirty : (k l : ℕ) → k ≢ t.master → l ≡ t.line → is_dirty (next k l) ≡ true → is_dirty (letters.letter k l) ≡ true
    slave-dirty k l o e h = (tables.tables k).was_dirty (letters.letter k l) t.im (ap is_dirty (sym (bus-slave k l o e)) ∙ h)

    master-dirty : (k j l : ℕ) → k ≡ t.master → j ≢ t.master → l ≡ t.line → is_dirty (next k l) ≡ true → is_dirty (next j l) ≡ true → ⊥
    master-dirty k j l m o e a b =
        both_ways (is_dirty (next j l)) (invalid-dirty (next j l)
        (bus-slave j l o e ∙ (ap (λ z. acted j z) e ∙ owner-line j (ap is_dirty (sym (bus-master k l m e)) ∙ a))))
        b

    bus-owner : (k j l : ℕ) → is_dirty (next k l) ≡ true → is_dirty (next j l) ≡ true → j ≡ k
    bus-owner k j l a b = elim (cases_eq l t.line) [
      | inl e ↦ elim (cases_eq k t.master) [
        | inl m ↦ elim (cases_eq j t.master) [ inl w ↦ w ∙ sym m | inr o ↦ absurd (master-dirty k j l m o e a b) ]
        | inr o ↦ elim (cases_eq j t.master) [
          | inl w ↦ absurd (master-dirty j k l w o e b a)
          | inr u ↦ old.owner k j l (slave-dirty k l o e a) (slave-dirty j l u e b)
        ]
      ]
      | inr o ↦ old.owner k j l (bus-was is_dirty refl k l o a) (bus-was is_dirty refl j l o b)
    ]

    bus-within : (k l : ℕ) → n ≤ k → next k l ≡ I
    bus-within k l le =
        let o : k ≢ t.master = (λ e. omega arith) in
        elim (cases_eq l t.line) [
          | inl e ↦ bus-slave k l o e
              ∙ (ap (λ x. (caches.protocol k).after_act x t.im) (old.within k l le)
              ∙ act-invalid (caches.protocol k) (tables.tables k) t.im)
          | inr u ↦ bus-else k l o u ∙ old.within k l le
        ]

    bus-inside : (k l : ℕ) → is_held (next k l) ≡ true → 2 * l + 1 < length memory
    bus-inside k l h = elim (cases_eq l t.line) [
      | inl e ↦ (let P : ℕ → Type 0 = λ z. 2 * z + 1 < length memory in subst P (sym e) inside)
      | inr o ↦ old.inside k l (bus-was is_held refl k l o h)
    ]

    -- Where no one holds a line dirty after, it was in main memory before.
    clean-line : (i : ℕ) → i / 2 ≡ t.line → ((k : ℕ) → is_dirty (next k (i / 2)) ≡ false) → (b : Bool) → t.im ≡ b
        → slice_index main i ≡ slice_index memory i
    clean-line i e none true g =
        absurd (both_ways (is_dirty (next t.master (i / 2)))
        (none t.master)
        (ap is_dirty (bus-master t.master (i / 2) refl e
        ∙ (becomes ∙ (ap (λ b. (caches.protocol t.master).after_finish b t.ch) g ∙ (tables.tables t.master).stores t.ch)))))
    clean-line i e none false g = old.clean i (λ k. false_from_ne_true (is_dirty (letters.letter k (i / 2))) (was k))
      where
        lacks-held : is_held (letters.letter t.master t.line) ≡ false
        lacks-held = ap (λ b. suffices (letters.letter t.master t.line) b) (sym g) ∙ lacks

        was : (k : ℕ) → is_dirty (letters.letter k (i / 2)) ≡ true → ⊥
        was k d = elim (cases_eq k t.master) [
          | inl m ↦ both_ways (is_held (letters.letter t.master t.line)) lacks-held (ap is_held (ap (λ z. letters.letter z t.line) (sym m)
              ∙ ap (λ z. letters.letter k z) (sym e)) ∙ dirty-held (letters.letter k (i / 2)) d)
          | inr o ↦ both_ways (is_dirty (next k (i / 2)))
              (none k)
              (ap is_dirty (bus-slave k (i / 2) o e ∙ ap (λ b. (caches.protocol k).after_act (letters.letter k (i / 2)) b) g)
              ∙ tables.keeps k (letters.letter k (i / 2)) d)
        ]

    clean-else : (i : ℕ) → i / 2 ≢ t.line → ((k : ℕ) → is_dirty (next k (i / 2)) ≡ false) → (v d : Bool) → is_that t.victim (i / 2) ≡ v
        → is_dirty (letters.letter t.master (i / 2)) ≡ d → slice_index main i ≡ slice_index memory i
    clean-else i ne none true true is dirty = written i is dirty
    clean-else i ne none true false is dirty = old.clean i was
      where
        was : (k : ℕ) → is_dirty (letters.letter k (i / 2)) ≡ false
        was k = elim (cases_eq k t.master) [
          | inl m ↦ ap (λ z. is_dirty (letters.letter z (i / 2))) m ∙ dirty
          | inr o ↦ ap is_dirty (sym (bus-else k (i / 2) o ne)) ∙ none k
        ]
    clean-else i ne none false d is dirty = old.clean i was
      where
        was : (k : ℕ) → is_dirty (letters.letter k (i / 2)) ≡ false
        was k = elim (cases_eq k t.master) [
          | inl m ↦ ap is_dirty (sym (bus-kept k (i / 2) m ne is)) ∙ none k
          | inr o ↦ ap is_dirty (sym (bus-else k (i / 2) o ne)) ∙ none k
        ]

    pub bus-coherent : IsCoherent n (λ k l. next k l) memory main
    bus-coherent = record {
      within = bus-within;
      inside = bus-inside;
      alone = bus-alone;
      owner = bus-owner;
      size = old.size;
      clean = λ i none. elim (cases_eq (i / 2) t.line) [
        | inl e ↦ clean-line i e none t.im refl
        | inr ne ↦ clean-else i ne none (is_that t.victim (i / 2)) (is_dirty (letters.letter t.master (i / 2))) refl refl
      ];
    }

-- Memory after an entry.
pub after-none : (memory : List ℕ) (e : Entry) → e.new ≡ None → after memory e ≡ memory
unfolding after
after-none memory e is = rw is refl

pub after-length : (memory : List ℕ) (e : Entry) → length (after memory e) ≡ length memory
unfolding after
after-length memory e = by e.new refl
  where
    by : (new : Option ℕ) → e.new ≡ new → length (after memory e) ≡ length memory
    by None is = rw is refl
    by (Some v) is = rw is (simp length-set)

pub after-other : (memory : List ℕ) (e : Entry) (i : ℕ) → i ≢ e.addr / 4 → slice_index (after memory e) i ≡ slice_index memory i
unfolding after
after-other memory e i ne = by e.new refl
  where
    by : (new : Option ℕ) → e.new ≡ new → slice_index (after memory e) i ≡ slice_index memory i
    by None is = rw is refl
    by (Some v) is = rw is (set-other memory (e.addr / 4) i (with_part e.kind e.addr (slice_index memory (e.addr / 4)) v) ne)

pub after-here : (memory : List ℕ) (e : Entry) → e.addr / 4 < length memory
    → slice_index (after memory e) (e.addr / 4) ≡ word_after e e.new (slice_index memory (e.addr / 4))
unfolding after
after-here memory e lt = by e.new refl
  where
    by : (new : Option ℕ) → e.new ≡ new → slice_index (after memory e) (e.addr / 4) ≡ word_after e new (slice_index memory (e.addr / 4))
    by None is = rw is refl
    by (Some v) is = rw is (set-same memory (e.addr / 4) (with_part e.kind e.addr (slice_index memory (e.addr / 4)) v) lt)

-- An entry that stores nothing changes no letter.
pub entry-quiet : (letters : LettersValue) (e : Entry) → e.new ≡ None → (k l : ℕ) → letter_after_entry letters e k l ≡ letters.letter k l
entry-quiet letters e is k l = rw is (by ((k == cache_of e) && (l == line_of e)))
  where
    by : (b : Bool) → (if b then after_hit (letters.letter k l) false else letters.letter k l) ≡ letters.letter k l
    by true = refl
    by false = refl

pub entry-other : (letters : LettersValue) (e : Entry) (k l : ℕ) → k ≢ cache_of e → letter_after_entry letters e k l ≡ letters.letter k l
entry-other letters e k l ne = rw (ne_eqb k (cache_of e) ne) refl

pub entry-off : (letters : LettersValue) (e : Entry) (k l : ℕ) → l ≢ line_of e → letter_after_entry letters e k l ≡ letters.letter k l
entry-off letters e k l ne = rw (ne_eqb l (line_of e) ne) (by (k == cache_of e))
  where
    by : (b : Bool) → (if b && false then after_hit (letters.letter k l) (is_some e.new) else letters.letter k l) ≡ letters.letter k l
    by true = refl
    by false = refl

pub entry-here : (letters : LettersValue) (e : Entry) (k l v : ℕ) → e.new ≡ Some v → k ≡ cache_of e → l ≡ line_of e
    → letter_after_entry letters e k l ≡ M
entry-here letters e k l v is m h = rw (eq-eqb k (cache_of e) m, eq-eqb l (line_of e) h, is) refl

-- One that stores, in a sole copy.
module _ (n : ℕ) (letters : LettersValue) (memory main : List ℕ) (e : Entry) (v : ℕ) (is : e.new ≡ Some v)
    (old : IsCoherent n letters.letter memory main) (sole : is_sole (letters.letter (cache_of e) (line_of e)) ≡ true) where
  others : (j l : ℕ) → j ≢ cache_of e → l ≡ line_of e → letters.letter j l ≡ I
  others j l ne h = ap (λ z. letters.letter j z) h ∙ old.alone (cache_of e) j (line_of e) sole ne

  store-was : (test : Letter → Bool) (k l : ℕ) → l ≢ line_of e → test (letter_after_entry letters e k l) ≡ true
      → test (letters.letter k l) ≡ true
  store-was test k l ne h = ap test (sym (entry-off letters e k l ne)) ∙ h

  -- Of its line, only its own cache has a copy afterwards.
  store-only : (test : Letter → Bool) (k l : ℕ) → test I ≡ false → l ≡ line_of e → test (letter_after_entry letters e k l) ≡ true
      → k ≡ cache_of e
  store-only test k l never h t = elim (cases_eq k (cache_of e)) [
    | inl m ↦ m
    | inr o ↦ absurd (both_ways (test (letter_after_entry letters e k l)) (ap test (entry-other letters e k l o ∙ others k l o h)
        ∙ never) t)
  ]

  store-within : (k l : ℕ) → n ≤ k → letter_after_entry letters e k l ≡ I
  store-within k l le =
      let o : k ≢ cache_of e = (λ m. both_ways (is_sole (letters.letter (cache_of e) (line_of e)))
      (invalid-sole (letters.letter (cache_of e) (line_of e)) (old.within (cache_of e) (line_of e) (omega arith)))
      sole) in
      entry-other letters e k l o ∙ old.within k l le

  store-inside : (k l : ℕ) → is_held (letter_after_entry letters e k l) ≡ true → 2 * l + 1 < length memory
  store-inside k l h = elim (cases_eq l (line_of e)) [
    | inl q ↦
        (let P : ℕ → Type 0 = λ z. 2 * z + 1 < length memory in subst P (sym q)
        (old.inside (cache_of e) (line_of e) (sole-held (letters.letter (cache_of e) (line_of e)) sole)))
    | inr o ↦ old.inside k l (store-was is_held k l o h)
  ]

  store-alone : (k j l : ℕ) → is_sole (letter_after_entry letters e k l) ≡ true → j ≢ k → letter_after_entry letters e j l ≡ I
  store-alone k j l s ne = elim (cases_eq l (line_of e)) [
    | inl q ↦ (let m = store-only is_sole k l refl q s in let o : j ≢ cache_of e = (λ z. ne (z ∙ sym m)) in entry-other letters e j l o
        ∙ others j l o q)
    | inr o ↦ entry-off letters e j l o ∙ old.alone k j l (store-was is_sole k l o s) ne
  ]

  store-owner : (k j l : ℕ) → is_dirty (letter_after_entry letters e k l) ≡ true → is_dirty (letter_after_entry letters e j l) ≡ true
      → j ≡ k
  store-owner k j l x y = elim (cases_eq l (line_of e)) [
    | inl q ↦ store-only is_dirty j l refl q y ∙ sym (store-only is_dirty k l refl q x)
    | inr o ↦ old.owner k j l (store-was is_dirty k l o x) (store-was is_dirty j l o y)
  ]

  store-clean : (i : ℕ) → ((k : ℕ) → is_dirty (letter_after_entry letters e k (i / 2)) ≡ false)
      → slice_index main i ≡ slice_index (after memory e) i
  store-clean i none = elim (cases_eq (i / 2) (line_of e)) [
    | inl q ↦
        absurd (both_ways (is_dirty (letter_after_entry letters e (cache_of e) (i / 2)))
        (none (cache_of e)) (ap is_dirty (entry-here letters e (cache_of e) (i / 2) v is refl q)))
    | inr o ↦
        (let ne : i ≢ e.addr / 4 = (λ z. o (omega arith)) in
        old.clean i (λ k. ap is_dirty (sym (entry-off letters e k (i / 2) o)) ∙ none k) ∙ sym (after-other memory e i ne))
  ]

  store-coherent : IsCoherent n (λ k l. letter_after_entry letters e k l) (after memory e) main
  store-coherent =
      let len = after-length memory e in
      record {
        within = store-within;
        inside = λ k l h. (let lt = store-inside k l h in omega arith);
        alone = store-alone;
        owner = store-owner;
        size = old.size ∙ sym len;
        clean = store-clean;
      }

pub entry-coherent : (n : ℕ) (letters : LettersValue) (memory main : List ℕ) (e : Entry) (new : Option ℕ) → e.new ≡ new
    → IsCoherent n letters.letter memory main → ((v : ℕ) → new ≡ Some v → is_sole (letters.letter (cache_of e) (line_of e)) ≡ true) →
    IsCoherent n (λ k l. letter_after_entry letters e k l) (after memory e) main
entry-coherent n letters memory main e None is old sole =
    let F : (ℕ → ℕ → Letter) → Type 0 = λ f. IsCoherent n f (after memory e) main in
    let G : List ℕ → Type 0 = λ w. IsCoherent n letters.letter w main in
    subst F (fun_ext (λ k. fun_ext (λ l. sym (entry-quiet letters e is k l)))) (subst G (sym (after-none memory e is)) old)
entry-coherent n letters memory main e (Some v) is old sole = store-coherent n letters memory main e v is old (sole v refl)
