-- The end of a transaction.
use Rattle.std.proofs.Common.{◌≡◌, ◌≢◌, ℕ, zero, suc, ◌+◌, ◌*◌, ◌/◌, ◌%◌, ◌^◌, ◌<◌, inl, inr, Bool, true, false, List, [], ◌∷◌}
use Rattle.std.proofs.Common.{◌++◌, length, refl, ap, sym, ◌∙◌, arith, subst}
use Rattle.std.specs.Prelude.{Option, Some, None, slice_index, not, filter, ◌==◌, ◌&&◌, if◌then◌else◌}
use Rattle.std.proofs.lemmas.Bool.{cases_eq, cases_Bool, cases_lt, both_ways, eq-eqb, ne_eqb}
use Rattle.image_file.specs.Value.{ImageValue, code_lines}
use Rattle.access_log.specs.declared.Letter.{Letter}
use Rattle.access_log.specs.declared.Letter.TheVariants.{I}
use Rattle.access_log.specs.declared.Transaction.{Transaction}
use Rattle.moesi_master.specs.Moesi.{is_held, is_dirty}
use Rattle.letters.specs.Caches.{Caches}
use Rattle.letters.specs.Fold.{letter_after_transaction, after_transaction, is_that, holders}
use Rattle.letters.specs.Fold.{supplier_of, IsAllowed}
use Rattle.moesi_master.specs.declared.Phase.TheVariants as phase
use Rattle.moesi_slave.specs.declared.SlavePhase.{SlavePhase}
use Rattle.moesi_slave.specs.declared.SlavePhase.TheVariants as slave
use Rattle.coherence.specs.Bus.{BusView, is_flushed, is_supplied, fits_phase, seen_by}
use Rattle.moesi_master.specs.Phases.{is_on}
use Rattle.moesi_slave.specs.Slave.{is_fresh, is_acted}
use Rattle.coherence.specs.Coherence.{IsCoherent, Agrees, with_line, flushed, AreTables}
use Rattle.coherence.specs.Split.{State, Past, past_bus, now_letter, now_filled, IsOn, IsSplit}
use Rattle.letters.proofs.LetterLaws.{held-not}
use Rattle.coherence.proofs.LetterLaws.{invalid-dirty, act-invalid}
use Rattle.coherence.proofs.CoherenceLaws.{with_line-same, with_line-length, bus-was, bus-coherent}
use Rattle.coherence.proofs.HitLaws.{letter_if, lines_if, now-plain}
use Rattle.coherence.proofs.TransitionLaws.{acted-seen, main-off}

-- All have looked: what is seen is what they hold.
seen-all : (f : ℕ → ℕ → Letter) (x : ℕ → SlavePhase) (m line n : ℕ) → ((k : ℕ) → k ≢ m → k < n → is_fresh (x k) ≡ false)
    → seen_by f x m line n ≡ holders f m line n
seen-all f x m line zero all = refl
seen-all f x m line (suc n) all =
    let a = seen-all f x m line n (λ k ne lt. all k ne (omega arith)) in
    let b : (if not (n == m) && (not (is_fresh (x n)) && is_held (f n line)) then 2 ^ n else 0)
    ≡ (if not (n == m) && is_held (f n line) then 2 ^ n else 0) = elim (cases_eq n m) [
      | inl e ↦ rw (eq-eqb n m e) refl
      | inr ne ↦ ap (λ y. if not (n == m) && (not y && is_held (f n line)) then 2 ^ n else 0) (all n ne (omega arith))
    ] in
    omega (arith, a, b)

-- The one dirty copy supplies; where there is none, nobody does.
supplier-found : (f : ℕ → ℕ → Letter) (m line n d : ℕ) → d < n → d ≢ m → is_dirty (f d line) ≡ true
    → ((k : ℕ) → k ≢ m → is_dirty (f k line) ≡ true → k ≡ d) → supplier_of f m line n ≡ Some d
supplier-found f m line zero d lt ne dirty only = absurd (omega arith)
supplier-found f m line (suc n) d lt ne dirty only = elim (cases_eq n d) [
  | inl e ↦ rw (e, ne_eqb d m ne, dirty) refl
  | inr o ↦ elim (cases_eq n m) [
    | inl e ↦ rw (eq-eqb n m e) (supplier-found f m line n d (omega arith) ne dirty only)
    | inr u ↦ elim (cases_Bool (is_dirty (f n line))) [
      | inl h ↦ absurd (o (only n u h))
      | inr h ↦ rw (ne_eqb n m u, h) (supplier-found f m line n d (omega arith) ne dirty only)
    ]
  ]
]

supplier-none : (f : ℕ → ℕ → Letter) (m line n : ℕ) → ((k : ℕ) → k ≢ m → k < n → is_dirty (f k line) ≡ false)
    → supplier_of f m line n ≡ None
supplier-none f m line zero none = refl
supplier-none f m line (suc n) none = elim (cases_eq n m) [
  | inl e ↦ rw (eq-eqb n m e) (supplier-none f m line n (λ k ne lt. none k ne (omega arith)))
  | inr ne ↦ rw (ne_eqb n m ne, none n ne (omega arith)) (supplier-none f m line n (λ k ne lt. none k ne (omega arith)))
]

-- The transaction that ends.
abbrev pub ending : Caches → BusView → Transaction
ending caches b = record {
  master = b.master;
  line = b.line;
  im = b.im;
  ch = b.ch;
  di = b.di;
  victim = b.victim;
  letter = (caches.protocol b.master).after_finish b.im b.ch;
}

-- Its master drops the victim, and fills the line or sets its letter.
module _ (image : ImageValue) (caches : Caches) (cores : ℕ) (p : Past) (s : State) (b : BusView)
    (letter' : ℕ → ℕ → Letter) (word' : ℕ → ℕ → ℕ) (filled' : ℕ → ℕ → List ℕ)
    (tables : AreTables caches)
    (old : IsSplit image caches cores p s)
    (at : s.bus.phase ≡ phase.Finish)
    (off : b.phase ≡ phase.Off)
    (fresh : (k : ℕ) → b.slave k ≡ slave.Fresh)
    (letter_here : (l : ℕ) → letter' s.bus.master l ≡ (if l == s.bus.line then (caches.protocol s.bus.master).after_finish s.bus.im s.bus.ch
    else (if is_that s.bus.victim l then I else s.letter s.bus.master l)))
    (letter_else : (k l : ℕ) → k ≢ s.bus.master → letter' k l ≡ s.letter k l)
    (word_filled : s.letter s.bus.master s.bus.line ≡ I → (h : ℕ) → h < 2 → word' s.bus.master (2 * s.bus.line + h) ≡ s.bus.word h)
    (word_stays : is_held (s.letter s.bus.master s.bus.line) ≡ true → (h : ℕ) → h < 2
    → word' s.bus.master (2 * s.bus.line + h) ≡ s.word s.bus.master (2 * s.bus.line + h))
    (word_here : (i : ℕ) → i / 2 ≢ s.bus.line → is_held (letter' s.bus.master (i / 2)) ≡ true
    → word' s.bus.master i ≡ s.word s.bus.master i)
    (word_else : (k i : ℕ) → k ≢ s.bus.master → word' k i ≡ s.word k i)
    (filled_here : (set : ℕ) → filled' s.bus.master set
    ≡ (if set == s.bus.line % caches.sets then (if is_held (s.letter s.bus.master s.bus.line) then s.filled s.bus.master set else
    (filter (λ l. not (is_that s.bus.victim l)) (s.filled s.bus.master set) ++ s.bus.line ∷ [])) else s.filled s.bus.master set))
    (filled_else : (k set : ℕ) → k ≢ s.bus.master → filled' k set ≡ s.filled k set) where
  was : IsOn caches cores (code_lines image) p.letters p.memory s.bus
  was = old.on (ap is_on at)

  abbrev t : Transaction
  t = ending caches s.bus

  -- The master's letter, and the lines of its set.
  abbrev master_letter : ℕ → Letter → Letter
  master_letter l x =
      if l == s.bus.line then (caches.protocol s.bus.master).after_finish s.bus.im s.bus.ch else (if is_that s.bus.victim l then I else x)

  abbrev master_lines : ℕ → Letter → List ℕ → List ℕ
  master_lines set x lines =
      if set == s.bus.line % caches.sets
      then (if is_held x then lines else (filter (λ l. not (is_that s.bus.victim l)) lines ++ s.bus.line ∷ [])) else lines

  acted : (k : ℕ) → k ≢ s.bus.master → k < 2 * cores → is_acted (s.bus.slave k) ≡ true
  acted k ne lt = ap (λ x. fits_phase x (s.bus.slave k)) (sym at) ∙ old.phases k ne lt

  master-letter : (l : ℕ) → s.letter s.bus.master l ≡ p.letters.letter s.bus.master l
  master-letter l = old.letters_are s.bus.master l ∙ now-plain caches p.letters.letter s.bus s.bus.master l (ap is_acted old.master)

  master-filled : (set : ℕ) → s.filled s.bus.master set ≡ p.letters.filled s.bus.master set
  master-filled set = old.filled_are s.bus.master set ∙ rw old.master refl

  -- The transaction is one that the letters allow.
  held_by-all : s.bus.ch ≡ holders p.letters.letter s.bus.master s.bus.line (2 * cores)
  held_by-all =
      was.held_by
      ∙ seen-all p.letters.letter s.bus.slave s.bus.master s.bus.line (2 * cores) (λ k ne lt. acted-seen (s.bus.slave k) (acted k ne lt))

  supplier : (di : Option ℕ) → s.bus.di ≡ di → di ≡ supplier_of p.letters.letter s.bus.master s.bus.line (2 * cores)
  supplier None e = sym (supplier-none p.letters.letter s.bus.master s.bus.line (2 * cores) none-dirty)
    where
      none-dirty : (k : ℕ) → k ≢ s.bus.master → k < 2 * cores → is_dirty (p.letters.letter k s.bus.line) ≡ false
      none-dirty k ne lt = elim (cases_Bool (is_dirty (p.letters.letter k s.bus.line))) [
        | inl d ↦ (let q : Some k ≡ None = sym (was.owner k ne (acted-seen (s.bus.slave k) (acted k ne lt)) d) ∙ e in absurd cc)
        | inr d ↦ d
      ]
  supplier (Some d) e =
      let own = was.owns d e in
      sym (supplier-found p.letters.letter s.bus.master s.bus.line (2 * cores) d (there (own.1.1)) own.0 own.1.1
      (λ k ne dirty. old.coherent.owner d k s.bus.line own.1.1 dirty))
    where
      there : is_dirty (p.letters.letter d s.bus.line) ≡ true → d < 2 * cores
      there dirty = elim (cases_lt d (2 * cores)) [
        | inl lt ↦ lt
        | inr le ↦
            absurd (both_ways (is_dirty (p.letters.letter d s.bus.line))
            (invalid-dirty (p.letters.letter d s.bus.line) (old.coherent.within d s.bus.line le))
            dirty)
      ]

  pub finish-allowed : IsAllowed caches cores (code_lines image) p.letters (ending caches s.bus)
  finish-allowed = record {
    master = was.master;
    lacks = was.lacks;
    code = was.code;
    held_by = held_by-all;
    supplier = supplier s.bus.di refl;
    makes_room = was.makes_room;
    becomes = refl;
  }

  before-flush : s.main ≡ flushed p.letters.letter p.memory p.main s.bus.master s.bus.victim
  before-flush =
      old.main_is ∙ ap (λ x. if is_flushed x then flushed p.letters.letter p.memory p.main s.bus.master s.bus.victim else p.main) at

  -- A dirty victim's words are in main memory.
  written : (i : ℕ) → is_that s.bus.victim (i / 2) ≡ true → is_dirty (p.letters.letter s.bus.master (i / 2)) ≡ true
      → slice_index s.main i ≡ slice_index p.memory i
  written i = by s.bus.victim refl
    where
      by : (v : Option ℕ) → s.bus.victim ≡ v → is_that s.bus.victim (i / 2) ≡ true
          → is_dirty (p.letters.letter s.bus.master (i / 2)) ≡ true → slice_index s.main i ≡ slice_index p.memory i
      by None e h d = (let q : false ≡ true = sym (ap (λ v. is_that v (i / 2)) e) ∙ h in absurd cc)
      by (Some v) e h d = elim (cases_eq (i / 2) v) [
        | inl q ↦
            (let dirty : is_dirty (p.letters.letter s.bus.master v) ≡ true = ap (λ z. is_dirty (p.letters.letter s.bus.master z)) (sym q)
            ∙ d in
            let main : s.main ≡ with_line p.main p.memory v = before-flush
            ∙ (ap (λ w. flushed p.letters.letter p.memory p.main s.bus.master w) e
            ∙ ap (λ x. if x then with_line p.main p.memory v else p.main) dirty) in
            let size = ap length main ∙ with_line-length p.main p.memory v in
            let lt = old.coherent.inside s.bus.master v (was.victim_held v e).1 in
            let same = old.coherent.size in
            ap (λ z. slice_index z i) main ∙ with_line-same p.main p.memory v i q (omega (arith, size, lt, same)))
        | inr ne ↦ absurd (both_ways (is_that s.bus.victim (i / 2)) (ap (λ w. is_that w (i / 2)) e ∙ ne_eqb (i / 2) v ne) h)
      ]

  finish-letters : (k l : ℕ) → letter' k l ≡ (after_transaction caches p.letters t).letter k l
  finish-letters k l = elim (cases_eq k s.bus.master) [
    | inl e ↦ (let P : ℕ → Type 0 = λ z. letter' z l ≡ letter_after_transaction caches p.letters t z l in
        subst P (sym e) (letter_here l
        ∙ rw (eq-eqb s.bus.master s.bus.master refl) (ap (λ x. master_letter l x) (master-letter l))))
    | inr ne ↦ letter_else k l ne ∙ (old.letters_are k l ∙ rw (ne_eqb k s.bus.master ne) (by k l ne))
  ]
    where
      by : (k l : ℕ) → k ≢ s.bus.master
          → now_letter caches p.letters.letter s.bus k l ≡ letter_if caches p.letters.letter s.bus true k l
      by k l ne = elim (cases_lt k (2 * cores)) [
        | inl lt ↦
            ap (λ x. letter_if caches p.letters.letter s.bus x k l) (acted k ne lt)
        | inr le ↦
            (let gone = old.coherent.within k l le in
            now-plain caches p.letters.letter s.bus k l (ap is_acted (old.beyond k le)) ∙ (gone ∙ sym (nothing (l == s.bus.line) gone)))
      ]
        where
          nothing : (x : Bool) → p.letters.letter k l ≡ I
              → (if x then (caches.protocol k).after_act (p.letters.letter k l) s.bus.im else p.letters.letter k l) ≡ I
          nothing true g = ap (λ y. (caches.protocol k).after_act y s.bus.im) g ∙ act-invalid (caches.protocol k) (tables.tables k) s.bus.im
          nothing false g = g

  finish-filled : (k set : ℕ) → filled' k set ≡ (after_transaction caches p.letters t).filled k set
  finish-filled k set = elim (cases_eq k s.bus.master) [
    | inl e ↦ (let P : ℕ → Type 0 = λ z. filled' z set ≡ (after_transaction caches p.letters t).filled z set in
        subst P (sym e) (filled_here set ∙ rw (eq-eqb s.bus.master s.bus.master refl)
        (ap (λ x. master_lines set x (s.filled s.bus.master set)) (master-letter s.bus.line)
        ∙ ap (λ lines. master_lines set (p.letters.letter s.bus.master s.bus.line) lines) (master-filled set))))
    | inr ne ↦ filled_else k set ne ∙ (old.filled_are k set ∙ rw (ne_eqb k s.bus.master ne) (by k ne))
  ]
    where
      by : (k : ℕ) → k ≢ s.bus.master
          → now_filled caches p.letters.filled s.bus k set ≡ lines_if caches p.letters.filled s.bus true k set
      by k ne = elim (cases_lt k (2 * cores)) [
        | inl lt ↦
            ap (λ x. lines_if caches p.letters.filled s.bus x k set) (acted k ne lt)
        | inr le ↦ rw (old.beyond k le, old.empty k set le) (nothing (set == s.bus.line % caches.sets) s.bus.im)
      ]
        where
          nothing : (x y : Bool) → (let none : List ℕ = [] in none ≡ (if x then (if y then none else none) else none))
          nothing true true = refl
          nothing true false = refl
          nothing false y = refl

  finish-coherent : IsCoherent (2 * cores) (after_transaction caches p.letters t).letter p.memory s.main
  finish-coherent =
      bus-coherent caches p.letters t
      (2 * cores) p.memory s.main tables old.coherent was.master was.inside was.lacks held_by-all refl written

  finish-agrees : Agrees letter' word' p.memory
  finish-agrees k i h = elim (cases_eq k s.bus.master) [
    | inl e ↦ elim (cases_eq (i / 2) s.bus.line) [
      | inl q ↦ ap (λ z. word' z i) e ∙ line (is_held (s.letter s.bus.master s.bus.line)) refl q
      | inr ne ↦
          (let held : is_held (letter' s.bus.master (i / 2)) ≡ true = ap (λ z. is_held (letter' z (i / 2))) (sym e) ∙ h in
          let before : is_held (s.letter s.bus.master (i / 2)) ≡ true = kept ne held in
          ap (λ z. word' z i) e ∙ (word_here i ne held ∙ old.agrees s.bus.master i before))
    ]
    | inr ne ↦ word_else k i ne ∙ old.agrees k i (ap is_held (sym (letter_else k (i / 2) ne)) ∙ h)
  ]
    where
      kept : i / 2 ≢ s.bus.line → is_held (letter' s.bus.master (i / 2)) ≡ true → is_held (s.letter s.bus.master (i / 2)) ≡ true
      kept ne g =
          ap is_held (master-letter (i / 2))
          ∙ bus-was caches p.letters t is_held refl s.bus.master (i / 2) ne (ap is_held (sym (finish-letters s.bus.master (i / 2))) ∙ g)

      place : i / 2 ≡ s.bus.line → i ≡ 2 * s.bus.line + i % 2
      place q = omega arith

      low : i % 2 < 2
      low = omega arith

      line : (x : Bool) → is_held (s.letter s.bus.master s.bus.line) ≡ x → i / 2 ≡ s.bus.line
          → word' s.bus.master i ≡ slice_index p.memory i
      line true e q =
          ap (λ z. word' s.bus.master z) (place q) ∙ (word_stays e (i % 2) low ∙ (ap (λ z. s.word s.bus.master z) (sym (place q))
          ∙ old.agrees s.bus.master i (ap (λ z. is_held (s.letter s.bus.master z)) q ∙ e)))
      line false e q =
          let none : s.letter s.bus.master s.bus.line ≡ I = held-not (s.letter s.bus.master s.bus.line) e in
          ap (λ z. word' s.bus.master z) (place q)
          ∙ (word_filled none (i % 2) low
          ∙ (was.supplied (ap is_supplied at) (sym (master-letter s.bus.line) ∙ none) (i % 2) low
          ∙ ap (λ z. slice_index p.memory z) (sym (place q))))

  plain-off : (k : ℕ) → is_acted (b.slave k) ≡ false
  plain-off k = ap is_acted (fresh k)

  pub finish-keeps : IsSplit image caches cores (past_bus caches p (ending caches s.bus))
      (record { letter = letter'; word = word'; filled = filled'; main = s.main; bus = b })
  finish-keeps = record {
    letters_are = λ k l. finish-letters k l ∙ sym (now-plain caches (after_transaction caches p.letters t).letter b k l (plain-off k));
    filled_are = λ k set. finish-filled k set ∙ rw (plain-off k) refl;
    main_is = before-flush ∙ main-off (after_transaction caches p.letters t).letter p.memory (past_bus caches p t).main b off;
    coherent = finish-coherent;
    agrees = finish-agrees;
    code = old.code;
    master = fresh b.master;
    beyond = λ k le. fresh k;
    empty =
        λ k set le. rw (ne_eqb k s.bus.master (λ z. (let lt = was.master in omega arith)), old.empty k set le)
        (none-left (set == s.bus.line % caches.sets) s.bus.im);
    phases = λ k ne lt. ap (λ x. fits_phase x (b.slave k)) off ∙ ap is_fresh (fresh k);
    on = λ h. (let q : false ≡ true = sym (ap is_on off) ∙ h in absurd cc);
  }
    where
      none-left : (x y : Bool) → (let none : List ℕ = [] in (if x then (if y then none else none) else none) ≡ none)
      none-left true true = refl
      none-left true false = refl
      none-left false y = refl
