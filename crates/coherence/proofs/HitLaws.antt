-- A hit between two transitions.
use Rattle.std.proofs.Common.{◌≡◌, ◌≢◌, ℕ, zero, suc, ◌+◌, ◌*◌, ◌/◌, ◌%◌, ◌^◌, ◌<◌, ◌≤◌, inl, inr, Bool, true, false, List}
use Rattle.std.proofs.Common.{length, refl, ap, sym, ◌∙◌, arith}
use Rattle.std.specs.Prelude.{Option, Some, None, slice_index, filter, not, ◌==◌, ◌&&◌, if◌then◌else◌}
use Rattle.std.proofs.lemmas.Bool.{cases_eq, cases_Bool, both_ways, eq-eqb, ne_eqb}
use Rattle.mips_isa.specs.declared.Kind.{Kind}
use Rattle.mips_isa.specs.Kinds.{stores}
use Rattle.image_file.specs.Value.{ImageValue, code_lines}
use Rattle.access_log.specs.declared.Letter.{Letter}
use Rattle.access_log.specs.declared.Entry.{Entry}
use Rattle.access_log.specs.Memory.{after}
use Rattle.moesi_master.specs.Moesi.{is_held, is_sole, is_dirty, is_hit, suffices}
use Rattle.letters.specs.Caches.{Caches}
use Rattle.letters.specs.Fold.{LettersValue, letter_after_entry, after_entry, cache_of, line_of, victim_of}
use Rattle.moesi_master.specs.declared.Phase.{Phase}
use Rattle.moesi_master.specs.declared.Phase.TheVariants as phase
use Rattle.moesi_slave.specs.declared.SlavePhase.{SlavePhase}
use Rattle.moesi_slave.specs.declared.SlavePhase.TheVariants as slave
use Rattle.coherence.specs.Bus.{BusView, is_flushed, is_supplied, fits_phase, seen_by}
use Rattle.moesi_master.specs.Phases.{is_on}
use Rattle.moesi_slave.specs.Slave.{is_fresh, is_latched, is_acted}
use Rattle.coherence.specs.Coherence.{Agrees, word_after, flushed, AreTables}
use Rattle.coherence.specs.Split.{State, Past, past_entry, now_letter, now_main, IsOn, IsSplit}
use Rattle.coherence.proofs.LetterLaws.{sole-held, suffices-held}
use Rattle.coherence.proofs.LetterLaws.{act-suffices}
use Rattle.coherence.proofs.CoherenceLaws.{entry-coherent, entry-quiet, entry-other, entry-off, entry-here, after-none, after-length}
use Rattle.coherence.proofs.CoherenceLaws.{after-other, after-here}

-- A letter, and the lines of a set, by those of the history, where the cache has acted or not.
abbrev pub letter_if : Caches → (ℕ → ℕ → Letter) → BusView → Bool → ℕ → ℕ → Letter
letter_if caches f b acted k l = if acted && (l == b.line) then (caches.protocol k).after_act (f k l) b.im else f k l

abbrev pub without_line : BusView → List ℕ → List ℕ
without_line b lines = if b.im then filter (λ l. not (l == b.line)) lines else lines

abbrev pub lines_if : Caches → (ℕ → ℕ → List ℕ) → BusView → Bool → ℕ → ℕ → List ℕ
lines_if caches filled b acted k set =
    if acted && (set == b.line % caches.sets) then without_line b (filled k set) else filled k set

-- A letter as it stands, by that of the history.
module _ (caches : Caches) (f : ℕ → ℕ → Letter) (b : BusView) where
  pub now-plain : (k l : ℕ) → is_acted (b.slave k) ≡ false → now_letter caches f b k l ≡ f k l
  now-plain k l e = rw e refl

  pub now-off : (k l : ℕ) → l ≢ b.line → now_letter caches f b k l ≡ f k l
  now-off k l ne = rw (ne_eqb l b.line ne) (by (is_acted (b.slave k)))
    where
      by : (x : Bool) → (if x && false then (caches.protocol k).after_act (f k l) b.im else f k l) ≡ f k l
      by true = refl
      by false = refl

  pub now-acted : (k l : ℕ) → is_acted (b.slave k) ≡ true → l ≡ b.line
      → now_letter caches f b k l ≡ (caches.protocol k).after_act (f k l) b.im
  now-acted k l e g = rw (e, eq-eqb l b.line g) refl

  pub now-held : AreTables caches → (k l : ℕ) → is_held (now_letter caches f b k l) ≡ true → is_held (f k l) ≡ true
  now-held t k l = by (is_acted (b.slave k) && (l == b.line))
    where
      by : (x : Bool) → is_held (if x then (caches.protocol k).after_act (f k l) b.im else f k l) ≡ true → is_held (f k l) ≡ true
      by true h = (t.tables k).was_held (f k l) b.im h
      by false h = h

pub hit-suffices : (x : Letter) (k : Kind) → is_hit x k ≡ suffices x (stores k)
hit-suffices x k = by (stores k)
  where
    by : (b : Bool) → (if b then is_sole x else is_held x) ≡ suffices x b
    by true = refl
    by false = refl

-- What an entry in a copy leaves of letters.
module _ (letters : LettersValue) (e : Entry)
    (sole : (v : ℕ) → e.new ≡ Some v → is_sole (letters.letter (cache_of e) (line_of e)) ≡ true) where
  -- What is held before is held after, and only that.
  pub entry-held : (new : Option ℕ) → e.new ≡ new → (k l : ℕ) → is_held (letter_after_entry letters e k l) ≡ is_held (letters.letter k l)
  entry-held None is k l = ap is_held (entry-quiet letters e is k l)
  entry-held (Some v) is k l = elim (cases_eq l (line_of e)) [
    | inl q ↦ elim (cases_eq k (cache_of e)) [
      | inl m ↦ ap is_held (entry-here letters e k l v is m q)
          ∙ sym (ap (λ z. is_held (letters.letter z l)) m
          ∙ (ap (λ z. is_held (letters.letter (cache_of e) z)) q ∙ sole-held (letters.letter (cache_of e) (line_of e)) (sole v is)))
      | inr o ↦ ap is_held (entry-other letters e k l o)
    ]
    | inr ne ↦ ap is_held (entry-off letters e k l ne)
  ]

  -- What is dirty before is dirty after.
  pub entry-dirty : (new : Option ℕ) → e.new ≡ new → (k l : ℕ) → is_dirty (letters.letter k l) ≡ true
      → is_dirty (letter_after_entry letters e k l) ≡ true
  entry-dirty None is k l h = ap is_dirty (entry-quiet letters e is k l) ∙ h
  entry-dirty (Some v) is k l h = elim (cases_eq l (line_of e)) [
    | inl q ↦ elim (cases_eq k (cache_of e)) [
      | inl m ↦ ap is_dirty (entry-here letters e k l v is m q)
      | inr o ↦ ap is_dirty (entry-other letters e k l o) ∙ h
    ]
    | inr ne ↦ ap is_dirty (entry-off letters e k l ne) ∙ h
  ]

-- What is seen says who has looked and holds the line.
pub seen-same : (f g : ℕ → ℕ → Letter) (old new : ℕ → SlavePhase) (m line n : ℕ)
    → ((k : ℕ) → k < n → (not (is_fresh (new k)) && is_held (g k line)) ≡ (not (is_fresh (old k)) && is_held (f k line)))
    → seen_by g new m line n ≡ seen_by f old m line n
seen-same f g old new m line zero h = refl
seen-same f g old new m line (suc n) h =
    let a = seen-same f g old new m line n (λ k lt. h k (omega arith)) in
    let b = ap (λ x. if not (n == m) && x then 2 ^ n else 0) (h n (omega arith)) in
    omega (arith, a, b)

phase-fresh : (p : Phase) (s : SlavePhase) → is_supplied p ≡ true → fits_phase p s ≡ true → is_fresh s ≡ false
phase-fresh phase.Off s h f = cc
phase-fresh phase.Flush s h f = cc
phase-fresh phase.Address s h f = cc
phase-fresh phase.Look s h f = cc
phase-fresh phase.Supply s h f = cc
phase-fresh phase.Act slave.Fresh h f = cc
phase-fresh phase.Act (slave.Latched x) h f = refl
phase-fresh phase.Act slave.Acted h f = refl
phase-fresh phase.Finish slave.Fresh h f = cc
phase-fresh phase.Finish (slave.Latched x) h f = cc
phase-fresh phase.Finish slave.Acted h f = refl

-- Neither latched nor acted.
rest-fresh : (s : SlavePhase) → is_latched s ≡ false → is_acted s ≡ false → is_fresh s ≡ true
rest-fresh slave.Fresh h k = refl
rest-fresh (slave.Latched x) h k = cc
rest-fresh slave.Acted h k = cc

flushed-on : (p : Phase) → is_flushed p ≡ true → is_on p ≡ true
flushed-on phase.Off h = cc
flushed-on phase.Flush h = cc
flushed-on phase.Address h = refl
flushed-on phase.Look h = refl
flushed-on phase.Supply h = refl
flushed-on phase.Act h = refl
flushed-on phase.Finish h = refl

supplied-on : (p : Phase) → is_supplied p ≡ true → is_on p ≡ true
supplied-on phase.Off h = cc
supplied-on phase.Flush h = cc
supplied-on phase.Address h = cc
supplied-on phase.Look h = cc
supplied-on phase.Supply h = cc
supplied-on phase.Act h = refl
supplied-on phase.Finish h = refl

-- The hit of an entry by the letter as it stands, on a line that isn't latched in its cache, which isn't the master's.
module _ (image : ImageValue) (caches : Caches) (cores : ℕ) (p : Past) (s : State) (e : Entry) (letter' : ℕ → ℕ → Letter)
    (word' : ℕ → ℕ → ℕ)
    (tables : AreTables caches)
    (old : IsSplit image caches cores p s)
    (core : e.core < cores)
    (hit : suffices (s.letter (cache_of e) (line_of e)) (stores e.kind) ≡ true)
    (free : line_of e ≡ s.bus.line → is_latched (s.bus.slave (cache_of e)) ≡ false)
    (other : is_on s.bus.phase ≡ true → cache_of e ≢ s.bus.master)
    (inside : e.addr / 4 < length p.memory)
    (storing : (v : ℕ) → e.new ≡ Some v → stores e.kind ≡ true)
    (past : (v : ℕ) → e.new ≡ Some v → length image.code ≤ e.addr / 4)
    (letters_now : (k l : ℕ) → letter' k l ≡ letter_after_entry (record { letter = s.letter; filled = s.filled }) e k l)
    (word_here : word' (cache_of e) (e.addr / 4) ≡ word_after e e.new (s.word (cache_of e) (e.addr / 4)))
    (word_other : (k i : ℕ) → k ≢ cache_of e → word' k i ≡ s.word k i)
    (word_else : (k i : ℕ) → i ≢ e.addr / 4 → word' k i ≡ s.word k i) where
  -- Its letter by the history, and the letters as they stand.
  abbrev here : Letter
  here = p.letters.letter (cache_of e) (line_of e)

  abbrev standing : LettersValue
  standing = record { letter = s.letter; filled = s.filled }

  -- It is a hit by the letters of the history.
  acted-line : is_acted (s.bus.slave (cache_of e)) ≡ true → line_of e ≡ s.bus.line → (stores e.kind ≡ false) × (is_held here ≡ true)
  acted-line a q =
      act-suffices (caches.protocol (cache_of e)) (tables.tables (cache_of e)) here s.bus.im (stores e.kind)
      (ap (λ x. suffices x (stores e.kind)) (sym (old.letters_are (cache_of e) (line_of e)
      ∙ now-acted caches p.letters.letter s.bus (cache_of e) (line_of e) a q)) ∙ hit)

  plain-line : now_letter caches p.letters.letter s.bus (cache_of e) (line_of e) ≡ p.letters.letter (cache_of e) (line_of e)
      → suffices here (stores e.kind) ≡ true
  plain-line q = ap (λ x. suffices x (stores e.kind)) (sym (old.letters_are (cache_of e) (line_of e) ∙ q)) ∙ hit

  fold-suffices : suffices here (stores e.kind) ≡ true
  fold-suffices = elim (cases_eq (line_of e) s.bus.line) [
    | inl q ↦ elim (cases_Bool (is_acted (s.bus.slave (cache_of e)))) [
      | inl a ↦ (let h = acted-line a q in ap (λ b. suffices here b) h.0 ∙ h.1)
      | inr a ↦ plain-line (now-plain caches p.letters.letter s.bus (cache_of e) (line_of e) a)
    ]
    | inr ne ↦ plain-line (now-off caches p.letters.letter s.bus (cache_of e) (line_of e) ne)
  ]

  pub hit-follows : is_hit here e.kind ≡ true
  hit-follows = hit-suffices here e.kind ∙ fold-suffices

  -- Where it stores, the copy is the only one, and its cache hasn't acted on the line.
  sole : (v : ℕ) → e.new ≡ Some v → is_sole here ≡ true
  sole v is = ap (λ b. suffices here b) (sym (storing v is)) ∙ fold-suffices

  not-acted : (v : ℕ) → e.new ≡ Some v → line_of e ≡ s.bus.line → is_acted (s.bus.slave (cache_of e)) ≡ false
  not-acted v is q = elim (cases_Bool (is_acted (s.bus.slave (cache_of e)))) [
    | inl a ↦ absurd (both_ways (stores e.kind) (acted-line a q).0 (storing v is))
    | inr a ↦ a
  ]

  -- On the line of the bus, it has not even looked.
  fresh : (v : ℕ) → e.new ≡ Some v → line_of e ≡ s.bus.line → is_fresh (s.bus.slave (cache_of e)) ≡ true
  fresh v is q = rest-fresh (s.bus.slave (cache_of e)) (free q) (not-acted v is q)

  now-same : (k l : ℕ) → (after_entry p.letters e).letter k l ≡ p.letters.letter k l
      → now_letter caches (after_entry p.letters e).letter s.bus k l ≡ s.letter k l
  now-same k l q =
      ap (λ x. if is_acted (s.bus.slave k) && (l == s.bus.line) then (caches.protocol k).after_act x s.bus.im else x) q
      ∙ sym (old.letters_are k l)

  letters_are : (new : Option ℕ) → e.new ≡ new → (k l : ℕ) → letter' k l ≡ now_letter caches (after_entry p.letters e).letter s.bus k l
  letters_are None is k l = letters_now k l ∙ (entry-quiet standing e is k l ∙ sym (now-same k l (entry-quiet p.letters e is k l)))
  letters_are (Some v) is k l = elim (cases_eq l (line_of e)) [
    | inl q ↦ elim (cases_eq k (cache_of e)) [
      | inl m ↦ letters_now k l ∙ (entry-here standing e k l v is m q ∙ sym (stands k l m q ∙ entry-here p.letters e k l v is m q))
      | inr o ↦ letters_now k l ∙ (entry-other standing e k l o ∙ sym (now-same k l (entry-other p.letters e k l o)))
    ]
    | inr ne ↦ letters_now k l ∙ (entry-off standing e k l ne ∙ sym (now-same k l (entry-off p.letters e k l ne)))
  ]
    where
      stands : (k l : ℕ) → k ≡ cache_of e → l ≡ line_of e
          → now_letter caches (after_entry p.letters e).letter s.bus k l ≡ (after_entry p.letters e).letter k l
      stands k l m q = elim (cases_eq l s.bus.line) [
        | inl b ↦ now-plain caches (after_entry p.letters e).letter s.bus k l (ap (λ z. is_acted (s.bus.slave z)) m
            ∙ not-acted v is (sym q ∙ b))
        | inr nb ↦ now-off caches (after_entry p.letters e).letter s.bus k l nb
      ]

  -- A dirty victim's words stay.
  main_is : s.main ≡ now_main (after_entry p.letters e).letter (after p.memory e) p.main s.bus
  main_is = elim (cases_Bool (is_flushed s.bus.phase)) [
    | inl h ↦ old.main_is ∙ (rw h (same h s.bus.victim refl))
    | inr h ↦ old.main_is ∙ (rw h refl)
  ]
    where
      master-same : is_flushed s.bus.phase ≡ true → (v : ℕ)
          → (after_entry p.letters e).letter s.bus.master v ≡ p.letters.letter s.bus.master v
      master-same h v = entry-other p.letters e s.bus.master v (λ q. other (flushed-on s.bus.phase h) (sym q))

      victim-off : is_flushed s.bus.phase ≡ true → (v w : ℕ) → s.bus.victim ≡ Some v → e.new ≡ Some w → line_of e ≢ v
      victim-off h v w is new q =
          let gone = old.coherent.alone (cache_of e) s.bus.master (line_of e) (sole w new)
          (λ z. other (flushed-on s.bus.phase h) (sym z)) in
          both_ways (is_held (p.letters.letter s.bus.master v))
          (ap (λ z. is_held (p.letters.letter s.bus.master z)) (sym q) ∙ ap is_held gone)
          ((old.on (flushed-on s.bus.phase h)).victim_held v is).1

      word-same : is_flushed s.bus.phase ≡ true → (v i : ℕ) (new : Option ℕ) → s.bus.victim ≡ Some v → e.new ≡ new → i / 2 ≡ v
          → slice_index (after p.memory e) i ≡ slice_index p.memory i
      word-same h v i None is new q = ap (λ z. slice_index z i) (after-none p.memory e new)
      word-same h v i (Some w) is new q = let ne = victim-off h v w is new in after-other p.memory e i (λ z. ne (omega arith))

      same : is_flushed s.bus.phase ≡ true → (victim : Option ℕ) → s.bus.victim ≡ victim
          → flushed p.letters.letter p.memory p.main s.bus.master s.bus.victim
          ≡ flushed (after_entry p.letters e).letter (after p.memory e) p.main s.bus.master s.bus.victim
      same h None is = rw is refl
      same h (Some v) is =
          let a = word-same h v (2 * v) e.new is refl (omega arith) in
          let b = word-same h v (2 * v + 1) e.new is refl (omega arith) in
          let g = ap is_dirty (master-same h v) in
          rw (is, g, a, b) refl

  agrees : Agrees letter' word' (after p.memory e)
  agrees k i h = elim (cases_eq i (e.addr / 4)) [
    | inl q ↦ elim (cases_eq k (cache_of e)) [
      | inl m ↦ own k i m q
      | inr o ↦ copy k i o q e.new refl h
    ]
    | inr ne ↦ word_else k i ne ∙ (old.agrees k i (was k (i / 2) h) ∙ sym (after-other p.memory e i ne))
  ]
    where
      was : (k l : ℕ) → is_held (letter' k l) ≡ true → is_held (s.letter k l) ≡ true
      was k l h = elim (cases_eq l (line_of e)) [
        | inl q ↦ elim (cases_eq k (cache_of e)) [
          | inl m ↦ ap (λ z. is_held (s.letter z l)) m
              ∙ (ap (λ z. is_held (s.letter (cache_of e) z)) q ∙ suffices-held (s.letter (cache_of e) (line_of e)) (stores e.kind) hit)
          | inr o ↦ ap is_held (sym (letters_now k l ∙ entry-other standing e k l o)) ∙ h
        ]
        | inr ne ↦ ap is_held (sym (letters_now k l ∙ entry-off standing e k l ne)) ∙ h
      ]

      held-here : is_held (s.letter (cache_of e) (e.addr / 4 / 2)) ≡ true
      held-here =
          let q : e.addr / 4 / 2 ≡ line_of e = omega arith in
          ap (λ z. is_held (s.letter (cache_of e) z)) q ∙ suffices-held (s.letter (cache_of e) (line_of e)) (stores e.kind) hit

      own : (k i : ℕ) → k ≡ cache_of e → i ≡ e.addr / 4 → word' k i ≡ slice_index (after p.memory e) i
      own k i m q =
          ap (λ z. word' z i) m ∙ (ap (λ z. word' (cache_of e) z) q ∙ (word_here
          ∙ (ap (λ z. word_after e e.new z) (old.agrees (cache_of e) (e.addr / 4) held-here)
          ∙ (sym (after-here p.memory e inside) ∙ ap (λ z. slice_index (after p.memory e) z) (sym q)))))

      copy : (k i : ℕ) → k ≢ cache_of e → i ≡ e.addr / 4 → (new : Option ℕ) → e.new ≡ new → is_held (letter' k (i / 2)) ≡ true
          → word' k i ≡ slice_index (after p.memory e) i
      copy k i o q None is h =
          word_other k i o ∙ (old.agrees k i (was k (i / 2) h) ∙ ap (λ z. slice_index z i) (sym (after-none p.memory e is)))
      copy k i o q (Some v) is h =
          let line : i / 2 ≡ line_of e = omega arith in
          let gone = old.coherent.alone (cache_of e) k (line_of e) (sole v is) o in
          let held = now-held caches p.letters.letter s.bus tables k (i / 2) (ap is_held (sym (old.letters_are k (i / 2)))
          ∙ was k (i / 2) h) in
          absurd (both_ways (is_held (p.letters.letter k (i / 2))) (ap (λ z. is_held (p.letters.letter k z)) line ∙ ap is_held gone) held)

  code-kept : (new : Option ℕ) → e.new ≡ new → (i : ℕ) → i < length image.code → slice_index (after p.memory e) i ≡ slice_index image.code i
  code-kept None is i lt = ap (λ z. slice_index z i) (after-none p.memory e is) ∙ old.code i lt
  code-kept (Some v) is i lt = let le = past v is in after-other p.memory e i (λ q. omega arith) ∙ old.code i lt

  on-kept : is_on s.bus.phase ≡ true → IsOn caches cores (code_lines image) (after_entry p.letters e) (after p.memory e) s.bus
  on-kept h =
      let was = old.on h in
      let len = after-length p.memory e in
      let master : (l : ℕ) → (after_entry p.letters e).letter s.bus.master l ≡ p.letters.letter s.bus.master l =
      λ l. entry-other p.letters e s.bus.master l (λ q. other h (sym q)) in
      record {
        master = was.master;
        inside = (let lt = was.inside in omega arith);
        lacks = ap (λ x. suffices x s.bus.im) (master s.bus.line) ∙ was.lacks;
        code = was.code;
        makes_room =
            was.makes_room
            ∙ ap (λ x. victim_of caches.ways x (p.letters.filled s.bus.master (s.bus.line % caches.sets))) (sym (master s.bus.line));
        victim_held = λ v is. (let k = was.victim_held v is in (k.0, ap is_held (master v) ∙ k.1));
        supplies = was.supplies ∙ ap (λ x. not (is_held x)) (sym (master s.bus.line));
        held_by =
            was.held_by
            ∙ sym (seen-same p.letters.letter (after_entry p.letters e).letter s.bus.slave s.bus.slave s.bus.master s.bus.line (2 * cores)
            (λ k lt. ap (λ x. not (is_fresh (s.bus.slave k)) && x) (entry-held p.letters e sole e.new refl k s.bus.line)));
        owns = λ d is. (let k = was.owns d is in (k.0, (k.1.0, entry-dirty p.letters e sole e.new refl d s.bus.line k.1.1)));
        owner = owner-kept was e.new refl;
        supplied = λ g none i lt. was.supplied g (sym (master s.bus.line) ∙ none) i lt ∙ sym (word-kept g i lt e.new refl);
      }
    where
      owner-kept : IsOn caches cores (code_lines image) p.letters p.memory s.bus → (new : Option ℕ) → e.new ≡ new → (k : ℕ)
          → k ≢ s.bus.master → is_fresh (s.bus.slave k) ≡ false → is_dirty ((after_entry p.letters e).letter k s.bus.line) ≡ true
          → s.bus.di ≡ Some k
      owner-kept was None is k ne seen dirty = was.owner k ne seen (ap is_dirty (sym (entry-quiet p.letters e is k s.bus.line)) ∙ dirty)
      owner-kept was (Some v) is k ne seen dirty = elim (cases_eq s.bus.line (line_of e)) [
        | inl q ↦ elim (cases_eq k (cache_of e)) [
          | inl m ↦ absurd (both_ways (is_fresh (s.bus.slave k)) seen (ap (λ z. is_fresh (s.bus.slave z)) m ∙ fresh v is (sym q)))
          | inr o ↦ was.owner k ne seen (ap is_dirty (sym (entry-other p.letters e k s.bus.line o)) ∙ dirty)
        ]
        | inr o ↦ was.owner k ne seen (ap is_dirty (sym (entry-off p.letters e k s.bus.line o)) ∙ dirty)
      ]

      word-kept : is_supplied s.bus.phase ≡ true → (i : ℕ) → i < 2 → (new : Option ℕ) → e.new ≡ new
          → slice_index (after p.memory e) (2 * s.bus.line + i) ≡ slice_index p.memory (2 * s.bus.line + i)
      word-kept g i lt None is = ap (λ z. slice_index z (2 * s.bus.line + i)) (after-none p.memory e is)
      word-kept g i lt (Some v) is = elim (cases_eq (line_of e) s.bus.line) [
        | inl q ↦
            absurd (both_ways (is_fresh (s.bus.slave (cache_of e))) (phase-fresh s.bus.phase (s.bus.slave (cache_of e)) g
            (old.phases (cache_of e) (other (supplied-on s.bus.phase g)) (omega arith))) (fresh v is q))
        | inr o ↦ after-other p.memory e (2 * s.bus.line + i) (λ z. o (omega arith))
      ]

  pub hit-keeps : IsSplit image caches cores (past_entry p e)
      (record { letter = letter'; word = word'; filled = s.filled; main = s.main; bus = s.bus })
  hit-keeps = record {
    letters_are = letters_are e.new refl;
    filled_are = old.filled_are;
    main_is = main_is;
    coherent = entry-coherent (2 * cores) p.letters p.memory s.main e e.new refl old.coherent sole;
    agrees = agrees;
    code = code-kept e.new refl;
    empty = old.empty;
    master = old.master;
    beyond = old.beyond;
    phases = old.phases;
    on = on-kept;
  }
