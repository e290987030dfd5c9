-- The transitions from Grant to Act.
use Rattle.std.proofs.Common.{◌≡◌, ◌≢◌, ℕ, zero, suc, ◌+◌, ◌*◌, ◌/◌, ◌%◌, ◌^◌, ◌<◌, ◌⊎◌, inl, inr, Bool, true, false, List}
use Rattle.std.proofs.Common.{length, refl, ap, sym, ◌∙◌, arith, subst}
use Rattle.std.specs.Prelude.{Option, Some, None, slice_index, not, ◌==◌, ◌&&◌, if◌then◌else◌}
use Rattle.std.proofs.lemmas.Bool.{not-true, cases_eq, cases_Bool, cases_lt, both_ways, ne_eqb}
use Rattle.image_file.specs.Value.{ImageValue, code_lines}
use Rattle.access_log.specs.declared.Letter.{Letter}
use Rattle.access_log.specs.declared.Letter.TheVariants.{I}
use Rattle.moesi_master.specs.Moesi.{is_held, is_dirty, suffices}
use Rattle.letters.specs.Caches.{Caches}
use Rattle.letters.specs.Fold.{LettersValue, victim_of}
use Rattle.moesi_master.specs.declared.Phase.{Phase}
use Rattle.moesi_master.specs.declared.Phase.TheVariants as phase
use Rattle.moesi_slave.specs.declared.SlavePhase.{SlavePhase}
use Rattle.moesi_slave.specs.declared.SlavePhase.TheVariants as slave
use Rattle.coherence.specs.Bus.{BusView, is_flushed, is_supplied, fits_phase, seen_by}
use Rattle.moesi_master.specs.Phases.{is_on}
use Rattle.moesi_slave.specs.Slave.{is_fresh, is_latched, is_acted}
use Rattle.coherence.specs.Coherence.{IsCoherent, Agrees, flushed, AreTables}
use Rattle.coherence.specs.Split.{State, Past, now_letter, now_filled, now_main, IsOn, IsSplit}
use Rattle.coherence.proofs.LetterLaws.{dirty-held, invalid-dirty}
use Rattle.coherence.proofs.CoherenceLaws.{flush-coherent}
use Rattle.coherence.proofs.HitLaws.{seen-same, letter_if, lines_if, without_line, now-plain}

-- What becomes of the bus where the slaves stay.
pub fresh-plain : (x : SlavePhase) → is_fresh x ≡ true → is_acted x ≡ false
fresh-plain slave.Fresh h = refl
fresh-plain (slave.Latched seen) h = cc
fresh-plain slave.Acted h = cc

pub latched-plain : (x : SlavePhase) → is_latched x ≡ true → is_acted x ≡ false
latched-plain slave.Fresh h = cc
latched-plain (slave.Latched seen) h = refl
latched-plain slave.Acted h = cc

pub latched-seen : (x : SlavePhase) → is_latched x ≡ true → is_fresh x ≡ false
latched-seen slave.Fresh h = cc
latched-seen (slave.Latched seen) h = refl
latched-seen slave.Acted h = cc

pub acted-seen : (x : SlavePhase) → is_acted x ≡ true → is_fresh x ≡ false
acted-seen slave.Fresh h = cc
acted-seen (slave.Latched seen) h = cc
acted-seen slave.Acted h = refl

pub fresh-is : (x : SlavePhase) → is_fresh x ≡ true → x ≡ slave.Fresh
fresh-is slave.Fresh h = refl
fresh-is (slave.Latched seen) h = cc
fresh-is slave.Acted h = cc

-- Main memory stays in another phase, where a dirty victim is written back in both or in neither.
main-phase : (letter : ℕ → ℕ → Letter) (memory main : List ℕ) (bus : BusView) (new : Phase) → is_flushed new ≡ is_flushed bus.phase
    → now_main letter memory main bus ≡ now_main letter memory main (record bus { phase = new })
main-phase letter memory main bus new same = ap (λ x. if x then flushed letter memory main bus.master bus.victim else main) (sym same)

-- With no transaction on, it is that of the history.
pub main-off : (letter : ℕ → ℕ → Letter) (memory main : List ℕ) (bus : BusView) → bus.phase ≡ phase.Off
    → main ≡ now_main letter memory main bus
main-off letter memory main bus off = sym (ap (λ x. if is_flushed x then flushed letter memory main bus.master bus.victim else main) off)

-- What the master needs stays, while caches look and act and the words come.
module _ (caches : Caches) (cores code_lines : ℕ) (letters : LettersValue) (memory : List ℕ) (bus : BusView)
    (was : IsOn caches cores code_lines letters memory bus) where
  on-with : (phase' : Phase) (abandoned' : Bool) (slave' : ℕ → SlavePhase) (ch' : ℕ) (di' : Option ℕ) (word' : ℕ → ℕ)
      → ch' ≡ seen_by letters.letter slave' bus.master bus.line (2 * cores)
      → ((d : ℕ) → di' ≡ Some d → (d ≢ bus.master) × ((is_fresh (slave' d) ≡ false) × (is_dirty (letters.letter d bus.line) ≡ true)))
      → ((k : ℕ) → k ≢ bus.master → is_fresh (slave' k) ≡ false → is_dirty (letters.letter k bus.line) ≡ true → di' ≡ Some k)
      → (is_supplied phase' ≡ true → letters.letter bus.master bus.line ≡ I → (h : ℕ) → h < 2
      → word' h ≡ slice_index memory (2 * bus.line + h))
      → IsOn caches cores code_lines letters memory
      (record bus { phase = phase'; abandoned = abandoned'; slave = slave'; ch = ch'; di = di'; word = word' })
  on-with phase' abandoned' slave' ch' di' word' held_by owns owner supplied = record {
    master = was.master;
    inside = was.inside;
    lacks = was.lacks;
    code = was.code;
    makes_room = was.makes_room;
    supplies = was.supplies;
    victim_held = was.victim_held;
    held_by = held_by;
    owns = owns;
    owner = owner;
    supplied = supplied;
  }

module _ (image : ImageValue) (caches : Caches) (cores : ℕ) (p : Past) (s : State) (old : IsSplit image caches cores p s) where
  abbrev On : Type 0
  On = IsOn caches cores (code_lines image) p.letters p.memory s.bus

  -- With the caches as far as they are, in another phase and with other words.
  goes-on : On → (phase' : Phase) (abandoned' : Bool) (word' : ℕ → ℕ)
      → (is_supplied phase' ≡ true → p.letters.letter s.bus.master s.bus.line ≡ I → (h : ℕ) → h < 2
      → word' h ≡ slice_index p.memory (2 * s.bus.line + h))
      → IsOn caches cores (code_lines image) p.letters p.memory (record s.bus { phase = phase'; abandoned = abandoned'; word = word' })
  goes-on was phase' abandoned' word' supplied =
      on-with caches cores (code_lines image) p.letters p.memory s.bus was phase' abandoned' s.bus.slave s.bus.ch s.bus.di word'
      was.held_by was.owns was.owner supplied

  -- Flush: a dirty victim's words go to main memory. Where it isn't dirty, nothing does.
  pub flush-keeps : (main' : List ℕ) → s.bus.phase ≡ phase.Flush
      → main' ≡ flushed p.letters.letter p.memory s.main s.bus.master s.bus.victim →
      IsSplit image caches cores p (record s { main = main'; bus = record s.bus { phase = phase.Address } })
  flush-keeps main' at flush =
      let was : On = old.on (ap is_on at) in
      let before : s.main ≡ p.main = old.main_is
      ∙ ap (λ x. if is_flushed x then flushed p.letters.letter p.memory p.main s.bus.master s.bus.victim else p.main) at in
      record {
        letters_are = old.letters_are;
        filled_are = old.filled_are;
        main_is = flush ∙ ap (λ w. flushed p.letters.letter p.memory w s.bus.master s.bus.victim) before;
        coherent = subst (λ w. IsCoherent (2 * cores) p.letters.letter p.memory w) (sym flush) (coherent was s.bus.victim refl);
        agrees = old.agrees;
        code = old.code;
        empty = old.empty;
        master = old.master;
        beyond = old.beyond;
        phases = λ k ne lt. ap (λ x. fits_phase x (s.bus.slave k)) (sym at) ∙ old.phases k ne lt;
        on = λ h. goes-on was phase.Address s.bus.abandoned s.bus.word (λ g. cc);
      }
    where
      coherent : On → (victim : Option ℕ) → s.bus.victim ≡ victim
          → IsCoherent (2 * cores) p.letters.letter p.memory (flushed p.letters.letter p.memory s.main s.bus.master s.bus.victim)
      coherent was None is = rw is old.coherent
      coherent was (Some v) is = rw is (elim (cases_Bool (is_dirty (p.letters.letter s.bus.master v))) [
        | inl d ↦ rw d (flush-coherent (2 * cores) p.letters.letter p.memory s.main s.bus.master v old.coherent (was.victim_held v is).1)
        | inr d ↦ rw d old.coherent
      ])

  -- Address.
  pub address-keeps : s.bus.phase ≡ phase.Address → IsSplit image caches cores p (record s { bus = record s.bus { phase = phase.Look } })
  address-keeps at =
      let was : On = old.on (ap is_on at) in
      record {
        letters_are = old.letters_are;
        filled_are = old.filled_are;
        main_is = old.main_is ∙ main-phase p.letters.letter p.memory p.main s.bus phase.Look (sym (ap is_flushed at));
        coherent = old.coherent;
        agrees = old.agrees;
        code = old.code;
        empty = old.empty;
        master = old.master;
        beyond = old.beyond;
        phases = λ k ne lt. ap not (fresh-plain (s.bus.slave k) (ap (λ x. fits_phase x (s.bus.slave k)) (sym at) ∙ old.phases k ne lt));
        on = λ h. goes-on was phase.Look s.bus.abandoned s.bus.word (λ g. cc);
      }

  -- Supply: the words come from the owner, else from main memory.
  pub supply-keeps : (word' : ℕ → ℕ) → s.bus.phase ≡ phase.Supply →
      ((d : ℕ) → s.bus.di ≡ Some d → (h : ℕ) → h < 2 → word' h ≡ s.word d (2 * s.bus.line + h)) →
      (s.bus.di ≡ None → (h : ℕ) → h < 2 → word' h ≡ slice_index s.main (2 * s.bus.line + h)) →
      IsSplit image caches cores p (record s { bus = record s.bus { phase = phase.Act; word = word' } })
  supply-keeps word' at from_owner from_main =
      let was : On = old.on (ap is_on at) in
      record {
        letters_are = old.letters_are;
        filled_are = old.filled_are;
        main_is = old.main_is ∙ main-phase p.letters.letter p.memory p.main s.bus phase.Act (sym (ap is_flushed at));
        coherent = old.coherent;
        agrees = old.agrees;
        code = old.code;
        empty = old.empty;
        master = old.master;
        beyond = old.beyond;
        phases = λ k ne lt. ap not (latched-seen (s.bus.slave k) (latched k ne lt));
        on = λ h. goes-on was phase.Act s.bus.abandoned word' (λ g none. supplied was none s.bus.di refl);
      }
    where
      latched : (k : ℕ) → k ≢ s.bus.master → k < 2 * cores → is_latched (s.bus.slave k) ≡ true
      latched k ne lt = ap (λ x. fits_phase x (s.bus.slave k)) (sym at) ∙ old.phases k ne lt

      plain : (k : ℕ) → is_acted (s.bus.slave k) ≡ false
      plain k = elim (cases_lt k (2 * cores)) [
        | inl lt ↦ elim (cases_eq k s.bus.master) [
          | inl e ↦ ap (λ z. is_acted (s.bus.slave z)) e ∙ ap is_acted old.master
          | inr ne ↦ latched-plain (s.bus.slave k) (latched k ne lt)
        ]
        | inr le ↦ ap is_acted (old.beyond k le)
      ]

      half : (h : ℕ) → h < 2 → (2 * s.bus.line + h) / 2 ≡ s.bus.line
      half h lt = omega arith

      -- Nobody owns it.
      nobody : On → p.letters.letter s.bus.master s.bus.line ≡ I → s.bus.di ≡ None → (k : ℕ)
          → is_dirty (p.letters.letter k s.bus.line) ≡ false
      nobody was none is k = elim (cases_eq k s.bus.master) [
        | inl e ↦ invalid-dirty (p.letters.letter k s.bus.line) (ap (λ z. p.letters.letter z s.bus.line) e ∙ none)
        | inr ne ↦ elim (cases_Bool (is_dirty (p.letters.letter k s.bus.line))) [
          | inl d ↦ elim (cases_lt k (2 * cores)) [
            | inl lt ↦ (let q : Some k ≡ None = sym (was.owner k ne (latched-seen (s.bus.slave k) (latched k ne lt)) d) ∙ is in absurd cc)
            | inr le ↦ invalid-dirty (p.letters.letter k s.bus.line) (old.coherent.within k s.bus.line le)
          ]
          | inr d ↦ d
        ]
      ]

      supplied : On → p.letters.letter s.bus.master s.bus.line ≡ I → (di : Option ℕ) → s.bus.di ≡ di → (h : ℕ) → h < 2
          → word' h ≡ slice_index p.memory (2 * s.bus.line + h)
      supplied was none None is h lt =
          from_main is h lt
          ∙ old.coherent.clean (2 * s.bus.line + h) (λ k. ap (λ z. is_dirty (p.letters.letter k z)) (half h lt) ∙ nobody was none is k)
      supplied was none (Some d) is h lt =
          let owns = was.owns d is in
          from_owner d is h lt ∙ old.agrees d (2 * s.bus.line + h)
          (ap (λ z. is_held (s.letter d z)) (half h lt)
          ∙ (ap is_held (old.letters_are d s.bus.line ∙ now-plain caches p.letters.letter s.bus d s.bus.line (plain d))
          ∙ dirty-held (p.letters.letter d s.bus.line) owns.1.1))

if-held : (m k : ℕ) (x : Letter) (now : SlavePhase) → k ≢ m → is_fresh now ≡ false
    → (if not (k == m) && (not (is_fresh now) && is_held x) then 2 ^ k else 0) ≡ (if is_held x then 2 ^ k else 0)
if-held m k x now ne seen = rw (ne_eqb k m ne, seen) refl

if-fresh : (m k : ℕ) (x : Letter) (now : SlavePhase) → is_fresh now ≡ true
    → (if not (k == m) && (not (is_fresh now) && is_held x) then 2 ^ k else 0) ≡ 0
if-fresh m k x now fresh = rw fresh (by (k == m))
  where
    by : (b : Bool) → (if not b && false then 2 ^ k else 0) ≡ 0
    by true = refl
    by false = refl

-- One slave more that has looked.
pub seen-next : (f : ℕ → ℕ → Letter) (old new : ℕ → SlavePhase) (m line n k : ℕ) → k < n → k ≢ m → is_fresh (old k) ≡ true
    → is_fresh (new k) ≡ false → ((j : ℕ) → j ≢ k → new j ≡ old j) →
    seen_by f new m line n ≡ seen_by f old m line n + (if is_held (f k line) then 2 ^ k else 0)
seen-next f old new m line zero k lt ne fresh seen same = absurd (omega arith)
seen-next f old new m line (suc n) k lt ne fresh seen same = elim (cases_eq k n) [
  | inl e ↦
      (let P : ℕ → Type 0 = λ z. seen_by f new m line (suc z) ≡ seen_by f old m line (suc z) + (if is_held (f k line) then 2 ^ k else 0) in
      let a = seen-same f f old new m line k (λ j lt. ap (λ x. not (is_fresh x) && is_held (f j line)) (same j (omega arith))) in
      let b = if-held m k (f k line) (new k) ne seen in
      let c = if-fresh m k (f k line) (old k) fresh in
      subst P e (omega (arith, a, b, c)))
  | inr o ↦
      (let a = seen-next f old new m line n k (omega arith) ne fresh seen same in
      let b = ap (λ x. if not (n == m) && (not (is_fresh x) && is_held (f n line)) then 2 ^ n else 0) (same n (λ q. o (sym q))) in
      omega (arith, a, b))
]

-- Look: a slave latches what it holds and owns.
module _ (image : ImageValue) (caches : Caches) (cores : ℕ) (p : Past) (s : State) (k : ℕ) (phase' : Phase) (slave' : ℕ → SlavePhase)
    (ch' : ℕ) (di' : Option ℕ)
    (old : IsSplit image caches cores p s)
    (at : s.bus.phase ≡ phase.Look)
    (other : k ≢ s.bus.master)
    (below : k < 2 * cores)
    (fresh : is_fresh (s.bus.slave k) ≡ true)
    (here : is_latched (slave' k) ≡ true)
    (others : (j : ℕ) → j ≢ k → slave' j ≡ s.bus.slave j)
    (ch : ch' ≡ s.bus.ch + (if is_held (s.letter k s.bus.line) then 2 ^ k else 0))
    (di : di' ≡ (if is_dirty (s.letter k s.bus.line) then Some k else s.bus.di))
    (flushed_still : is_flushed phase' ≡ true)
    (fits : (j : ℕ) → j ≢ s.bus.master → j < 2 * cores → fits_phase phase' (slave' j) ≡ true)
    (upgrade : is_supplied phase' ≡ true → s.bus.supply ≡ false) where
  was : IsOn caches cores (code_lines image) p.letters p.memory s.bus
  was = old.on (ap is_on at)

  -- No slave has acted.
  none-acted : (j : ℕ) → is_acted (s.bus.slave j) ≡ false
  none-acted j = elim (cases_lt j (2 * cores)) [
    | inl lt ↦ elim (cases_eq j s.bus.master) [
      | inl e ↦ ap (λ z. is_acted (s.bus.slave z)) e ∙ ap is_acted old.master
      | inr ne ↦ not-true (is_acted (s.bus.slave j)) (ap (λ x. fits_phase x (s.bus.slave j)) (sym at) ∙ old.phases j ne lt)
    ]
    | inr le ↦ ap is_acted (old.beyond j le)
  ]

  none-acted_now : (j : ℕ) → is_acted (slave' j) ≡ false
  none-acted_now j = elim (cases_eq j k) [
    | inl e ↦ ap (λ z. is_acted (slave' z)) e ∙ latched-plain (slave' k) here
    | inr ne ↦ ap is_acted (others j ne) ∙ none-acted j
  ]

  letter-is : (j l : ℕ) → s.letter j l ≡ p.letters.letter j l
  letter-is j l = old.letters_are j l ∙ now-plain caches p.letters.letter s.bus j l (none-acted j)

  ch-is : ch' ≡ seen_by p.letters.letter slave' s.bus.master s.bus.line (2 * cores)
  ch-is =
      ch ∙ (ap (λ n. n + (if is_held (s.letter k s.bus.line) then 2 ^ k else 0)) was.held_by
      ∙ (ap (λ x. seen_by p.letters.letter s.bus.slave s.bus.master s.bus.line (2 * cores) + (if is_held x then 2 ^ k else 0))
      (letter-is k s.bus.line)
      ∙ sym (seen-next p.letters.letter s.bus.slave slave' s.bus.master s.bus.line (2 * cores) k below other fresh
      (latched-seen (slave' k) here) others)))

  di-is : (x : Bool) → is_dirty (p.letters.letter k s.bus.line) ≡ x → di' ≡ (if x then Some k else s.bus.di)
  di-is x e = di ∙ (ap (λ y. if is_dirty y then Some k else s.bus.di) (letter-is k s.bus.line) ∙ ap (λ y. if y then Some k else s.bus.di) e)

  -- What is seen of others is as before.
  seen-else : (j : ℕ) → j ≢ k → is_fresh (slave' j) ≡ is_fresh (s.bus.slave j)
  seen-else j ne = ap is_fresh (others j ne)

  owns-now : (d : ℕ) → di' ≡ Some d
      → (d ≢ s.bus.master) × ((is_fresh (slave' d) ≡ false) × (is_dirty (p.letters.letter d s.bus.line) ≡ true))
  owns-now d is = by (is_dirty (p.letters.letter k s.bus.line)) refl
    where
      by : (x : Bool) → is_dirty (p.letters.letter k s.bus.line) ≡ x
          → (d ≢ s.bus.master) × ((is_fresh (slave' d) ≡ false) × (is_dirty (p.letters.letter d s.bus.line) ≡ true))
      by true e =
          let q : Some d ≡ Some k = sym is ∙ di-is true e in
          let r : d ≡ k = cc in (
            (λ z. other (sym r ∙ z)),
            (
              ap (λ z. is_fresh (slave' z)) r
                  ∙ latched-seen (slave' k) here,
              ap (λ z. is_dirty (p.letters.letter z s.bus.line)) r ∙ e,
            ),
          )
      by false e =
          let o = was.owns d (sym (di-is false e) ∙ is) in
          let ne : d ≢ k = (λ z. both_ways (is_dirty (p.letters.letter k s.bus.line))
          e (ap (λ y. is_dirty (p.letters.letter y s.bus.line)) (sym z) ∙ o.1.1)) in
          (o.0, (seen-else d ne ∙ o.1.0, o.1.1))

  owner-now : (j : ℕ) → j ≢ s.bus.master → is_fresh (slave' j) ≡ false → is_dirty (p.letters.letter j s.bus.line) ≡ true → di' ≡ Some j
  owner-now j ne seen dirty = elim (cases_eq j k) [
    | inl e ↦ di-is true (ap (λ z. is_dirty (p.letters.letter z s.bus.line)) (sym e) ∙ dirty) ∙ ap Some (sym e)
    | inr o ↦ di-is false (clean o) ∙ was.owner j ne (sym (seen-else j o) ∙ seen) dirty
  ]
    where
      clean : j ≢ k → is_dirty (p.letters.letter k s.bus.line) ≡ false
      clean o = elim (cases_Bool (is_dirty (p.letters.letter k s.bus.line))) [
        | inl d ↦ absurd (o (old.coherent.owner k j s.bus.line d dirty))
        | inr d ↦ d
      ]

  pub look-keeps : IsSplit image caches cores p (record s { bus = record s.bus { phase = phase'; slave = slave'; ch = ch'; di = di' } })
  look-keeps = record {
    letters_are = λ j l. letter-is j l ∙ sym (now-plain caches p.letters.letter (record s.bus { slave = slave' }) j l (none-acted_now j));
    filled_are =
        λ j set. old.filled_are j set
        ∙ (plain-filled s.bus j set (none-acted j) ∙ sym (plain-filled (record s.bus { slave = slave' }) j set (none-acted_now j)));
    main_is = old.main_is ∙ main-phase p.letters.letter p.memory p.main s.bus phase' (flushed_still ∙ sym (ap is_flushed at));
    coherent = old.coherent;
    agrees = old.agrees;
    code = old.code;
    empty = old.empty;
    master = others s.bus.master (λ z. other (sym z)) ∙ old.master;
    beyond = λ j le. others j (λ z. omega arith) ∙ old.beyond j le;
    phases = fits;
    on = λ h. on-with caches cores (code_lines image) p.letters p.memory s.bus was phase' s.bus.abandoned slave' ch' di' s.bus.word
        ch-is owns-now owner-now (λ g none. absurd (both_ways s.bus.supply (upgrade g) (was.supplies ∙ ap (λ x. not (is_held x)) none)));
  }
    where
      plain-filled : (x : BusView) (j set : ℕ) → is_acted (x.slave j) ≡ false
          → now_filled caches p.letters.filled x j set ≡ p.letters.filled j set
      plain-filled x j set e = rw e refl

-- Act: a slave's letter changes by its table.
module _ (image : ImageValue) (caches : Caches) (cores : ℕ) (p : Past) (s : State) (k : ℕ) (phase' : Phase) (slave' : ℕ → SlavePhase)
    (letter' : ℕ → ℕ → Letter) (word' : ℕ → ℕ → ℕ) (filled' : ℕ → ℕ → List ℕ)
    (tables : AreTables caches)
    (old : IsSplit image caches cores p s)
    (at : s.bus.phase ≡ phase.Act)
    (other : k ≢ s.bus.master)
    (below : k < 2 * cores)
    (latched : is_latched (s.bus.slave k) ≡ true)
    (here : is_acted (slave' k) ≡ true)
    (others : (j : ℕ) → j ≢ k → slave' j ≡ s.bus.slave j)
    (letter_here : (l : ℕ) → letter' k l
    ≡ (if l == s.bus.line then (caches.protocol k).after_act (s.letter k l) s.bus.im else s.letter k l))
    (letter_else : (j l : ℕ) → j ≢ k → letter' j l ≡ s.letter j l)
    (word_here : (i : ℕ) → is_held (letter' k (i / 2)) ≡ true → word' k i ≡ s.word k i)
    (word_else : (j i : ℕ) → j ≢ k → word' j i ≡ s.word j i)
    (filled_here : (set : ℕ) → filled' k set
    ≡ (if set == s.bus.line % caches.sets then without_line s.bus (s.filled k set) else s.filled k set))
    (filled_else : (j set : ℕ) → j ≢ k → filled' j set ≡ s.filled j set)
    (flushed_still : is_flushed phase' ≡ true)
    (fits : (j : ℕ) → j ≢ s.bus.master → j < 2 * cores → fits_phase phase' (slave' j) ≡ true) where
  acting : IsOn caches cores (code_lines image) p.letters p.memory s.bus
  acting = old.on (ap is_on at)

  plain-here : is_acted (s.bus.slave k) ≡ false
  plain-here = latched-plain (s.bus.slave k) latched

  letter-was : (l : ℕ) → s.letter k l ≡ p.letters.letter k l
  letter-was l = old.letters_are k l ∙ now-plain caches p.letters.letter s.bus k l plain-here

  filled-was : (set : ℕ) → s.filled k set ≡ p.letters.filled k set
  filled-was set = old.filled_are k set ∙ rw plain-here refl

  act-letters : (j l : ℕ) → letter' j l ≡ now_letter caches p.letters.letter (record s.bus { slave = slave' }) j l
  act-letters j l = elim (cases_eq j k) [
    | inl e ↦ (let P : ℕ → Type 0 = λ z. letter' z l ≡ now_letter caches p.letters.letter (record s.bus { slave = slave' }) z l in
        subst P (sym e) (letter_here l ∙ (ap (λ x. if l == s.bus.line then (caches.protocol k).after_act x s.bus.im else x) (letter-was l)
        ∙ sym (ap (λ x. letter_if caches p.letters.letter s.bus x k l) here))))
    | inr ne ↦ letter_else j l ne
        ∙ (old.letters_are j l
        ∙ ap (λ x. letter_if caches p.letters.letter s.bus (is_acted x) j l) (sym (others j ne)))
  ]

  act-filled : (j set : ℕ) → filled' j set ≡ now_filled caches p.letters.filled (record s.bus { slave = slave' }) j set
  act-filled j set = elim (cases_eq j k) [
    | inl e ↦ (let P : ℕ → Type 0 = λ z. filled' z set ≡ now_filled caches p.letters.filled (record s.bus { slave = slave' }) z set in
        subst P (sym e) (filled_here set
        ∙ (ap (λ lines. if set == s.bus.line % caches.sets then without_line s.bus lines else lines) (filled-was set)
        ∙ sym (ap (λ x. lines_if caches p.letters.filled s.bus x k set) here))))
    | inr ne ↦ filled_else j set ne
        ∙ (old.filled_are j set
        ∙ ap (λ x. lines_if caches p.letters.filled s.bus (is_acted x) j set) (sym (others j ne)))
  ]

  act-agrees : Agrees letter' word' p.memory
  act-agrees j i h = elim (cases_eq j k) [
    | inl e ↦
        (let held : is_held (letter' k (i / 2)) ≡ true = ap (λ z. is_held (letter' z (i / 2))) (sym e) ∙ h in
        ap (λ z. word' z i) e ∙ (word_here i held ∙ old.agrees k i (was-held (i / 2) held)))
    | inr ne ↦ word_else j i ne ∙ old.agrees j i (ap is_held (sym (letter_else j (i / 2) ne)) ∙ h)
  ]
    where
      was-held : (l : ℕ) → is_held (letter' k l) ≡ true → is_held (s.letter k l) ≡ true
      was-held l h = by (l == s.bus.line) (ap is_held (sym (letter_here l)) ∙ h)
        where
          by : (x : Bool) → is_held (if x then (caches.protocol k).after_act (s.letter k l) s.bus.im else s.letter k l) ≡ true
              → is_held (s.letter k l) ≡ true
          by true g = (tables.tables k).was_held (s.letter k l) s.bus.im g
          by false g = g

  fresh-same : (j : ℕ) → is_fresh (slave' j) ≡ is_fresh (s.bus.slave j)
  fresh-same j = elim (cases_eq j k) [
    | inl e ↦ ap (λ z. is_fresh (slave' z)) e
        ∙ (acted-seen (slave' k) here ∙ sym (ap (λ z. is_fresh (s.bus.slave z)) e ∙ latched-seen (s.bus.slave k) latched))
    | inr ne ↦ ap is_fresh (others j ne)
  ]

  pub act-keeps : IsSplit image caches cores p
      (record { letter = letter'; word = word'; filled = filled'; main = s.main; bus = record s.bus { phase = phase'; slave = slave' } })
  act-keeps = record {
    letters_are = act-letters;
    filled_are = act-filled;
    main_is = old.main_is ∙ main-phase p.letters.letter p.memory p.main s.bus phase' (flushed_still ∙ sym (ap is_flushed at));
    coherent = old.coherent;
    agrees = act-agrees;
    code = old.code;
    empty = old.empty;
    master = others s.bus.master (λ z. other (sym z)) ∙ old.master;
    beyond = λ j le. others j (λ z. omega arith) ∙ old.beyond j le;
    phases = fits;
    on = λ h. on-with caches cores (code_lines image) p.letters p.memory s.bus acting
        phase' s.bus.abandoned slave' s.bus.ch s.bus.di s.bus.word
        (acting.held_by ∙ sym (seen-same p.letters.letter p.letters.letter s.bus.slave slave' s.bus.master s.bus.line (2 * cores)
        (λ j lt. ap (λ x. not x && is_held (p.letters.letter j s.bus.line)) (fresh-same j))))
        (λ d is. (let o = acting.owns d is in (o.0, (fresh-same d ∙ o.1.0, o.1.1))))
        (λ j ne seen dirty. acting.owner j ne (sym (fresh-same j) ∙ seen) dirty)
        (λ g none. acting.supplied (ap is_supplied at) none);
  }

-- Grant: a request that is no hit has the bus.
module _ (image : ImageValue) (caches : Caches) (cores : ℕ) (p : Past) (s : State) (b : BusView)
    (old : IsSplit image caches cores p s)
    (at : s.bus.phase ≡ phase.Off)
    (fresh : (k : ℕ) → b.slave k ≡ slave.Fresh)
    (master : b.master < 2 * cores)
    (inside : 2 * b.line + 1 < length p.memory)
    (lacks : suffices (s.letter b.master b.line) b.im ≡ false)
    (code : b.master % 2 ≡ 0 → (b.im ≡ false) × (b.line < length image.code / 2))
    (victim : b.victim ≡ victim_of caches.ways (s.letter b.master b.line) (s.filled b.master (b.line % caches.sets)))
    (victim_held : (v : ℕ) → b.victim ≡ Some v → (v ≢ b.line) × (is_held (s.letter b.master v) ≡ true))
    (supplies : b.supply ≡ not (is_held (s.letter b.master b.line)))
    (nothing : (b.ch ≡ 0) × (b.di ≡ None))
    (starts : (b.phase ≡ phase.Flush) ⊎
    ((b.phase ≡ phase.Address) × ((v : ℕ) → b.victim ≡ Some v → is_dirty (s.letter b.master v) ≡ false))) where
  off-fresh : (k : ℕ) → is_fresh (s.bus.slave k) ≡ true
  off-fresh k = elim (cases_lt k (2 * cores)) [
    | inl lt ↦ elim (cases_eq k s.bus.master) [
      | inl e ↦ ap (λ z. is_fresh (s.bus.slave z)) e ∙ ap is_fresh old.master
      | inr ne ↦ ap (λ x. fits_phase x (s.bus.slave k)) (sym at) ∙ old.phases k ne lt
    ]
    | inr le ↦ ap is_fresh (old.beyond k le)
  ]

  -- With no transaction on, letters are those of the history.
  pub off-letter : (k l : ℕ) → s.letter k l ≡ p.letters.letter k l
  off-letter k l = old.letters_are k l ∙ now-plain caches p.letters.letter s.bus k l (fresh-plain (s.bus.slave k) (off-fresh k))

  off-filled : (k set : ℕ) → s.filled k set ≡ p.letters.filled k set
  off-filled k set = old.filled_are k set ∙ rw (fresh-plain (s.bus.slave k) (off-fresh k)) refl

  plain-now : (k : ℕ) → is_acted (b.slave k) ≡ false
  plain-now k = ap is_acted (fresh k)

  off-main : s.main ≡ p.main
  off-main = old.main_is ∙ sym (main-off p.letters.letter p.memory p.main s.bus at)

  none-seen : (n : ℕ) → seen_by p.letters.letter b.slave b.master b.line n ≡ 0
  none-seen zero = refl
  none-seen (suc n) =
      let a = none-seen n in
      let c = if-fresh b.master n (p.letters.letter n b.line) (b.slave n) (ap is_fresh (fresh n)) in
      omega (arith, a, c)

  fits-start : (k : ℕ) → fits_phase b.phase (b.slave k) ≡ true
  fits-start k = elim starts [
    | inl e ↦ ap (λ x. fits_phase x (b.slave k)) e ∙ ap is_fresh (fresh k)
    | inr e ↦ ap (λ x. fits_phase x (b.slave k)) e.0 ∙ ap is_fresh (fresh k)
  ]

  main-start : s.main ≡ now_main p.letters.letter p.memory p.main b
  main-start = elim starts [
    | inl e ↦ off-main ∙ ap (λ x. if is_flushed x then flushed p.letters.letter p.memory p.main b.master b.victim else p.main) (sym e)
    | inr e ↦ off-main
        ∙ (clean e.1 b.victim refl
        ∙ ap (λ x. if is_flushed x then flushed p.letters.letter p.memory p.main b.master b.victim else p.main) (sym e.0))
  ]
    where
      clean : ((v : ℕ) → b.victim ≡ Some v → is_dirty (s.letter b.master v) ≡ false) → (w : Option ℕ) → b.victim ≡ w
          → p.main ≡ flushed p.letters.letter p.memory p.main b.master b.victim
      clean h None e = rw e refl
      clean h (Some v) e = rw (e, sym (off-letter b.master v)) (rw (h v e) refl)

  not-supplied : is_supplied b.phase ≡ false
  not-supplied = elim starts [ inl e ↦ ap is_supplied e | inr e ↦ ap is_supplied e.0 ]

  pub grant-keeps : IsSplit image caches cores p (record s { bus = b })
  grant-keeps = record {
    letters_are = λ k l. off-letter k l ∙ sym (now-plain caches p.letters.letter b k l (plain-now k));
    filled_are = λ k set. off-filled k set ∙ rw (plain-now k) refl;
    main_is = main-start;
    coherent = old.coherent;
    agrees = old.agrees;
    code = old.code;
    empty = old.empty;
    master = fresh b.master;
    beyond = λ k le. fresh k;
    phases = λ k ne lt. fits-start k;
    on = λ h. record {
      master = master;
      inside = inside;
      lacks = ap (λ x. suffices x b.im) (sym (off-letter b.master b.line)) ∙ lacks;
      code = code;
      makes_room =
          victim ∙ (ap (λ x. victim_of caches.ways x (s.filled b.master (b.line % caches.sets))) (off-letter b.master b.line)
          ∙ ap (λ xs. victim_of caches.ways (p.letters.letter b.master b.line) xs) (off-filled b.master (b.line % caches.sets)));
      victim_held = λ v e. (let k = victim_held v e in (k.0, ap is_held (sym (off-letter b.master v)) ∙ k.1));
      supplies = supplies ∙ ap (λ x. not (is_held x)) (off-letter b.master b.line);
      held_by = nothing.0 ∙ sym (none-seen (2 * cores));
      owns = λ d e. (let q : None ≡ Some d = sym nothing.1 ∙ e in absurd cc);
      owner = λ k ne seen dirty. absurd (both_ways (is_fresh (b.slave k)) seen (ap is_fresh (fresh k)));
      supplied = λ g none. absurd (both_ways (is_supplied b.phase) not-supplied g);
    };
  }
