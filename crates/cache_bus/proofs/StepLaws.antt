-- The other transitions but the last one, and a withdrawal, keep what the history says.
use Rattle.std.proofs.Common.{◌≡◌, ◌≢◌, ℕ, ◌+◌, ◌*◌, ◌%◌, ◌<◌, ◌≤◌, inl, inr, Bool, true}
use Rattle.std.proofs.Common.{false, List, length, refl, ap, sym, ◌∙◌, arith, subst}
use Rattle.std.specs.Prelude.{Option, Some, None, slice_index, slice_set, not, ◌==◌, if◌then◌else◌}
use Rattle.std.proofs.lemmas.Bool.{cases_eq, cases_lt, both_ways, not-true, eqb-true, eq-eqb, ne_eqb}
use Rattle.moesi_master.specs.declared.Phase.TheVariants as phase
use Rattle.moesi_master.specs.Moesi.{is_held, is_dirty}
use Rattle.moesi_master.specs.Phases.{is_on, phase_after}
use Rattle.moesi_slave.specs.declared.SlavePhase.{SlavePhase}
use Rattle.moesi_slave.specs.declared.SlavePhase.TheVariants as slave
use Rattle.moesi_slave.specs.Slave.{is_fresh, is_latched, is_acted}
use Rattle.cache_ram.specs.declared.line.Line.{Line}
use Rattle.cache_ram.specs.Lines.{letter_in, word_in, filled_in, IsVictim}
use Rattle.coherence.specs.Bus.{is_flushed, fits_phase, unacted, left_in_phase, transitions_left}
use Rattle.coherence.specs.Coherence.{Agrees, flushed}
use Rattle.coherence.specs.Split.{IsSplit}
use Rattle.coherence.proofs.LetterLaws.{dirty-held}
use Rattle.coherence.proofs.TransitionLaws.{latched-plain, flush-keeps, address-keeps, supply-keeps, act-keeps}
use Rattle.cache_bus.specs.Caches.{cache_at, letters_in, words_in, lines_in, caches_of, filled_after_act, Acted}
use Rattle.cache_bus.specs.View.{slave_in, bus_view}
use Rattle.cache_bus.specs.Calls.{GoesOn}
use Rattle.cache_bus.specs.Inside.{Inside, shown, bus_of, past_in, state_of, Holds}
use Rattle.cache_bus.proofs.CountLaws.{count-next, count-some, count-none, some-other}
use Rattle.cache_bus.proofs.InsideLaws.{tables, slave-here, slave-else, fit-slaves, fit-caches, plain-letter, master-letter}
use Rattle.cache_bus.proofs.LookLaws.{not-zero, only-latched}

module _ (s : Inside) (old : Holds s) where
  -- The owner, the line, the victim are there.

  flushed-now : (memory : List ℕ) (victim : Option ℕ)
      → flushed (letters_in s.caches) memory s.main s.bus.master victim
      ≡ flushed (past_in s).letters.letter memory s.main s.bus.master victim
  flushed-now memory None = refl
  flushed-now memory (Some v) = rw (master-letter s old v) refl

  -- Flush.
  pub flush-inside : s.bus.phase ≡ phase.Flush → (v : ℕ) → s.bus.victim ≡ Some v → 2 * v + 1 < length s.main
  flush-inside at v e =
      let lt = old.split.coherent.inside s.bus.master v ((old.split.on (ap is_on at)).victim_held v e).1 in
      let same = old.split.coherent.size in
      omega (arith, lt, same)

  pub flush-holds : (main' : List ℕ) → s.bus.phase ≡ phase.Flush
      → ((memory : List ℕ) → Agrees (letters_in s.caches) (words_in s.caches) memory
      → main' ≡ flushed (letters_in s.caches) memory s.main s.bus.master s.bus.victim)
      → Holds (record s { main = main'; bus = record s.bus { phase = phase.Address } })
  flush-holds main' at flush = record {
    fit = old.fit;
    room = λ h. old.room (ap is_on at);
    going = λ h. omega arith;
    split = flush-keeps s.image (caches_of s.sets) s.cores (past_in s) (state_of s) old.split main' at
        (flush (past_in s).memory old.split.agrees ∙ flushed-now (past_in s).memory s.bus.victim);
  }

  pub flush-goes : (main' : List ℕ) (spare : ℕ) → s.bus.phase ≡ phase.Flush
      → GoesOn (shown s spare) (shown (record s { main = main'; bus = record s.bus { phase = phase.Address } }) spare)
  flush-goes main' spare at = record {
    stays = record {
      kept = record { image = refl; cores = refl; sets = refl };
      items = refl;
      spare = refl;
      on = refl;
      master = refl;
      line = refl;
      im = refl;
      victim = refl;
      abandoned = refl;
    };
    left = rw at (omega arith);
  }

  -- Address.
  pub address-holds : s.bus.phase ≡ phase.Address → Holds (record s { bus = record s.bus { phase = phase.Look } })
  address-holds at =
      let k = some-other s.bus.master (2 * s.cores) (let h = old.fit.some_cores in omega (arith, h)) in
      let fresh = ap (λ x. fits_phase x (slave_in s.slaves k.0)) (sym at) ∙ old.split.phases k.0 k.1.0 k.1.1 in
      record {
        fit = old.fit;
        room = λ h. old.room (ap is_on at);
        going = λ h. count-some (λ x. is_fresh x) (slave_in s.slaves) s.bus.master (2 * s.cores) k.0 k.1.1 k.1.0 fresh;
        split = address-keeps s.image (caches_of s.sets) s.cores (past_in s) (state_of s) old.split at;
      }

  -- Supply.
  latched : s.bus.phase ≡ phase.Supply → (k : ℕ) → k ≢ s.bus.master → k < 2 * s.cores → is_latched (slave_in s.slaves k) ≡ true
  latched at k ne lt = ap (λ x. fits_phase x (slave_in s.slaves k)) (sym at) ∙ old.split.phases k ne lt

  pub owner-below : s.bus.phase ≡ phase.Supply → (d : ℕ) → s.bus.di ≡ Some d → d < length s.caches
  owner-below at d e = elim (cases_lt d (2 * s.cores)) as (λ _. d < length s.caches) [
    | inl lt ↦ (let c = old.fit.count in omega (arith, c, lt))
    | inr le ↦
        absurd (both_ways (is_dirty ((past_in s).letters.letter d s.bus.line)) (ap is_dirty (old.split.coherent.within d s.bus.line le))
        ((old.split.on (ap is_on at)).owns d e).1.1)
  ]

  pub owner-held : s.bus.phase ≡ phase.Supply → (d : ℕ) → s.bus.di ≡ Some d → is_held (letters_in s.caches d s.bus.line) ≡ true
  owner-held at d e =
      let o = (old.split.on (ap is_on at)).owns d e in
      let lt = owner-below at d e in
      let c = old.fit.count in
      let plain = latched-plain (slave_in s.slaves d) (latched at d o.0 (omega (arith, lt, c))) in
      ap is_held (plain-letter s old d s.bus.line plain) ∙ dirty-held ((past_in s).letters.letter d s.bus.line) o.1.1

  pub supply-holds : (words : List ℕ) → s.bus.phase ≡ phase.Supply
      → ((d : ℕ) → s.bus.di ≡ Some d → (h : ℕ) → h < 2 → slice_index words h ≡ words_in s.caches d (2 * s.bus.line + h))
      → (s.bus.di ≡ None → (h : ℕ) → h < 2 → slice_index words h ≡ slice_index s.main (2 * s.bus.line + h))
      → Holds (record s { bus = record s.bus { phase = phase.Act; low = slice_index words 0; high = slice_index words 1 } })
  supply-holds words at owner from =
      let k = some-other s.bus.master (2 * s.cores) (let h = old.fit.some_cores in omega (arith, h)) in
      let waits = latched-plain (slave_in s.slaves k.0) (latched at k.0 k.1.0 k.1.1) in
      record {
        fit = old.fit;
        room = λ h. old.room (ap is_on at);
        going = λ h. count-some (λ x. not (is_acted x)) (slave_in s.slaves) s.bus.master (2 * s.cores) k.0 k.1.1 k.1.0 (ap not waits);
        split = supply-keeps s.image (caches_of s.sets) s.cores (past_in s) (state_of s) old.split
            (λ h. if h == 0 then slice_index words 0 else slice_index words 1) at
            (λ d e h lt. half h lt ∙ owner d e h lt) (λ e h lt. half h lt ∙ from e h lt);
      }
    where
      half : (h : ℕ) → h < 2 → (if h == 0 then slice_index words 0 else slice_index words 1) ≡ slice_index words h
      half h lt = elim (cases_eq h 0) as (λ _. (if h == 0 then slice_index words 0 else slice_index words 1) ≡ slice_index words h) [
        | inl e ↦ rw (eq-eqb h 0 e) (ap (λ z. slice_index words z) (sym e))
        | inr ne ↦ (let one : h ≡ 1 = omega (arith, ne, lt) in rw (ne_eqb h 0 ne) (ap (λ z. slice_index words z) (sym one)))
      ]

  -- Act.
  module _ (caches' : List (List (Option Line))) (k left : ℕ)
      (at : s.bus.phase ≡ phase.Act) (below : k < length s.slaves) (other : k ≢ s.bus.master)
      (waits : is_acted (slave_in s.slaves k) ≡ false)
      (count : left + 1 ≡ unacted (slave_in s.slaves) s.bus.master (2 * s.cores))
      (here : Acted s.bus.line s.bus.im (cache_at s.caches k) (cache_at caches' k))
      (others : (j : ℕ) → j ≢ k → cache_at caches' j ≡ cache_at s.caches j)
      (len : length caches' ≡ length s.caches) where
    abbrev slaves' : List SlavePhase
    slaves' = slice_set s.slaves k slave.Acted

    abbrev after : Inside
    after = record s { caches = caches'; bus = record s.bus { phase = phase_after phase.Act left s.bus.supply }; slaves = slaves' }

    few-slaves : k < 2 * s.cores
    few-slaves = let e = old.fit.parts in omega (arith, e, below)

    now-here : slave_in slaves' k ≡ slave.Acted
    now-here = slave-here s.slaves k slave.Acted below

    now-else : (j : ℕ) → j ≢ k → slave_in slaves' j ≡ slave_in s.slaves j
    now-else j ne = slave-else s.slaves k slave.Acted j ne

    seen-before : (j : ℕ) → j ≢ s.bus.master → j < 2 * s.cores → is_fresh (slave_in s.slaves j) ≡ false
    seen-before j ne lt =
        not-true (is_fresh (slave_in s.slaves j)) (ap (λ x. fits_phase x (slave_in s.slaves j)) (sym at) ∙ old.split.phases j ne lt)

    seen-now : (j : ℕ) → j ≢ s.bus.master → j < 2 * s.cores → is_fresh (slave_in slaves' j) ≡ false
    seen-now j ne lt = elim (cases_eq j k) as (λ _. is_fresh (slave_in slaves' j) ≡ false) [
      | inl e ↦ ap (λ z. is_fresh (slave_in slaves' z)) e ∙ ap is_fresh now-here
      | inr o ↦ ap is_fresh (now-else j o) ∙ seen-before j ne lt
    ]

    count-now : unacted (slave_in slaves') s.bus.master (2 * s.cores) ≡ left
    count-now =
        let a = count-next (λ x. not (is_acted x)) (slave_in s.slaves) (slave_in slaves') s.bus.master (2 * s.cores) k few-slaves other
        (ap not waits) (ap (λ x. not (is_acted x)) now-here) now-else in
        omega (arith, a, count)

    all-acted : left ≡ 0 → (j : ℕ) → j ≢ s.bus.master → j < 2 * s.cores → is_acted (slave_in slaves' j) ≡ true
    all-acted none j ne lt =
        not-not (is_acted (slave_in slaves' j))
        (count-none (λ x. not (is_acted x)) (slave_in slaves') s.bus.master (2 * s.cores) j (count-now ∙ none) lt ne)
      where
        not-not : (x : Bool) → not x ≡ false → x ≡ true
        not-not true h = refl
        not-not false h = cc

    fits : (none : Bool) → (left == 0) ≡ none → (j : ℕ) → j ≢ s.bus.master → j < 2 * s.cores
        → fits_phase (if none then phase.Finish else phase.Act) (slave_in slaves' j) ≡ true
    fits true e j ne lt = all-acted (eqb-true left 0 e) j ne lt
    fits false e j ne lt = ap not (seen-now j ne lt)

    size : length (cache_at s.caches k) ≡ s.sets
    size = old.fit.sizes k few-slaves

    filled-by : (set : ℕ) → lines_in caches' k set
        ≡ (if set == s.bus.line % s.sets then filled_after_act s.bus.line s.bus.im (lines_in s.caches k set) else lines_in s.caches k set)
    filled-by set =
        elim (cases_eq set (s.bus.line % s.sets)) as (λ _. lines_in caches' k set
        ≡ (if set == s.bus.line % s.sets
        then filled_after_act s.bus.line s.bus.im (lines_in s.caches k set) else lines_in s.caches k set)) [
          | inl e ↦
              (let place : set ≡ s.bus.line % length (cache_at s.caches k) = e ∙ ap (λ n. s.bus.line % n) (sym size) in
              rw (eq-eqb set (s.bus.line % s.sets) e) (ap (λ z. lines_in caches' k z) place
              ∙ (here.filled ∙ ap (λ z. filled_after_act s.bus.line s.bus.im (lines_in s.caches k z)) (sym place))))
          | inr ne ↦ here.filled_else set (λ q. ne (q ∙ ap (λ n. s.bus.line % n) size)) ∙ rw (ne_eqb set (s.bus.line % s.sets) ne) refl
        ]

    act-split : IsSplit s.image (caches_of s.sets) s.cores (past_in s) (state_of after)
    act-split =
        act-keeps s.image (caches_of s.sets) s.cores (past_in s) (state_of s) k
        (phase_after phase.Act left s.bus.supply) (slave_in slaves') (letters_in caches') (words_in caches') (lines_in caches')
        (tables s.sets) old.split at other few-slaves (only-latched (slave_in s.slaves k) (seen-before k other few-slaves) waits)
        (ap is_acted now-here) now-else
        here.letters (λ j l ne. ap (λ c. letter_in c l) (others j ne)) here.words (λ j i ne. ap (λ c. word_in c i) (others j ne))
        filled-by (λ j set ne. ap (λ c. filled_in c set) (others j ne)) (still (left == 0)) (fits (left == 0) refl)
      where
        still : (none : Bool) → is_flushed (if none then phase.Finish else phase.Act) ≡ true
        still true = refl
        still false = refl

    pub act-holds : Holds after
    act-holds = record {
      fit = fit-slaves s.image s.cores s.sets caches' s.slaves k slave.Acted
          (fit-caches s.image s.cores s.sets s.caches caches' (length s.slaves) k old.fit len here.sets others);
      room = λ h v e. subst (λ c. IsVictim c s.bus.line v) (sym (others s.bus.master (λ q. other (sym q)))) (old.room (ap is_on at) v e);
      going = λ h. going-now (left == 0) refl;
      split = act-split;
    }
      where
        going-now : (none : Bool) → (left == 0) ≡ none
            → 1 ≤ left_in_phase (if none then phase.Finish else phase.Act) (slave_in slaves') s.bus.master (2 * s.cores)
        going-now true e = omega arith
        going-now false e = let some = not-zero left e in omega (arith, count-now, some)

    pub act-goes : (spare : ℕ) → GoesOn (shown s spare) (shown after spare)
    act-goes spare = record {
      stays = record {
        kept = record { image = refl; cores = refl; sets = refl };
        items = refl;
        spare = refl;
        on = on-now (left == 0);
        master = refl;
        line = refl;
        im = refl;
        victim = refl;
        abandoned = refl;
      };
      left = left-now (left == 0) refl;
    }
      where
        on-now : (none : Bool) → is_on (if none then phase.Finish else phase.Act) ≡ true
        on-now true = refl
        on-now false = refl

        left-now : (none : Bool) → (left == 0) ≡ none
            → transitions_left (bus_view (record s.bus { phase = phase_after phase.Act left s.bus.supply }) slaves') (2 * s.cores) + 1
            ≡ transitions_left (bus_of s) (2 * s.cores)
        left-now true e = let z = eqb-true left 0 e in rw (at, e) (omega (arith, z, count))
        left-now false e = rw (at, e) (omega (arith, count-now, count))
