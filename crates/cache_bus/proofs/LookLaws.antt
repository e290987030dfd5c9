-- A look keeps what the history says.
use Rattle.std.proofs.Math.Pow.{pow_mono}
use Rattle.std.proofs.Common.{◌≡◌, ◌≢◌, ℕ, ◌+◌, ◌*◌, ◌^◌, ◌<◌, ◌≤◌, inl, inr, Bool, true, false, List, length, refl, ap, sym, ◌∙◌, arith}
use Rattle.std.specs.Prelude.{Some, slice_set, not, ◌==◌, if◌then◌else◌}
use Rattle.std.proofs.lemmas.Bool.{cases_eq, not-true, eqb-true, eqb-false}
use Rattle.access_log.specs.declared.Letter.TheVariants as letters
use Rattle.moesi_master.specs.declared.Phase.TheVariants as phase
use Rattle.moesi_master.specs.Moesi.{is_held, is_dirty}
use Rattle.moesi_master.specs.Phases.{is_on, phase_after}
use Rattle.moesi_slave.specs.declared.Seen.{Seen}
use Rattle.moesi_slave.specs.declared.SlavePhase.{SlavePhase}
use Rattle.moesi_slave.specs.declared.SlavePhase.TheVariants as slave
use Rattle.moesi_slave.specs.Slave.{is_fresh, is_latched, is_acted}
use Rattle.coherence.specs.Bus.{is_flushed, is_supplied, fits_phase, unseen, unacted, left_in_phase, transitions_left}
use Rattle.coherence.specs.Split.{IsSplit}
use Rattle.coherence.proofs.TransitionLaws.{seen-next, look-keeps, fresh-plain}
use Rattle.cache_bus.specs.Caches.{letters_in, caches_of}
use Rattle.cache_bus.specs.View.{slave_in, bus_view, looked}
use Rattle.cache_bus.specs.Calls.{GoesOn}
use Rattle.cache_bus.specs.Inside.{Inside, shown, bus_of, past_in, state_of, Holds}
use Rattle.cache_bus.proofs.CountLaws.{count-same, count-next, count-some, count-none, seen-below, seen-mono}
use Rattle.cache_bus.proofs.InsideLaws.{slave-here, slave-else, fit-slaves}

-- A count above none.
pub not-zero : (n : ℕ) → (n == 0) ≡ false → 1 ≤ n
not-zero n e = let ne = eqb-false n 0 e in omega (arith, ne)

-- What a cache is that has looked and not acted.
pub only-latched : (x : SlavePhase) → is_fresh x ≡ false → is_acted x ≡ false → is_latched x ≡ true
only-latched slave.Fresh f a = cc
only-latched (slave.Latched seen) f a = refl
only-latched slave.Acted f a = cc

module _ (s : Inside) (old : Holds s) (at : s.bus.phase ≡ phase.Look) (k : ℕ) (seen : Seen) (left : ℕ)
    (below : k < length s.slaves) (other : k ≢ s.bus.master) (fresh : is_fresh (slave_in s.slaves k) ≡ true)
    (ch : seen.ch ≡ is_held (letters_in s.caches k s.bus.line)) (di : seen.di ≡ is_dirty (letters_in s.caches k s.bus.line))
    (count : left + 1 ≡ unseen (slave_in s.slaves) s.bus.master (2 * s.cores)) where
  abbrev slaves' : List SlavePhase
  slaves' = slice_set s.slaves k (slave.Latched seen)

  on : is_on s.bus.phase ≡ true
  on = ap is_on at

  few-slaves : k < 2 * s.cores
  few-slaves = let e = old.fit.parts in omega (arith, e, below)

  now-here : slave_in slaves' k ≡ slave.Latched seen
  now-here = slave-here s.slaves k (slave.Latched seen) below

  now-else : (j : ℕ) → j ≢ k → slave_in slaves' j ≡ slave_in s.slaves j
  now-else j ne = slave-else s.slaves k (slave.Latched seen) j ne

  count-now : unseen (slave_in slaves') s.bus.master (2 * s.cores) ≡ left
  count-now =
      let a = count-next (λ x. is_fresh x) (slave_in s.slaves) (slave_in slaves') s.bus.master (2 * s.cores) k few-slaves other fresh
      (ap is_fresh now-here) now-else in
      omega (arith, a, count)

  not-acted : (j : ℕ) → j ≢ s.bus.master → j < 2 * s.cores → is_acted (slave_in slaves' j) ≡ false
  not-acted j ne lt = elim (cases_eq j k) as (λ _. is_acted (slave_in slaves' j) ≡ false) [
    | inl e ↦ ap (λ z. is_acted (slave_in slaves' z)) e ∙ ap is_acted now-here
    | inr o ↦
        ap is_acted (now-else j o)
        ∙ not-true (is_acted (slave_in s.slaves j)) (ap (λ x. fits_phase x (slave_in s.slaves j)) (sym at) ∙ old.split.phases j ne lt)
  ]

  all-seen : left ≡ 0 → (j : ℕ) → j ≢ s.bus.master → j < 2 * s.cores → is_fresh (slave_in slaves' j) ≡ false
  all-seen none j ne lt = count-none (λ x. is_fresh x) (slave_in slaves') s.bus.master (2 * s.cores) j (count-now ∙ none) lt ne

  fits : (none supply : Bool) → (left == 0) ≡ none → (j : ℕ) → j ≢ s.bus.master → j < 2 * s.cores
      → fits_phase (if none then (if supply then phase.Supply else phase.Act) else phase.Look) (slave_in slaves' j) ≡ true
  fits true true e j ne lt = only-latched _ (all-seen (eqb-true left 0 e) j ne lt) (not-acted j ne lt)
  fits true false e j ne lt = ap not (all-seen (eqb-true left 0 e) j ne lt)
  fits false supply e j ne lt = ap not (not-acted j ne lt)

  look-split : IsSplit s.image (caches_of s.sets) s.cores (past_in s)
      (state_of (record s { bus = looked s.bus k seen left; slaves = slaves' }))
  look-split =
      look-keeps s.image (caches_of s.sets) s.cores (past_in s) (state_of s) k
      (phase_after phase.Look left s.bus.supply) (slave_in slaves') (s.bus.ch + (if seen.ch then 2 ^ k else 0))
      (if seen.di then Some k else s.bus.di)
      old.split at other few-slaves fresh (ap is_latched now-here) now-else
      (ap (λ x. s.bus.ch + (if x then 2 ^ k else 0)) ch) (ap (λ x. if x then Some k else s.bus.di) di)
      (still (left == 0) s.bus.supply) (fits (left == 0) s.bus.supply refl) (λ g. upgrade (left == 0) s.bus.supply g)
    where
      still : (none supply : Bool) → is_flushed (if none then (if supply then phase.Supply else phase.Act) else phase.Look) ≡ true
      still true true = refl
      still true false = refl
      still false supply = refl

      upgrade : (none supply : Bool) → is_supplied (if none then (if supply then phase.Supply else phase.Act) else phase.Look) ≡ true
          → supply ≡ false
      upgrade true true g = cc
      upgrade true false g = refl
      upgrade false supply g = cc

  some-unacted : 1 ≤ unacted (slave_in slaves') s.bus.master (2 * s.cores)
  some-unacted =
      count-some (λ x. not (is_acted x)) (slave_in slaves') s.bus.master (2 * s.cores) k few-slaves other
      (ap (λ x. not (is_acted x)) now-here)

  going-now : (none supply : Bool) → (left == 0) ≡ none
      → 1 ≤ left_in_phase (if none then (if supply then phase.Supply else phase.Act) else phase.Look) (slave_in slaves') s.bus.master
      (2 * s.cores)
  going-now true true e = omega arith
  going-now true false e = some-unacted
  going-now false supply e = let some = not-zero left e in omega (arith, count-now, some)

  pub look-holds : Holds (record s { bus = looked s.bus k seen left; slaves = slaves' })
  look-holds = record {
    fit = fit-slaves s.image s.cores s.sets s.caches s.slaves k (slave.Latched seen) old.fit;
    room = λ h. old.room on;
    going = λ h. going-now (left == 0) s.bus.supply refl;
    split = look-split;
  }

  acts-same : unacted (slave_in slaves') s.bus.master (2 * s.cores) ≡ unacted (slave_in s.slaves) s.bus.master (2 * s.cores)
  acts-same = count-same (λ x. not (is_acted x)) (slave_in s.slaves) (slave_in slaves') s.bus.master (2 * s.cores) (λ j lt. ap not (same j))
    where
      same : (j : ℕ) → is_acted (slave_in slaves' j) ≡ is_acted (slave_in s.slaves j)
      same j = elim (cases_eq j k) as (λ _. is_acted (slave_in slaves' j) ≡ is_acted (slave_in s.slaves j)) [
        | inl e ↦
            ap (λ z. is_acted (slave_in slaves' z)) e
            ∙ (ap is_acted now-here ∙ sym (ap (λ z. is_acted (slave_in s.slaves z)) e ∙ fresh-plain (slave_in s.slaves k) fresh))
        | inr o ↦ ap is_acted (now-else j o)
      ]

  look-left : (none : Bool) (supply : Bool) → (left == 0) ≡ none → s.bus.supply ≡ supply
      → transitions_left (bus_view (looked s.bus k seen left) slaves') (2 * s.cores) + 1 ≡ transitions_left (bus_of s) (2 * s.cores)
  look-left true true e g = let z = eqb-true left 0 e in rw (at, e, g) (omega (arith, z, count, acts-same))
  look-left true false e g = let z = eqb-true left 0 e in rw (at, e, g) (omega (arith, z, count, acts-same))
  look-left false supply e g = rw (at, e, g) (omega (arith, count-now, count, acts-same))

  pub look-goes : (spare : ℕ) → GoesOn (shown s spare) (shown (record s { bus = looked s.bus k seen left; slaves = slaves' }) spare)
  look-goes spare = record {
    stays = record {
      kept = record { image = refl; cores = refl; sets = refl };
      items = refl;
      spare = refl;
      on = on-now (left == 0) s.bus.supply;
      master = refl;
      line = refl;
      im = refl;
      victim = refl;
      abandoned = refl;
    };
    left = look-left (left == 0) s.bus.supply refl refl;
  }
    where
      on-now : (none supply : Bool) → is_on (if none then (if supply then phase.Supply else phase.Act) else phase.Look) ≡ true
      on-now true true = refl
      on-now true false = refl
      on-now false supply = refl

  -- The bits fit into 16.
  pub look-room : s.bus.ch + 2 ^ k < 2 ^ 16
  look-room =
      let was = (old.split.on on).held_by in
      let f = (past_in s).letters.letter in
      let e = seen-next (λ c l. letters.M) (slave_in s.slaves) (slave_in slaves') s.bus.master s.bus.line
      (2 * s.cores) k few-slaves other fresh (ap is_fresh now-here) now-else in
      let below-all = seen-below (λ c l. letters.M) (slave_in slaves') s.bus.master s.bus.line (2 * s.cores) in
      let less = seen-mono f (slave_in s.slaves) s.bus.master s.bus.line (2 * s.cores) in
      let power : 2 ^ (2 * s.cores) ≤ 2 ^ 16 = pow_mono (let h = old.fit.few in let g : 2 * s.cores ≤ 16 = omega (arith, h) in g) in
      omega (arith, was, e, below-all, less, power)
