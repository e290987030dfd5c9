-- The steps of one core by itself.
use Rattle.std.proofs.Common.{◌≡◌, ℕ, ◌+◌, ◌*◌, length, List, [], ◌∷◌, ◌++◌, refl, sym, ap, ◌∙◌, subst}
use Rattle.std.specs.Prelude.{Some}
use Rattle.std.specs.Option.{option_and_then}
use Rattle.std_laws.proofs.OptionLaws.{option_and_then-Some, option_and_then-assoc, option_and_then-same, option_and_then_parts}
use Rattle.mips_isa.specs.declared.CoreState.{CoreState}
use Rattle.mips_isa.specs.declared.Access.{Access}
use Rattle.mips_isa.specs.declared.Next.{Next}
use Rattle.mips_isa.specs.declared.Next.TheVariants.{Asks, Goes}
use Rattle.mips_isa.specs.Steps.{next_of, finish_of}
use Rattle.access_log.specs.declared.Core.{Core}
use Rattle.access_log.specs.declared.Entry.{Entry}
use Rattle.access_log.specs.Memory.{made}
use Rattle.access_log.specs.Replay.{quiet, caught_up, own_by, own_step, own_steps, starting, finished, own}
use Rattle.access_log.specs.Interleaving.{RunsAlone}
use Rattle.access_log.specs.Alone.{alone, ComesTo}
use Rattle.access_log.proofs.EntryLaws.{is_same-same}
use Rattle.access_log.proofs.ReplayLaws.{caught_up-same, caught_up-more}

-- a core with so many executed
abbrev at : ℕ → CoreState → Core
at n state = record { state = state; executed = n }

-- a list of own entries and then another
own_steps-append : (code : List ℕ) (bytes : ℕ) (es fs : List Entry) (core : Core)
    → own_steps code bytes (es ++ fs) core ≡ option_and_then (own_steps code bytes fs) (own_steps code bytes es core)
unfolding own_steps
own_steps-append code bytes [] fs core = refl
own_steps-append code bytes (e ∷ es) fs core =
    option_and_then-same (own_steps code bytes (es ++ fs)) (λ c. option_and_then (own_steps code bytes fs) (own_steps code bytes es c))
    (λ c. own_steps-append code bytes es fs c) (own_step code bytes e core)
    ∙ sym (option_and_then-assoc (own_steps code bytes es) (own_steps code bytes fs) (own_step code bytes e core))

own_steps-one : (code : List ℕ) (bytes : ℕ) (e : Entry) (core : Core) → own_steps code bytes (e ∷ []) core ≡ own_step code bytes e core
unfolding own_steps
own_steps-one code bytes e core = option_and_then-Some (own_step code bytes e core)

-- at the start
pub comes-start : (code : List ℕ) (bytes : ℕ) (start : CoreState) → ComesTo code bytes start [] 0 start
unfolding alone own_steps
comes-start code bytes start = record { is = caught_up-same code bytes (starting start) }

comes-mid : (code : List ℕ) (bytes : ℕ) (start : CoreState) (es : List Entry) (n : ℕ) (s : CoreState) → ComesTo code bytes start es n s
    → (mid : Core) × (own_steps code bytes es (starting start) ≡ Some mid) × (caught_up code bytes n mid ≡ Some (at n s))
unfolding alone
comes-mid code bytes start es n s h =
    option_and_then_parts (caught_up code bytes n) (own_steps code bytes es (starting start)) (at n s) h.is

-- one quiet instruction more
pub comes-goes : (code : List ℕ) (bytes : ℕ) (start : CoreState) (es : List Entry) (n : ℕ) (s t : CoreState)
    → ComesTo code bytes start es n s
    → next_of code bytes s ≡ Goes t → ComesTo code bytes start es (n + 1) t
unfolding alone
comes-goes code bytes start es n s t h goes =
    let mid = option_and_then_parts (caught_up code bytes n) (own_steps code bytes es (starting start)) (at n s) h.is in
    record {
      is = rw mid.1 (caught_up-more code bytes n mid.0 (at n s) t mid.2 (ap quiet goes));
    }

own_by-due : (code : List ℕ) (old : ℕ) (core : ℕ) (c : Core) (access : Access) (next : Next) → next ≡ Asks access
    → own_by code (made core c.executed access old) c next ≡ Some (finished code old c)
own_by-due code old core c access next e =
    let P : Next → Type 0 = λ x. own_by code (made core c.executed access old) c x ≡ Some (finished code old c) in
    subst P (sym e) (rw (is_same-same (made core c.executed access old)) refl)

-- one access more
pub comes-does : (code : List ℕ) (bytes : ℕ) (start : CoreState) (core : ℕ) (es : List Entry) (n : ℕ) (s : CoreState) (access : Access)
    (old : ℕ) → ComesTo code bytes start es n s
    → next_of code bytes s ≡ Asks access → ComesTo code bytes start (es ++ made core n access old ∷ []) (n + 1) (finish_of code s old)
unfolding alone own_step
comes-does code bytes start core es n s access old h asks =
    let mid = option_and_then_parts (caught_up code bytes n) (own_steps code bytes es (starting start)) (at n s) h.is in
    let step : own_step code bytes (made core n access old) mid.0 ≡ Some (finished code old (at n s)) =
    rw mid.2 (own_by-due code old core (at n s) access (next_of code bytes s) asks) in
    record {
      is = rw (
        own_steps-append code bytes es (made core n access old ∷ []) (starting start),
        mid.1,
        own_steps-one code bytes (made core n access old) mid.0,
        step,
      )
          (caught_up-same code bytes (finished code old (at n s)));
    }

-- a core that comes to a state runs by itself in every order in which its own entries are these
pub comes-alone : (code memory : List ℕ) (bytes : ℕ) (start : CoreState) (core : ℕ) (order es : List Entry) (n : ℕ) (s : CoreState)
    → 4 * length memory ≡ bytes → own order core ≡ es → ComesTo code bytes start es n s
    → RunsAlone code memory start order core n (at n s)
comes-alone code memory bytes start core order es n s size owns h =
    let P : ℕ → Type 0 = λ b. ComesTo code b start es n s in
    let Q : List Entry → Type 0 = λ x. ComesTo code (4 * length memory) start x n s in
    runs (subst Q (sym owns) (subst P (sym size) h))
  where
    runs : ComesTo code (4 * length memory) start (own order core) n s → RunsAlone code memory start order core n (at n s)
    runs h = (let mid = comes-mid code (4 * length memory) start (own order core) n s h
        in record { mid = mid.0; own_entries = mid.1; end = mid.2 })
