-- Laws of catching up and of replay.
use Rattle.std.proofs.Common.{◌≡◌, ℕ, zero, suc, ◌+◌, ◌-◌, ◌≤◌, ◌<◌, List, [], ◌∷◌, ◌++◌, arith, refl, sym, ◌∙◌, zero-add}
use Rattle.std.specs.Prelude.{nat_le, Option, Some, None}
use Rattle.std.specs.Option.{option_and_then, option_map}
use Rattle.std.proofs.lemmas.Bool.{leb-true, le-leb, lt-leb}
use Rattle.std_laws.proofs.OptionLaws.{option_and_then-assoc, option_and_then-same, option_map_parts, cond_some_parts}
use Rattle.mips_isa.specs.declared.CoreState.{CoreState}
use Rattle.mips_isa.specs.Steps.{next_of}
use Rattle.access_log.specs.declared.Core.{Core}
use Rattle.access_log.specs.declared.Entry.{Entry}
use Rattle.access_log.specs.Replay.{FlatMachine, quiet, quiet_steps, caught_up, entered, entered_all}

-- a core with so many executed
abbrev at : ℕ → CoreState → Core
at n state = record { state = state; executed = n }

-- m quiet steps and then n are m + n
pub quiet_steps-add : (code : List ℕ) (bytes m n : ℕ) (state : CoreState)
    → quiet_steps code bytes (m + n) state ≡ option_and_then (quiet_steps code bytes n) (quiet_steps code bytes m state)
unfolding quiet_steps
quiet_steps-add code bytes zero n state = rw (zero-add n) refl
quiet_steps-add code bytes (suc m) n state =
    let split : suc m + n ≡ suc (m + n) = omega arith in
    let next : Option CoreState = quiet (next_of code bytes state) in
    rw split
    (option_and_then-same (quiet_steps code bytes (m + n)) (λ s. option_and_then (quiet_steps code bytes n) (quiet_steps code bytes m s))
    (λ s. quiet_steps-add code bytes m n s) next
    ∙ sym (option_and_then-assoc (quiet_steps code bytes m) (quiet_steps code bytes n) next))

-- what it means that a core has caught up
pub record CaughtUp (code : List ℕ) (bytes n : ℕ) (core new : Core) : Type 0 where
  pub before : core.executed ≤ n
  pub steps : quiet_steps code bytes (n - core.executed) core.state ≡ Some new.state
  pub count : new.executed ≡ n

pub CaughtUp-from : (code : List ℕ) (bytes n : ℕ) (core new : Core) → caught_up code bytes n core ≡ Some new
    → CaughtUp code bytes n core new
unfolding caught_up
CaughtUp-from code bytes n core new h =
    let parts = cond_some_parts (nat_le core.executed n)
    (option_map (λ (s : CoreState). at n s) (quiet_steps code bytes (n - core.executed) core.state)) new h in
    let found = option_map_parts (λ (s : CoreState). at n s) (quiet_steps code bytes (n - core.executed) core.state) new parts.1 in
    record {
      before = leb-true core.executed n parts.0;
      steps = rw (← found.2) found.1;
      count = rw (← found.2) refl;
    }

pub caught_up-to : (code : List ℕ) (bytes n : ℕ) (core new : Core) → CaughtUp code bytes n core new → caught_up code bytes n core ≡ Some new
unfolding caught_up
caught_up-to code bytes n core new h =
    rw (le-leb core.executed n h.before, h.steps, ← h.count) refl

-- a core with more executed can't catch up
pub caught_up-passed : (code : List ℕ) (bytes n : ℕ) (core : Core) → n < core.executed → caught_up code bytes n core ≡ None
unfolding caught_up
caught_up-passed code bytes n core h = rw (lt-leb core.executed n h) refl

-- a core is where it is
pub caught_up-same : (code : List ℕ) (bytes : ℕ) (core : Core) → caught_up code bytes core.executed core ≡ Some core
unfolding quiet_steps
caught_up-same code bytes core =
    let none : core.executed - core.executed ≡ 0 = omega arith in
    caught_up-to code bytes core.executed core core (record { before = omega arith; steps = rw none refl; count = refl })

-- catching up in two parts is catching up once
pub caught_up-twice : (code : List ℕ) (bytes m n : ℕ) (core mid : Core) → caught_up code bytes m core ≡ Some mid → m ≤ n
    → caught_up code bytes n core ≡ caught_up code bytes n mid
unfolding caught_up
caught_up-twice code bytes m n core mid h below =
    let first : CaughtUp code bytes m core mid = CaughtUp-from code bytes m core mid h in
    let split : n - core.executed ≡ (m - core.executed) + (n - m) = (let b : core.executed ≤ m = first.before in omega arith) in
    let within : core.executed ≤ n = (let b : core.executed ≤ m = first.before in omega arith) in
    rw (
      le-leb core.executed n within,
      split,
      quiet_steps-add code bytes (m - core.executed) (n - m) core.state,
      first.steps,
      first.count,
      le-leb m n below,
    ) refl

-- a core can't catch up past a stop or an access
pub caught_up-blocked : (code : List ℕ) (bytes m n : ℕ) (core mid : Core) → caught_up code bytes m core ≡ Some mid → m < n
    → quiet (next_of code bytes mid.state) ≡ None → caught_up code bytes n core ≡ None
unfolding caught_up quiet_steps
caught_up-blocked code bytes m n core mid h below blocked =
    let first : CaughtUp code bytes m core mid = CaughtUp-from code bytes m core mid h in
    let more : n - m ≡ suc (n - m - 1) = omega arith in
    rw (caught_up-twice code bytes m n core mid h (omega arith), first.count, le-leb m n (omega arith), more, blocked) refl

-- one quiet instruction more
pub caught_up-more : (code : List ℕ) (bytes m : ℕ) (core mid : Core) (state : CoreState) → caught_up code bytes m core ≡ Some mid
    → quiet (next_of code bytes mid.state) ≡ Some state → caught_up code bytes (m + 1) core ≡ Some (at (m + 1) state)
unfolding caught_up quiet_steps
caught_up-more code bytes m core mid state h goes =
    let first : CaughtUp code bytes m core mid = CaughtUp-from code bytes m core mid h in
    let one : m + 1 - m ≡ suc 0 = omega arith in
    rw (caught_up-twice code bytes m (m + 1) core mid h (omega arith), first.count, le-leb m (m + 1) (omega arith), one, goes) refl

-- a list of entries and then another
pub entered_all-append : (first others : List Entry) (machine : FlatMachine)
    → entered_all (first ++ others) machine ≡ option_and_then (entered_all others) (entered_all first machine)
unfolding entered_all
entered_all-append [] others machine = refl
entered_all-append (entry ∷ entries) others machine =
    option_and_then-same (entered_all (entries ++ others)) (λ next. option_and_then (entered_all others) (entered_all entries next))
    (λ next. entered_all-append entries others next) (entered entry machine)
    ∙ sym (option_and_then-assoc (entered_all entries) (entered_all others) (entered entry machine))
