-- Where a core stands that was to catch up: one answer fits, and the core has moved where it is there.
use Rattle.std.proofs.Common.{◌≡◌, ℕ, ◌<◌, length, arith, ap, refl, sym, ◌∙◌, inl, inr}
use Rattle.std.specs.Prelude.{List, Some, None, slice_get}
use Rattle.std.proofs.lemmas.Bool.{cases_lt}
use Rattle.std.proofs.lemmas.List.{length-set}
use Rattle.std.proofs.lemmas.Option.{none-some, same_Some, slice_get_within}
use Rattle.std_laws.proofs.ListLaws.{slice_get-set_same}
use Rattle.mips_isa.specs.declared.Next.{Next}
use Rattle.mips_isa.specs.declared.Next.TheVariants.{Stops, Asks, Goes}
use Rattle.mips_isa.specs.Steps.{next_of}
use Rattle.access_log.specs.declared.Core.{Core}
use Rattle.access_log.specs.Replay.{FlatMachine, memory_bytes, with_core, quiet, caught_up, moved}
use Rattle.access_log.proofs.ReplayLaws.{CaughtUp-from, caught_up-blocked, caught_up-passed}
use Rattle.seq_machine.specs.declared.Reach.{Reach}
use Rattle.seq_machine.specs.declared.Reach.TheVariants.{There, AccessAt, StopAt, Passed}
use Rattle.seq_machine.specs.Reaching.{Reaches, CatchesUp, IsAtAccess, IsAtStop}

pub access_not_quiet : (next : Next) → IsAtAccess next → quiet next ≡ None
access_not_quiet (Asks access) h = refl
access_not_quiet (Stops stop) h = refl
access_not_quiet (Goes state) h = absurd h

pub stop_not_quiet : (next : Next) → IsAtStop next → quiet next ≡ None
stop_not_quiet (Asks access) h = refl
stop_not_quiet (Stops stop) h = refl
stop_not_quiet (Goes state) h = absurd h

access_not_stop : (next : Next) → IsAtAccess next → IsAtStop next → ⊥
access_not_stop (Asks access) h k = k
access_not_stop (Stops stop) h k = h
access_not_stop (Goes state) h k = h

-- a core that is not there
pub not_there : (code : List ℕ) (bytes n : ℕ) (before core : Core) (reach : Reach) → Reaches code bytes n before reach core
    → (reach ≡ There → ⊥) → caught_up code bytes n before ≡ None
not_there code bytes n before core There h away = absurd (away refl)
not_there code bytes n before core (AccessAt m) h away =
    caught_up-blocked code bytes m n before core h.1 h.0 (access_not_quiet (next_of code bytes core.state) h.2)
not_there code bytes n before core (StopAt m) h away =
    caught_up-blocked code bytes m n before core h.1 h.0 (stop_not_quiet (next_of code bytes core.state) h.2)
not_there code bytes n before core (Passed m) h away = caught_up-passed code bytes n before (rw h.1 h.0)

-- where one answer says that the core is there, no other fits
there_alone : (code : List ℕ) (bytes n : ℕ) (before a b : Core) (reach : Reach) → caught_up code bytes n before ≡ Some a
    → Reaches code bytes n before reach b → (reach ≡ There → ⊥) → ⊥
there_alone code bytes n before a b reach h k away = none-some a (sym (not_there code bytes n before b reach k away) ∙ h)

-- a core that has passed a number can't catch up to a smaller one
not_passed : (code : List ℕ) (bytes m n k : ℕ) (before a : Core) → m < n → caught_up code bytes m before ≡ Some a → n < k
    → before.executed ≡ k → ⊥
not_passed code bytes m n k before a below h more is = none-some a (sym (caught_up-passed code bytes m before (omega arith)) ∙ h)

-- a core can't go on past a number at which it is blocked
not_past : (code : List ℕ) (bytes m k : ℕ) (before a b : Core) → caught_up code bytes m before ≡ Some a
    → quiet (next_of code bytes a.state) ≡ None → caught_up code bytes k before ≡ Some b → m < k → ⊥
not_past code bytes m k before a b h blocked there below =
    none-some b (sym (caught_up-blocked code bytes m k before a h below blocked) ∙ there)

-- it is blocked at one number alone
one_block : (code : List ℕ) (bytes m k : ℕ) (before a b : Core) → caught_up code bytes m before ≡ Some a
    → quiet (next_of code bytes a.state) ≡ None
    → caught_up code bytes k before ≡ Some b → quiet (next_of code bytes b.state) ≡ None → (m ≡ k) × (a ≡ b)
one_block code bytes m k before a b h h_blocked there there_blocked = elim (cases_lt m k) [
  | inl below ↦ absurd (not_past code bytes m k before a b h h_blocked there below)
  | inr above ↦ elim (cases_lt k m) [
    | inl below ↦ absurd (not_past code bytes k m before b a there there_blocked h below)
    | inr same ↦
        (let e : m ≡ k = omega arith in
        (e, same_Some a b (sym h ∙ (rw e there))))
  ]
]

-- one answer fits a core
one_core : (code : List ℕ) (bytes n : ℕ) (before a b : Core) (first second : Reach) → Reaches code bytes n before first a
    → Reaches code bytes n before second b → (first ≡ second) × (a ≡ b)
one_core code bytes n before a b There There h k = (refl, same_Some a b (sym h ∙ k))
one_core code bytes n before a b There (AccessAt m) h k = absurd (there_alone code bytes n before a b (AccessAt m) h k (λ e. cc))
one_core code bytes n before a b There (StopAt m) h k = absurd (there_alone code bytes n before a b (StopAt m) h k (λ e. cc))
one_core code bytes n before a b There (Passed m) h k = absurd (there_alone code bytes n before a b (Passed m) h k (λ e. cc))
one_core code bytes n before a b (AccessAt m) There h k = absurd (there_alone code bytes n before b a (AccessAt m) k h (λ e. cc))
one_core code bytes n before a b (StopAt m) There h k = absurd (there_alone code bytes n before b a (StopAt m) k h (λ e. cc))
one_core code bytes n before a b (Passed m) There h k = absurd (there_alone code bytes n before b a (Passed m) k h (λ e. cc))
one_core code bytes n before a b (AccessAt m) (AccessAt j) h k =
    let same = one_block code bytes m j before a b h.1 (access_not_quiet (next_of code bytes a.state) h.2) k.1
    (access_not_quiet (next_of code bytes b.state) k.2) in
    (ap AccessAt same.0, same.1)
one_core code bytes n before a b (StopAt m) (StopAt j) h k =
    let same = one_block code bytes m j before a b h.1 (stop_not_quiet (next_of code bytes a.state) h.2) k.1
    (stop_not_quiet (next_of code bytes b.state) k.2) in
    (ap StopAt same.0, same.1)
one_core code bytes n before a b (AccessAt m) (StopAt j) h k =
    let same = one_block code bytes m j before a b h.1 (access_not_quiet (next_of code bytes a.state) h.2) k.1
    (stop_not_quiet (next_of code bytes b.state) k.2) in
    absurd (access_not_stop (next_of code bytes b.state) (rw same.1 at h.2) k.2)
one_core code bytes n before a b (StopAt m) (AccessAt j) h k =
    let same = one_block code bytes m j before a b h.1 (stop_not_quiet (next_of code bytes a.state) h.2) k.1
    (access_not_quiet (next_of code bytes b.state) k.2) in
    absurd (access_not_stop (next_of code bytes b.state) k.2 (rw same.1 at h.2))
one_core code bytes n before a b (AccessAt m) (Passed j) h k = absurd (not_passed code bytes m n j before a h.0 h.1 k.0 k.1)
one_core code bytes n before a b (StopAt m) (Passed j) h k = absurd (not_passed code bytes m n j before a h.0 h.1 k.0 k.1)
one_core code bytes n before a b (Passed m) (AccessAt j) h k = absurd (not_passed code bytes j n m before b k.0 k.1 h.0 h.1)
one_core code bytes n before a b (Passed m) (StopAt j) h k = absurd (not_passed code bytes j n m before b k.0 k.1 h.0 h.1)
one_core code bytes n before a b (Passed m) (Passed j) h k = (ap Passed (sym h.1 ∙ k.1), h.2 ∙ sym k.2)

-- one answer fits a machine
pub one_answer : (old : FlatMachine) (index n : ℕ) (first second : Reach) (a b : FlatMachine) (h : CatchesUp old index n first a)
    (k : CatchesUp old index n second b) → (second ≡ first) × (b ≡ a)
one_answer old index n first second a b h k =
    let before : k.before ≡ h.before = same_Some k.before h.before (sym k.was ∙ h.was) in
    let same = one_core old.code (memory_bytes old) n h.before k.after h.after second first (rw before at k.reaches) h.reaches in
    (same.0, k.is ∙ ap (λ (core : Core). with_core old index core) same.1 ∙ sym h.is)

-- the core that has caught up stands at its index
pub CatchesUp-core : (old : FlatMachine) (index n : ℕ) (reach : Reach) (new : FlatMachine) (h : CatchesUp old index n reach new)
    → slice_get new.cores index ≡ Some h.after
CatchesUp-core old index n reach new h =
    rw h.is (slice_get-set_same old.cores index h.after (slice_get_within old.cores index h.before h.was))

pub CatchesUp-count : (old : FlatMachine) (index n : ℕ) (new : FlatMachine) (h : CatchesUp old index n There new) → h.after.executed ≡ n
CatchesUp-count old index n new h =
    (CaughtUp-from old.code (memory_bytes old) n h.before h.after h.reaches).count

-- a core that has caught up has moved, and another hasn't
pub moved-there : (old : FlatMachine) (index n : ℕ) (reach : Reach) (new : FlatMachine) → CatchesUp old index n reach new → reach ≡ There
    → moved index n old ≡ Some new
moved-there old index n reach new h there =
    let caught : caught_up old.code (memory_bytes old) n h.before ≡ Some h.after = rw there at h.reaches in
    rw (h.was, caught, h.is) refl

pub moved-away : (old : FlatMachine) (index n : ℕ) (reach : Reach) (new : FlatMachine) → CatchesUp old index n reach new
    → (reach ≡ There → ⊥) → moved index n old ≡ None
moved-away old index n reach new h away =
    rw (h.was, not_there old.code (memory_bytes old) n h.before h.after reach h.reaches away) refl

-- a machine with as many cores, and as much memory
pub record IsAsLarge (old new : FlatMachine) : Type 0 where
  pub cores : length new.cores ≡ length old.cores
  pub memory : length new.memory ≡ length old.memory

pub as_large-CatchesUp : (old : FlatMachine) (index n : ℕ) (reach : Reach) (new : FlatMachine) → CatchesUp old index n reach new
    → IsAsLarge old new
as_large-CatchesUp old index n reach new h = rw h.is (record { cores = length-set old.cores index h.after; memory = refl })
