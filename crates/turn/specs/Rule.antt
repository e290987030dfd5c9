-- The rule of the turn's table: what its word, its slot and the views of all passes are between any two steps.
use Rattle.std.specs.Prelude.{◌≡◌, ◌≢◌, ℕ, zero, suc, ◌+◌, ◌<◌, ◌≤◌, ◌==◌, cond, true, false, List, [], ◌∷◌, ◌++◌, length, Option, Some}
use Rattle.std.specs.Prelude.{None, MatchOption}
use mathlib.Core.Option.{Option as Maybe, some}
use lib.ListN.{get_elem?}
use Rattle.atomic_table.specs.Table.{State, Me}
use Rattle.mem_port.specs.declared.port.Port.{Port}
use Rattle.mem_port.specs.declared.port.PortState.TheVariants.{Free}
use Rattle.mem_port.specs.Ports.{core_of, IsWaiting, IsUnanswered}
use Rattle.mem_port.specs.Memory.{MemoryView, Keeps}
use Rattle.turn.specs.declared.views.PortView.{PortView}
use Rattle.turn.specs.declared.views.CoreView.{CoreView}
use Rattle.turn.specs.declared.views.PassView.{PassView}
use Rattle.turn.specs.Views.{CountedView, CoresFit, core_view}

-- The sum of a number of each element.
abbrev pub total : {A : Type 0} → (A → ℕ) → List A → ℕ
total f [] = 0
total f (x ∷ xs) = f x + total f xs

abbrev pub is_some : {A : Type 0} → Option A → ℕ
is_some None = 0
is_some (Some x) = 1

abbrev pub blank_port : PortView
blank_port = record { state = Free; asks_left = 0; asked = 0; helping = 0 }

abbrev pub blank_core : CoreView
blank_core = record { core = 0; fetch = blank_port; access = blank_port; moved = 0; entries = [] }

-- A pass speaks for its own core first, and then for those whose passes were joined to it.
abbrev pub own_core : List CoreView → CoreView
own_core [] = blank_core
own_core (v ∷ vs) = v

abbrev pub joined_cores : List CoreView → List CoreView
joined_cores [] = []
joined_cores (v ∷ vs) = vs

-- So many cores from one on, as they are.
abbrev pub cores_from : CountedView → ℕ → ℕ → List CoreView
cores_from x c zero = []
cores_from x c (suc n) = core_view x c ∷ cores_from x (suc c) n

-- How often a core is spoken for.
abbrev pub times : ℕ → List CoreView → ℕ
times c vs = total (λ (v : CoreView). cond (v.core == c) 1 0) vs

-- How often a take found no answer, a step nothing to be moved, and a withdrawal no answer.
pub record Counts : Type 0 where
  pub nones : ℕ
  pub idles : ℕ
  pub withdrawns : ℕ

abbrev pub no_counts : Counts
no_counts = record { nones = 0; idles = 0; withdrawns = 0 }

abbrev pub added : Counts → Counts → Counts
added n k = record { nones = n.nones + k.nones; idles = n.idles + k.idles; withdrawns = n.withdrawns + k.withdrawns }

-- What is counted of a call, by its answer.
pub data Event : Type 0 where
  quiet : Event
  none_taken : Event
  idle_step : Event
  moved_step : Event
  none_withdrawn : Event

abbrev pub with_event : Event → Counts → Counts
with_event quiet n = n
with_event none_taken n = record { nones = n.nones + 1; idles = n.idles; withdrawns = n.withdrawns }
with_event idle_step n = record { nones = n.nones; idles = n.idles + 1; withdrawns = n.withdrawns }
with_event moved_step n = n
with_event none_withdrawn n = record { nones = n.nones; idles = n.idles; withdrawns = n.withdrawns + 1 }

abbrev pub moves_in : Event → ℕ
moves_in quiet = 0
moves_in none_taken = 0
moves_in idle_step = 0
moves_in moved_step = 1
moves_in none_withdrawn = 0

-- What a memory has to be for a core's call to end so.
abbrev pub MayEnd : Event → ℕ → MemoryView → Type 0
MayEnd quiet core m = Unit {0}
MayEnd none_taken core m = (p : Port) × ((core_of p ≡ core) × IsWaiting (m.port p))
MayEnd idle_step core m = m.is_busy ≡ false
MayEnd moved_step core m = m.is_busy ≡ true
MayEnd none_withdrawn core m = (p : Port) × ((core_of p ≡ core) × IsUnanswered (m.port p))

-- An event has its cause in the memory as it was taken, and the core's moved steps rise with it alone.
pub record IsCaused (event : Event) (core : ℕ) (taken left : CountedView) : Type 0 where
  pub may : MayEnd event core taken.memory
  pub moved : left.numbers.moved core ≡ taken.numbers.moved core + moves_in event

module _ {S : Type 0} where
  abbrev pub speaks : ℕ → PassView S → ℕ
  speaks core v = times core v.cores

  abbrev pub holding : PassView S → ℕ
  holding v = is_some v.taken

  abbrev pub pass_view : Option S → Option S → List CoreView → Counts → PassView S
  pass_view origin taken cores n = record {
    origin = origin;
    taken = taken;
    cores = cores;
    nones = n.nones;
    idles = n.idles;
    withdrawns = n.withdrawns;
  }

  abbrev pub counts_of : PassView S → Counts
  counts_of v = record { nones = v.nones; idles = v.idles; withdrawns = v.withdrawns }

  -- The own core goes to a new pass.
  abbrev pub left_of : PassView S → PassView S
  left_of v = pass_view v.origin v.taken (joined_cores v.cores) (counts_of v)

  abbrev pub right_of : PassView S → PassView S
  right_of v = pass_view v.origin None (own_core v.cores ∷ []) no_counts

  -- One pass speaks for the cores of both.
  abbrev pub both_of : PassView S → PassView S → PassView S
  both_of v w = pass_view v.origin v.taken (v.cores ++ w.cores) (added (counts_of v) (counts_of w))

  abbrev pub spent_view : PassView S
  spent_view = pass_view None None [] no_counts

module _ {S : Type 0} (seen : S → CountedView) where
  abbrev pub opening_view : S → PassView S
  opening_view o = pass_view (Some o) None (cores_from (seen o) 0 (seen o).memory.cores) no_counts

  -- All that a pass has seen is so of the memory; where it has taken the memory, it is this one, and the word its core and 1.
  pub record ViewFits (o m : S) (word : ℕ) (v : PassView S) : Type 0 where
    pub cores : CoresFit (seen m) v.cores
    pub origin : MatchOption v.origin (Unit {0}) (λ k. k ≡ o)
    pub taken : MatchOption v.taken (Unit {0}) (λ t. (t ≡ m) × ((0 < length v.cores) × (word ≡ (own_core v.cores).core + 1)))

  -- There is one memory, as it was last let go: at home where the word is 0, else taken by one pass.
  pub record Stands (o m : S) (word : ℕ) (homes : List (Maybe S)) (views : List (PassView S)) : Type 0 where
    pub fits : (i : ℕ) (v : PassView S) → get_elem? views i ≡ some v → ViewFits o m word v
    pub once : (core : ℕ) → total (speaks core) views ≤ 1
    pub free : word ≡ 0 → (homes ≡ some m ∷ []) × (total holding views ≡ 0)
    pub held : word ≢ 0 → total holding views ≡ 1
    pub kept : Keeps (seen o).memory (seen m).memory

  abbrev pub IsKept : S → State S (PassView S) → Type 0
  IsKept o s = (m : S) × (word : ℕ) × (s.words ≡ word ∷ []) × Stands o m word s.homes s.views

  -- Where the word was 0, the pass has the memory, of which all is so that it has seen. Else nothing changes.
  abbrev pub Acquires : Me S (PassView S) → ℕ → Me S (PassView S) → Type 0
  Acquires me n w =
      (n ≡ 0 → (m : S)
      × (w ≡ (pass_view me.0.origin (Some m) me.0.cores (counts_of me.0), (0, m) ∷ []))
      × CoresFit (seen m) me.0.cores
      × ((k : S) → me.0.origin ≡ Some k → Keeps (seen k).memory (seen m).memory))
      × (n ≢ 0 → w ≡ me)

  -- The memory goes home, and the pass sees of its own core what the memory now has.
  abbrev pub Releases : Event → Me S (PassView S) → Me S (PassView S) → Type 0
  Releases event me w =
      (m : S) × (me.1 ≡ (0, m) ∷ [])
      × (w ≡ (
        pass_view me.0.origin None (core_view (seen m) (own_core me.0.cores).core ∷ joined_cores me.0.cores)
            (with_event event (counts_of me.0)),
        [],
      ))
      × ((t : S) × ((me.0.taken ≡ Some t) × IsCaused event (own_core me.0.cores).core (seen t) (seen m)))
