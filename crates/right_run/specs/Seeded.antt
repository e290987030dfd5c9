-- Turns that are drawn by a seed.
use Rattle.std.specs.Prelude.{◌≡◌, ℕ, ◌+◌, ◌*◌, ◌%◌, ◌≤◌, ◌==◌, nat_lt, Option, Some, List, [], ◌∷◌, length, take, filter, count_by}
use Rattle.std.specs.Prelude.{slice_get, slice_index}
use Rattle.std.specs.List.{range_with_len}
use Rattle.rand_core.specs.Pcg32Seed.{pcg32_seed}
use Rattle.rand_pcg.specs.Lcg.{Lcg, advance}
use Rattle.rand_pcg.specs.Pcg.{multiplier_64, pcg32, pcg32_of_seed}
use Rattle.access_log.specs.Stamps.{Stamp}

-- The generator of a seed, before its first word: the Pcg32 that the next number seeds.
abbrev pub generator_of : ℕ → Lcg
generator_of seed = pcg32_of_seed (pcg32_seed 16 (seed + 1))

-- Word n of a seed, from 0.
abbrev pub word_of : ℕ → ℕ → ℕ
word_of seed n = (pcg32 (advance 64 multiplier_64 n (generator_of seed))).0

-- How many of these turns a core has, where each turn is told by its core.
abbrev pub turns_of : ℕ → List ℕ → ℕ
turns_of core turns = count_by (λ it. it == core) turns

-- The cores with fewer of these turns than their cycles in all, in rising order.
abbrev pub cores_left : List ℕ → List ℕ → List ℕ
cores_left cycles turns = filter (λ core. nat_lt (turns_of core turns) (slice_index cycles core)) (range_with_len 0 (length cycles))

-- The core that a word draws: the one at the position that is the word modulo the number of the cores.
abbrev pub drawn : ℕ → List ℕ → Option ℕ
drawn word cores = slice_get cores (word % length cores)

-- Each turn goes to one of the cores that have cycles left, drawn by the first of its two words.
abbrev pub AreDrawn : ℕ → List ℕ → List ℕ → Type 0
AreDrawn seed cycles turns =
    (turn core : ℕ) → slice_get turns turn ≡ Some core → drawn (word_of seed (2 * turn)) (cores_left cycles (take turn turns)) ≡ Some core

-- Each core has as many turns as it has cycles.
abbrev pub AreAll : List ℕ → List ℕ → Type 0
AreAll cycles turns = (core n : ℕ) → slice_get cycles core ≡ Some n → turns_of core turns ≡ n

-- An access has a turn: that of its core in which it has its cycle, counted from 1.
pub record HasTurn (turns : List ℕ) (stamp : Stamp) (turn : ℕ) : Type 0 where
  pub core : slice_get turns turn ≡ Some stamp.entry.core
  pub cycle : turns_of stamp.entry.core (take turn turns) + 1 ≡ stamp.cycle

-- From a turn on, each access has one, behind those of all accesses before it.
abbrev pub HaveTurns : ℕ → List ℕ → List Stamp → Type 0
HaveTurns first turns [] = Unit {0}
HaveTurns first turns (stamp ∷ stamps) =
    (turn : ℕ) × ((first ≤ turn) × (HasTurn turns stamp turn × HaveTurns (turn + 1) turns stamps))

-- Accesses, each with its cycle, by the turns that a seed draws for cores with so many cycles each.
pub record AreSeeded (seed : ℕ) (cycles : List ℕ) (stamps : List Stamp) : Type 0 where
  pub turns : List ℕ
  pub drawn : AreDrawn seed cycles turns
  pub all : AreAll cycles turns
  pub have : HaveTurns 0 turns stamps
