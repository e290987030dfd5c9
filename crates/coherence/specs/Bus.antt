-- The bus: the transaction that is on, and how far it has come.
use Rattle.std.specs.Prelude.{ℕ, zero, suc, ◌+◌, ◌^◌, Bool, true, false, not, ◌&&◌, ◌==◌, if◌then◌else◌, Option}
use Rattle.access_log.specs.declared.Letter.{Letter}
use Rattle.moesi_master.specs.declared.Phase.{Phase}
use Rattle.moesi_master.specs.declared.Phase.TheVariants.{Off, Flush, Address, Look, Supply, Act, Finish}
use Rattle.moesi_master.specs.Moesi.{is_held}
use Rattle.moesi_slave.specs.declared.SlavePhase.{SlavePhase}
use Rattle.moesi_slave.specs.Slave.{is_fresh, is_latched, is_acted}

-- The transaction that is on, as caches and main memory see it.
pub record BusView : Type 0 where
  -- The transition that comes next.
  pub phase : Phase
  pub master : ℕ
  pub line : ℕ
  -- The intent to modify.
  pub im : Bool
  pub victim : Option ℕ
  -- Whether its request was withdrawn.
  pub abandoned : Bool
  -- Whether the master needs the words.
  pub supply : Bool
  -- How far each cache is, by its number.
  pub slave : ℕ → SlavePhase
  -- The other caches that hold the line, as far as they have looked: bit k stands for cache k.
  pub ch : ℕ
  -- The cache that supplies the words, where one that has looked does.
  pub di : Option ℕ
  -- The words of the line that were supplied, 0 and 1.
  pub word : ℕ → ℕ

-- Whether a dirty victim's words are written back.
abbrev pub is_flushed : Phase → Bool
is_flushed Off = false
is_flushed Flush = false
is_flushed phase = true

-- Whether the words stand on the bus, where they are needed.
abbrev pub is_supplied : Phase → Bool
is_supplied Act = true
is_supplied Finish = true
is_supplied phase = false

-- How far a cache other than the master may be in a phase.
abbrev pub fits_phase : Phase → SlavePhase → Bool
fits_phase Off slave = is_fresh slave
fits_phase Flush slave = is_fresh slave
fits_phase Address slave = is_fresh slave
fits_phase Look slave = not (is_acted slave)
fits_phase Supply slave = is_latched slave
fits_phase Act slave = not (is_fresh slave)
fits_phase Finish slave = is_acted slave

-- How many caches with numbers below n, other than the master, pass a test.
abbrev pub count_others : (SlavePhase → Bool) → (ℕ → SlavePhase) → ℕ → ℕ → ℕ
count_others test slave master zero = 0
count_others test slave master (suc n) = count_others test slave master n + (if not (n == master) && test (slave n) then 1 else 0)

-- How many of them have not looked.
abbrev pub unseen : (ℕ → SlavePhase) → ℕ → ℕ → ℕ
unseen slave master n = count_others (λ phase. is_fresh phase) slave master n

-- How many have not acted.
abbrev pub unacted : (ℕ → SlavePhase) → ℕ → ℕ → ℕ
unacted slave master n = count_others (λ phase. not (is_acted phase)) slave master n

-- How many have to look or act before the next phase; one, where a phase has one transition.
abbrev pub left_in_phase : Phase → (ℕ → SlavePhase) → ℕ → ℕ → ℕ
left_in_phase Look slave master n = unseen slave master n
left_in_phase Act slave master n = unacted slave master n
left_in_phase phase slave master n = 1

-- How many transitions are left from a phase on, where so many caches have to look, so many have to act, and the words are
-- needed or not.
abbrev pub left_from : Phase → ℕ → ℕ → Bool → ℕ
left_from Off looks acts supply = 0
left_from Flush looks acts supply = 1 + (1 + (looks + (acts + ((if supply then 1 else 0) + 1))))
left_from Address looks acts supply = 1 + (looks + (acts + ((if supply then 1 else 0) + 1)))
left_from Look looks acts supply = looks + (acts + ((if supply then 1 else 0) + 1))
left_from Supply looks acts supply = 1 + (acts + 1)
left_from Act looks acts supply = acts + 1
left_from Finish looks acts supply = 1

-- How many transitions are left of the transaction that is on, among so many caches.
abbrev pub transitions_left : BusView → ℕ → ℕ
transitions_left bus n = left_from bus.phase (unseen bus.slave bus.master n) (unacted bus.slave bus.master n) bus.supply

-- The caches with numbers below n, other than the master, that looked and hold a line: bit k of the sum stands for cache k.
abbrev pub seen_by : (ℕ → ℕ → Letter) → (ℕ → SlavePhase) → ℕ → ℕ → ℕ → ℕ
seen_by letter slave master line zero = 0
seen_by letter slave master line (suc n) =
    seen_by letter slave master line n
    + (if not (n == master) && (not (is_fresh (slave n)) && is_held (letter n line)) then 2 ^ n else 0)
