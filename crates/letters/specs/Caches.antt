-- The caches that stand between cores and memory: their shape, and the protocol by which each holds its lines.
use Rattle.std.specs.Prelude.{ℕ, Bool}
use Rattle.access_log.specs.declared.Letter.{Letter}
use Rattle.moesi_master.specs.Moesi as master
use Rattle.moesi_slave.specs.Slave as slave

-- A protocol, as its two tables.
pub record Protocol : Type 0 where
  -- The letter of the master behind its transaction, by the intent to modify and by the other caches that held the line.
  pub after_finish : Bool → ℕ → Letter
  -- The letter of another cache behind it, by the one that it had and the intent to modify.
  pub after_act : Letter → Bool → Letter

abbrev pub moesi : Protocol
moesi = record { after_finish = master.after_finish; after_act = slave.after_act }

-- A line stands in the set with the number that is the rest of its own by the number of sets, and a set has room for so many
-- lines. Each cache has its protocol.
pub record Caches : Type 0 where
  pub sets : ℕ
  pub ways : ℕ
  pub protocol : ℕ → Protocol

-- All caches follow one protocol.
abbrev pub all_with : Protocol → ℕ → ℕ → Caches
all_with protocol sets ways = record { sets = sets; ways = ways; protocol = λ cache. protocol }
