-- What sources and sinks in memory have left, and what their calls keep.
use Rattle.std.specs.Prelude.{◌≡◌, ℕ, ◌-◌, List, drop, vec_len}
use Rattle.kmp_base.specs.declared.memory.MemorySource.{MemorySource}
use Rattle.kmp_base.specs.declared.memory.MemorySink.{MemorySink}

-- the bytes that weren't given yet
abbrev pub bytes_left : MemorySource → List ℕ
bytes_left source = drop source.at source.bytes.items

-- how many bytes still fit
abbrev pub room_left : MemorySink → ℕ
room_left sink = sink.room - vec_len sink.held

-- a source has the bytes, the piece and the failing calls that it was made with
pub record KeepsSource (old new : MemorySource) : Type 0 where
  pub bytes : new.bytes ≡ old.bytes
  pub piece : new.piece ≡ old.piece
  pub failing : new.failing ≡ old.failing

-- a sink has the room and the failing calls that it was made with
pub record KeepsSink (old new : MemorySink) : Type 0 where
  pub room : new.room ≡ old.room
  pub failing : new.failing ≡ old.failing
