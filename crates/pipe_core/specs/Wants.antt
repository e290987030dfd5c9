-- What the instruction in M stops at or waits for, and what IF waits for.
use Rattle.std.specs.Prelude.{ℕ, ◌%◌, ◌*◌, ◌<◌, ◌≡◌, Bool, true, false, Option, Some, None, IsSome, if◌then◌else◌, length, ⊤}
use Rattle.mips_isa.specs.declared.Instr.{Instr}
use Rattle.mips_isa.specs.declared.Kind.{Kind}
use Rattle.mips_isa.specs.declared.Stop.{Stop}
use Rattle.mips_isa.specs.Fields.{instr_of}
use Rattle.mips_isa.specs.Kinds.{part, loaded}
use Rattle.mips_isa.specs.Effects.{first_stop, address_of, is_off_code}
use Rattle.mips_isa.specs.Steps.{kind_at}
use Rattle.pipe_regs.specs.declared.Slot.{Slot}
use Rattle.image_file.specs.Value.{ImageValue, memory_bytes}
use Rattle.access_log.specs.declared.request.Request.{Request}
use Rattle.access_log.specs.Requests.{asked}
use Rattle.pipe_core.specs.declared.flight.Flight.{Flight}
use Rattle.pipe_core.specs.Moves.{follow}

-- The first stop of an instruction that has its operands.
unfoldable pub stop_at : ImageValue → Slot → Option Stop
stop_at image slot = first_stop (4 * length image.code) (memory_bytes image) slot.dpc slot.instr slot.a

-- The access that it makes, where it has no stop and makes one.
abbrev pub asks : ℕ → Slot → Option Stop → Option Instr → Option Kind → Option Request
asks executed slot (Some stop) instr kind = None
asks executed slot None None kind = None
asks executed slot None (Some instr) None = None
asks executed slot None (Some instr) (Some kind) = Some (asked executed (record {
  kind = kind;
  addr = address_of instr slot.a;
  expected = slot.c;
  value = part kind 0 slot.b;
}))

unfoldable pub access_at : ImageValue → ℕ → Slot → Option Request
access_at image executed slot = asks executed slot (stop_at image slot) slot.instr (kind_at slot.instr)

-- The stop of the instruction in M.
abbrev pub stop_in : ImageValue → Option Slot → Option Stop
stop_in image None = None
stop_in image (Some slot) = stop_at image slot

-- The access that the instruction in M waits for.
abbrev pub access_in : ImageValue → ℕ → Option Slot → Option Request
access_in image executed None = None
access_in image executed (Some slot) = access_at image executed slot

-- Where the instruction in M is executed, the word that a load receives.
abbrev pub goes_by : Option Slot → Option Request → Option ℕ → Option ℕ
goes_by None access reply = None
goes_by (Some slot) None reply = Some 0
goes_by (Some slot) (Some request) None = None
goes_by (Some slot) (Some request) (Some word) = Some (loaded request.kind word)

-- The place of the next instruction to begin.
abbrev pub place_of : Flight → ℕ
place_of flight = follow flight.stages.id flight.front_dpc flight.front_pc

-- A word of code is wanted where IF is empty and the next instruction stands on the code.
abbrev pub fetch_by : ImageValue → Option Slot → ℕ → Option ℕ
fetch_by image (Some slot) place = None
fetch_by image None place = if is_off_code (4 * length image.code) place then None else Some place

abbrev pub fetch_in : ImageValue → Flight → Option ℕ
fetch_in image flight = fetch_by image flight.fetch (place_of flight)

-- What may begin: off the code at once, and without an instruction; on it the instruction of the word that came.
abbrev pub word_of : Bool → Option ℕ → Option (Option Instr)
word_of true fetched = Some None
word_of false None = None
word_of false (Some word) = Some (instr_of word)

-- A slot that stands on the code has its instruction.
abbrev pub IsKnown : ImageValue → Option Slot → Type 0
IsKnown image None = ⊤
IsKnown image (Some slot) = slot.dpc % 4 ≡ 0 → slot.dpc < 4 * length image.code → IsSome slot.instr
