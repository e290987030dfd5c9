-- A loaded image, and the steps of a core over it.
use Rattle.std.specs.Prelude.{ℕ, ◌*◌, ◌%◌, Bool, ◌&&◌, ◌==◌, nat_lt, Option, Some, None, length}
use Rattle.mips_isa.specs.declared.Kind.{Kind}
use Rattle.mips_isa.specs.declared.Stop.{Stop}
use Rattle.mips_isa.specs.declared.CoreState.{CoreState}
use Rattle.mips_isa.specs.declared.Next.{Next}
use Rattle.mips_isa.specs.declared.Next.TheVariants.{Stops, Asks, Goes}
use Rattle.mips_isa.specs.Steps.{next_of, finish_of, MayAccess}
use Rattle.image_file.specs.Value.{ImageValue, memory_bytes}
use Rattle.access_log.specs.declared.request.Request.{Request}
use Rattle.access_log.specs.Requests.{asked}

-- Whether an instruction stands at an address.
abbrev pub on_code : ImageValue → ℕ → Bool
on_code image addr = (addr % 4 == 0) && nat_lt addr (4 * length image.code)

-- Whether an access may be asked of memory: at its address there is no stop.
abbrev pub IsProperAccess : ImageValue → Kind → ℕ → Type 0
IsProperAccess image kind addr = MayAccess (4 * length image.code) (memory_bytes image) kind addr

-- What a core does next.
unfoldable pub next_in : ImageValue → CoreState → Next
next_in image state = next_of image.code (memory_bytes image) state

abbrev pub stop_in : Next → Option Stop
stop_in (Stops why) = Some why
stop_in (Asks access) = None
stop_in (Goes state) = None

abbrev pub request_in : ℕ → Next → Option Request
request_in nth (Stops why) = None
request_in nth (Asks access) = Some (asked nth access)
request_in nth (Goes state) = None

abbrev pub quiet_in : CoreState → Next → CoreState
quiet_in state (Stops why) = state
quiet_in state (Asks access) = state
quiet_in state (Goes next) = next

-- The stop at which a core stands, if it does.
unfoldable pub stop : ImageValue → CoreState → Option Stop
stop image state = stop_in (next_in image state)

-- The access that a core makes next, if it makes one, when it has executed so many instructions.
unfoldable pub request : ImageValue → ℕ → CoreState → Option Request
request image executed state = request_in executed (next_in image state)

-- The state after an instruction that neither stops nor makes an access.
unfoldable pub quiet : ImageValue → CoreState → CoreState
quiet image state = quiet_in state (next_in image state)

-- The state after an access, where the part of memory was old.
unfoldable pub finish : ImageValue → CoreState → ℕ → CoreState
finish image state old = finish_of image.code state old
