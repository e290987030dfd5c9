-- What cores ask of memory, and what becomes of it.
use Rattle.std.specs.Prelude.{ℕ, List}
use Rattle.mips_isa.specs.declared.Access.{Access}
use Rattle.mips_isa.specs.declared.Kind.TheVariants.{Fetch}
use Rattle.mips_isa.specs.Kinds.{part}
use Rattle.access_log.specs.declared.request.Request.{Request}
use Rattle.access_log.specs.declared.Entry.{Entry}
use Rattle.access_log.specs.Memory.{word_at, made}

-- The request of a core that has executed so many instructions for an access.
unfoldable pub asked : ℕ → Access → Request
asked nth access =
    record { nth = nth; kind = access.kind; addr = access.addr; expected = access.expected; value = access.value }

-- The access that a request asks for.
unfoldable pub access_of : Request → Access
access_of request = record { kind = request.kind; addr = request.addr; expected = request.expected; value = request.value }

-- The request for the word of code at an address.
abbrev pub fetch_of : ℕ → Request
fetch_of addr = record { nth = 0; kind = Fetch; addr = addr; expected = 0; value = 0 }

-- The entry of a core's request that found this part of memory.
unfoldable pub entry_of : ℕ → Request → ℕ → Entry
entry_of core request old = made core request.nth (access_of request) old

-- The part of memory that a request finds.
unfoldable pub old_at : List ℕ → Request → ℕ
old_at memory request = part request.kind request.addr (word_at memory request.addr)
