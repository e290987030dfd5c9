-- What the words on a core over a loaded image say of one another.
use Rattle.std.proofs.Common.{◌≡◌, ℕ, Some, None, refl, ap, sym, ◌∙◌, subst}
use Rattle.std.proofs.lemmas.Option.{same_Some}
use Rattle.mips_isa.specs.declared.Stop.{Stop}
use Rattle.mips_isa.specs.declared.Access.{Access}
use Rattle.mips_isa.specs.declared.CoreState.{CoreState}
use Rattle.mips_isa.specs.declared.Next.{Next}
use Rattle.mips_isa.specs.declared.Next.TheVariants.{Stops, Asks, Goes}
use Rattle.mips_isa.specs.Steps.{MayAccess}
use Rattle.mips_isa.proofs.NextLaws.{next-may}
use Rattle.image_file.specs.Value.{ImageValue, memory_bytes}
use Rattle.access_log.specs.declared.request.Request.{Request}
use Rattle.access_log.specs.Requests.{asked, access_of}
use Rattle.mem_port.specs.Loaded.{IsProperAccess, next_in, stop_in, request_in, quiet_in, stop, request, quiet}

access_of-asked : (nth : ℕ) (access : Access) → access_of (asked nth access) ≡ access
unfolding access_of asked
access_of-asked nth access = refl

asked-nth : (nth : ℕ) (access : Access) → (asked nth access).nth ≡ nth
unfolding asked
asked-nth nth access = refl

asked-may : (code_bytes memory_bytes nth : ℕ) (access : Access) → MayAccess code_bytes memory_bytes access.kind access.addr
    → MayAccess code_bytes memory_bytes (asked nth access).kind (asked nth access).addr
unfolding asked
asked-may code_bytes memory_bytes nth access h = h

asks-case : (n : ℕ) (next : Next) (r : Request) → request_in n next ≡ Some r → (access : Access)
    × ((next ≡ Asks access) × (r ≡ asked n access))
asks-case n (Stops why) r h = cc
asks-case n (Goes state) r h = cc
asks-case n (Asks access) r h = (access, (refl, sym (same_Some (asked n access) r h)))

-- A core that asks for a request makes that access next, and the request has the number of its instructions.
pub request-asks : (image : ImageValue) (n : ℕ) (state : CoreState) (r : Request) → request image n state ≡ Some r
    → (next_in image state ≡ Asks (access_of r)) × (r.nth ≡ n)
unfolding request
request-asks image n state r h =
    let f = asks-case n (next_in image state) r h in
    let same : access_of r ≡ f.0 = ap access_of f.1.1 ∙ access_of-asked n f.0 in
    (f.1.0 ∙ ap Asks (sym same), ap (λ q. q.nth) f.1.1 ∙ asked-nth n f.0)

-- A request has the number of its core's instructions.
pub request-nth : (image : ImageValue) (n : ℕ) (state : CoreState) (r : Request) → request image n state ≡ Some r → r.nth ≡ n
request-nth image n state r h = (request-asks image n state r h).1

-- What a core asks for may be asked.
pub request-proper : (image : ImageValue) (n : ℕ) (state : CoreState) (r : Request) → request image n state ≡ Some r
    → IsProperAccess image r.kind r.addr
unfolding request next_in
request-proper image n state r h =
    let f = asks-case n (next_in image state) r h in
    let P : Request → Type 0 = λ q. IsProperAccess image q.kind q.addr in
    subst P (sym f.1.1) (asked-may _ _ n f.0 (next-may image.code (memory_bytes image) state f.0 f.1.0))

no_stop-case : (n : ℕ) (next : Next) (r : Request) → request_in n next ≡ Some r → stop_in next ≡ None
no_stop-case n (Stops why) r h = cc
no_stop-case n (Asks access) r h = refl
no_stop-case n (Goes state) r h = refl

-- An access is asked for only where there is no stop.
pub request-no_stop : (image : ImageValue) (n : ℕ) (state : CoreState) (r : Request) → request image n state ≡ Some r
    → stop image state ≡ None
unfolding request stop
request-no_stop image n state r h = no_stop-case n (next_in image state) r h

goes-case : (n : ℕ) (state : CoreState) (next : Next) → stop_in next ≡ None → request_in n next ≡ None → next ≡ Goes (quiet_in state next)
goes-case n state (Stops why) h k = cc
goes-case n state (Asks access) h k = cc
goes-case n state (Goes new) h k = refl

-- Where there is neither a stop nor an access, there is a quiet step.
pub next-goes : (image : ImageValue) (n : ℕ) (state : CoreState) → stop image state ≡ None → request image n state ≡ None
    → next_in image state ≡ Goes (quiet image state)
unfolding stop request quiet
next-goes image n state h k = goes-case n state (next_in image state) h k

-- The words, from what a core does next.
pub stops-stop : (image : ImageValue) (state : CoreState) (why : Stop) → next_in image state ≡ Stops why → stop image state ≡ Some why
unfolding stop
stops-stop image state why e = ap stop_in e

pub goes-stop : (image : ImageValue) (state new : CoreState) → next_in image state ≡ Goes new → stop image state ≡ None
unfolding stop
goes-stop image state new e = ap stop_in e

pub goes-request : (image : ImageValue) (n : ℕ) (state new : CoreState) → next_in image state ≡ Goes new → request image n state ≡ None
unfolding request
goes-request image n state new e = ap (request_in n) e

pub goes-quiet : (image : ImageValue) (state new : CoreState) → next_in image state ≡ Goes new → new ≡ quiet image state
unfolding quiet
goes-quiet image state new e = sym (ap (quiet_in state) e)

pub asks-request : (image : ImageValue) (n : ℕ) (state : CoreState) (access : Access) → next_in image state ≡ Asks access
    → request image n state ≡ Some (asked n access)
unfolding request
asks-request image n state access e = ap (request_in n) e
