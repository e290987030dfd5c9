-- The fields of a request's entry.
use Rattle.std.proofs.Common.{◌≡◌, ℕ, refl}
use Rattle.access_log.specs.declared.request.Request.{Request}
use Rattle.access_log.specs.Requests.{entry_of}

pub core_of-entry : (core : ℕ) (request : Request) (old : ℕ) → (entry_of core request old).core ≡ core
unfolding entry_of
core_of-entry core request old = refl
