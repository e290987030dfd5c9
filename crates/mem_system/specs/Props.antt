-- What holds of the bus between two calls has one proof, so that it may be kept in a ghost field.
use Rattle.std.proofs.Props.{props}
use Rattle.cache_bus.specs.View.{CacheBusView}
use Rattle.mem_system.specs.System.{IsQuiet}

pub IsQuiet-prop : (bus : CacheBusView) → IsProp (IsQuiet bus)
IsQuiet-prop bus = hlevel props
