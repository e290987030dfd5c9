-- What holds of a queue has one proof, so that it may be kept in a ghost field.
use Rattle.std.specs.Prelude.{List, [], ◌∷◌}
use Rattle.std.proofs.Props.{props}
use Rattle.mem_port.specs.declared.port.Port.{Port}
use Rattle.mem_port.specs.Memory.{MemoryView}
use Rattle.mem_port.specs.Props.{IsLawful-prop}
use Rattle.queued_memory.specs.Queue.{QueueView, AreDistinct, IsQueue}

AreDistinct-prop : (ports : List Port) → IsProp (AreDistinct ports)
AreDistinct-prop [] = hlevel props
AreDistinct-prop (port ∷ ports) = hlevel (props, AreDistinct-prop ports)

pub IsQueue-prop : (queue : QueueView) (m : MemoryView) → IsProp (IsQueue queue m)
IsQueue-prop queue m = hlevel (props, IsLawful-prop, AreDistinct-prop)
