-- The part of the other caches in a transaction, by the MOESI protocol.
use Rattle.std.specs.Prelude.{Bool, true, false}
use Rattle.access_log.specs.declared.Letter.{Letter}
use Rattle.access_log.specs.declared.Letter.TheVariants.{M, O, E, S, I}
use Rattle.moesi_slave.specs.declared.SlavePhase.{SlavePhase}
use Rattle.moesi_slave.specs.declared.SlavePhase.TheVariants.{Fresh, Latched, Acted}

-- The letter of another cache after a transaction, by the intent to modify.
abbrev pub after_act : Letter → Bool → Letter
after_act letter true = I
after_act M false = O
after_act O false = O
after_act E false = S
after_act S false = S
after_act I false = I

-- Whether a cache has not looked yet.
abbrev pub is_fresh : SlavePhase → Bool
is_fresh Fresh = true
is_fresh slave = false

-- Whether it has looked, and not acted.
abbrev pub is_latched : SlavePhase → Bool
is_latched (Latched seen) = true
is_latched slave = false

-- Whether it has acted.
abbrev pub is_acted : SlavePhase → Bool
is_acted Acted = true
is_acted slave = false
