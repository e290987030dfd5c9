-- What there is of a machine.
use Rattle.std.specs.Prelude.{ℕ}
use Rattle.kmp_base.specs.declared.setup.MachineKind.{MachineKind}
use Rattle.kmp_base.specs.declared.setup.MachineKind.TheVariants.{Full}
use Rattle.kmp_base.specs.declared.setup.TheConstants.{MOST_WAYS}

-- The most ways of a set of a cache, by the machine: caches are direct-mapped. Where there are none, the number tells nothing.
abbrev pub most_ways : MachineKind → ℕ
most_ways Full = 1
most_ways machine = MOST_WAYS
