use Rattle.std.proofs.Common.{◌≡◌, ◌+◌, ◌-◌, ◌≤◌, vec_len}
use Rattle.kmp_base.specs.Streams.{Took}
use Rattle.kmp_base.proofs.transfer.read_input.Given as goal

abbrev pub invariant-input : goal.invariant-input
invariant-input g l =
    Took (g.S.Source.left l.initial.source) (g.S.Source.left l.source) l.bytes.items
    × (g.S.Source.faults l.source ≡ g.S.Source.faults l.initial.source) × (vec_len l.bytes ≤ l.limit + 1)

abbrev pub decreases-input : goal.decreases-input
decreases-input g l = l.limit + 1 - vec_len l.bytes
