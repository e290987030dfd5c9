use Rattle.std.proofs.Common.{◌≡◌, ◌-◌, ◌++◌}
use Rattle.rand_core.specs.Steps.{first_words}
use Rattle.rand_pcg.specs.Pcg.{pcg32}
use Rattle.workload_gen.specs.Source.{lines_text, source_text}
use Rattle.workload_gen.proofs.SourceLemmas.{lines_left}
use Rattle.workload_gen.proofs.source.source_of.Given as goal

abbrev pub invariant-loop-number : goal.invariant-loop-number
invariant-loop-number l =
    l.text.items ++ lines_text (lines_left l.number (first_words pcg32 (l.size - l.number) l.words)) ≡ source_text l.seed l.size
