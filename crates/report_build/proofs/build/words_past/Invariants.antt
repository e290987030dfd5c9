use Rattle.std.proofs.Common.{◌≡◌, ◌++◌, drop}
use Rattle.std.specs.List.{All}
use Rattle.report_rows.specs.Bounds.{IsWord}
use Rattle.report_rows.specs.declared.MemoryWord.{MemoryWord}
use Rattle.report_text.specs.Report.{words_from, words_past}
use Rattle.report_build.proofs.build.words_past.Given as goal

abbrev pub invariant-loop-index : goal.invariant-loop-index
invariant-loop-index l = record {
  words : l.words.items ++ words_from l.index (drop l.index l.memory) ≡ words_past l.code l.memory;
  fit : All (λ (word : MemoryWord). IsWord word.value) l.words.items;
}
