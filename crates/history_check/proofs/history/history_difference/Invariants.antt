use Rattle.std.proofs.Common.{◌≡◌, ◌+◌, length, take}
use Rattle.image_file.specs.Value.{code_lines}
use Rattle.right_run.specs.Right.{caches_of}
use Rattle.history_check.specs.History.{HistoryIsRight}
use Rattle.history_check.specs.Checks.{AreAfter}
use Rattle.history_check.proofs.history.history_difference.Given as goal

abbrev pub invariant-loop-item : goal.invariant-loop-item
invariant-loop-item l = record {
  line_is : l.line ≡ l.first_line + l.item-index;
  cores : length l.machine.cores ≡ l.setup.cores;
  right : HistoryIsRight l.setup l.image (take l.item-index l.items) l.initial.machine l.machine;
  letters : AreAfter (caches_of l.setup) l.setup.cores (code_lines l.image) (take l.item-index l.items) l.letters;
}
