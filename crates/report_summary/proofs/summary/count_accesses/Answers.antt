use Rattle.std.proofs.Common.{◌≤◌, ◌∙◌, length}
use Rattle.std.proofs.lemmas.List.{take_all}
use Rattle.std_laws.proofs.ListLaws.{count_by-true}
use Rattle.access_log.specs.Items.{entries}
use Rattle.report_text.proofs.CountLaws.{count_by_at_entry}
use Rattle.report_summary.proofs.summary.count_accesses.Goals as goal

pub returns : goal.returns
returns c =
    let items = c.args.items.now in
    let past : length items ≤ c.loop-item.item-index = c.loop-item-test.false in
    let all = rw take_all at c.loop-item.invariant in
    record { accesses = all.count ∙ count_by_at_entry _ items ∙ count_by-true (entries items) }
