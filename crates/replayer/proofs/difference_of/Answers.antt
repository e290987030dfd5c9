use Rattle.std.proofs.Common.{◌≡◌, List, length, sym, ap, ◌∙◌, inl, arith}
use Rattle.std.proofs.lemmas.Result.{IfOk-weaker}
use Rattle.access_log.specs.declared.Item.{Item}
use Rattle.access_log.specs.Replay.{FlatMachine}
use Rattle.report_text.specs.Report.{ReportValue}
use Rattle.replayer.proofs.LineLemmas.{cores_line_is, words_line_is, counts_line_is, last_line}
use Rattle.replayer.proofs.RightImage.{bytes_are}
use Rattle.replayer.proofs.CheckLaws.{start_fits, right_by, machine_fits, items_within, differs_by, none_told, some_told}
use Rattle.replayer.proofs.difference_of.Goals as goal

pub history_difference-requires-clause-cores : goal.history_difference-requires-clause-cores
history_difference-requires-clause-cores c =
    ap (λ (m : FlatMachine). length m.cores) c.requires.start ∙ (start_fits c.args.report.now).cores_are
    ∙ ap (λ (r : ReportValue). r.setup.cores) (sym c.report.view_is)

pub history_difference-requires-clause-within : goal.history_difference-requires-clause-within
history_difference-requires-clause-within c =
    items_within _ c.args.report.now c.items-items.result.now c.args.machine.now c.requires.form c.report.view_is
    c.items-items.ensures.items c.requires.start

pub history_difference-requires-clause-lines : goal.history_difference-requires-clause-lines
history_difference-requires-clause-lines c =
    let report = c.args.report.now in
    let items_are : c.items-items.result.now ≡ report.items = c.items-items.ensures.items
    ∙ ap (λ (r : ReportValue). r.items) c.report.view_is in
    omega (
      arith,
      c.history_line-line.ensures,
      ap (λ (items : List Item). length items) items_are,
      cores_line_is report,
      words_line_is report,
      counts_line_is report,
      last_line report,
    )

pub returns-in-Some-clause-some : goal.returns-in-Some-clause-some
returns-in-Some-clause-some c =
    inl (differs_by _ c.args.report.now c.items-items.result.now c.args.machine.now c.history_line-line.result c.in-Some.difference
    c.report.view_is c.items-items.ensures.items c.requires.start c.history_line-line.ensures
    (rw c.in-Some.is at c.in_ok-told.ensures.some))

pub outcome_difference-requires-clause-follows : goal.outcome_difference-requires-clause-follows
outcome_difference-requires-clause-follows c =
    (right_by _ c.args.report.now c.items-items.result.now c.args.machine.now c.history_difference.new.machine c.report.view_is
    c.items-items.ensures.items c.requires.start (rw c.in_default.is at c.in_ok-told.ensures.none)).follows

pub outcome_difference-requires-clause-cores : goal.outcome_difference-requires-clause-cores
outcome_difference-requires-clause-cores c =
    let right = right_by _ c.args.report.now c.items-items.result.now c.args.machine.now c.history_difference.new.machine c.report.view_is
    c.items-items.ensures.items c.requires.start (rw c.in_default.is at c.in_ok-told.ensures.none) in
    (machine_fits c.args.report.now c.history_difference.new.machine right.made).cores_are

pub outcome_difference-requires-clause-words : goal.outcome_difference-requires-clause-words
outcome_difference-requires-clause-words c =
    let report = c.args.report.now in
    let right = right_by _ report c.items-items.result.now c.args.machine.now c.history_difference.new.machine c.report.view_is
    c.items-items.ensures.items c.requires.start (rw c.in_default.is at c.in_ok-told.ensures.none) in
    omega (arith, (machine_fits report c.history_difference.new.machine right.made).words_are, bytes_are report c.requires.form)

pub returns-clause-none : goal.returns-clause-none
returns-clause-none c =
    let right = right_by _ c.args.report.now c.items-items.result.now c.args.machine.now c.history_difference.new.machine c.report.view_is
    c.items-items.ensures.items c.requires.start (rw c.in_default.is at c.in_ok-told.ensures.none) in
    IfOk-weaker c.outcome_difference.result _ _ (none_told c.args.report.now c.history_difference.new.machine c.requires.form right)
    c.outcome_difference.ensures

pub returns-clause-some : goal.returns-clause-some
returns-clause-some c =
    let right = right_by _ c.args.report.now c.items-items.result.now c.args.machine.now c.history_difference.new.machine c.report.view_is
    c.items-items.ensures.items c.requires.start (rw c.in_default.is at c.in_ok-told.ensures.none) in
    IfOk-weaker c.outcome_difference.result _ _ (some_told c.args.report.now c.history_difference.new.machine right)
    c.outcome_difference.ensures
