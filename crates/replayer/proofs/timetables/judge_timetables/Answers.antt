use Rattle.std.proofs.lemmas.List.{length-set}
use Rattle.std.proofs.Common.{◌^◌, ◌∙◌, None, Some, sym, ap, arith}
use Rattle.std_laws.proofs.ListLaws.{AllByRecursion-slice_get}
use Rattle.access_log.specs.Items.{entries}
use Rattle.report_rows.specs.Bounds.{most_rows, IsEnd}
use Rattle.report_rows.specs.Ends.{end_value}
use Rattle.report_text.specs.Report.{ReportValue}
use Rattle.replayer.proofs.TablesLemmas.{kept_there, told_here, lines_for, table_differs, table_agrees, known_here, more_known}
use Rattle.replayer.proofs.timetables.judge_timetables.Goals as goal

pub judge_timetable-judged-requires-clause-lines : goal.judge_timetable-judged-requires-clause-lines
judge_timetable-judged-requires-clause-lines c =
    let report = c.args.report.now in
    let ended = c.index-kept.result.now in
    let there = kept_there c.report.inside.cores.items report.cores c.loop-core.core ended
    (ap (λ (r : ReportValue). r.cores) c.report.view_is) c.index-kept.ensures
    (omega (arith, ap (λ (r : ReportValue). r.setup.cores) c.report.view_is, c.requires.form.cores)) in
    lines_for report.setup report.image (entries report.items) c.args.first_line report.cores c.loop-core.line c.loop-core.core
    (end_value ended) c.loop-core.invariant.0 there (2 ^ 32) c.requires.lines

pub judge_timetable-judged-requires-clause-times : goal.judge_timetable-judged-requires-clause-times
judge_timetable-judged-requires-clause-times c =
    let report = c.args.report.now in
    let ended = c.index-kept.result.now in
    let there = kept_there c.report.inside.cores.items report.cores c.loop-core.core ended
    (ap (λ (r : ReportValue). r.cores) c.report.view_is) c.index-kept.ensures
    (omega (arith, ap (λ (r : ReportValue). r.setup.cores) c.report.view_is, c.requires.form.cores)) in
    (AllByRecursion-slice_get (IsEnd report.setup.budget (most_rows report.setup.machine)) report.cores c.loop-core.core (end_value ended)
    c.requires.form.ends there).times

pub returns-in-Some : goal.returns-in-Some
returns-in-Some c =
    let report = c.args.report.now in
    let ended = c.index-kept.result.now in
    let there = kept_there c.report.inside.cores.items report.cores c.loop-core.core ended
    (ap (λ (r : ReportValue). r.cores) c.report.view_is) c.index-kept.ensures
    (omega (arith, ap (λ (r : ReportValue). r.setup.cores) c.report.view_is, c.requires.form.cores)) in
    let told = told_here c.loop-core.line c.loop-core.core (Some c.in-Some.difference) _ report c.items-items.result.now (end_value ended)
    c.report.view_is c.items-items.ensures.items (sym c.in-Some.is ∙ c.judge_timetable-judged.ensures.told) in
    record {
      told = table_differs report.setup report.image (entries report.items) c.args.first_line report.cores c.loop-core.line
          c.loop-core.core (end_value ended) c.loop-core.invariant.0 there c.in-Some.difference told;
      clocks = c.loop-core.invariant.1;
    }

pub overflow_add-line : goal.overflow_add-line
overflow_add-line c =
    let report = c.args.report.now in
    let ended = c.index-kept.result.now in
    let there = kept_there c.report.inside.cores.items report.cores c.loop-core.core ended
    (ap (λ (r : ReportValue). r.cores) c.report.view_is) c.index-kept.ensures
    (omega (arith, ap (λ (r : ReportValue). r.setup.cores) c.report.view_is, c.requires.form.cores)) in
    let fits = lines_for report.setup report.image (entries report.items) c.args.first_line report.cores c.loop-core.line c.loop-core.core
    (end_value ended) c.loop-core.invariant.0 there (2 ^ 32) c.requires.lines in
    omega (arith, fits, c.len-line.ensures.len)

pub loop-core-preserved : goal.loop-core-preserved
loop-core-preserved c =
    let report = c.args.report.now in
    let ended = c.index-kept.result.now in
    let there = kept_there c.report.inside.cores.items report.cores c.loop-core.core ended
    (ap (λ (r : ReportValue). r.cores) c.report.view_is) c.index-kept.ensures
    (omega (arith, ap (λ (r : ReportValue). r.setup.cores) c.report.view_is, c.requires.form.cores)) in
    let told = told_here c.loop-core.line c.loop-core.core None _ report c.items-items.result.now (end_value ended) c.report.view_is
    c.items-items.ensures.items (sym c.in_default.is ∙ c.judge_timetable-judged.ensures.told) in (
      rw c.len-line.ensures.len
          (table_agrees report.setup report.image (entries report.items) c.args.first_line report.cores c.loop-core.line c.loop-core.core
          (end_value ended) c.loop-core.invariant.0 there told),
      more_known report c.loop-core.clocks c.loop-core.core (end_value ended) c.judge_timetable-judged.result.clocks c.loop-core.invariant.1
          (omega (
            arith,
            c.loop-core.invariant.2,
            c.requires.form.header.limits.cores,
            ap (λ (r : ReportValue). r.setup.cores) c.report.view_is,
          )) there (known_here c.loop-core.core c.judge_timetable-judged.result.clocks _ report c.items-items.result.now ended.retired c.report.view_is
          c.items-items.ensures.items c.judge_timetable-judged.ensures.clocks),
      length-set c.loop-core.clocks c.loop-core.core c.judge_timetable-judged.result.clocks ∙ c.loop-core.invariant.2,
    )
