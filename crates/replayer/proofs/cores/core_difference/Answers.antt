use Rattle.std.proofs.Common.{◌≡◌, List, length, get_or, None, sym, ap, ◌∙◌, arith}
use Rattle.std.proofs.lemmas.Option.{same_Some}
use Rattle.std_laws.proofs.ListLaws.{AllByRecursion-slice_get}
use Rattle.access_log.specs.declared.Item.{Item}
use Rattle.report_rows.specs.Bounds.{most_rows, IsEnd}
use Rattle.report_rows.specs.Ends.{EndValue, end_value}
use Rattle.report_text.specs.Report.{ReportValue}
use Rattle.seq_machine.proofs.ReachingLaws.{CatchesUp-core}
use Rattle.replayer.specs.Cores.{core_to}
use Rattle.replayer.proofs.CoreLemmas.{caught_up_to, stands, core_rows}
use Rattle.replayer.proofs.TablesLemmas.{kept_there, known_there}
use Rattle.replayer.proofs.cores.core_difference.Goals as goal

pub core_there_difference-requires-clause-items : goal.core_there_difference-requires-clause-items
core_there_difference-requires-clause-items c =
    let items_are = c.items-items.ensures.items ∙ ap (λ (r : ReportValue). r.items) c.report.view_is in
    omega (arith, ap (λ (items : List Item). length items) items_are, c.requires.items)

pub core_there_difference-requires-clause-kept : goal.core_there_difference-requires-clause-kept
core_there_difference-requires-clause-kept c =
    let report = c.args.report.now in
    let there = kept_there c.report.inside.cores.items report.cores c.args.core c.index-kept.result.now
    (ap (λ (r : ReportValue). r.cores) c.report.view_is) c.index-kept.ensures c.requires.kept in
    (AllByRecursion-slice_get (IsEnd report.setup.budget (most_rows report.setup.machine)) report.cores c.args.core
    (end_value c.index-kept.result.now) c.requires.form.ends there).retired

pub core_there_difference-requires-clause-known : goal.core_there_difference-requires-clause-known
core_there_difference-requires-clause-known c =
    let report = c.args.report.now in
    let ended = c.index-kept.result.now in
    let there = kept_there c.report.inside.cores.items report.cores c.args.core ended
    (ap (λ (r : ReportValue). r.cores) c.report.view_is) c.index-kept.ensures c.requires.kept in
    known_there c.args.core (get_or c.args.clocks.now c.args.core None) _ report c.items-items.result.now ended.retired c.report.view_is
    c.items-items.ensures.items (c.requires.known c.args.core (end_value ended) there)

pub returns-clause-first : goal.returns-clause-first
returns-clause-first c kept before is was =
    let machine = c.args.machine.now in
    let new = c.catch_up.new.self in
    let report = c.args.report.now in
    let ended = c.index-kept.result.now in
    let h = c.catch_up.ensures.reach in
    let there = kept_there c.report.inside.cores.items report.cores c.args.core ended (ap (λ (r : ReportValue). r.cores) c.report.view_is)
    c.index-kept.ensures c.requires.kept in
    let kept_is : end_value ended ≡ kept = same_Some (end_value ended) kept (sym there ∙ is) in
    let there_is : record { state = c.state_of.result.now; executed = c.executed.result } ≡ core_to machine kept.retired before =
    stands new.cores c.args.core c.executed.result h.after c.state_of.result.now
    (CatchesUp-core machine c.args.core ended.retired c.catch_up.result new h) c.state_of.ensures.state c.executed.ensures.executed
    ∙ sym (caught_up_to machine new c.args.core ended.retired c.catch_up.result h before was)
    ∙ ap (λ (e : EndValue). core_to machine e.retired before) kept_is in
    core_rows c.args.line c.args.core c.core_there_difference.result _ report c.items-items.result.now kept (end_value ended)
    (record { state = c.state_of.result.now; executed = c.executed.result }) (core_to machine kept.retired before) c.report.view_is
    c.items-items.ensures.items kept_is there_is c.core_there_difference.ensures

pub returns-clause-moved : goal.returns-clause-moved
returns-clause-moved c = (c.catch_up.ensures.reach.after, c.catch_up.ensures.reach.is)
