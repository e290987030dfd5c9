use Rattle.std.proofs.Common.{◌≡◌, ℕ, ◌++◌, List, length, map, None, Some, sym, ap, ◌∙◌, arith}
use Rattle.access_log.specs.declared.Item.{Item}
use Rattle.access_log.specs.Items.{entries}
use Rattle.access_log.specs.Replay.{FlatMachine}
use Rattle.timetable.specs.declared.CoreEnd.{CoreEnd}
use Rattle.report_rows.specs.Ends.{end_value}
use Rattle.report_rows.specs.declared.MemoryWord.{MemoryWord}
use Rattle.right_run.specs.Right.{caches_of}
use Rattle.report_text.specs.Counts.{counts_of}
use Rattle.report_text.specs.Report.{ReportValue, words_past}
use Rattle.row_check.specs.Judgments.{Judgment, first_told}
use Rattle.replayer.specs.Lists.{words_judged, counts_judged}
use Rattle.replayer.specs.Cores.{cores_judged}
use Rattle.replayer.specs.Timetables.{timetables_judged}
use Rattle.replayer.specs.Outcome.{cores_line, words_line, timetables_line, counts_line}
use Rattle.replayer.proofs.JudgeLemmas.{first_before, first_behind}
use Rattle.replayer.proofs.LineLemmas.{cores_line_is, words_line_is, timetables_line_is, counts_line_is, last_line}
use Rattle.replayer.proofs.outcome.outcome_difference.Goals as goal

-- what is due of the cores, of memory, of the timetables, and of the counts

abbrev cores : ReportValue → FlatMachine → List Judgment
cores report machine =
    cores_judged (cores_line report) report.setup report.image machine (entries report.items) 0 report.cores machine.cores

abbrev words : ReportValue → FlatMachine → List Judgment
words report machine = words_judged (words_line report) report.words (words_past (length report.image.code) machine.memory)

abbrev tables : ReportValue → List Judgment
tables report = timetables_judged (timetables_line report) report.setup report.image (entries report.items) 0 report.cores

abbrev counts : ReportValue → List Judgment
counts report = counts_judged (counts_line report) report.counts (counts_of (caches_of report.setup) report.cores report.items)

-- the counts that are due, in other words
counts_due : (given report : ReportValue) (items : List Item) (values : List ℕ) → given ≡ report → items ≡ given.items
    → values ≡ counts_of (caches_of given.setup) given.cores items
    → values ≡ counts_of (caches_of report.setup) report.cores report.items
counts_due given report items values is items_are values_are = rw (items_are, is) at values_are

pub cores_difference-requires-clause-cores : goal.cores_difference-requires-clause-cores
cores_difference-requires-clause-cores c = c.requires.cores ∙ sym c.requires.form.cores

pub cores_difference-requires-clause-items : goal.cores_difference-requires-clause-items
cores_difference-requires-clause-items c =
    let report = c.args.report.now in
    omega (arith, cores_line_is report, words_line_is report, counts_line_is report, last_line report, c.requires.size)

pub cores_difference-requires-clause-line : goal.cores_difference-requires-clause-line
cores_difference-requires-clause-line c =
    let report = c.args.report.now in
    omega (arith, words_line_is report, counts_line_is report, last_line report)

pub returns-in-Some : goal.returns-in-Some
returns-in-Some c =
    let report = c.args.report.now in
    let machine = c.args.machine.now in
    let due = cores report machine in
    sym (first_before (due ++ words report machine ++ tables report) (counts report) c.in-Some.difference
    (first_before (due ++ words report machine) (tables report) c.in-Some.difference
    (first_before due (words report machine) c.in-Some.difference
    (sym (rw c.cores_line.ensures at c.in-Some.ensures.first)))))

pub words_difference-requires-clause-lines : goal.words_difference-requires-clause-lines
words_difference-requires-clause-lines c =
    let report = c.args.report.now in
    let words_are : c.deref.result.now ≡ report.words = c.deref.ensures.value ∙ ap (λ (r : ReportValue). r.words) c.report.view_is in
    omega (arith, ap (λ (ws : List MemoryWord). length ws) words_are, counts_line_is report, last_line report)

pub returns-in-Some-words_difference : goal.returns-in-Some-words_difference
returns-in-Some-words_difference c =
    let report = c.args.report.now in
    let machine = c.args.machine.now in
    let words_are : c.deref.result.now ≡ report.words = c.deref.ensures.value ∙ ap (λ (r : ReportValue). r.words) c.report.view_is in
    let code_is : c.report.inside.image.code ≡ report.image.code = ap (λ (r : ReportValue). r.image.code) c.report.view_is in
    let before = first_behind (cores report machine) (words report machine) (sym (rw c.cores_line.ensures at c.in_default.ensures.first)) in
    sym (first_before (cores report machine ++ words report machine ++ tables report) (counts report)
    c.in-Some-words_difference.difference
    (first_before (cores report machine ++ words report machine) (tables report) c.in-Some-words_difference.difference
    (before
    ∙ sym (rw (c.words_line-line.ensures, words_are, code_is, c.in_default.ensures.memory) at c.in-Some-words_difference.ensures))))

pub judge_timetables-tables-requires-clause-lines : goal.judge_timetables-tables-requires-clause-lines
judge_timetables-tables-requires-clause-lines c =
    let report = c.args.report.now in
    omega (arith, c.timetables_line.ensures, timetables_line_is report, counts_line_is report, last_line report, c.requires.size)

pub returns-in-Some-told : goal.returns-in-Some-told
returns-in-Some-told c =
    let report = c.args.report.now in
    let machine = c.args.machine.now in
    let words_are : c.deref.result.now ≡ report.words = c.deref.ensures.value ∙ ap (λ (r : ReportValue). r.words) c.report.view_is in
    let code_is : c.report.inside.image.code ≡ report.image.code = ap (λ (r : ReportValue). r.image.code) c.report.view_is in
    let none_before : first_told (cores report machine ++ words report machine) ≡ None =
    first_behind (cores report machine) (words report machine) (sym (rw c.cores_line.ensures at c.in_default.ensures.first))
    ∙ sym (rw (c.words_line-line.ensures, words_are, code_is, c.in_default.ensures.memory) at c.in_default-words_difference.ensures) in
    let told : first_told (tables report) ≡ Some c.in-Some-told.difference =
    sym (sym c.in-Some-told.is ∙ rw c.timetables_line.ensures at c.judge_timetables-tables.ensures.told) in
    sym (first_before (cores report machine ++ words report machine ++ tables report) (counts report) c.in-Some-told.difference
    (first_behind (cores report machine ++ words report machine) (tables report) none_before ∙ told))

pub counts_difference-requires : goal.counts_difference-requires
counts_difference-requires c = omega (arith, last_line c.args.report.now)

pub returns : goal.returns
returns c =
    let report = c.args.report.now in
    let machine = c.args.machine.now in
    let words_are : c.deref.result.now ≡ report.words = c.deref.ensures.value ∙ ap (λ (r : ReportValue). r.words) c.report.view_is in
    let code_is : c.report.inside.image.code ≡ report.image.code = ap (λ (r : ReportValue). r.image.code) c.report.view_is in
    let due_is : c.in_ok-due.due.values ≡ counts_of (caches_of report.setup) report.cores report.items =
    counts_due _ report c.items.result.now c.in_ok-due.due.values c.report.view_is c.items.ensures.items
    (c.in_ok-due.ensures.counts
    ∙ ap (λ (ends : List CoreEnd). counts_of (caches_of c.report.inside.setup) (map end_value ends) c.items.result.now)
    c.deref-2.ensures.value) in
    let counts_are : c.report.inside.counts.values ≡ report.counts = ap (λ (r : ReportValue). r.counts) c.report.view_is in
    let none_before : first_told (cores report machine ++ words report machine) ≡ None =
    first_behind (cores report machine) (words report machine) (sym (rw c.cores_line.ensures at c.in_default.ensures.first))
    ∙ sym (rw (c.words_line-line.ensures, words_are, code_is, c.in_default.ensures.memory) at c.in_default-words_difference.ensures) in
    let none_of_tables : first_told (cores report machine ++ words report machine ++ tables report) ≡ None =
    first_behind (cores report machine ++ words report machine) (tables report) none_before
    ∙ sym (sym c.in_default-told.is ∙ rw c.timetables_line.ensures at c.judge_timetables-tables.ensures.told) in
    let told : c.counts_difference.result ≡ first_told (counts report) =
    rw (c.counts_line.ensures, due_is, counts_are) at c.counts_difference.ensures in
    told ∙ sym (first_behind (cores report machine ++ words report machine ++ tables report) (counts report) none_of_tables)
