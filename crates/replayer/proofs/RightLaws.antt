-- A report is right exactly where its history is, and no row behind it differs.
use Rattle.std.proofs.Common.{◌≡◌, ℕ, ◌+◌, ◌*◌, List, [], ◌∷◌, ◌++◌, length, refl, sym, ap, ◌∙◌, subst, arith}
use Rattle.std.specs.Prelude.{Some, None, map, slice_get}
use Rattle.std.specs.Option.{option_map, option_and_then}
use Rattle.std.proofs.lemmas.List.{length-map}
use Rattle.std.proofs.lemmas.Option.{slice_get-map}
use Rattle.std.proofs.lemmas.Simd.{map-map}
use Rattle.std_laws.proofs.OptionLaws.{option_and_then_parts, option_map_parts}
use Rattle.std_laws.proofs.ListLaws.{AllByRecursion-append, AllByRecursion-parts, AllByRecursion-slice_get}
use Rattle.image_file.specs.Value.{ImageValue, start_memory, start_states}
use Rattle.image_file.specs.Value as images
use Rattle.access_log.specs.declared.Core.{Core}
use Rattle.access_log.specs.declared.Entry.{Entry}
use Rattle.access_log.specs.declared.Item.{Item}
use Rattle.access_log.specs.Items.{entries}
use Rattle.access_log.specs.Replay.{FlatMachine, memory_bytes, entered_all, started, ended, own, replay}
use Rattle.timetable.specs.declared.CoreEnd.{CoreEnd}
use Rattle.timetable.specs.Outcome.{OutcomeValue, final_of}
use Rattle.right_run.specs.Right.{EndsAt, FollowsOn, IsRight, caches_of}
use Rattle.history_check.specs.History.{HistoryIsRight}
use Rattle.report_rows.specs.declared.MemoryWord.{MemoryWord}
use Rattle.report_rows.specs.Bounds.{most_rows, IsEnd}
use Rattle.report_rows.specs.Ends.{EndValue, end_value}
use Rattle.report_text.specs.Counts.{counts_of}
use Rattle.report_text.specs.Report.{ReportValue, words_past, report_of}
use Rattle.report_text.specs.Form.{IsReport}
use Rattle.report_text.proofs.CountLaws.{length-counts_of}
use Rattle.report_text.specs.Right.{IsRightReport}
use Rattle.row_check.specs.Judgments.{Judgment, first_told}
use Rattle.row_check.proofs.JudgmentLaws.{Agree, Agrees, agree, none_differs}
use Rattle.replayer.specs.Lists.{words_judged, counts_judged}
use Rattle.replayer.specs.Cores.{cores_judged}
use Rattle.replayer.specs.Timetables.{timetable_judged, timetables_judged}
use Rattle.replayer.specs.Outcome.{cores_line, words_line, timetables_line, counts_line, machine_of, outcome_judged}
use Rattle.replayer.proofs.RightJudgments.{words_same, words_agree, counts_same, counts_agree}
use Rattle.replayer.proofs.RightRegisters.{IsMachine, is_machine}
use Rattle.replayer.proofs.RightFinals.{machine_with, AreCaughtUp, ended-caught_up, caught_up-ended}
use Rattle.replayer.proofs.RightMachines.{core_end, ends_on, EndAsDue, end_as_due}
use Rattle.replayer.proofs.RightRuns.{all_executed}
use Rattle.replayer.proofs.RightRows.{AreAsDue, AreRight, retired_of, cores_right, cores_agree, finals_are, due_at, all_due}
use Rattle.replayer.proofs.RightRows.{tables_parts, tables_agree}
use Rattle.replayer.proofs.RightImage.{bytes_are}

-- ---- what is judged behind the accesses

abbrev cores : ReportValue → FlatMachine → List Judgment
cores report machine =
    cores_judged (cores_line report) report.setup report.image machine (entries report.items) 0 report.cores machine.cores

abbrev words : ReportValue → FlatMachine → List Judgment
words report machine = words_judged (words_line report) report.words (words_past (length report.image.code) machine.memory)

abbrev tables : ReportValue → List Judgment
tables report = timetables_judged (timetables_line report) report.setup report.image (entries report.items) 0 report.cores

abbrev counts : ReportValue → List Judgment
counts report = counts_judged (counts_line report) report.counts (counts_of (caches_of report.setup) report.cores report.items)

-- ---- what no difference says

-- no judgment of the cores and of the timetables differs, and the words and the counts are those that are due
record AllAgree (report : ReportValue) (machine : FlatMachine) : Type 0 where
  pub cores_so : Agree (cores report machine)
  pub words_are : report.words ≡ words_past (length report.image.code) machine.memory
  pub tables_so : Agree (tables report)
  pub counts_are : report.counts ≡ counts_of (caches_of report.setup) report.cores report.items

all_agree : (report : ReportValue) (machine : FlatMachine) → IsReport report → first_told (outcome_judged report machine) ≡ None
    → AllAgree report machine
all_agree report machine is none =
    let due = cores report machine in
    let parts = AllByRecursion-parts Agrees (due ++ words report machine ++ tables report) (counts report)
    (agree (outcome_judged report machine) none) in
    let timed = AllByRecursion-parts Agrees (due ++ words report machine) (tables report) parts.0 in
    let others = AllByRecursion-parts Agrees due (words report machine) timed.0 in
    record {
      cores_so = others.0;
      words_are = words_same (words_line report) report.words (words_past (length report.image.code) machine.memory) others.1;
      tables_so = timed.1;
      counts_are = counts_same (counts_line report) report.counts (counts_of (caches_of report.setup) report.cores report.items) is.thirteen
          (length-counts_of (caches_of report.setup) report.cores report.items) parts.1;
    }

-- ---- the report is right then

-- the outcome that a report tells of, where this is memory at the end
abbrev outcome_of : ReportValue → List ℕ → OutcomeValue
outcome_of report words = record { cores = map core_end report.cores; words = words; items = report.items }

-- a report's machine, and the bytes of its memory
memory_is : (report : ReportValue) (machine : FlatMachine) → IsReport report → length machine.memory ≡ length (start_memory report.image)
    → memory_bytes machine ≡ images.memory_bytes report.image
memory_is report machine is words = ap (λ n. 4 * n) words ∙ bytes_are report is

machine_is : (report : ReportValue) (machine : FlatMachine) → entered_all (entries report.items) (machine_of report) ≡ Some machine
    → IsMachine report.image.code report.setup.cores (length (start_memory report.image)) machine
machine_is report machine made = is_machine report.image (start_memory report.image) report.setup.cores (entries report.items) machine made

-- the replay comes to the ends that the report tells
abbrev Replays : ReportValue → FlatMachine → Type 0
Replays report machine =
    replay report.image.code (start_memory report.image) (start_states report.image report.setup.cores) (entries report.items)
    (map (λ (ended : CoreEnd). ended.retired) (map core_end report.cores))
    ≡ Some (machine_with report.image.code (map final_of (map core_end report.cores)) machine.memory)

replay_is : (report : ReportValue) (machine : FlatMachine) → entered_all (entries report.items) (machine_of report) ≡ Some machine
    → machine.code ≡ report.image.code
    → AreRight report.setup report.image (entries report.items) machine 0 report.cores machine.cores
    → Replays report machine
unfolding replay
replay_is report machine made code_is right =
    let order = entries report.items in
    let ends = report.cores in
    let start = machine_of report in
    let retired = map-map (λ (ended : CoreEnd). ended.retired) core_end ends in
    let last = ended-caught_up machine.code 0 (map retired_of ends) [] machine.cores right.finals machine.memory refl right.caught in
    let finals = finals_are report.setup report.image order 0 ends right.finals right.due in
    ap (λ ns. option_and_then (ended 0 ns) (entered_all order start)) retired
    ∙ ap (option_and_then (ended 0 (map retired_of ends))) made
    ∙ last
    ∙ ap (λ (cs : List Core). Some (machine_with machine.code cs machine.memory)) finals
    ∙ ap (λ (c : List ℕ). Some (machine_with c (map final_of (map core_end ends)) machine.memory)) code_is

-- each core ended rightly
ends_are : (report : ReportValue) (machine : FlatMachine) → IsReport report → Replays report machine
    → AreRight report.setup report.image (entries report.items) machine 0 report.cores machine.cores → Agree (tables report)
    → (core : ℕ) (ended : CoreEnd) → slice_get (map core_end report.cores) core ≡ Some ended
    → EndsAt report.setup report.image (outcome_of report machine.memory) core ended
ends_are report machine is run right judged core ended here =
    let order = entries report.items in
    let kept = option_map_parts core_end (slice_get report.cores core) ended (sym (slice_get-map core_end report.cores core) ∙ here) in
    let kept_here : slice_get report.cores core ≡ Some kept.0 = kept.1 in
    let retired = map (λ (e : CoreEnd). e.retired) (map core_end report.cores) in
    let few : length retired ≡ report.setup.cores =
    length-map (map core_end report.cores) (λ (e : CoreEnd). e.retired) ∙ length-map report.cores core_end ∙ is.cores in
    let counted : slice_get retired core ≡ Some kept.0.retired =
    slice_get-map (λ (e : CoreEnd). e.retired) (map core_end report.cores) core
    ∙ ap (option_map (λ (e : CoreEnd). e.retired)) (slice_get-map core_end report.cores core ∙ ap (option_map core_end) kept_here) in
    let all = all_executed report.image report.setup.cores order retired
    (machine_with report.image.code (map final_of (map core_end report.cores)) machine.memory) (bytes_are report is) few run core
    kept.0.retired counted in
    let e : 0 + core ≡ core = omega arith in
    let due = rw e at (due_at report.setup report.image order 0 report.cores right.finals right.due core kept.0 kept_here) in
    let table = tables_parts report.setup report.image order (timetables_line report) 0 report.cores judged core kept.0 kept_here in
    let end = AllByRecursion-slice_get (IsEnd report.setup.budget (most_rows report.setup.machine)) report.cores core kept.0 is.ends
    kept_here in
    subst (EndsAt report.setup report.image (outcome_of report machine.memory) core) kept.2
    (ends_on report.setup report.image (outcome_of report machine.memory) core report.setup.machine table.0 kept.0 end.cycles all due
    (rw e at table.1))

ends_back : (ends : List EndValue) → map end_value (map core_end ends) ≡ ends
ends_back [] = refl
ends_back (kept ∷ ends) = ap (λ (es : List EndValue). kept ∷ es) (ends_back ends)

same_report : (report : ReportValue) (machine : FlatMachine) → AllAgree report machine
    → report ≡ report_of report.setup report.image (outcome_of report machine.memory)
unfolding report_of
same_report report machine all =
    let back : report.cores ≡ map end_value (map core_end report.cores) = sym (ends_back report.cores) in
    ap (λ (ws : List MemoryWord). with_outcome report.cores ws report.counts) all.words_are
    ∙ ap (λ (ns : List ℕ). with_outcome report.cores (words_past (length report.image.code) machine.memory) ns) all.counts_are
    ∙ ap (λ (cs : List EndValue). with_outcome cs (words_past (length report.image.code) machine.memory) (counted cs)) back
  where
    with_outcome : List EndValue → List MemoryWord → List ℕ → ReportValue
    with_outcome cores words counts =
        record { setup = report.setup; image = report.image; items = report.items; cores = cores; words = words; counts = counts }

    counted : List EndValue → List ℕ
    counted cores = counts_of (caches_of report.setup) cores report.items

pub no_difference_is_right : (report : ReportValue) → IsReport report → (machine : FlatMachine)
    → HistoryIsRight report.setup report.image report.items (machine_of report) machine
    → first_told (outcome_judged report machine) ≡ None → IsRightReport report
no_difference_is_right report is machine history none =
    let all = all_agree report machine is none in
    let fits = machine_is report machine history.made in
    let right = cores_right report.setup report.image (entries report.items) (cores_line report) (most_rows report.setup.machine) machine 0
    report.cores machine.cores (is.cores ∙ sym fits.cores_are) is.ends fits.registers all.cores_so in
    let run = replay_is report machine history.made fits.code_is right in
    record {
      outcome = outcome_of report machine.memory;
      right = record {
        replays = run;
        ends = ends_are report machine is run right all.tables_so;
        follows = history.follows;
      };
      is = same_report report machine all;
    }

-- ---- nothing differs in a right report

record Tells (report : ReportValue) (outcome : OutcomeValue) : Type 0 where
  pub items : outcome.items ≡ report.items
  pub ends : map end_value outcome.cores ≡ report.cores
  pub words_are : report.words ≡ words_past (length report.image.code) outcome.words
  pub counts_are : report.counts ≡ counts_of (caches_of report.setup) report.cores report.items

tells : (report : ReportValue) (outcome : OutcomeValue) → report ≡ report_of report.setup report.image outcome → Tells report outcome
unfolding report_of
tells report outcome is =
    let items : outcome.items ≡ report.items = ap (λ (r : ReportValue). r.items) (sym is) in
    let ends : map end_value outcome.cores ≡ report.cores = ap (λ (r : ReportValue). r.cores) (sym is) in
    record {
      items = items;
      ends = ends;
      words_are = ap (λ (r : ReportValue). r.words) is;
      counts_are = ap (λ (r : ReportValue). r.counts) is ∙ ap (λ cs. counts_of (caches_of report.setup) cs outcome.items) ends
          ∙ ap (counts_of (caches_of report.setup) report.cores) items;
    }

-- the machine of a replay, before its cores catch up and behind
record ReplaysSo (image : ImageValue) (cores : ℕ) (order : List Entry) (counts : List ℕ) (finals : List Core) (words : List ℕ)
    (machine : FlatMachine) : Type 0 where
  pub made : entered_all order (started image.code (start_memory image) (start_states image cores)) ≡ Some machine
  pub caught : AreCaughtUp machine.code (memory_bytes machine) counts machine.cores finals
  pub words_are : machine.memory ≡ words

replays_so : (image : ImageValue) (cores : ℕ) (order : List Entry) (counts : List ℕ) (finals : List Core) (words : List ℕ)
    → length counts ≡ cores
    → replay image.code (start_memory image) (start_states image cores) order counts ≡ Some (machine_with image.code finals words)
    → (machine : FlatMachine) × ReplaysSo image cores order counts finals words machine
unfolding replay
replays_so image cores order counts finals words few run =
    let parts = option_and_then_parts (ended 0 counts)
    (entered_all order (started image.code (start_memory image) (start_states image cores)))
    (machine_with image.code finals words) run in
    let machine : FlatMachine = parts.0 in
    let fits = is_machine image (start_memory image) cores order machine parts.1 in
    let last = caught_up-ended machine.code 0 counts [] machine.cores machine.memory (machine_with image.code finals words) refl
    (few ∙ sym fits.cores_are) parts.2 in (
      machine,
      record {
        made = parts.1;
        caught = subst (AreCaughtUp machine.code (memory_bytes machine) counts machine.cores)
            (ap (λ (m : FlatMachine). m.cores) (sym last.last_is)) last.all;
        words_are = ap (λ (m : FlatMachine). m.memory) (sym last.last_is);
      },
    )

-- the end of each core of a right outcome is as due
ends_due : (report : ReportValue) (outcome : OutcomeValue) → IsReport report → IsRight report.setup report.image outcome
    → length outcome.cores ≡ report.setup.cores
    → (core : ℕ) (ended : CoreEnd) → slice_get outcome.cores core ≡ Some ended
    → EndAsDue report.setup report.image outcome core report.setup.machine ended
ends_due report outcome is right few core ended here =
    let retired = map (λ (e : CoreEnd). e.retired) outcome.cores in
    let all = all_executed report.image report.setup.cores (entries outcome.items) retired
    (machine_with report.image.code (map final_of outcome.cores) outcome.words) (bytes_are report is)
    (length-map outcome.cores (λ (e : CoreEnd). e.retired) ∙ few) right.replays core ended.retired
    (slice_get-map (λ (e : CoreEnd). e.retired) outcome.cores core ∙ ap (option_map (λ (e : CoreEnd). e.retired)) here) in
    end_as_due report.setup report.image outcome core report.setup.machine ended all (right.ends core ended here)

module _ (report : ReportValue) (outcome : OutcomeValue) (is : IsReport report) (right : IsRight report.setup report.image outcome)
    (told : Tells report outcome) where
  few : length outcome.cores ≡ report.setup.cores
  few = sym (length-map outcome.cores end_value) ∙ ap (λ (es : List EndValue). length es) told.ends ∙ is.cores

  each : (core : ℕ) (ended : CoreEnd) → slice_get outcome.cores core ≡ Some ended
      → EndAsDue report.setup report.image outcome core report.setup.machine ended
  each core ended here = ends_due report outcome is right few core ended here

  all_as_due : AreAsDue report.setup report.image (entries report.items) 0 report.cores (map final_of outcome.cores)
  all_as_due =
      let due = all_due report.setup report.image (entries outcome.items) 0 outcome.cores
      (λ core ended here. (let e : 0 + core ≡ core = omega arith in rw e (each core ended here).due)) in
      subst (λ (ends : List EndValue). AreAsDue report.setup report.image (entries report.items) 0 ends (map final_of outcome.cores))
      told.ends (subst (λ (items : List Item). AreAsDue report.setup report.image (entries items) 0 (map end_value outcome.cores)
      (map final_of outcome.cores)) told.items due)

  table_at : (core : ℕ) (kept : EndValue) → slice_get report.cores core ≡ Some kept → (line : ℕ)
      → Agree (timetable_judged line report.setup report.image core (own (entries report.items) core) kept)
  table_at core kept here line =
      let ended = option_map_parts end_value (slice_get outcome.cores core) kept
      (sym (slice_get-map end_value outcome.cores core) ∙ ap (λ (es : List EndValue). slice_get es core) told.ends ∙ here) in
      subst (λ (k : EndValue). Agree (timetable_judged line report.setup report.image core (own (entries report.items) core) k)) ended.2
      (subst (λ (items : List Item). Agree (timetable_judged line report.setup report.image core (own (entries items) core)
      (end_value ended.0))) told.items ((each core ended.0 ended.1).judged line))

  all_tables : Agree (tables report)
  all_tables = tables_agree report.setup report.image (entries report.items) (timetables_line report) 0 report.cores
      (λ core kept here line. (let e : 0 + core ≡ core = omega arith in rw e (table_at core kept here line)))

  none_in : (machine : FlatMachine)
      → AreCaughtUp machine.code (memory_bytes machine) (map retired_of report.cores) machine.cores (map final_of outcome.cores)
      → machine.memory ≡ outcome.words
      → first_told (outcome_judged report machine) ≡ None
  none_in machine caught words_are =
      let due = cores report machine in
      let due_words : report.words ≡ words_past (length report.image.code) machine.memory = told.words_are
      ∙ ap (words_past (length report.image.code)) (sym words_are) in
      none_differs (outcome_judged report machine)
      (AllByRecursion-append Agrees (due ++ words report machine ++ tables report) (counts report)
      (AllByRecursion-append Agrees (due ++ words report machine) (tables report)
      (AllByRecursion-append Agrees due (words report machine)
      (cores_agree report.setup report.image (entries report.items) (cores_line report) machine 0 report.cores machine.cores
      (map final_of outcome.cores) caught all_as_due)
      (subst (λ due. Agree (words_judged (words_line report) report.words due)) due_words (words_agree (words_line report) report.words)))
      all_tables)
      (counts_agree (counts_line report) report.counts (counts_of (caches_of report.setup) report.cores report.items) told.counts_are))

pub right_has_no_difference : (report : ReportValue) → IsReport report → IsRightReport report
    → (machine : FlatMachine) × HistoryIsRight report.setup report.image report.items (machine_of report) machine
    × (first_told (outcome_judged report machine) ≡ None)
right_has_no_difference report is right =
    let outcome = right.outcome in
    let told = tells report outcome right.is in
    let retired : map (λ (ended : CoreEnd). ended.retired) outcome.cores ≡ map retired_of report.cores =
    sym (map-map retired_of end_value outcome.cores) ∙ ap (map retired_of) told.ends in
    let run : replay report.image.code (start_memory report.image) (start_states report.image report.setup.cores) (entries report.items)
    (map retired_of report.cores) ≡ Some (machine_with report.image.code (map final_of outcome.cores) outcome.words) =
    rw (← retired, ← told.items) right.right.replays in
    let count : length (map retired_of report.cores) ≡ report.setup.cores = length-map report.cores retired_of ∙ is.cores in
    let by = replays_so report.image report.setup.cores (entries report.items) (map retired_of report.cores) (map final_of outcome.cores)
    outcome.words count run in
    let follows = subst (FollowsOn report.setup.machine report.setup report.image) told.items right.right.follows in
    (by.0, record { made = by.1.made; follows = follows }, none_in report outcome is right.right told by.0 by.1.caught by.1.words_are)
