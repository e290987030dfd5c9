-- The timetables of the cores, one after another.
use Rattle.std.proofs.Common.{◌≡◌, ℕ, ◌+◌, ◌<◌, List, ◌++◌, length, get_or, drop, map, set, inl, inr, refl, sym, ap, ◌∙◌, arith}
use Rattle.std.specs.Prelude.{Option, Some, None, slice_get}
use Rattle.std.specs.Option.{option_map}
use Rattle.std.proofs.lemmas.Bool.{cases_eq}
use Rattle.std.proofs.lemmas.List.{length-map, get_or-set_same, get_or-set_other}
use Rattle.std.proofs.lemmas.Option.{same_Some}
use Rattle.std.proofs.lemmas.Option.{slice_get-map, slice_get_read}
use Rattle.std.proofs.lemmas.List.Sums.{sum_by-cons}
use Rattle.std_laws.proofs.ListLaws.{drop-slice_get}
use Rattle.kmp_base.specs.declared.setup.Setup.{Setup}
use Rattle.image_file.specs.Value.{ImageValue}
use Rattle.access_log.specs.declared.Entry.{Entry}
use Rattle.access_log.specs.declared.Item.{Item}
use Rattle.access_log.specs.Items.{entries}
use Rattle.access_log.specs.Replay.{own}
use Rattle.timetable.specs.declared.CoreEnd.{CoreEnd}
use Rattle.report_rows.specs.Ends.{EndValue, end_value}
use Rattle.report_text.specs.Report.{ReportValue}
use Rattle.row_check.specs.declared.difference.Difference.{Difference}
use Rattle.row_check.specs.Judgments.{Judgment, first_told}
use Rattle.row_check.specs.declared.clocks.Clocks.{Clocks}
use Rattle.right_run.specs.Stages.{executed_by}
use Rattle.replayer.specs.Timetables.{bound_on, AreKnown, EachKnown, timetable_judged, timetables_judged}
use Rattle.replayer.proofs.JudgeLemmas.{first_before, first_behind}
use Rattle.replayer.proofs.LineLemmas.{timed_count}

-- the end that a report tells at an index
pub kept_there : (cores : List CoreEnd) (ends : List EndValue) (index : ℕ) (ended : CoreEnd) → map end_value cores ≡ ends
    → ended ≡ get_or cores index ended → index < length ends → slice_get ends index ≡ Some (end_value ended)
kept_there cores ends index ended are is below =
    let count = length-map cores end_value in
    let within : index < length cores = omega (arith, below, ap length are, count) in
    ap (λ (es : List EndValue). slice_get es index) (sym are) ∙ slice_get-map end_value cores index
    ∙ ap (option_map end_value) (slice_get_read cores (length cores) index ended refl within is)

-- what is told of its timetable, in other words
pub told_here : (line core : ℕ) (told : Option Difference) (given report : ReportValue) (items : List Item) (kept : EndValue)
    → given ≡ report → items ≡ given.items
    → told ≡ first_told (timetable_judged line given.setup given.image core (own (entries items) core) kept)
    → told ≡ first_told (timetable_judged line report.setup report.image core (own (entries report.items) core) kept)
told_here line core told given report items kept is items_are told_is = rw (items_are, is) at told_is

-- what is known of its clocks, in other words
pub known_here : (core : ℕ) (clocks : Option Clocks) (given report : ReportValue) (items : List Item) (retired : ℕ)
    → given ≡ report → items ≡ given.items
    → AreKnown (bound_on given.setup.machine) clocks
    (executed_by given.image core given.setup.cores (own (entries items) core) retired)
    → AreKnown (bound_on report.setup.machine) clocks
    (executed_by report.image core report.setup.cores (own (entries report.items) core) retired)
known_here core clocks given report items retired is items_are known = rw (items_are, is) at known

pub known_there : (core : ℕ) (clocks : Option Clocks) (given report : ReportValue) (items : List Item) (retired : ℕ)
    → given ≡ report → items ≡ given.items
    → AreKnown (bound_on report.setup.machine) clocks
    (executed_by report.image core report.setup.cores (own (entries report.items) core) retired)
    → AreKnown (bound_on given.setup.machine) clocks
    (executed_by given.image core given.setup.cores (own (entries items) core) retired)
known_there core clocks given report items retired is items_are known = rw (items_are, is) known

module _ (setup : Setup) (image : ImageValue) (order : List Entry) (first_line : ℕ) (ends : List EndValue) where
  -- The timetables of the cores below an index don't differ.
  pub record TablesSoFar (line index : ℕ) : Type 0 where
    pub lines : line + timed_count (drop index ends) ≡ first_line + timed_count ends
    pub judged : first_told (timetables_judged line setup image order index (drop index ends))
        ≡ first_told (timetables_judged first_line setup image order 0 ends)

  module _ (line index : ℕ) (kept : EndValue) (so_far : TablesSoFar line index) (there : slice_get ends index ≡ Some kept) where
    abbrev here : List Judgment
    here = timetable_judged line setup image index (own order index) kept

    abbrev behind : List Judgment
    behind = timetables_judged (line + length kept.rows) setup image order (index + 1) (drop (index + 1) ends)

    at : first_told (here ++ behind) ≡ first_told (timetables_judged first_line setup image order 0 ends)
    at = sym (ap (λ ends. first_told (timetables_judged line setup image order index ends)) (drop-slice_get ends index kept there))
        ∙ so_far.judged

    count_is : timed_count (drop index ends) ≡ length kept.rows + timed_count (drop (index + 1) ends)
    count_is = ap timed_count (drop-slice_get ends index kept there)
        ∙ sum_by-cons (λ (ended : EndValue). length ended.rows) kept (drop (index + 1) ends)

    -- so there are lines for this one
    pub lines_for : (most : ℕ) → first_line + timed_count ends < most → line + length kept.rows < most
    lines_for most few = omega (arith, so_far.lines, count_is, few)

    pub table_differs : (difference : Difference) → Some difference ≡ first_told here
        → Some difference ≡ first_told (timetables_judged first_line setup image order 0 ends)
    table_differs difference told = sym (first_before here behind difference (sym told)) ∙ at

    pub table_agrees : None ≡ first_told here → TablesSoFar (line + length kept.rows) (index + 1)
    table_agrees told = record {
      lines = omega (arith, so_far.lines, count_is);
      judged = sym (first_behind here behind (sym told)) ∙ at;
    }

-- ---- the clocks that are known

-- those of one core more
pub more_known : (report : ReportValue) (clocks : List (Option Clocks)) (core : ℕ) (kept : EndValue) (new : Option Clocks)
    → EachKnown report clocks → core < length clocks → slice_get report.cores core ≡ Some kept
    → AreKnown (bound_on report.setup.machine) new
    (executed_by report.image core report.setup.cores (own (entries report.items) core) kept.retired)
    → EachKnown report (set clocks core new)
more_known report clocks core kept new known below there is j other at = elim (cases_eq j core)
    as (λ _. AreKnown (bound_on report.setup.machine) (get_or (set clocks core new) j None)
    (executed_by report.image j report.setup.cores (own (entries report.items) j) other.retired)) [
      | inl same ↦
          (let here : slice_get report.cores core ≡ Some other = rw same at at in
          let kept_is : kept ≡ other = same_Some kept other (sym there ∙ here) in
          rw (same, get_or-set_same clocks core new None below, ← kept_is) is)
      | inr differs ↦ rw (get_or-set_other clocks core j new None differs) (known j other at)
    ]
