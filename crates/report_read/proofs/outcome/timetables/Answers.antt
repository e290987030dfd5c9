use Rattle.std.proofs.Common.{◌≡◌, ◌+◌, ◌-◌, ◌<◌, ◌≤◌, [], length, take, map, Ok, refl, ap, ◌∙◌, arith}
use Rattle.std.specs.List.{range_with_len}
use Rattle.std.proofs.lemmas.List.{take_all}
use Rattle.std.proofs.lemmas.Result.{err_from_is_err_and}
use Rattle.kmp_base.proofs.ReadingLaws.{none_in_front, gives_fault}
use Rattle.row_reader.specs.Rows.{rows_of}
use Rattle.row_reader.proofs.LoopLaws.{each_go_on, each_fail, each_done}
use Rattle.timetable.specs.declared.CoreEnd.{CoreEnd}
use Rattle.report_rows.specs.Ends.{end_value}
use Rattle.report_read.specs.Reading.{timetable_at, timetables_at, timed}
use Rattle.std_laws.proofs.RangeLaws.{range_with_len-more}
use Rattle.report_read.proofs.TimetableLemmas.{bare, bare_length, set_bare, timed_more, together_as}
use Rattle.report_read.proofs.outcome.timetables.Goals as goal

pub loop-core-init : goal.loop-core-init
loop-core-init c =
    let n = length c.args.ends.items in
    let all : n - 0 ≡ n = omega arith in
    record { read = rw all (none_in_front [] (timetables_at c.args.most n (rows_of c.args.text.now)) refl); bare = refl }

pub returns-in_err-rows-clause-read : goal.returns-in_err-rows-clause-read
returns-in_err-rows-clause-read c =
    let core = c.loop-core.core in
    let n = length c.args.ends.items in
    let total = timetables_at c.args.most n (rows_of c.args.text.now) in
    let below : core < n = omega (arith, c.loop-core-test.true, c.len-core-end.ensures, c.args.ends.ok.0) in
    gives_fault _ _ c.from_residual.result total c.in_err-rows.field-0.0
    (err_from_is_err_and c.from_residual.result c.from_residual.ensures.1)
    (each_fail (timetable_at c.args.most) (range_with_len core (n - core)) (rows_of c.loop-core.rest.now)
    (map timed (map end_value (take core c.loop-core.cores.items))) total c.loop-core.invariant.read core
    (range_with_len (core + 1) (n - (core + 1))) (range_with_len-more core n below) c.in_err-rows.field-0.0 c.in_err-rows.ensures)

pub loop-core-preserved : goal.loop-core-preserved
loop-core-preserved c =
    let core = c.loop-core.core in
    let cores = c.loop-core.cores.items in
    let was = c.index_mut.result.now in
    let n = length c.args.ends.items in
    let ended : CoreEnd = record
    { end = was.end; cycles = was.cycles; retired = was.retired; state = was.state; rows = c.in_ok-rows.rows } in
    let below : core < n = omega (arith, c.loop-core-test.true, c.len-core-end.ensures, c.args.ends.ok.0) in
    let inside : core < length cores = omega (arith, below, bare_length cores c.args.ends.items c.loop-core.invariant.bare) in
    record {
      read = rw (timed_more cores core ended inside)
          (each_go_on (timetable_at c.args.most) (range_with_len core (n - core)) (rows_of c.loop-core.rest.now)
          (map timed (map end_value (take core cores))) (timetables_at c.args.most n (rows_of c.args.text.now))
          c.loop-core.invariant.read core (range_with_len (core + 1) (n - (core + 1))) (range_with_len-more core n below) (timed (end_value ended)) (rows_of c.in_ok-rows.behind.now)
          c.in_ok-rows.ensures);
      bare = set_bare cores core was ended inside (ap (λ (e : CoreEnd). bare (end_value e)) c.index_mut.ensures.value)
          ∙ c.loop-core.invariant.bare;
    }

pub returns-clause-read : goal.returns-clause-read
returns-clause-read c =
    let core = c.loop-core.core in
    let cores = c.loop-core.cores.items in
    let n = length c.args.ends.items in
    let past : n ≤ core = omega (arith, c.loop-core-test.false, c.len-core-end.ensures, c.args.ends.ok.0) in
    let none : n - core ≡ 0 = omega (arith, past) in
    let all : length cores ≤ core = omega (arith, past, bare_length cores c.args.ends.items c.loop-core.invariant.bare) in
    each_done (timetable_at c.args.most) (range_with_len core (n - core)) (rows_of c.loop-core.rest.now)
    (map timed (map end_value (take core cores))) (timetables_at c.args.most n (rows_of c.args.text.now)) c.loop-core.invariant.read
    (ap (range_with_len core) none)
    ∙ ap (λ ends. Ok (map timed (map end_value ends), rows_of c.loop-core.rest.now)) (take_all core cores all)

pub returns-clause-ends : goal.returns-clause-ends
returns-clause-ends c =
    together_as (map end_value c.args.ends.items) (map end_value c.loop-core.cores.items) c.loop-core.invariant.bare
