use Rattle.std.proofs.Common.{◌≡◌, ℕ, ◌+◌, ◌-◌, ◌≤◌, length, ap, arith, length-append}
use Rattle.row_reader.specs.Rows.{Rows, rows_of}
use Rattle.report_read.specs.BadRow.{IsBadRow}
use Rattle.report_read.proofs.WholeLaws.{IsStuckAt, report_found, report_read, report_stuck, text_of_report, rows_of_report}
use Rattle.report_read.proofs.read.read_report.Goals as goal

-- the stuck rows are some of the last
few_stuck : (rows stuck : Rows) → IsStuckAt rows stuck → length stuck ≤ length rows
few_stuck rows stuck at = omega (arith, ap length at.are, length-append at.front stuck)

-- the first of them is the bad one
bad_row : (rows stuck : Rows) (all rest : ℕ) → all ≡ length rows → rest ≡ length stuck → IsStuckAt rows stuck
    → IsBadRow rows (all - rest + 1)
bad_row rows stuck all rest all_is rest_is at = record {
  front = at.front;
  others = stuck;
  are = at.are;
  line_is = omega (arith, ap length at.are, length-append at.front stuck);
  before = at.before;
  here = at.here;
  none = at.none;
}

pub overflow_sub-line : goal.overflow_sub-line
overflow_sub-line c =
    let e = rw c.in-Err-Cause.field-0-is at c.in-Err-Cause.ensures in
    omega (arith, few_stuck _ _ (report_stuck (rows_of c.args.bytes.now) (rows_of c.in-Err-Cause.rest.now) e))

pub returns-in-Ok-clause-found : goal.returns-in-Ok-clause-found
returns-in-Ok-clause-found c =
    let found = report_found (rows_of c.args.bytes.now) c.in-Ok.report c.in-Ok.ensures in
    (found.0, text_of_report c.args.bytes.now c.in-Ok.report found.0 found.1)

pub returns-in-Ok-clause-only : goal.returns-in-Ok-clause-only
returns-in-Ok-clause-only c = λ report is spelled.
    let read = report_read (rows_of c.args.bytes.now) report is (rows_of_report c.args.bytes.now report is spelled) in
    cc (read, c.in-Ok.ensures)

pub returns-in-Err-Cause-clause-only : goal.returns-in-Err-Cause-clause-only
returns-in-Err-Cause-clause-only c = λ report is spelled.
    let e = rw c.in-Err-Cause.field-0-is at c.in-Err-Cause.ensures in
    (report_stuck (rows_of c.args.bytes.now) (rows_of c.in-Err-Cause.rest.now) e).none report is
    (rows_of_report c.args.bytes.now report is spelled)

pub returns-in-Err-Cause-clause-bad : goal.returns-in-Err-Cause-clause-bad
returns-in-Err-Cause-clause-bad c =
    let e = rw c.in-Err-Cause.field-0-is at c.in-Err-Cause.ensures in
    bad_row (rows_of c.args.bytes.now) (rows_of c.in-Err-Cause.rest.now) c.row_count.result c.row_count-in-Err-Cause.result
    c.row_count.ensures.rows c.row_count-in-Err-Cause.ensures.rows
    (report_stuck (rows_of c.args.bytes.now) (rows_of c.in-Err-Cause.rest.now) e)
