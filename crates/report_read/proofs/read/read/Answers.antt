use Rattle.std.proofs.Common.{◌≡◌, ℕ, true, false, ◌==◌, List, [], ◌∷◌, length, Ok, Err, sym, ap, ◌∙◌, arith}
use Rattle.std.proofs.lemmas.Bool.{eqb-true}
use Rattle.row_reader.specs.Rows.{Rows, rows_of}
use Rattle.kmp_base.specs.Bind.{◌>>=◌}
use Rattle.row_reader.proofs.CutLaws.{rows_some, rows_empty}
use Rattle.report_text.specs.Report.{ReportValue}
use Rattle.report_read.specs.Reading.{report_at, whole, read_of}
use Rattle.report_read.proofs.read.read.Goals as goal

ends_here : (rows : Rows) (r : ReportValue) (text : List ℕ) → report_at rows ≡ Ok (r, rows_of text) → (length text == 0) ≡ true
    → read_of rows ≡ Ok r
unfolding read_of
ends_here rows r [] e empty = ap (λ y. y >>= λ p. whole p.0 p.1) e ∙ ap (whole r) rows_empty
ends_here rows r (x ∷ xs) e empty = absurd (omega (arith, eqb-true (length (x ∷ xs)) 0 empty))

goes_on : (rows : Rows) (r : ReportValue) (text : List ℕ) → report_at rows ≡ Ok (r, rows_of text) → (length text == 0) ≡ false
    → read_of rows ≡ Err (rows_of text)
unfolding read_of
goes_on rows r [] e some = absurd cc
goes_on rows r (x ∷ xs) e some =
    let s = rows_some x xs in
    ap (λ y. y >>= λ p. whole p.0 p.1) e ∙ ap (whole r) s.2 ∙ ap (λ (y : Rows). Err y) (sym s.2)

pub returns-then-is_empty : goal.returns-then-is_empty
returns-then-is_empty c =
    ends_here (rows_of c.args.text.now) c.in_ok-report.report c.in_ok-report.rest.now c.in_ok-report.ensures
    (sym c.is_empty.ensures ∙ c.if-is_empty.true)

pub returns-else-is_empty : goal.returns-else-is_empty
returns-else-is_empty c =
    goes_on (rows_of c.args.text.now) c.in_ok-report.report c.in_ok-report.rest.now c.in_ok-report.ensures
    (sym c.is_empty.ensures ∙ c.if-is_empty.false)
