-- Which rows may begin a report, and which is the first that doesn't go on as one.
use Rattle.std.specs.Prelude.{◌≡◌, ℕ, ◌+◌, ◌-◌, ◌/◌, ◌^◌, ◌<◌, ◌≤◌, ◌⊎◌, List, [], ◌∷◌, ◌++◌, length, map, codes, Result, Ok, Err}
use Rattle.std.specs.List.{AllByRecursion, range_with_len}
use Rattle.kmp_base.specs.declared.setup.Setup.{Setup}
use Rattle.row_reader.specs.Rows.{Row, Rows}
use Rattle.report_rows.specs.Bounds.{IsByte, IsHeader}
use Rattle.report_rows.specs.Rows.{number_row, bytes_row_at, header_rows}
use Rattle.report_text.specs.Report.{ReportValue}
use Rattle.report_text.specs.Text.{report_rows}
use Rattle.report_text.specs.Form.{IsReport}
use Rattle.report_read.specs.declared.read.ReportFault.{ReportFault}
use Rattle.report_read.specs.declared.read.ReportFault.TheVariants as faults

-- Rows begin a report.
pub record BeginsReport (rows : Rows) : Type 0 where
  pub report : ReportValue
  pub is : IsReport report
  pub rest : Rows
  pub are : rows ++ rest ≡ report_rows report

-- the header of a report, and the rows of an image of these bytes but the last
abbrev pub opening_rows : Setup → List ℕ → Rows
opening_rows setup bytes =
    header_rows setup ++ number_row (codes "image") (length bytes) ∷ map (bytes_row_at bytes) (range_with_len 0 ((length bytes - 1) / 32))

-- Rows begin a report whose image may be any bytes, and the last row of the image isn't among them.
pub record BeginsOpening (rows : Rows) : Type 0 where
  pub setup : Setup
  pub header : IsHeader setup
  pub bytes : List ℕ
  pub are_bytes : AllByRecursion IsByte bytes
  pub some : 1 ≤ length bytes
  pub few : length bytes < 2 ^ 32
  pub rest : Rows
  pub are : rows ++ rest ≡ opening_rows setup bytes

abbrev pub MayStand : Rows → Type 0
MayStand rows = BeginsReport rows ⊎ BeginsOpening rows

-- Rows are no report, and this is the number, from 1, of the first that doesn't go on as one. It is one past the last
-- where rows are missing: the rows in front of it may stand, and with it they may not.
pub record IsBadRow (rows : Rows) (line : ℕ) : Type 0 where
  pub front : Rows
  pub others : Rows
  pub are : rows ≡ front ++ others
  pub line_is : line ≡ length front + 1
  pub before : MayStand front
  pub here : (row : Row) (more : Rows) → others ≡ row ∷ more → MayStand (front ++ row ∷ []) → ⊥
  pub none : (report : ReportValue) → IsReport report → rows ≡ report_rows report → ⊥

-- a report was read as this one, unless memory ran out
abbrev pub IsReadAs : Result ReportValue ReportFault → ReportValue → Type 0
IsReadAs (Ok read) report = read ≡ report
IsReadAs (Err faults.Memory) report = Unit {0}
IsReadAs (Err (faults.BadRow line)) report = ⊥

-- a fact of the line of a bad row
abbrev pub IfBadRow : Result ReportValue ReportFault → (ℕ → Type 0) → Type 0
IfBadRow (Ok read) P = Unit {0}
IfBadRow (Err faults.Memory) P = Unit {0}
IfBadRow (Err (faults.BadRow line)) P = P line
