-- What holds of a report that has a text.
use Rattle.std.specs.Prelude.{◌≡◌, ◌*◌, ◌^◌, ◌<◌, length, Ok}
use Rattle.std.specs.List.{AllByRecursion}
use Rattle.image_file.specs.Value.{image_bytes, memory_bytes}
use Rattle.image_file.specs.Reading.{image_meaning}
use Rattle.report_rows.specs.Bounds.{IsHeader, IsItem, most_rows, IsEnd, AreMemoryWords, IsCount}
use Rattle.report_text.specs.Report.{ReportValue}

-- The bounds that a report keeps: the image is the one that its bytes mean, and each row says what it may say.
pub record IsReport (report : ReportValue) : Type 0 where
  pub header : IsHeader report.setup
  pub image : image_meaning (image_bytes report.image) ≡ Ok report.image
  pub image_size : length (image_bytes report.image) < 2 ^ 32
  pub items : AllByRecursion (IsItem report.setup.machine report.setup.cores (memory_bytes report.image)) report.items
  pub cores : length report.cores ≡ report.setup.cores
  pub ends : AllByRecursion (IsEnd report.setup.budget (most_rows report.setup.machine)) report.cores
  pub words : AreMemoryWords (memory_bytes report.image) (4 * length report.image.code) report.words
  pub thirteen : length report.counts ≡ 13
  pub counts : AllByRecursion IsCount report.counts
