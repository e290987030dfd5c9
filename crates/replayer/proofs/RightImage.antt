-- The image of a report is good, so memory has at any time as many bytes as it says.
use Rattle.std.proofs.Common.{◌≡◌, ◌*◌, length}
use Rattle.image_file.specs.Value.{memory_bytes, start_memory}
use Rattle.image_file.proofs.StartLaws.{bytes-start_memory}
use Rattle.report_text.specs.Report.{ReportValue}
use Rattle.report_text.specs.Form.{IsReport}
use Rattle.report_text.proofs.ImageLaws.{image_is_good}

pub bytes_are : (report : ReportValue) → IsReport report → 4 * length (start_memory report.image) ≡ memory_bytes report.image
bytes_are report is = bytes-start_memory report.image (image_is_good report.image is.image_size is.image)
