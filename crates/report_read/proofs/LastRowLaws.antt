-- The last row of an image is read where its bytes and those in front mean an image.
use Rattle.std.proofs.Common.{◌≡◌, ℕ, ◌-◌, ◌*◌, ◌^◌, ◌<◌, ◌≤◌, List, ◌++◌, length, drop, Option, Some, None, Result, Ok, Err, refl, sym, ap}
use Rattle.std.proofs.Common.{subst, ◌∙◌, arith, length-drop}
use Rattle.std.proofs.lemmas.List.{take-append-drop, drop_at}
use Rattle.image_file.specs.Value.{ImageValue, image_bytes, memory_bytes}
use Rattle.image_file.specs.Reading.{Fault, image_in, image_meaning}
use Rattle.image_file.proofs.ReadingLaws.{only_spelling}
use Rattle.image_file.proofs.SpellingLaws.{bytes_of_image}
use Rattle.std_laws.proofs.ListLaws.{AllByRecursion-append}
use Rattle.row_reader.specs.Rows.{Row}
use Rattle.row_reader.proofs.NumberLaws.{each_byte}
use Rattle.row_reader.proofs.PartLaws.{IsRow}
use Rattle.row_reader.proofs.FieldLaws.{some_is}
use Rattle.report_rows.specs.Bounds.{IsByte}
use Rattle.report_rows.specs.Rows.{bytes_row}
use Rattle.report_row_reader.specs.Reading.{bytes_row_of}
use Rattle.report_row_reader.proofs.RowLaws.{bytes_law}
use Rattle.report_read.specs.Reading.{OpeningValue, image_of, with_last, image_row_of}
use Rattle.report_text.proofs.ImageLaws.{AreBytes, image_bytes_are, in_of_meaning, image_is_good}
use Rattle.report_read.proofs.OpeningLaws.{full_of, IsOpening, front_of, last_of, opening_of, opening_filled, bytes_behind}

-- ---- the bytes of an image

pub some_bytes : (image : ImageValue) → 1 ≤ length (image_bytes image)
some_bytes image = omega (arith, bytes_of_image image)

-- ---- what they mean

meaning_of_image : (bytes : List ℕ) (image : ImageValue) (read : Result ImageValue Fault) → image_in bytes ≡ read
    → image_of bytes ≡ Some image → image_meaning bytes ≡ Ok image
meaning_of_image bytes image (Ok other) is e = let same = some_is other image (rw is at e) in rw (is, same) refl
meaning_of_image bytes image (Err fault) is e = absurd (let no = rw is at e in cc)

image_of_meaning : (bytes : List ℕ) (image : ImageValue) → image_meaning bytes ≡ Ok image → image_of bytes ≡ Some image
image_of_meaning bytes image e = rw (in_of_meaning bytes image (image_in bytes) refl e) refl

-- only the bytes of an image mean it
spelling_of : (bytes : List ℕ) (image : ImageValue) → AreBytes bytes → image_meaning bytes ≡ Ok image → bytes ≡ image_bytes image
spelling_of bytes image are e = only_spelling bytes image (each_byte bytes are) (in_of_meaning bytes image (image_in bytes) refl e)

-- its memory has a line, and few bytes
pub memory_fits : (image : ImageValue) → length (image_bytes image) < 2 ^ 32 → image_meaning (image_bytes image) ≡ Ok image
    → (8 ≤ memory_bytes image) × (memory_bytes image ≤ 2 ^ 32)
memory_fits image few e =
    let good = image_is_good image few e in
    (omega (arith, good.two_lines), omega (arith, good.lines))

-- ---- the row

-- an image whose report has this opening
abbrev pub IsImageOf : OpeningValue → ImageValue → Type 0
IsImageOf opening image = (image_meaning (image_bytes image) ≡ Ok image) × (opening_of opening.setup (image_bytes image) ≡ opening)

-- the last row of an image
abbrev pub last_row : ImageValue → Row
last_row image = bytes_row (last_of (image_bytes image))

with_last_some : (front : List ℕ) (read : Option (List ℕ)) (image : ImageValue) → with_last front read ≡ Some image → (last : List ℕ)
    × (read ≡ Some last) × (image_of (front ++ last) ≡ Some image)
with_last_some front (Some last) image e = (last, refl, e)
with_last_some front None image e = absurd cc

-- the last bytes are those behind the ones in front
last_is : (z : OpeningValue) (last : List ℕ) → IsOpening z → opening_of z.setup (z.front ++ last) ≡ z → last_of (z.front ++ last) ≡ last
last_is z last fits same =
    ap (λ o. drop (32 * full_of o.size) (z.front ++ last)) same ∙ drop_at z.front last (32 * full_of z.size) fits.full

image_found : (z : OpeningValue) → IsOpening z → (row : Row) (image : ImageValue) → image_row_of z.size z.front row ≡ Some image
    → IsImageOf z image × (row ≡ last_row image)
unfolding image_row_of
image_found z fits row image e =
    let w = with_last_some z.front (bytes_row_of (z.size - length z.front) row) image e in
    let last = w.0 in
    let f = (bytes_law (z.size - length z.front)).found row last w.1 in
    let bytes = z.front ++ last in
    let means = meaning_of_image bytes image (image_in bytes) refl w.2 in
    let spelled = spelling_of bytes image (AllByRecursion-append IsByte z.front last fits.bytes f.0.1) means in
    let same = opening_filled z last fits f.0.0 in
    let is_row : row ≡ bytes_row (last_of bytes) = f.1 ∙ ap bytes_row (sym (last_is z last fits same)) in
    subst (λ (b : List ℕ). ((image_meaning b ≡ Ok image) × (opening_of z.setup b ≡ z)) × (row ≡ bytes_row (last_of b))) spelled
    ((means, same), is_row)

image_again : (z : OpeningValue) → IsOpening z → (image : ImageValue) → IsImageOf z image
    → image_row_of z.size z.front (last_row image) ≡ Some image
unfolding image_row_of
image_again z fits image h =
    let bytes = image_bytes image in
    let size : length bytes ≡ z.size = ap (λ o. o.size) h.1 in
    let in_front : front_of bytes ≡ z.front = ap (λ o. o.front) h.1 in
    let cut : length (last_of bytes) ≡ length bytes - 32 * full_of (length bytes) = length-drop (32 * full_of (length bytes)) bytes in
    let long : length (last_of bytes) ≡ z.size - length z.front = cut ∙ ap (λ n. n - 32 * full_of n) size
    ∙ ap (λ n. z.size - n) (sym fits.full) in
    let last = (bytes_law (z.size - length z.front)).again (last_of bytes) (long, bytes_behind bytes (image_bytes_are image)) in
    ap (with_last z.front) last
    ∙ ap (λ front. image_of (front ++ last_of bytes)) (sym in_front)
    ∙ ap image_of (take-append-drop (32 * full_of (length bytes)) bytes)
    ∙ image_of_meaning bytes image h.0

pub image_law : (z : OpeningValue) → IsOpening z → IsRow (IsImageOf z) last_row (image_row_of z.size z.front)
image_law z fits = record { found = image_found z fits; again = image_again z fits }
