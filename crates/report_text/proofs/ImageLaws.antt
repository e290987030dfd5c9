-- An image that its bytes mean is good.
use Rattle.std.proofs.Common.{◌≡◌, ℕ, ◌^◌, ◌<◌, List, [], ◌∷◌, length, Result, Ok, Err, refl, ◌∙◌, arith}
use Rattle.std.specs.List.{AllByRecursion, flat_map}
use Rattle.std.specs.Int.{w32, to_le_bytes}
use Rattle.image_file.specs.Value.{ImageValue, image_numbers, image_bytes, IsGood}
use Rattle.image_file.specs.Reading.{Fault, image_in, image_meaning}
use Rattle.image_file.proofs.ReadingLaws.{good_image}
use Rattle.row_reader.proofs.NumberLaws.{each_byte}
use Rattle.report_rows.specs.Bounds.{IsByte}

abbrev pub AreBytes : List ℕ → Type 0
AreBytes bytes = AllByRecursion IsByte bytes

number_bytes_are : (numbers : List ℕ) → AreBytes (flat_map (to_le_bytes w32) numbers)
number_bytes_are [] = tt
number_bytes_are (n ∷ numbers) = (omega arith, (omega arith, (omega arith, (omega arith, number_bytes_are numbers))))

pub image_bytes_are : (image : ImageValue) → AreBytes (image_bytes image)
unfolding image_bytes
image_bytes_are image = number_bytes_are (image_numbers image)

pub in_of_meaning : (bytes : List ℕ) (image : ImageValue) (read : Result ImageValue Fault) → image_in bytes ≡ read
    → image_meaning bytes ≡ Ok image → image_in bytes ≡ Ok image
in_of_meaning bytes image (Ok other) is e = is ∙ (rw is at e)
in_of_meaning bytes image (Err fault) is e = absurd (let no = rw is at e in cc)

-- an image that its bytes mean is good
pub image_is_good : (image : ImageValue) → length (image_bytes image) < 2 ^ 32 → image_meaning (image_bytes image) ≡ Ok image → IsGood image
image_is_good image few e =
    let bytes = image_bytes image in
    good_image bytes image (each_byte bytes (image_bytes_are image)) few (in_of_meaning bytes image (image_in bytes) refl e)
