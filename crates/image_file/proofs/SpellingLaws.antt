-- How long the spelling of an image is, and how it is written.
use Rattle.std.proofs.Common.{◌≡◌, ℕ, ◌+◌, ◌*◌, ◌≤◌, List, [], ◌∷◌, ◌++◌, length, refl, sym, ap, ◌∙◌, arith, length-append}
use Rattle.std.specs.List.{flat_map, sum_by}
use Rattle.std.specs.Int.{w32, to_le_bytes}
use Rattle.std.proofs.lemmas.List.{flat_map_more}
use Rattle.std.proofs.lemmas.List.Sums.{sum_by-cons}
use Rattle.std_laws.proofs.ListLaws.{flat_map_around, length-flat_map_same}
use Rattle.image_file.specs.Value.{ImageValue, SegmentValue, segment_numbers, segment_size, image_numbers, image_bytes}

-- the bytes of numbers
abbrev pub number_bytes : List ℕ → List ℕ
number_bytes numbers = flat_map (to_le_bytes w32) numbers

-- a number is four bytes
pub length-image_bytes : (image : ImageValue) → length (image_bytes image) ≡ 4 * length (image_numbers image)
unfolding image_bytes
length-image_bytes image = length-flat_map_same (to_le_bytes w32) 4 (λ number. refl) (image_numbers image)

length-segments : (segments : List SegmentValue) → length (flat_map segment_numbers segments) ≡ sum_by segment_size segments
length-segments [] = refl
length-segments (s ∷ segments) =
    omega (
      arith,
      length-segments segments,
      sum_by-cons segment_size s segments,
      length-append (segment_numbers s) (flat_map segment_numbers segments),
    )

-- a segment is spelled by two numbers or more
pub few_segments : (segments : List SegmentValue) → length segments + length segments ≤ sum_by segment_size segments
few_segments [] = omega arith
few_segments (s ∷ segments) = omega (arith, few_segments segments, sum_by-cons segment_size s segments)

-- four numbers, the code, and the segments
pub bytes_of_image : (image : ImageValue) → length (image_bytes image) ≡ 4 * (4 + length image.code + sum_by segment_size image.segments)
bytes_of_image image =
    omega (
      arith,
      length-image_bytes image,
      length-segments image.segments,
      length-append image.code (flat_map segment_numbers image.segments),
    )

-- What is written of a list of numbers, one after another.

-- its bytes behind those before it
pub bytes_more : (written : List ℕ) (number : ℕ) (bytes : List ℕ) → bytes ≡ to_le_bytes w32 number
    → number_bytes written ++ bytes ≡ number_bytes (written ++ number ∷ [])
bytes_more written number bytes is = ap (λ bytes. number_bytes written ++ bytes) is ∙ flat_map_more (to_le_bytes w32) [] written number

-- and the bytes of those that are left
pub bytes_around : (written rest : List ℕ) (number : ℕ) (bytes : List ℕ) → bytes ≡ to_le_bytes w32 number
    → (number_bytes written ++ bytes) ++ number_bytes rest ≡ number_bytes (written ++ number ∷ rest)
bytes_around written rest number bytes is =
    ap (λ bytes. (number_bytes written ++ bytes) ++ number_bytes rest) is ∙ sym (flat_map_around (to_le_bytes w32) written number rest)
