-- Numbers as bytes, four for each, and bytes as digits.
use Rattle.std.proofs.Common.{◌≡◌, ℕ, ◌*◌, List, take, drop, refl, sym, ◌∙◌, ap, arith}
use Rattle.std.specs.List.{flat_map}
use Rattle.std.specs.Int.{w32, to_le_bytes}
use Rattle.std_laws.proofs.ListLaws.{take-flat_map, drop-flat_map}
use Rattle.kmp_base.specs.Rows.{row_text}
use Rattle.image_file.specs.Value.{ImageValue, image_numbers, image_bytes}
use Rattle.report_rows.specs.Rows.{bytes_row, bytes_row_at}

-- eight numbers are 32 bytes
row_of_numbers : (image : ImageValue) (k : ℕ)
    → flat_map (to_le_bytes w32) (take 8 (drop (8 * k) (image_numbers image))) ≡ take 32 (drop (32 * k) (image_bytes image))
unfolding image_bytes
row_of_numbers image k =
    let index : 32 * k ≡ 4 * (8 * k) = omega arith in
    let numbers : List ℕ = image_numbers image in
    sym (take-flat_map (to_le_bytes w32) 4 (λ n. refl) 8 (drop (8 * k) numbers))
    ∙ ap (take 32) (sym (drop-flat_map (to_le_bytes w32) 4 (λ n. refl) (8 * k) numbers)
    ∙ ap (λ n. drop n (flat_map (to_le_bytes w32) numbers)) (sym index))

-- the row of the numbers from index 8 k on is the row of the bytes from index 32 k on
pub image_row_at : (image : ImageValue) (k : ℕ) (numbers text : List ℕ) → numbers ≡ drop (8 * k) (image_numbers image)
    → text ≡ row_text (bytes_row (flat_map (to_le_bytes w32) (take 8 numbers))) → text ≡ row_text (bytes_row_at (image_bytes image) k)
image_row_at image k numbers text left is =
    is ∙ ap (λ ns. row_text (bytes_row (flat_map (to_le_bytes w32) (take 8 ns)))) left
    ∙ ap (λ bytes. row_text (bytes_row bytes)) (row_of_numbers image k)
