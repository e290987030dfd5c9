-- The image of statements is good.
use Rattle.std.proofs.Common.{◌≡◌, ℕ, ◌*◌, ◌^◌, ◌≤◌, List, [], length, map, None, Ok, refl, sym, ap, arith}
use Rattle.std.specs.List.{AllByRecursion}
use Rattle.std.proofs.lemmas.List.{length-map}
use Rattle.image_file.specs.Value.{ImageValue, SegmentValue, HasWords, IsGood}
use Rattle.image_file.proofs.NumberLaws.{numbers_fit}
use Rattle.image_file.proofs.SpellingLaws.{bytes_of_image}
use Rattle.asm_parse.specs.declared.statement.Body.{Body}
use Rattle.asm_parse.specs.declared.statement.Statement.{Statement}
use Rattle.asm_parse.specs.Statements.{AreProper}
use Rattle.asm_layout.specs.Places.{code_end}
use Rattle.asm_layout.specs.Labels.{labels_of}
use Rattle.asm_layout.specs.Passes.{layout_fault}
use Rattle.asm_link.specs.Assembly.{code_from, padded, segments_of, linked, image_of}
use Rattle.asm_layout.proofs.RoomLaws.{some_code, code_fits, room_passes}
use Rattle.asm_link.proofs.CodeLaws.{code_spelled, padded_spelled, length-code_from, length-padded, padded_end}
use Rattle.asm_link.proofs.SegmentsLaws.{segments_apart, few_segments, sizes_within}

pub image_good : (memory_lines : ℕ) (ss : List Statement) → 2 ≤ memory_lines → memory_lines ≤ 2 ^ 21 → AreProper ss → length ss ≤ 2 ^ 24
    → layout_fault (8 * memory_lines) ss ≡ None → AllByRecursion HasWords (linked memory_lines ss).segments
    → IsGood (linked memory_lines ss)
image_good memory_lines ss some_lines lines proper few none fit =
    let known = labels_of ss in
    let words = code_from known [] ss in
    let bodies = map (λ (s : Statement). s.body) ss in
    let sized = length-code_from known [] ss in
    let ends = padded_end words ss sized in
    let padding = length-padded words in
    let some = some_code (8 * memory_lines) ss none in
    let fits = code_fits (8 * memory_lines) ss none in
    let room : code_end ss ≤ 8 * memory_lines = omega (arith, fits.0) in
    let apart = segments_apart known (8 * memory_lines) (code_end ss) ss proper (room_passes (8 * memory_lines) ss none) room (omega arith)
    in
    let sizes = sizes_within (code_end ss) (8 * memory_lines) (segments_of known (code_end ss) bodies) apart in
    let count = few_segments known (code_end ss) bodies in
    let bytes = bytes_of_image (linked memory_lines ss) in
    let bodies_count = length-map {A = Statement} {B = Body} ss (λ (s : Statement). s.body) in
    let code_words : length (padded words) ≤ 2 ^ 16 = omega (arith, padding, sized, fits.1) in
    let code = padded_spelled words (code_spelled known [] ss proper) in
    record {
      two_lines = some_lines;
      lines = lines;
      some_code = omega (arith, padding, sized, some);
      even_code = omega (arith, padding);
      code_words = code_words;
      code = code;
      apart = rw ends apart;
      numbers = numbers_fit (linked memory_lines ss) lines code_words (omega (arith, count, few, bodies_count)) code (rw ends apart) fit;
      few_bytes = omega (arith, padding, sized, fits.1, sizes, count, bytes, few, lines, bodies_count);
    }

-- an image of these words and segments
pub built : (memory_lines : ℕ) (ss : List Statement) (words code : List ℕ) (segments : List SegmentValue) (end : ℕ)
    → words ≡ code_from (labels_of ss) [] ss → code ≡ padded words → end ≡ 4 * length code
    → segments ≡ segments_of (labels_of ss) end (map (λ s. s.body) ss)
    → record { memory_lines = memory_lines; code = code; segments = segments } ≡ linked memory_lines ss
built memory_lines ss words code segments end words_are code_is end_is segments_are =
    rw (segments_are, end_is, code_is, words_are, padded_end (code_from (labels_of ss) [] ss) ss (length-code_from (labels_of ss) [] ss))
    refl

-- how many bytes of code there are
pub few_code : (memory : ℕ) (ss : List Statement) (words code : List ℕ) → layout_fault memory ss ≡ None
    → words ≡ code_from (labels_of ss) [] ss → code ≡ padded words → 4 * length code ≤ 262144
few_code memory ss words code none words_are code_is =
    rw (code_is, words_are) (omega
    (arith, length-padded (code_from (labels_of ss) [] ss), length-code_from (labels_of ss) [] ss, (code_fits memory ss none).1))

pub answers : (memory_lines : ℕ) (ss : List Statement) (image : ImageValue) → layout_fault (8 * memory_lines) ss ≡ None
    → image ≡ linked memory_lines ss → image_of memory_lines ss ≡ Ok image
unfolding image_of
answers memory_lines ss image none is = rw (none, image_of) (ap Ok (sym is))
