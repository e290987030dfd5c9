-- How many bytes stand in the parts of rows.
use Rattle.std.proofs.Common.{◌≡◌, ℕ, ◌+◌, ◌*◌, ◌≤◌, List, [], ◌∷◌, length, Ok, ap, arith, length-append}
use Rattle.std.specs.List.{slice_split, join_with_byte}
use Rattle.std.proofs.lemmas.List.Splits.{join_with_byte-slice_split}
use Rattle.hex.specs.Hex.{lower_digits}
use Rattle.hex.proofs.HexLemmas.{length-encode_with}
use Rattle.row_reader.specs.Rows.{Row, Rows, is_feed, rows_of, rows_of_pieces}
use Rattle.row_reader.specs.Fields.{parts_of}
use Rattle.row_reader.specs.Reading.{row_at}
use Rattle.row_reader.proofs.PartLaws.{row_takes}
use Rattle.report_rows.specs.Rows.{bytes_row}
use Rattle.report_row_reader.specs.Reading.{bytes_row_of}
use Rattle.report_row_reader.proofs.RowLaws.{bytes_law}

abbrev pub size_of_parts : Row → ℕ
size_of_parts [] = 0
size_of_parts (part ∷ parts) = length part + size_of_parts parts

abbrev pub size_of_rows : Rows → ℕ
size_of_rows [] = 0
size_of_rows (row ∷ rows) = size_of_parts row + size_of_rows rows

join_size : (c : ℕ) (parts : Row) → size_of_parts parts ≤ length (join_with_byte c parts)
join_size c [] = omega arith
join_size c (part ∷ []) = omega arith
join_size c (part ∷ next ∷ parts) =
    let more = join_size c (next ∷ parts) in
    omega (arith, more, length-append part (c ∷ join_with_byte c (next ∷ parts)))

parts_size : (piece : List ℕ) → size_of_parts (parts_of piece) ≤ length piece
parts_size piece = omega (arith, join_size 32 (parts_of piece), ap length (join_with_byte-slice_split 32 piece))

pieces_size : (pieces : List (List ℕ)) → size_of_rows (rows_of_pieces pieces) ≤ size_of_parts pieces
pieces_size [] = omega arith
pieces_size ([] ∷ []) = omega arith
pieces_size ((b ∷ bs) ∷ []) = omega arith
pieces_size (piece ∷ next ∷ pieces) =
    let more = pieces_size (next ∷ pieces) in
    omega (arith, more, parts_size piece)

-- they are no more than the bytes of the text
pub text_size : (text : List ℕ) → size_of_rows (rows_of text) ≤ length text
unfolding rows_of
text_size text =
    omega (
      arith,
      pieces_size (slice_split is_feed text),
      join_size 10 (slice_split is_feed text),
      ap length (join_with_byte-slice_split 10 text),
    )

-- a row of bytes has two digits for each of them
pub bytes_size : (size : ℕ) (rows rest : Rows) (bytes : List ℕ) → row_at (bytes_row_of size) rows ≡ Ok (bytes, rest) → (length bytes ≡ size)
    × (2 * length bytes + size_of_rows rest ≤ size_of_rows rows)
bytes_size size rows rest bytes e =
    let read = row_takes _ bytes_row (bytes_row_of size) (bytes_law size) rows rest bytes e in
    (read.0.0, omega (arith, ap size_of_rows read.1, length-encode_with lower_digits bytes))
