-- Rows of an image that are read one after another, as a loop does.
use Rattle.std.proofs.Common.{◌≡◌, ℕ, suc, ◌+◌, ◌-◌, ◌<◌, ◌≤◌, List, ◌++◌, Result, Ok, refl}
use Rattle.std.proofs.Common.{arith}
use Rattle.std.specs.Borrow.{Bor}
use Rattle.kmp_base.specs.declared.fault.Fault.{Fault}
use Rattle.kmp_base.proofs.ReadingLaws.{with_front_and_rest, all_read_and_rest, first_and_more, first_is_read, first_fails}
use Rattle.row_reader.specs.Rows.{Rows}
use Rattle.row_reader.specs.Reading.{row_at}
use Rattle.row_reader.specs.Gives.{stuck_rows, Fails}
use Rattle.report_row_reader.specs.Reading.{bytes_row_of}
use Rattle.report_read.specs.Reading.{full_rows_at}

module _ (i n : ℕ) (rows : Rows) (front : List ℕ) (total : Result (List ℕ × Rows) Rows)
    (so_far : with_front_and_rest front (full_rows_at (n - i) rows) ≡ total) where
  full_first : i < n → full_rows_at (n - i) rows
      ≡ first_and_more (λ p. p.0) (row_at (bytes_row_of 32) rows) (λ p. full_rows_at (n - (i + 1)) p.1)
  unfolding full_rows_at
  full_first lt =
      let more : n - i ≡ suc (n - (i + 1)) = omega arith in
      rw more refl

  pub full_go_on : (rest : Rows) (bytes : List ℕ) → i < n → row_at (bytes_row_of 32) rows ≡ Ok (bytes, rest)
      → with_front_and_rest (front ++ bytes) (full_rows_at (n - (i + 1)) rest) ≡ total
  full_go_on rest bytes lt is =
      first_is_read (λ p. p.0) (row_at (bytes_row_of 32) rows) (λ p. full_rows_at (n - (i + 1)) p.1) _ total front (bytes, rest)
      (full_first lt) is so_far

  pub full_fail : (stuck : Fault (Bor (List ℕ))) → i < n → Fails stuck (row_at (bytes_row_of 32) rows) → Fails stuck total
  full_fail stuck lt fails =
      first_fails stuck_rows stuck (λ p. p.0) (row_at (bytes_row_of 32) rows) (λ p. full_rows_at (n - (i + 1)) p.1) _ total front
      (full_first lt) fails so_far

  pub full_done : n ≤ i → total ≡ Ok (front, rows)
  unfolding full_rows_at
  full_done le =
      let none : n - i ≡ 0 = omega arith in
      all_read_and_rest front rows total (rw none at so_far)
