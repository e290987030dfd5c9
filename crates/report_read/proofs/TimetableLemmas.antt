-- The ends of cores, read apart from their timetables.
use Rattle.std.proofs.Common.{◌≡◌, ℕ, zero, suc, ◌+◌, ◌*◌, ◌<◌, Ok, List, [], ◌∷◌, ◌++◌, length, get_or, take, set, map, refl, sym, ap, ◌∙◌}
use Rattle.std.proofs.Common.{arith}
use Rattle.std.specs.Prelude.{codes}
use Rattle.std.specs.List.{AllByRecursion, range_with_len}
use Rattle.std.proofs.lemmas.List.{nil_from_length, length-map, map-append, take_more_set}
use Rattle.kmp_base.specs.declared.setup.Setup.{Setup}
use Rattle.access_log.specs.declared.Item.{Item}
use Rattle.image_file.specs.Value.{ImageValue, memory_bytes}
use Rattle.timetable.specs.declared.CoreEnd.{CoreEnd}
use Rattle.timetable.specs.declared.rows.TimeRow.{TimeRow}
use Rattle.row_reader.specs.Rows.{Rows, is_named}
use Rattle.row_reader.specs.Reading.{row_at}
use Rattle.row_reader.specs.Starts.{each_spell}
use Rattle.row_reader.proofs.ManyLaws.{BeginsOther}
use Rattle.report_rows.specs.Ends.{EndValue, end_value}
use Rattle.report_rows.specs.Bounds.{most_rows, IsEnd}
use Rattle.report_rows.specs.declared.MemoryWord.{MemoryWord}
use Rattle.report_rows.specs.Rows.{core_rows, timed_row, timetable_rows}
use Rattle.report_row_reader.specs.Reading.{NumberedRow, fixed_of}
use Rattle.report_row_reader.proofs.TimedLaws.{TimetableFits, rows_in, rows_in-numbered, numbered-rows_in, timetable_to, timetable_from}
use Rattle.report_row_reader.proofs.TimedLaws.{timetable_spelled}
use Rattle.report_text.specs.Text.{rows_of_cores, rows_of_timetables}
use Rattle.report_read.specs.Reading.{with_rows, with_timetables, timed, items_at, ends_at, words_at, timetables_at, counts_at, outcome_at}

-- an end without its timetable
abbrev pub bare : EndValue → EndValue
bare ended = with_rows ended []

-- ---- apart, and together again

end_is : (z : EndValue) → with_rows z z.rows ≡ z
end_is z = refl

with_again : (ended : EndValue) (rows : List TimeRow) → rows ≡ ended.rows → with_rows (bare ended) rows ≡ ended
with_again ended rows is = ap (with_rows ended) is ∙ end_is ended

-- ends and their timetables are the ends again
pub together : (ends : List EndValue) → with_timetables (map bare ends) (map timed ends) ≡ ends
together [] = refl
together (ended ∷ ends) =
    ap (λ z. z ∷ with_timetables (map bare ends) (map timed ends))
    (with_again ended (rows_in (timed ended)) (rows_in-numbered 0 ended.rows))
    ∙ ap (λ more. ended ∷ more) (together ends)

-- whether the ends have timetables of their own doesn't matter
with_bare : (ends : List EndValue) (timetables : List (List NumberedRow)) → with_timetables (map bare ends) timetables
    ≡ with_timetables ends timetables
with_bare [] timetables = refl
with_bare (ended ∷ ends) [] = refl
with_bare (ended ∷ ends) (rows ∷ more) = ap (λ others. with_rows ended (rows_in rows) ∷ others) (with_bare ends more)

-- ends that differ in their timetables alone have the others' with these
pub together_as : (ends others : List EndValue) → map bare others ≡ map bare ends → with_timetables ends (map timed others) ≡ others
together_as ends others same =
    sym (with_bare ends (map timed others)) ∙ ap (λ es. with_timetables es (map timed others)) (sym same) ∙ together others

-- an end that is given a timetable is the same without it
pub set_bare : (cores : List CoreEnd) (i : ℕ) (d core : CoreEnd) → i < length cores
    → bare (end_value core) ≡ bare (end_value (get_or cores i d))
    → map bare (map end_value (set cores i core)) ≡ map bare (map end_value cores)
set_bare [] i d core below same = absurd (omega arith)
set_bare (first ∷ cores) zero d core below same = ap (λ z. z ∷ map bare (map end_value cores)) same
set_bare (first ∷ cores) (suc i) d core below same =
    ap (λ more. bare (end_value first) ∷ more) (set_bare cores i d core (omega arith) same)

-- ends that are the same without their timetables are as many
pub bare_length : (cores ends : List CoreEnd) → map bare (map end_value cores) ≡ map bare (map end_value ends) → length cores ≡ length ends
bare_length cores ends same =
    let long = λ (es : List CoreEnd). length-map (map end_value es) bare ∙ length-map es end_value in
    sym (long cores) ∙ ap (λ (es : List EndValue). length es) same ∙ long ends

-- the timetables of one core more
pub timed_more : (cores : List CoreEnd) (i : ℕ) (core : CoreEnd) → i < length cores
    → map timed (map end_value (take (i + 1) (set cores i core)))
    ≡ map timed (map end_value (take i cores)) ++ timed (end_value core) ∷ []
timed_more cores i core below =
    ap (λ ends. map timed (map end_value ends)) (take_more_set cores i core below)
    ∙ ap (map timed) (map-append end_value (take i cores) (core ∷ []))
    ∙ map-append timed (map end_value (take i cores)) (end_value core ∷ [])

-- what stands for an end without a timetable
bare_is : (budget : ℕ) (ended : EndValue) (rows : List TimeRow) → IsEnd budget 0 ended → bare (with_rows ended rows) ≡ ended
bare_is budget ended rows is =
    ap (with_rows ended) (sym (nil_from_length ended.rows (omega (arith, is.few_rows)))) ∙ end_is ended

-- so many ends and so many timetables are told apart again
pub apart_ends : (budget : ℕ) (ends : List EndValue) (timetables : List (List NumberedRow)) → length timetables ≡ length ends
    → AllByRecursion (IsEnd budget 0) ends → map bare (with_timetables ends timetables) ≡ ends
apart_ends budget [] timetables same are = refl
apart_ends budget (ended ∷ ends) [] same are = absurd (omega (arith, same))
apart_ends budget (ended ∷ ends) (rows ∷ more) same are =
    ap (λ z. z ∷ map bare (with_timetables ends more)) (bare_is budget ended (rows_in rows) are.0)
    ∙ ap (λ others. ended ∷ others) (apart_ends budget ends more (omega (arith, same)) are.1)

pub apart_timetables : (most : ℕ) (ends : List EndValue) (timetables : List (List NumberedRow)) → length timetables ≡ length ends
    → AllByRecursion (TimetableFits most) timetables → map timed (with_timetables ends timetables) ≡ timetables
apart_timetables most [] [] same fit = refl
apart_timetables most [] (rows ∷ more) same fit = absurd (omega (arith, same))
apart_timetables most (ended ∷ ends) [] same fit = absurd (omega (arith, same))
apart_timetables most (ended ∷ ends) (rows ∷ more) same fit =
    ap (λ its. its ∷ map timed (with_timetables ends more)) (numbered-rows_in most 0 rows fit.0)
    ∙ ap (λ others. rows ∷ others) (apart_timetables most ends more (omega (arith, same)) fit.1)

-- ---- the bounds

bare_fits : (budget most : ℕ) (ended : EndValue) → IsEnd budget most ended → IsEnd budget 0 (bare ended)
bare_fits budget most ended is = record {
  cycles = is.cycles;
  retired = is.retired;
  pc = is.pc;
  dpc = is.dpc;
  registers = is.registers;
  words = is.words;
  few_rows = omega arith;
  times = tt;
}

whole_fits : (budget most : ℕ) (ended : EndValue) → IsEnd budget 0 (bare ended) → TimetableFits most (timed ended) → IsEnd budget most ended
whole_fits budget most ended is fits =
    let rows = timetable_to most ended.rows fits in record {
      cycles = is.cycles;
      retired = is.retired;
      pc = is.pc;
      dpc = is.dpc;
      registers = is.registers;
      words = is.words;
      few_rows = rows.0;
      times = rows.1;
    }

pub ends_to : (budget most : ℕ) (ends : List EndValue) → AllByRecursion (IsEnd budget 0) (map bare ends)
    → AllByRecursion (TimetableFits most) (map timed ends) → AllByRecursion (IsEnd budget most) ends
ends_to budget most [] are fit = tt
ends_to budget most (ended ∷ ends) are fit = (whole_fits budget most ended are.0 fit.0, ends_to budget most ends are.1 fit.1)

pub ends_from : (budget most : ℕ) (ends : List EndValue) → AllByRecursion (IsEnd budget most) ends
    → AllByRecursion (IsEnd budget 0) (map bare ends) × AllByRecursion (TimetableFits most) (map timed ends)
ends_from budget most [] are = (tt, tt)
ends_from budget most (ended ∷ ends) are =
    let more = ends_from budget most ends are.1 in
    ((bare_fits budget most ended are.0, more.0), (timetable_from most ended.rows are.0.few_rows are.0.times, more.1))

-- ---- the rows

-- the rows of a core's timetable, as they are read
abbrev pub timed_lines : ℕ → List NumberedRow → Rows
timed_lines core its = map (λ (it : NumberedRow). timed_row core it.n it.row) its

pub bare_rows : (core : ℕ) (ends : List EndValue) → rows_of_cores core (map bare ends) ≡ rows_of_cores core ends
unfolding core_rows
bare_rows core [] = refl
bare_rows core (ended ∷ ends) = ap (λ (more : Rows). core_rows core ended ++ more) (bare_rows (core + 1) ends)

pub timetables_spelled : (first n : ℕ) (ends : List EndValue) → length ends ≡ n
    → each_spell timed_lines (range_with_len first n) (map timed ends) ≡ rows_of_timetables first ends
timetables_spelled first zero [] same = refl
timetables_spelled first zero (ended ∷ ends) same = absurd (omega (arith, same))
timetables_spelled first (suc n) [] same = absurd (omega (arith, same))
timetables_spelled first (suc n) (ended ∷ ends) same =
    ap (λ (rows : Rows). rows ++ each_spell timed_lines (range_with_len (first + 1) n) (map timed ends))
    (timetable_spelled first ended.rows)
    ∙ ap (λ (more : Rows). timetable_rows first ended.rows ++ more) (timetables_spelled (first + 1) n ends (omega (arith, same)))

-- timetables begin with no memory word, where what follows them doesn't
pub timetables_other : (keys : List ℕ) (timetables : List (List NumberedRow)) (rest : Rows) → BeginsOther (is_named (codes "W")) rest
    → BeginsOther (is_named (codes "W")) (each_spell timed_lines keys timetables ++ rest)
timetables_other [] timetables rest other = other
timetables_other (core ∷ keys) [] rest other = other
timetables_other (core ∷ keys) ([] ∷ timetables) rest other = timetables_other keys timetables rest other
timetables_other (core ∷ keys) ((it ∷ its) ∷ timetables) rest other = record {
  first = timed_row core it.n it.row;
  others = (timed_lines core its ++ each_spell timed_lines keys timetables) ++ rest;
  are = refl;
  fails = refl;
}

-- ---- all behind the image

-- what is read of the rows behind an image, by what is read of each part
pub outcome_is : (bytes low most count : ℕ) (rows rows1 rows2 rows3 rows4 rows5 rest : Rows) (items : List Item)
    (ends told : List EndValue) (words : List MemoryWord) (timetables : List (List NumberedRow)) (counts : List ℕ) (end : Unit {0})
    (setup : Setup) (image : ImageValue) → items_at setup.machine setup.cores bytes rows ≡ Ok (items, rows1) → ends_at setup.budget setup.cores rows1 ≡ Ok (ends, rows2)
    → words_at bytes low rows2 ≡ Ok (words, rows3) → timetables_at most count rows3 ≡ Ok (timetables, rows4)
    → with_timetables ends timetables ≡ told → counts_at rows4 ≡ Ok (counts, rows5)
    → row_at (fixed_of (codes "end" ∷ [])) rows5 ≡ Ok (end, rest)
    → bytes ≡ memory_bytes image → low ≡ 4 * length image.code → most ≡ most_rows setup.machine → count ≡ setup.cores
    → outcome_at setup image rows
    ≡ Ok (record { setup = setup; image = image; items = items; cores = told; words = words; counts = counts }, rest)
unfolding outcome_at
outcome_is bytes low most count rows rows1 rows2 rows3 rows4 rows5 rest items ends told words timetables counts end setup image e1
    e2 e3 e4 told_is e5 e6 bytes_is low_is most_is count_is =
    let done : items_at setup.machine setup.cores (memory_bytes image) rows ≡ Ok (items, rows1) = rw bytes_is at e1 in
    let memory : words_at (memory_bytes image) (4 * length image.code) rows2 ≡ Ok (words, rows3) = rw (bytes_is, low_is) at e3 in
    let times : timetables_at (most_rows setup.machine) setup.cores rows3 ≡ Ok (timetables, rows4) = rw (most_is, count_is) at e4 in
    rw (done, e2, memory, times, e5, e6, told_is) refl
