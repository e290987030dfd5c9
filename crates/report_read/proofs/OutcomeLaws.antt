-- What follows a report's image is read as what it spells.
use Rattle.std.proofs.Common.{◌≡◌, ℕ, suc, ◌+◌, ◌*◌, ◌^◌, ◌<◌, ◌≤◌, List, [], ◌∷◌, ◌++◌, length, map, refl, sym, ap, subst, ◌∙◌}
use Rattle.std.proofs.Common.{true, arith}
use Rattle.std.specs.Prelude.{codes, slice_index}
use Rattle.std.specs.List.{AllByRecursion, range_with_len}
use Rattle.std.proofs.lemmas.List.{length-map}
use Rattle.std.proofs.lemmas.List.FromFn.{length-range_with_len}
use Rattle.kmp_base.specs.declared.setup.Setup.{Setup}
use Rattle.kmp_base.specs.declared.setup.MachineKind.{MachineKind}
use Rattle.access_log.specs.declared.Item.{Item}
use Rattle.access_log.specs.declared.Item.TheVariants.{Done, Bus}
use Rattle.image_file.specs.Value.{ImageValue, memory_bytes}
use Rattle.row_reader.specs.Rows.{Row, Rows, is_named}
use Rattle.row_reader.specs.Reading.{row_at}
use Rattle.row_reader.specs.Starts.{IsPart, AreFit, EachFits, each_spell}
use Rattle.row_reader.proofs.PartLaws.{one_line, row_part}
use Rattle.row_reader.proofs.ManyLaws.{part_as, AreRows, BeginsOther, each_part, then_known, many_known, last_known}
use Rattle.row_reader.proofs.EachManyLaws.{each_many_known}
use Rattle.report_rows.specs.declared.MemoryWord.{MemoryWord}
use Rattle.report_rows.specs.Ends.{EndValue}
use Rattle.report_rows.specs.Bounds.{IsHeader, IsItem, most_rows, IsEnd, IsMemoryWord, AreMemoryWords, IsCount}
use Rattle.report_rows.specs.Rows.{item_row, core_rows, core_row, registers_row, memory_row, count_row, access_count_rows}
use Rattle.report_rows.specs.Rows.{bus_count_rows, wait_count_rows, timed_row}
use Rattle.report_rows.specs.Names.{count_names}
use Rattle.report_row_reader.specs.Reading.{is_item, item_row_of, memory_row_of, count_row_of, NumberedRow, after_row, is_timed, timed_row_of}
use Rattle.report_row_reader.proofs.TimedLaws.{FitsAt, TimetableFits, timed_rows, timed_apart}
use Rattle.report_row_reader.proofs.RowLaws.{fixed_law, item_law, memory_law, count_law}
use Rattle.report_text.specs.Report.{ReportValue}
use Rattle.report_text.specs.Text.{rows_of_cores, rows_of_timetables, count_rows}
use Rattle.report_read.specs.Reading.{after_word, timed, with_timetables, counts_at, outcome_at}
use Rattle.report_read.proofs.ListLaws.{all_each, each_all}
use Rattle.report_read.proofs.CoreLaws.{AreEnds, ends_part}
use Rattle.report_read.proofs.TimetableLemmas.{bare, together, apart_ends, apart_timetables, ends_to, ends_from, timed_lines, bare_rows}
use Rattle.report_read.proofs.TimetableLemmas.{timetables_spelled, timetables_other}

-- ---- the history

-- items that reading goes through one by one
abbrev AreItems : MachineKind → ℕ → ℕ → ℕ → List Item → Type 0
AreItems machine cores bytes low items = AreFit (λ low. IsItem machine cores bytes) (λ item. 0) low items

items_to : (machine : MachineKind) (cores bytes low : ℕ) (items : List Item) → AreItems machine cores bytes low items
    → AllByRecursion (IsItem machine cores bytes) items
items_to machine cores bytes low [] are = tt
items_to machine cores bytes low (item ∷ items) are = (are.0, items_to machine cores bytes 0 items are.1)

items_from : (machine : MachineKind) (cores bytes low : ℕ) (items : List Item) → AllByRecursion (IsItem machine cores bytes) items
    → AreItems machine cores bytes low items
items_from machine cores bytes low [] are = tt
items_from machine cores bytes low (item ∷ items) are = (are.0, items_from machine cores bytes 0 items are.1)

item_passes : (item : Item) → is_item (item_row item) ≡ true
item_passes (Done entry) = refl
item_passes (Bus transaction) = refl

-- the bytes of a memory of some lines
abbrev pub IsMemory : ℕ → Type 0
IsMemory bytes = (8 ≤ bytes) × (bytes ≤ 2 ^ 32)

item_rows : (machine : MachineKind) (cores bytes : ℕ) → 1 ≤ cores → cores ≤ 8 → IsMemory bytes
    → AreRows (λ low. IsItem machine cores bytes) item_row is_item (λ low. item_row_of machine cores bytes)
item_rows machine cores bytes some few memory =
    let law = item_law machine cores bytes some few memory.0 memory.1 in
    record { found = λ low row x e. law.found row x e; again = λ low x fits. law.again x fits; pass = λ low x fits. item_passes x }

-- the rows of some cores begin with none of a history
cores_other : (budget cores : ℕ) (ended : List EndValue) (rest : Rows) → 1 ≤ cores → AreEnds budget cores ended
    → BeginsOther is_item (rows_of_cores 0 ended ++ rest)
unfolding core_rows
cores_other budget cores [] rest some h = absurd (omega (arith, h.0))
cores_other budget cores (z ∷ ended) rest some h = record {
  first = core_row 0 z;
  others = (registers_row 0 0 z.state.regs ∷ registers_row 0 8 z.state.regs ∷ registers_row 0 16 z.state.regs
      ∷ registers_row 0 24 z.state.regs ∷ rows_of_cores 1 ended) ++ rest;
  are = refl;
  fails = refl;
}

-- ---- memory words

-- memory words by rising address, as reading goes through them
abbrev AreWords : ℕ → ℕ → List MemoryWord → Type 0
AreWords bytes low words = AreFit (IsMemoryWord bytes) after_word low words

words_to : (bytes low : ℕ) (words : List MemoryWord) → AreWords bytes low words → AreMemoryWords bytes low words
words_to bytes low [] h = tt
words_to bytes low (word ∷ words) h = (h.0, words_to bytes (word.addr + 4) words h.1)

words_from : (bytes low : ℕ) (words : List MemoryWord) → AreMemoryWords bytes low words → AreWords bytes low words
words_from bytes low [] h = tt
words_from bytes low (word ∷ words) h = (h.0, words_from bytes (word.addr + 4) words h.1)

word_rows : (bytes : ℕ) → bytes ≤ 2 ^ 32 → AreRows (IsMemoryWord bytes) memory_row (is_named (codes "W")) (memory_row_of bytes)
word_rows bytes small = record {
  found = λ low row x e. (memory_law bytes low small).found row x e;
  again = λ low x fits. (memory_law bytes low small).again x fits;
  pass = λ low x fits. refl;
}

-- the rows of the counts begin with no memory word
counts_other : (counts : List ℕ) (rest : Rows) → BeginsOther (is_named (codes "W")) (count_rows counts ++ rest)
unfolding access_count_rows
counts_other counts rest = record {
  first = count_row (codes "retired") (slice_index counts 0);
  others = _;
  are = refl;
  fails = refl;
}

-- ---- timetables

abbrev AreTimetables : ℕ → ℕ → List (List NumberedRow) → Type 0
AreTimetables most cores timetables = EachFits (λ (core : ℕ). TimetableFits most) (range_with_len 0 cores) timetables

-- one for each core, and each fits
timetables_to : (most cores : ℕ) (timetables : List (List NumberedRow)) → AreTimetables most cores timetables
    → (length timetables ≡ cores) × AllByRecursion (TimetableFits most) timetables
timetables_to most cores timetables h =
    let all = all_each (TimetableFits most) (range_with_len 0 cores) timetables h in
    (all.0 ∙ length-range_with_len 0 cores, all.1)

timetables_from : (most cores : ℕ) (timetables : List (List NumberedRow)) → length timetables ≡ cores
    → AllByRecursion (TimetableFits most) timetables → AreTimetables most cores timetables
timetables_from most cores timetables same fit =
    each_all (TimetableFits most) (range_with_len 0 cores) timetables (same ∙ sym (length-range_with_len 0 cores)) fit

-- the rows of the counts begin with none of a timetable
counts_untimed : (core : ℕ) (counts : List ℕ) (rest : Rows) → BeginsOther (is_timed core) (count_rows counts ++ rest)
unfolding access_count_rows
counts_untimed core counts rest = record {
  first = count_row (codes "retired") (slice_index counts 0);
  others = _;
  are = refl;
  fails = refl;
}

-- ---- counts

-- the counts of a report
abbrev AreCounts : List ℕ → Type 0
AreCounts counts = (length counts ≡ 13) × AllByRecursion IsCount counts

-- a row for each name, with the number of its index
abbrev rows_by_index : List (List ℕ) → (ℕ → ℕ) → Rows
rows_by_index [] number = []
rows_by_index (name ∷ names) number = count_row name (number 0) ∷ rows_by_index names (λ index. number (suc index))

-- a count as the only row
abbrev one_count : List ℕ → ℕ → Rows
one_count name n = one_line (count_row name) n

counts_by_index : (names : List (List ℕ)) (counts : List ℕ) → length counts ≡ length names
    → each_spell one_count names counts ≡ rows_by_index names (slice_index counts)
counts_by_index [] counts long = refl
counts_by_index (name ∷ names) [] long = absurd (omega (arith, long))
counts_by_index (name ∷ names) (n ∷ counts) long =
    ap (λ (r : Rows). count_row name n ∷ r) (counts_by_index names counts (omega (arith, long)))

counts_rows : (counts : List ℕ) → AreCounts counts → each_spell one_count count_names counts ≡ count_rows counts
unfolding access_count_rows bus_count_rows wait_count_rows
counts_rows counts are = counts_by_index count_names counts are.0

counts_part : IsPart AreCounts count_rows counts_at
counts_part =
    part_as (EachFits (λ (name : List ℕ). IsCount) count_names) AreCounts (each_spell one_count count_names) count_rows counts_at
    (λ counts h. all_each IsCount count_names counts h) (λ counts h. each_all IsCount count_names counts h.0 h.1)
    (λ counts h. counts_rows counts (all_each IsCount count_names counts h))
    (each_part (λ name. IsCount) one_count (λ name. row_at (count_row_of name)) (λ name. row_part _ _ _ (count_law name) (0, omega arith))
    count_names)

-- ---- all behind the image

-- the last row of a report
abbrev pub end_row : Row
end_row = codes "end" ∷ []

-- The bounds that what was done and how it ended keep.
pub record IsOutcome (z : ReportValue) : Type 0 where
  pub items : AllByRecursion (IsItem z.setup.machine z.setup.cores (memory_bytes z.image)) z.items
  pub cores : length z.cores ≡ z.setup.cores
  pub ends : AllByRecursion (IsEnd z.setup.budget (most_rows z.setup.machine)) z.cores
  pub words : AreMemoryWords (memory_bytes z.image) (4 * length z.image.code) z.words
  pub thirteen : length z.counts ≡ 13
  pub counts : AllByRecursion IsCount z.counts

-- a report of this setup and this image, with an outcome within its bounds
abbrev pub IsOutcomeOf : Setup → ImageValue → ReportValue → Type 0
IsOutcomeOf setup image z = ((z.setup ≡ setup) × (z.image ≡ image)) × IsOutcome z

-- the rows behind the image
abbrev pub rows_behind : ReportValue → Rows
rows_behind z =
    map item_row z.items
    ++ (rows_of_cores 0 z.cores
    ++ (map memory_row z.words ++ (rows_of_timetables 0 z.cores ++ (count_rows z.counts ++ end_row ∷ []))))

make_report : Setup → ImageValue → List Item → List EndValue → List MemoryWord → List ℕ → ReportValue
make_report setup image items cores words counts =
    record { setup = setup; image = image; items = items; cores = cores; words = words; counts = counts }

make_report_is : (z : ReportValue) → make_report z.setup z.image z.items z.cores z.words z.counts ≡ z
unfolding make_report
make_report_is z = refl

report_is : (z : ReportValue) (setup : Setup) (image : ImageValue) (items : List Item) (ends : List EndValue) (words : List MemoryWord)
    (timetables : List (List NumberedRow)) (counts : List ℕ)
    → z.setup ≡ setup → z.image ≡ image → z.items ≡ items → map bare z.cores ≡ ends → z.words ≡ words
    → map timed z.cores ≡ timetables → z.counts ≡ counts
    → make_report setup image items (with_timetables ends timetables) words counts ≡ z
report_is z setup image items ends words timetables counts a b c d e f g =
    let all = make_report_is z in
    let cores : with_timetables ends timetables ≡ z.cores = ap (λ es. with_timetables es timetables) (sym d)
    ∙ ap (with_timetables (map bare z.cores)) (sym f) ∙ together z.cores in
    cc

-- a report of this setup and this image
abbrev IsOf : Setup → ImageValue → ReportValue → Type 0
IsOf setup image z = (z.setup ≡ setup) × (z.image ≡ image)

-- what the rows behind the image say, in their order
abbrev OutcomeFields : Setup → ImageValue → ReportValue → Type 0
OutcomeFields setup image z =
    AreItems setup.machine setup.cores (memory_bytes image) 0 z.items
    × (AreEnds setup.budget setup.cores (map bare z.cores)
    × (AreWords (memory_bytes image) (4 * length image.code) z.words
    × (AreTimetables (most_rows setup.machine) setup.cores (map timed z.cores) × (AreCounts z.counts × (Unit {0} × Unit {0})))))

-- the rows behind the memory words, and behind the cores, as they are read
abbrev rows_timed : Setup → ReportValue → Rows
rows_timed setup z = each_spell timed_lines (range_with_len 0 setup.cores) (map timed z.cores)
    ++ (count_rows z.counts ++ ((end_row ∷ []) ++ []))

-- the rows behind the image as they are read
abbrev rows_read : Setup → ReportValue → Rows
rows_read setup z =
    map item_row z.items ++ (rows_of_cores 0 (map bare z.cores) ++ (map memory_row z.words ++ rows_timed setup z))

outcome_fields : (setup : Setup) (image : ImageValue) → 1 ≤ setup.cores → setup.cores ≤ 8 → setup.budget < 2 ^ 64
    → IsMemory (memory_bytes image)
    → IsPart (λ z. IsOf setup image z × OutcomeFields setup image z) (rows_read setup) (outcome_at setup image)
unfolding outcome_at make_report
outcome_fields setup image some few budget memory =
    let most = most_rows setup.machine in
    many_known _ _ _ _ _ 0 (λ z. z.items) _ _ _ _ (item_rows setup.machine setup.cores (memory_bytes image) some few memory)
    (λ z h. cores_other setup.budget setup.cores (map bare z.cores) (map memory_row z.words ++ rows_timed setup z) some h.0) (λ items _.
    then_known _ _ _ (λ z. map bare z.cores) _ _ _ _ (ends_part setup.budget setup.cores budget) (λ ends are.
    many_known _ _ _ _ _ (4 * length image.code) (λ z. z.words) _ _ _ _ (word_rows (memory_bytes image) memory.1)
    (λ z h. timetables_other (range_with_len 0 setup.cores) (map timed z.cores) (count_rows z.counts ++ ((end_row ∷ []) ++ []))
    (counts_other z.counts ((end_row ∷ []) ++ []))) (λ words _.
    each_many_known (λ core. FitsAt most) (λ core it. timed_row core it.n it.row) is_timed (timed_row_of most) after_row (timed_rows most)
    (2 ^ 64) timed_apart setup.cores (λ z. map timed z.cores) _ _ _ _ (omega arith)
    (λ core z h. counts_untimed core z.counts ((end_row ∷ []) ++ [])) (λ timetables fit.
    then_known _ _ _ (λ z. z.counts) _ _ _ _ counts_part (λ counts _.
    then_known _ _ _ (λ z. tt) _ _ _ _ (row_part _ _ _ (fixed_law end_row) (tt, tt)) (λ end _.
    let told = timetables_to most setup.cores timetables fit in
    let same : length timetables ≡ length ends = told.0 ∙ sym are.0 in
    last_known (record {
      setup = setup;
      image = image;
      items = items;
      cores = with_timetables ends timetables;
      words = words;
      counts = counts;
    }) _
    (λ z k. report_is z setup image items ends words timetables counts k.1.1.1.1.1.1.0 k.1.1.1.1.1.1.1 k.1.1.1.1.1.0 k.1.1.1.1.0 k.1.1.1.0
    k.1.1.0 k.1.0) (
      refl,
      (
        refl,
        (
          apart_timetables most ends timetables same told.1,
          (
            refl,
            (
              apart_ends setup.budget ends timetables same are.1,
              (refl, (refl, refl)),
            ),
          ),
        ),
      ),
    )))))))

outcome_to : (setup : Setup) (image : ImageValue) (z : ReportValue) → IsOf setup image z × OutcomeFields setup image z
    → IsOutcomeOf setup image z
outcome_to setup image z h =
    let bytes = memory_bytes image in
    let items : AllByRecursion (IsItem setup.machine setup.cores bytes) z.items = items_to setup.machine setup.cores bytes 0 z.items h.1.0 in
    let words : AreMemoryWords bytes (4 * length image.code) z.words = words_to bytes (4 * length image.code) z.words h.1.1.1.0 in
    let timetables = timetables_to (most_rows setup.machine) setup.cores (map timed z.cores) h.1.1.1.1.0 in
    let ends = ends_to setup.budget (most_rows setup.machine) z.cores h.1.1.0.1 timetables.1 in
    let s = sym h.0.0 in
    let i = sym h.0.1 in (
      h.0,
      record {
        items = subst (λ (m : ImageValue). AllByRecursion (IsItem z.setup.machine z.setup.cores (memory_bytes m)) z.items) i
            (subst (λ (t : Setup). AllByRecursion (IsItem t.machine t.cores bytes) z.items) s items);
        cores = sym (length-map z.cores bare) ∙ h.1.1.0.0 ∙ ap (λ (t : Setup). t.cores) s;
        ends = subst (λ (t : Setup). AllByRecursion (IsEnd t.budget (most_rows t.machine)) z.cores) s ends;
        words = subst (λ (m : ImageValue). AreMemoryWords (memory_bytes m) (4 * length m.code) z.words) i words;
        thirteen = h.1.1.1.1.1.0.0;
        counts = h.1.1.1.1.1.0.1;
      },
    )

outcome_from : (setup : Setup) (image : ImageValue) (z : ReportValue) → IsOutcomeOf setup image z → IsOf setup image z
    × OutcomeFields setup image z
outcome_from setup image z h =
    let bytes = memory_bytes z.image in
    let o = h.1 in
    let most = most_rows z.setup.machine in
    let ends = ends_from z.setup.budget most z.cores o.ends in
    let timetables = timetables_from most z.setup.cores (map timed z.cores) (length-map z.cores timed ∙ o.cores) ends.1 in
    let fields : OutcomeFields z.setup z.image z = (
      items_from z.setup.machine z.setup.cores bytes 0 z.items o.items,
      (
        (length-map z.cores bare ∙ o.cores, ends.0),
        (words_from bytes (4 * length z.image.code) z.words o.words, (timetables, ((o.thirteen, o.counts), (tt, tt)))),
      ),
    ) in (
      h.0,
      subst (λ (m : ImageValue). OutcomeFields setup m z) h.0.1 (subst (λ (t : Setup). OutcomeFields t z.image z) h.0.0 fields),
    )

outcome_rows_are : (setup : Setup) (z : ReportValue) → length z.cores ≡ setup.cores → rows_read setup z ≡ rows_behind z
outcome_rows_are setup z same =
    let others : Rows = count_rows z.counts ++ end_row ∷ [] in
    ap (λ (r : Rows). map item_row z.items ++ (r ++ (map memory_row z.words ++ rows_timed setup z))) (bare_rows 0 z.cores)
    ∙ ap (λ (r : Rows). map item_row z.items ++ (rows_of_cores 0 z.cores ++ (map memory_row z.words ++ (r ++ others))))
    (timetables_spelled 0 setup.cores z.cores same)

pub outcome_part : (setup : Setup) (image : ImageValue) → IsHeader setup → IsMemory (memory_bytes image)
    → IsPart (IsOutcomeOf setup image) rows_behind (outcome_at setup image)
outcome_part setup image header memory =
    let few : setup.cores ≤ 8 = header.limits.cores in
    let most : setup.budget ≤ 100000 = header.limits.budget in
    part_as (λ z. IsOf setup image z × OutcomeFields setup image z) (IsOutcomeOf setup image) (rows_read setup) rows_behind
    (outcome_at setup image)
    (outcome_to setup image) (outcome_from setup image)
    (λ z h. outcome_rows_are setup z (sym (length-map z.cores bare) ∙ h.1.1.0.0))
    (outcome_fields setup image header.limits.some_cores few (omega (arith, most)) memory)
