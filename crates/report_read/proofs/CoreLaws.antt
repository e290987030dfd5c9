-- The rows of a core's end are read as what they spell.
use Rattle.std.proofs.Common.{◌≡◌, ℕ, zero, suc, ◌+◌, ◌^◌, ◌<◌, ◌≤◌, List, [], ◌∷◌, ◌++◌, length, take, drop, refl, sym, ap, subst, ◌∙◌}
use Rattle.std.proofs.Common.{arith, append_assoc, length-append, length-drop, drop-drop}
use Rattle.std.specs.Prelude.{replicate}
use Rattle.std.specs.List.{AllByRecursion, range_with_len}
use Rattle.std.proofs.Math.Seq.{take-add}
use Rattle.std.proofs.lemmas.List.{take_all, take_at, drop_at, length-take-le, nil_from_length}
use Rattle.std.proofs.lemmas.List.FromFn.{length-range_with_len}
use Rattle.timetable.specs.declared.End.TheVariants as ends
use Rattle.timetable.specs.declared.rows.TimeRow.{TimeRow}
use Rattle.std_laws.proofs.ListLaws.{AllByRecursion-append, AllByRecursion-take_drop, AllByRecursion-replicate}
use Rattle.row_reader.specs.Rows.{Rows}
use Rattle.row_reader.specs.Starts.{IsPart, EachFits, each_spell}
use Rattle.row_reader.proofs.PartLaws.{row_part}
use Rattle.row_reader.proofs.ManyLaws.{part_as, each_part, then_known, last_known}
use Rattle.report_row_reader.specs.declared.read.EndRow.{EndRow}
use Rattle.report_rows.specs.Ends.{EndValue}
use Rattle.report_rows.specs.Bounds.{IsWord, AreTimes, IsEnd}
use Rattle.report_rows.specs.Rows.{core_rows}
use Rattle.report_row_reader.proofs.RowLaws.{IsEndRow, end_law, registers_law}
use Rattle.report_text.specs.Text.{rows_of_cores}
use Rattle.report_read.specs.Reading.{end_of_rows, end_at, ends_at}
use Rattle.report_read.proofs.ListLaws.{all_each, each_all}

-- ---- registers, eight by eight

-- the eight from an index on
abbrev eight_at : ℕ → List ℕ → List ℕ
eight_at first regs = take 8 (drop first regs)

abbrev AreEight : List ℕ → Type 0
AreEight regs = (length regs ≡ 8) × AllByRecursion IsWord regs

abbrev joined : List ℕ → List ℕ → List ℕ → List ℕ → List ℕ
joined a b c d = a ++ b ++ c ++ d

zero_regs : AreEight (replicate 8 0)
zero_regs = (refl, AllByRecursion-replicate IsWord 8 0 (omega arith))

eight_more : (n : ℕ) (regs : List ℕ) → take n regs ++ eight_at n regs ≡ take (n + 8) regs
eight_more n regs = sym (take-add n 8 regs)

joined_again : (regs : List ℕ) → length regs ≡ 32 → joined (eight_at 0 regs) (eight_at 8 regs) (eight_at 16 regs) (eight_at 24 regs) ≡ regs
joined_again regs long =
    ap (λ front. front ++ eight_at 16 regs ++ eight_at 24 regs) (eight_more 8 regs)
    ∙ ap (λ front. front ++ eight_at 24 regs) (eight_more 16 regs)
    ∙ eight_more 24 regs ∙ take_all 32 regs (omega (arith, long))

-- Four times eight are joined, and cut again.
record AreJoined (a b c d : List ℕ) : Type 0 where
  a_is : eight_at 0 (joined a b c d) ≡ a
  b_is : eight_at 8 (joined a b c d) ≡ b
  c_is : eight_at 16 (joined a b c d) ≡ c
  d_is : eight_at 24 (joined a b c d) ≡ d
  long : length (joined a b c d) ≡ 32

are_joined : (a b c d : List ℕ) → length a ≡ 8 → length b ≡ 8 → length c ≡ 8 → length d ≡ 8 → AreJoined a b c d
are_joined a b c d la lb lc ld =
    let all : joined a b c d ≡ a ++ (b ++ (c ++ d)) = simp append_assoc in
    let from_b : drop 8 (joined a b c d) ≡ b ++ (c ++ d) = ap (drop 8) all ∙ drop_at a (b ++ (c ++ d)) 8 la in
    let from_c : drop 16 (joined a b c d) ≡ c ++ d = sym (drop-drop 8 8 (joined a b c d)) ∙ ap (drop 8) from_b
    ∙ drop_at b (c ++ d) 8 lb in
    let from_d : drop 24 (joined a b c d) ≡ d = sym (drop-drop 8 16 (joined a b c d)) ∙ ap (drop 8) from_c ∙ drop_at c d 8 lc in
    record {
      a_is = ap (take 8) all ∙ take_at a (b ++ (c ++ d)) 8 la;
      b_is = ap (take 8) from_b ∙ take_at b (c ++ d) 8 lb;
      c_is = ap (take 8) from_c ∙ take_at c d 8 lc;
      d_is = ap (take 8) from_d ∙ take_all 8 d (omega (arith, ld));
      long = omega (arith, la, lb, lc, ld, length-append (a ++ b ++ c) d, length-append (a ++ b) c, length-append a b);
    }

-- ---- the end of a core

-- what the first row of a core's end says
abbrev end_row_in : EndValue → EndRow
end_row_in z = record { end = z.end; cycles = z.cycles; retired = z.retired; pc = z.state.pc; dpc = z.state.dpc }

make_end : EndRow → List ℕ → List ℕ → List ℕ → List ℕ → EndValue
make_end row a b c d = end_of_rows row a b c d

abbrev regs_in : ℕ → EndValue → List ℕ
regs_in first z = eight_at first z.state.regs

-- an end with 32 registers and no timetable
abbrev IsWhole : EndValue → Type 0
IsWhole z = (z.rows ≡ []) × (length z.state.regs ≡ 32)

make_end_is : (z : EndValue) → IsWhole z → make_end (end_row_in z) (regs_in 0 z) (regs_in 8 z) (regs_in 16 z) (regs_in 24 z) ≡ z
unfolding make_end
make_end_is z whole =
    ap (λ regs. record {
      end = z.end;
      cycles = z.cycles;
      retired = z.retired;
      state = record { pc = z.state.pc; dpc = z.state.dpc; regs = regs };
      rows = [];
    }) (joined_again z.state.regs whole.1)
    ∙ ap (λ rows. record { end = z.end; cycles = z.cycles; retired = z.retired; state = z.state; rows = rows }) (sym whole.0)

end_is : (z : EndValue) (row : EndRow) (a b c d : List ℕ) → IsWhole z → end_row_in z ≡ row → regs_in 0 z ≡ a → regs_in 8 z ≡ b
    → regs_in 16 z ≡ c → regs_in 24 z ≡ d → make_end row a b c d ≡ z
end_is z row a b c d whole e ea eb ec ed = let all = make_end_is z whole in cc

-- what the rows of a core's end say, in their order
abbrev EndFields : ℕ → EndValue → Type 0
EndFields budget z =
    IsWhole z × (IsEndRow budget (end_row_in z)
    × (AreEight (regs_in 0 z) × (AreEight (regs_in 8 z) × (AreEight (regs_in 16 z) × (AreEight (regs_in 24 z) × Unit {0})))))

-- a row that may stand where one is missing
no_row : EndRow
no_row = record { end = ends.Spent; cycles = 0; retired = 0; pc = 0; dpc = 0 }

no_row_fits : (budget : ℕ) → IsEndRow budget no_row
unfolding no_row
no_row_fits budget = record { cycles = omega arith; retired = omega arith; pc = omega arith; dpc = omega arith }

end_fields : (budget core : ℕ) → budget < 2 ^ 64 → IsPart (EndFields budget) (core_rows core) (end_at budget core)
unfolding end_at core_rows make_end
end_fields budget core small =
    then_known _ _ _ end_row_in _ _ _ _ (row_part _ _ _ (end_law budget core small) (no_row, no_row_fits budget)) (λ row _.
    then_known _ _ _ (regs_in 0) _ _ _ _ (row_part _ _ _ (registers_law core 0) (replicate 8 0, zero_regs)) (λ a fa.
    then_known _ _ _ (regs_in 8) _ _ _ _ (row_part _ _ _ (registers_law core 8) (replicate 8 0, zero_regs)) (λ b fb.
    then_known _ _ _ (regs_in 16) _ _ _ _ (row_part _ _ _ (registers_law core 16) (replicate 8 0, zero_regs)) (λ c fc.
    then_known _ _ _ (regs_in 24) _ _ _ _ (row_part _ _ _ (registers_law core 24) (replicate 8 0, zero_regs)) (λ d fd.
    let j = are_joined a b c d fa.0 fb.0 fc.0 fd.0 in
    last_known (end_of_rows row a b c d) _ (λ z k. end_is z row a b c d k.1.1.1.1.1 k.1.1.1.1.0 k.1.1.1.0 k.1.1.0 k.1.0 k.0)
    (j.d_is, (j.c_is, (j.b_is, (j.a_is, (refl, (refl, j.long)))))))))))

end_to : (budget : ℕ) (z : EndValue) → EndFields budget z → IsEnd budget 0 z
end_to budget z h =
    let two = AllByRecursion-append IsWord (regs_in 0 z) (regs_in 8 z) h.1.1.0.1 h.1.1.1.0.1 in
    let three = AllByRecursion-append IsWord (regs_in 0 z ++ regs_in 8 z) (regs_in 16 z) two h.1.1.1.1.0.1 in
    let all = AllByRecursion-append IsWord (regs_in 0 z ++ regs_in 8 z ++ regs_in 16 z) (regs_in 24 z) three h.1.1.1.1.1.0.1 in
    record {
      cycles = h.1.0.cycles;
      retired = h.1.0.retired;
      pc = h.1.0.pc;
      dpc = h.1.0.dpc;
      registers = h.0.1;
      words = subst (AllByRecursion IsWord) (joined_again z.state.regs h.0.1) all;
      few_rows = omega (arith, ap (λ (rows : List TimeRow). length rows) h.0.0);
      times = subst (AllByRecursion AreTimes) (sym h.0.0) tt;
    }

eight_of : (first : ℕ) (regs : List ℕ) → length regs ≡ 32 → first ≤ 24 → AllByRecursion IsWord regs → AreEight (eight_at first regs)
eight_of first regs long within are = (
  length-take-le 8 (drop first regs) (omega (arith, long, length-drop first regs)),
  (AllByRecursion-take_drop IsWord 8 (drop first regs) (AllByRecursion-take_drop IsWord first regs are).1).0,
)

end_from : (budget : ℕ) (z : EndValue) → IsEnd budget 0 z → EndFields budget z
end_from budget z i =
    let eight : (first : ℕ) → first ≤ 24 → AreEight (regs_in first z) =
    λ first within. eight_of first z.state.regs i.registers within i.words in (
      (nil_from_length z.rows (omega (arith, i.few_rows)), i.registers),
      (
        record { cycles = i.cycles; retired = i.retired; pc = i.pc; dpc = i.dpc },
        (eight 0 (omega arith), (eight 8 (omega arith), (eight 16 (omega arith), (eight 24 (omega arith), tt)))),
      ),
    )

end_part : (budget core : ℕ) → budget < 2 ^ 64 → IsPart (IsEnd budget 0) (core_rows core) (end_at budget core)
end_part budget core small =
    part_as (EndFields budget) (IsEnd budget 0) (core_rows core) (core_rows core) (end_at budget core) (end_to budget) (end_from budget)
    (λ z h. refl) (end_fields budget core small)

-- ---- the ends of the cores

ends_rows : (budget first n : ℕ) (cores : List EndValue) → EachFits (λ (core : ℕ). IsEnd budget 0) (range_with_len first n) cores
    → each_spell core_rows (range_with_len first n) cores ≡ rows_of_cores first cores
ends_rows budget first zero [] h = refl
ends_rows budget first zero (z ∷ cores) h = absurd h
ends_rows budget first (suc n) [] h = absurd h
ends_rows budget first (suc n) (z ∷ cores) h = ap (λ (r : Rows). core_rows first z ++ r) (ends_rows budget (first + 1) n cores h.1)

-- the ends of so many cores, without their timetables
abbrev pub AreEnds : ℕ → ℕ → List EndValue → Type 0
AreEnds budget cores ended = (length ended ≡ cores) × AllByRecursion (IsEnd budget 0) ended

pub ends_part : (budget cores : ℕ) → budget < 2 ^ 64 → IsPart (AreEnds budget cores) (rows_of_cores 0) (ends_at budget cores)
ends_part budget cores small =
    let keys = range_with_len 0 cores in
    let long : length keys ≡ cores = length-range_with_len 0 cores in
    part_as (EachFits (λ (core : ℕ). IsEnd budget 0) keys) (AreEnds budget cores) (each_spell core_rows keys) (rows_of_cores 0)
    (ends_at budget cores)
    (λ ended h. let all = all_each (IsEnd budget 0) keys ended h in (all.0 ∙ long, all.1))
    (λ ended h. each_all (IsEnd budget 0) keys ended (h.0 ∙ sym long) h.1)
    (λ ended h. ends_rows budget 0 cores ended h)
    (each_part (λ core. IsEnd budget 0) core_rows (end_at budget) (λ core. end_part budget core small) keys)
