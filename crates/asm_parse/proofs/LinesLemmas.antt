-- The first line of a text, and statements that are read line by line.
use Rattle.std.proofs.Common.{◌≡◌, ℕ, ◌+◌, ◌<◌, Bool, true, false, List, [], ◌∷◌, ◌++◌, length, map, take, drop, Result, Ok, Err, refl, sym}
use Rattle.std.proofs.Common.{ap, ◌∙◌, arith, one-add}
use Rattle.std.specs.List.{prefix_len, enumerate_from}
use Rattle.kmp_base.specs.declared.fault.FaultAt.{FaultAt}
use Rattle.kmp_base.specs.declared.fault.FaultAt.TheVariants as located
use Rattle.kmp_base.specs.Gives.{FailsAt}
use Rattle.kmp_base.proofs.ReadingLaws.{with_front, front_grows, all_read}
use Rattle.asm_token.specs.declared.fault.AsmCause.{AsmCause}
use Rattle.asm_token.specs.Faults.{at_line}
use Rattle.asm_parse.specs.declared.statement.Body.{Body}
use Rattle.asm_parse.specs.declared.statement.Part.{Part}
use Rattle.asm_parse.specs.declared.statement.Statement.{Statement}
use Rattle.asm_parse.specs.Lines.{is_within_line, lines_of, on_line, line_of, statements_from}

-- a text splits at its first line feed, which stands behind n bytes
abbrev pub Splits : List ℕ → ℕ → Type 0
Splits text n = (0 < length text → drop n text ≡ [] → lines_of text ≡ take n text ∷ [])
    × ((b : ℕ) (rest : List ℕ) → drop n text ≡ b ∷ rest → lines_of text ≡ take n text ∷ lines_of rest)

splits_step : (b : ℕ) (bytes : List ℕ) → Splits bytes (prefix_len is_within_line bytes) → (t : Bool) → is_within_line b ≡ t
    → Splits (b ∷ bytes) (prefix_len is_within_line (b ∷ bytes))
unfolding lines_of
splits_step b bytes others false e =
    rw e (λ some none. absurd cc, λ c rest cells. let same : bytes ≡ rest = cc in ap (λ (r : List ℕ). [] ∷ lines_of r) same)
splits_step b [] others true e = rw e (λ some none. refl, λ c rest cells. absurd cc)
splits_step b (d ∷ bytes) others true e =
    rw (e, one-add (prefix_len is_within_line (d ∷ bytes)))
    (λ some none. rw (others.0 (omega arith) none) refl, λ c rest cells. rw (others.1 c rest cells) refl)

pub splits : (text : List ℕ) → Splits text (prefix_len is_within_line text)
unfolding lines_of
splits [] = (λ some none. absurd (omega arith), λ b rest cells. absurd cc)
splits (b ∷ bytes) = splits_step b bytes (splits bytes) (is_within_line b) refl

-- the statements of a text behind others, whose first line has a number and stands in a part
abbrev pub read_behind : List Statement → ℕ → Part → List (List ℕ) → Result (List Statement) (AsmCause × ℕ)
read_behind front number part lines = with_front front (statements_from part (enumerate_from number lines))

pub line_goes_on : (front : List Statement) (number : ℕ) (part : Part) (line : List ℕ) (lines : List (List ℕ)) (here : List Body)
    (behind : Part) → line_of part line ≡ Ok (here, behind)
    → read_behind front number part (line ∷ lines) ≡ read_behind (front ++ map (on_line number) here) (number + 1) behind lines
unfolding statements_from
line_goes_on front number part line lines here behind read =
    rw read (front_grows front (map (on_line number) here) (statements_from behind (enumerate_from (number + 1) lines)))

pub line_ends : (fault : FaultAt AsmCause) (front : List Statement) (number : ℕ) (part : Part) (line : List ℕ) (lines : List (List ℕ))
    (total : Result (List Statement) (AsmCause × ℕ)) → FailsAt fault (at_line number (line_of part line))
    → read_behind front number part (line ∷ lines) ≡ total → FailsAt fault total
unfolding statements_from
line_ends located.Memory front number part line lines total fails so_far = tt
line_ends (located.At cause at) front number part line lines total fails so_far =
    let now : read_behind front number part (line ∷ lines) ≡ Err (cause, at) = rw fails refl in
    sym so_far ∙ now

pub lines_done : (front : List Statement) (number : ℕ) (part : Part) (total : Result (List Statement) (AsmCause × ℕ))
    → read_behind front number part [] ≡ total → total ≡ Ok front
unfolding statements_from
lines_done front number part total so_far = all_read front total so_far
