-- Where segments stand, and how many words they have.
use Rattle.std.proofs.Common.{◌≡◌, ℕ, ◌+◌, ◌-◌, ◌*◌, ◌/◌, ◌%◌, ◌≤◌, true, false, if◌then◌else◌, List, [], ◌∷◌, ◌++◌, length, map, None}
use Rattle.std.proofs.Common.{refl, ap, subst, arith, length-append, take, drop, get_or, append_assoc, sym, ◌∙◌}
use Rattle.std.specs.List.{sum_by}
use Rattle.std.proofs.lemmas.List.Sums.{sum_by-cons}
use Rattle.std.proofs.lemmas.List.{length-replicate, take_rest}
use Rattle.std.proofs.lemmas.List.Elements.{All-head, All-tail}
use Rattle.std_laws.proofs.ListLaws.{drop_more_read}
use Rattle.image_file.specs.Value.{SegmentValue, AreApart, segment_size}
use Rattle.asm_parse.specs.declared.statement.Body.{Body}
use Rattle.asm_parse.specs.declared.statement.Body.TheVariants.{DataAt, Word, Space}
use Rattle.asm_parse.specs.declared.statement.Statement.{Statement}
use Rattle.asm_parse.specs.Statements.{IsProperBody, AreProper}
use Rattle.asm_layout.specs.declared.place.Place.{Place}
use Rattle.asm_layout.specs.Places.{data_size, data_moved, data_behind, place_behind}
use Rattle.asm_layout.specs.Labels.{Addresses}
use Rattle.asm_layout.specs.Passes.{first_fault, room_fault, room_test}
use Rattle.asm_layout.proofs.PlacesLaws.{place_more}
use Rattle.asm_layout.proofs.RoomLaws.{first_none, start_fits, data_fits}
use Rattle.asm_link.specs.Assembly.{data_words, words_before_next, addressed_segments, goes_on_behind_code, segments_of}

more_words : (known : Addresses) (body : Body) (rest : List Body) → ((start : ℕ) → body ≡ DataAt start → ⊥)
    → words_before_next known (body ∷ rest) ≡ data_words known body ++ words_before_next known rest
more_words known (DataAt start) rest never = absurd (never start refl)
more_words known other rest never = refl

pub words_go_on : (known : Addresses) (left : List Statement) (s : Statement) (words more total : List ℕ) → 1 ≤ length left
    → s ≡ get_or left 0 s → ((start : ℕ) → s.body ≡ DataAt start → ⊥) → more ≡ words ++ data_words known s.body
    → words ++ words_before_next known (map (λ t. t.body) left) ≡ total
    → more ++ words_before_next known (map (λ t. t.body) (take (length left - 1) (drop 1 left))) ≡ total
words_go_on known left s words more total some is never added so_far =
    let rest = take (length left - 1) (drop 1 left) in
    rw (added, append_assoc, ← more_words known s.body (map (λ (t : Statement). t.body) rest) never)
    (subst (λ (ss : List Statement). words ++ words_before_next known (map (λ (t : Statement). t.body) ss) ≡ total)
    (drop_more_read left 0 s some is ∙ ap (λ (ss : List Statement). s ∷ ss) (sym (take_rest left 1)))
    so_far)

length-data_words : (known : Addresses) (body : Body) → IsProperBody body → 4 * length (data_words known body) ≡ data_size body
length-data_words known (Word value) proper = refl
length-data_words known (Space bytes) proper = omega (arith, length-replicate {A = ℕ} (bytes / 4) 0)
length-data_words known other proper = refl

grown : (known : Addresses) (end : ℕ) (body : Body) (rest : List Body) → IsProperBody body
    → end + data_size body + 4 * length (words_before_next known rest) ≡ end + 4
    * length (data_words known body ++ words_before_next known rest)
grown known end body rest proper =
    omega (arith, length-data_words known body proper, length-append (data_words known body) (words_before_next known rest))

-- Segments are apart before a statement where they are behind it.
apart_before : (known : Addresses) (memory : ℕ) (place : Place) (body : Body) (rest : List Body) → IsProperBody body
    → room_fault memory place body ≡ None
    → AreApart (data_moved place.data_end body + 4 * length (words_before_next known rest)) memory (addressed_segments known rest)
    → AreApart (place.data_end + 4 * length (words_before_next known (body ∷ rest))) memory (addressed_segments known (body ∷ rest))
apart_before known memory place (DataAt start) rest proper passes behind =
    let fits = start_fits memory place start passes in (proper, omega (arith, fits.0), behind)
apart_before known memory place other rest proper passes behind =
    subst (λ (from : ℕ). AreApart from memory (addressed_segments known rest)) (grown known place.data_end other rest proper) behind

apart : (known : Addresses) (memory end : ℕ) (before ss : List Statement) → AreProper ss
    → first_fault (room_test memory end) before ss ≡ None → data_behind end before ≤ memory
    → AreApart (data_behind end before + 4 * length (words_before_next known (map (λ s. s.body) ss))) memory
    (addressed_segments known (map (λ s. s.body) ss))
apart known memory end before [] proper passes within = omega (arith, within)
apart known memory end before (s ∷ ss) proper passes within =
    let P : Statement → Type 0 = λ t. IsProperBody t.body in
    let each = first_none (room_test memory end) before s ss passes in
    let place = place_behind end before in
    let moved = data_fits memory place s.body each.0 within in
    let more : data_behind end (before ++ s ∷ []) ≡ data_moved (data_behind end before) s.body =
    ap (λ (p : Place). p.data_end) (place_more end before s) in
    let Q : ℕ → Type 0 = λ from. AreApart (from + 4 * length (words_before_next known (map (λ (t : Statement). t.body) ss))) memory
    (addressed_segments known (map (λ (t : Statement). t.body) ss)) in
    apart_before known memory place s.body (map (λ (t : Statement). t.body) ss) (All-head P s ss proper) each.0
    (subst Q more (apart known memory end (before ++ s ∷ []) ss (All-tail P s ss proper) each.1 (omega (arith, more, moved))))

-- what is apart from an address on is apart from any before it
weaker : (from from' bytes : ℕ) (segments : List SegmentValue) → from ≤ from' → AreApart from' bytes segments → AreApart from bytes segments
weaker from from' bytes [] le are = omega (arith, le, are)
weaker from from' bytes (segment ∷ segments) le are = (are.0, omega (arith, le, are.1), are.2)

pub segments_apart : (known : Addresses) (memory end : ℕ) (ss : List Statement) → AreProper ss
    → first_fault (room_test memory end) [] ss ≡ None → end ≤ memory → end % 4 ≡ 0
    → AreApart end memory (segments_of known end (map (λ s. s.body) ss))
unfolding segments_of data_behind
segments_apart known memory end ss proper passes within at =
    let bodies : List Body = map (λ (s : Statement). s.body) ss in
    let each = apart known memory end [] ss proper passes within in
    elim (goes_on_behind_code bodies) as
    (λ b. AreApart end memory (if b then record { start = end; words = words_before_next known bodies }
    ∷ addressed_segments known bodies else addressed_segments known bodies)) [
      | true ↦ (at, omega arith, each)
      | false ↦ weaker end (end + 4 * length (words_before_next known bodies)) memory (addressed_segments known bodies) (omega arith) each
    ]

few_addressed : (known : Addresses) (bodies : List Body) → length (addressed_segments known bodies) ≤ length bodies
few_addressed known [] = omega arith
few_addressed known (DataAt start ∷ bodies) = omega (arith, few_addressed known bodies)
few_addressed known (other ∷ bodies) = omega (arith, few_addressed known bodies)

pub few_segments : (known : Addresses) (end : ℕ) (bodies : List Body) → length (segments_of known end bodies) ≤ length bodies + 1
unfolding segments_of
few_segments known end bodies =
    let few = few_addressed known bodies in
    elim (goes_on_behind_code bodies) as
    (λ b. length (if b then record { start = end; words = words_before_next known bodies }
    ∷ addressed_segments known bodies else addressed_segments known bodies) ≤ length bodies + 1) [
      | true ↦ omega (arith, few)
      | false ↦ omega (arith, few)
    ]

-- Segments that are apart have no more words than there is memory, and two numbers more each.
pub sizes_within : (from bytes : ℕ) (segments : List SegmentValue) → AreApart from bytes segments
    → from + 4 * sum_by segment_size segments ≤ bytes + 8 * length segments
sizes_within from bytes [] are = omega (arith, are)
sizes_within from bytes (segment ∷ segments) are =
    omega (
      arith,
      are.1,
      sizes_within (segment.start + 4 * length segment.words) bytes segments are.2,
      sum_by-cons segment_size segment segments,
    )
