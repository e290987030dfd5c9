-- The spelling of a good image is read as that image.
use Rattle.std.proofs.Common.{◌≡◌, ℕ, suc, ◌+◌, ◌*◌, ◌%◌, ◌^◌, ◌<◌, ◌≤◌, Bool, true, false, ◌==◌, ◌&&◌, not, nat_le, List, [], ◌∷◌, ◌++◌}
use Rattle.std.proofs.Common.{length, Ok, refl, sym, ap, ◌∙◌, append_assoc, arith}
use Rattle.std.specs.Option.{IsSome}
use Rattle.std.specs.List.{flat_map, AllByRecursion}
use Rattle.std.specs.Int.{w32, to_le_bytes}
use Rattle.std.proofs.lemmas.Bool.{le-leb}
use Rattle.std.proofs.lemmas.Bool.Decides.{nat_tests}
use Rattle.std.proofs.lemmas.List.{append-nil}
use Rattle.std.proofs.lemmas.List.Concat.{flat_map-append}
use Rattle.std.proofs.lemmas.List.Elements.{recursion_from_All}
use Rattle.std.proofs.lemmas.Nat.{from_le_bytes-to_le_bytes_4}
use Rattle.std_laws.proofs.ListLaws.{AllByRecursion-parts, AllByRecursion-weaker}
use Rattle.mips_isa.specs.Fields.{instr_of}
use Rattle.image_file.specs.Value.{ImageValue, SegmentValue, segment_numbers, image_numbers, image_bytes, memory_bytes, IsNumber, AreApart}
use Rattle.image_file.specs.Value.{IsGood}
use Rattle.image_file.specs.Reading.{number_in, magic_in, lines_in, code_count_in, may_stand, word_in, words_in, fits, segment_in, end_of}
use Rattle.image_file.specs.Reading.{segments_in, image_in, image_meaning}
use Rattle.image_file.proofs.SpellingLaws.{number_bytes}
use Rattle.image_file.proofs.NumberLaws.{apart_within}

abbrev AreNumbers : List ℕ → Type 0
AreNumbers numbers = AllByRecursion IsNumber numbers

bytes_apart : (numbers more rest : List ℕ) → number_bytes (numbers ++ more) ++ rest ≡ number_bytes numbers ++ (number_bytes more ++ rest)
bytes_apart numbers more rest =
    ap (λ front. front ++ rest) (flat_map-append (to_le_bytes w32) numbers more)
    ∙ append_assoc (number_bytes numbers) (number_bytes more) rest

number_back : (n : ℕ) (rest : List ℕ) → IsNumber n → number_in (to_le_bytes w32 n ++ rest) ≡ Ok (n, rest)
number_back n rest is = ap (λ m. Ok (m, rest)) (from_le_bytes-to_le_bytes_4 n is)

word_from : (test : ℕ → Bool) (word : ℕ) (bytes rest : List ℕ) → number_in bytes ≡ Ok (word, rest) → test word ≡ true
    → word_in test bytes ≡ Ok (word, rest)
unfolding word_in
word_from test word bytes rest read passes = rw (read, passes) refl

words_back : (test : ℕ → Bool) (words rest : List ℕ) → AreNumbers words → AllByRecursion (λ word. test word ≡ true) words
    → words_in test (length words) (number_bytes words ++ rest) ≡ Ok (words, rest)
unfolding words_in
words_back test [] rest are pass = refl
words_back test (word ∷ words) rest are pass =
    let others = number_bytes words ++ rest in
    rw (
      word_from test word (to_le_bytes w32 word ++ others) others (number_back word others are.0) pass.0,
      words_back test words rest are.1 pass.1,
    ) refl

room_passes : (memory start count : ℕ) → start % 4 ≡ 0 → start + 4 * count ≤ memory → fits memory start count ≡ true
room_passes memory start count aligned within = grind (arith, nat_tests)

segment_from : (memory end : ℕ) (segment : SegmentValue) (bytes behind words rest : List ℕ)
    → number_in bytes ≡ Ok (segment.start, behind) → number_in behind ≡ Ok (length segment.words, words)
    → words_in (may_stand false) (length segment.words) words ≡ Ok (segment.words, rest)
    → fits memory segment.start (length segment.words) ≡ true → nat_le end segment.start ≡ true
    → segment_in memory end bytes ≡ Ok (segment, rest)
unfolding segment_in
segment_from memory end segment bytes behind words rest start count others fitting from = rw (start, count, fitting, from, others) refl

segment_back : (memory end : ℕ) (segment : SegmentValue) (rest : List ℕ) → segment.start % 4 ≡ 0 → end ≤ segment.start
    → end_of segment ≤ memory → AreNumbers (segment_numbers segment)
    → segment_in memory end (number_bytes (segment_numbers segment) ++ rest) ≡ Ok (segment, rest)
segment_back memory end segment rest aligned from within are =
    let words = number_bytes segment.words ++ rest in
    let behind = to_le_bytes w32 (length segment.words) ++ words in
    segment_from memory end segment (to_le_bytes w32 segment.start ++ behind) behind words rest
    (number_back segment.start behind are.0)
    (number_back (length segment.words) words are.1.0)
    (words_back (may_stand false) segment.words rest are.1.1 (AllByRecursion-weaker IsNumber _ (λ word is. refl) segment.words are.1.1))
    (room_passes memory segment.start (length segment.words) aligned within)
    (le-leb end segment.start from)

segments_back : (memory end : ℕ) (segments : List SegmentValue) (rest : List ℕ) → AreApart end memory segments
    → AreNumbers (flat_map segment_numbers segments)
    → segments_in memory end (length segments) (number_bytes (flat_map segment_numbers segments) ++ rest) ≡ Ok (segments, rest)
unfolding segments_in
segments_back memory end [] rest apart are = refl
segments_back memory end (segment ∷ segments) rest apart are =
    let numbers = flat_map segment_numbers segments in
    let both = AllByRecursion-parts IsNumber (segment_numbers segment) numbers are in
    let within = apart_within (end_of segment) memory segments apart.2 in
    let first = segment_back memory end segment (number_bytes numbers ++ rest) apart.0 apart.1 within both.0 in
    let others = segments_back memory (end_of segment) segments rest apart.2 both.1 in
    ap (segments_in memory end (suc (length segments))) (bytes_apart (segment_numbers segment) numbers rest) ∙ rw (first, others) refl

magic_back : (rest : List ℕ) → magic_in (to_le_bytes w32 0x31504d4b ++ rest) ≡ Ok rest
unfolding magic_in
magic_back rest = refl

lines_pass : (lines : ℕ) → 2 ≤ lines → lines ≤ 2 ^ 21 → (nat_le 2 lines && nat_le lines (2 ^ 21)) ≡ true
lines_pass lines low high = grind (arith, nat_tests)

lines_from : (lines : ℕ) (bytes rest : List ℕ) → number_in bytes ≡ Ok (lines, rest) → 2 ≤ lines → lines ≤ 2 ^ 21
    → lines_in bytes ≡ Ok (lines, rest)
unfolding lines_in
lines_from lines bytes rest read low high = rw (read, lines_pass lines low high) refl

even_passes : (count : ℕ) → 0 < count → count % 2 ≡ 0 → (not (count == 0) && (count % 2 == 0)) ≡ true
even_passes count some even = grind (arith, nat_tests)

few_pass : (memory count : ℕ) → count ≤ 2 ^ 16 → 4 * count ≤ memory → (nat_le count (2 ^ 16) && nat_le (4 * count) memory) ≡ true
few_pass memory count few within = grind (arith, nat_tests)

code_count_from : (memory count : ℕ) (bytes rest : List ℕ) → number_in bytes ≡ Ok (count, rest) → 0 < count → count % 2 ≡ 0 → count ≤ 2 ^ 16
    → 4 * count ≤ memory → code_count_in memory bytes ≡ Ok (count, rest)
unfolding code_count_in
code_count_from memory count bytes rest read some even few within =
    rw (read, even_passes count some even, few_pass memory count few within) refl

instructions_pass : (words : List ℕ) → AllByRecursion (λ word. IsSome (instr_of word)) words
    → AllByRecursion (λ word. may_stand true word ≡ true) words
instructions_pass words each =
    AllByRecursion-weaker (λ word. IsSome (instr_of word)) (λ word. may_stand true word ≡ true) (λ word is. is) words each

image_from : (image : ImageValue) (bytes lines count segment_count code segments : List ℕ)
    → magic_in bytes ≡ Ok lines → lines_in lines ≡ Ok (image.memory_lines, count)
    → code_count_in (memory_bytes image) count ≡ Ok (length image.code, segment_count)
    → number_in segment_count ≡ Ok (length image.segments, code)
    → words_in (may_stand true) (length image.code) code ≡ Ok (image.code, segments)
    → segments_in (memory_bytes image) (4 * length image.code) (length image.segments) segments ≡ Ok (image.segments, [])
    → image_in bytes ≡ Ok image
unfolding image_in
image_from image bytes lines count segment_count code segments e1 e2 e3 e4 e5 e6 = rw (e1, e2, e3, e4, e5, e6) refl

image_back : (image : ImageValue) → IsGood image → image_in (number_bytes (image_numbers image)) ≡ Ok image
image_back image good =
    let are = good.numbers in
    let others = flat_map segment_numbers image.segments in
    let both = AllByRecursion-parts IsNumber image.code others are.1.1.1.1 in
    let segments = number_bytes others ++ [] in
    let code = number_bytes (image.code ++ others) in
    let segment_count = to_le_bytes w32 (length image.segments) ++ code in
    let count = to_le_bytes w32 (length image.code) ++ segment_count in
    let lines = to_le_bytes w32 image.memory_lines ++ count in
    let within = apart_within (4 * length image.code) (memory_bytes image) image.segments good.apart in
    let instructions = instructions_pass image.code (recursion_from_All (λ word. IsSome (instr_of word)) image.code good.code) in
    let words : code ≡ number_bytes image.code ++ segments = sym (append-nil code) ∙ bytes_apart image.code others [] in
    image_from image (to_le_bytes w32 0x31504d4b ++ lines) lines count segment_count code segments
    (magic_back lines)
    (lines_from image.memory_lines lines count (number_back image.memory_lines count are.1.0) good.two_lines good.lines)
    (code_count_from (memory_bytes image) (length image.code) count segment_count (number_back (length image.code) segment_count are.1.1.0)
    good.some_code good.even_code good.code_words within)
    (number_back (length image.segments) code are.1.1.1.0)
    (ap (words_in (may_stand true) (length image.code)) words ∙ words_back (may_stand true) image.code segments both.0 instructions)
    (segments_back (memory_bytes image) (4 * length image.code) image.segments [] good.apart both.1)

pub spelling_is_read : (image : ImageValue) → IsGood image → image_meaning (image_bytes image) ≡ Ok image
unfolding image_bytes
spelling_is_read image good = rw (image_back image good) refl
