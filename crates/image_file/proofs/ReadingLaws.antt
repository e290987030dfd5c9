-- Only the spelling of a good image is read as an image.
use Rattle.std.proofs.Common.{◌≡◌, ℕ, zero, suc, ◌+◌, ◌*◌, ◌%◌, ◌^◌, ◌<◌, ◌≤◌, Bool, true, false, ◌==◌, ◌&&◌, not, nat_le, List, [], ◌∷◌}
use Rattle.std.proofs.Common.{◌++◌, length, slice_index, Result, Ok, Err, refl, sym, ap, subst, ◌∙◌, append_assoc, lit<, arith}
use Rattle.std.specs.Prelude.{MatchResult}
use Rattle.std.specs.Option.{IsSome}
use Rattle.std.specs.List.{flat_map, AllByRecursion}
use Rattle.std.specs.Int.{w32, to_le_bytes, from_le_bytes}
use Rattle.std.proofs.lemmas.Bool.Decides.{nat_tests}
use Rattle.std.proofs.lemmas.Bool.{eqb-true, leb-true}
use Rattle.std.proofs.lemmas.List.{append-nil, nil_from_length}
use Rattle.std.proofs.lemmas.List.Concat.{flat_map-append}
use Rattle.std.proofs.lemmas.List.Elements.{All-from_recursion}
use Rattle.std.proofs.lemmas.Nat.{le_bytes_4}
use Rattle.std_laws.proofs.ListLaws.{AllByRecursion-append, AllByRecursion-weaker}
use Rattle.mips_isa.specs.Fields.{instr_of}
use Rattle.mips_isa.specs.Steps.{IsCode}
use Rattle.image_file.specs.declared.fault.ImageCause.{ImageCause}
use Rattle.image_file.specs.Value.{ImageValue, SegmentValue, segment_numbers, image_numbers, image_bytes, memory_bytes, IsNumber, AreApart}
use Rattle.image_file.specs.Value.{IsGood}
use Rattle.kmp_base.specs.Bind.{◌>>=◌}
use Rattle.kmp_base.proofs.ReadingLaws.{match_holds}
use Rattle.image_file.specs.Reading.{Fault, judged, number_in, magic_in, lines_in, code_count_in, may_stand, word_in, words_in, fits}
use Rattle.image_file.specs.Reading.{segment_in, end_of, segments_in, image_in}
use Rattle.image_file.proofs.SpellingLaws.{number_bytes}

-- each is a byte
abbrev pub AreBytes : List ℕ → Type 0
AreBytes bytes = (i : ℕ) → slice_index bytes i < 256

-- Bytes that are left of so many.
record Left (size : ℕ) (bytes : List ℕ) : Type 0 where
  pub are : AreBytes bytes
  pub most : length bytes ≤ size

-- Numbers were read at the front of bytes, and these are left.
record Spelled (size : ℕ) (numbers bytes rest : List ℕ) : Type 0 where
  pub front : bytes ≡ number_bytes numbers ++ rest
  pub fit : AllByRecursion IsNumber numbers
  pub behind : Left size rest

then_spelled : (size : ℕ) (numbers more bytes middle rest : List ℕ) → Spelled size numbers bytes middle → Spelled size more middle rest
    → Spelled size (numbers ++ more) bytes rest
then_spelled size numbers more bytes middle rest first next = record {
  front =
      first.front
      ∙ ap (λ left. number_bytes numbers ++ left) next.front
      ∙ sym (append_assoc (number_bytes numbers) (number_bytes more) rest)
      ∙ ap (λ front. front ++ rest) (sym (flat_map-append (to_le_bytes w32) numbers more));
  fit = AllByRecursion-append IsNumber numbers more first.fit next.fit;
  behind = next.behind;
}

-- the field at fault is one of so many bytes
abbrev Within : ℕ → Fault → Type 0
Within size fault = fault.1 ≤ size

-- what holds of what is read, and where a fault can be
abbrev Reads : {A : Type 0} → ℕ → (A → Type 0) → Result A Fault → Type 0
Reads size P read = MatchResult read P (Within size)

-- behind a test
if_passed : {B : Type 0} (size : ℕ) (Q : B → Type 0) (passes : Bool) (cause : ImageCause) (bytes : List ℕ) (next : Result B Fault)
    → Left size bytes → (passes ≡ true → Reads size Q next) → Reads size Q (judged passes cause bytes >>= λ _. next)
if_passed size Q true cause bytes next left goes_on = goes_on refl
if_passed size Q false cause bytes next left goes_on = left.most

-- the front of bytes
four_bytes : (a b c d : ℕ) (rest : List ℕ) → AreBytes (a ∷ b ∷ c ∷ d ∷ rest) → AreBytes (a ∷ b ∷ c ∷ d ∷ [])
four_bytes a b c d rest are zero = are 0
four_bytes a b c d rest are (suc zero) = are 1
four_bytes a b c d rest are (suc (suc zero)) = are 2
four_bytes a b c d rest are (suc (suc (suc zero))) = are 3
four_bytes a b c d rest are (suc (suc (suc (suc i)))) = lit< tt

number_read : (size : ℕ) (bytes : List ℕ) → Left size bytes → Reads size (λ n. Spelled size (n.0 ∷ []) bytes n.1) (number_in bytes)
number_read size [] left = left.most
number_read size (a ∷ []) left = left.most
number_read size (a ∷ b ∷ []) left = left.most
number_read size (a ∷ b ∷ c ∷ []) left = left.most
number_read size (a ∷ b ∷ c ∷ d ∷ rest) left =
    let four = a ∷ b ∷ c ∷ d ∷ [] in
    record {
      front = ap (λ front. front ++ rest) (sym (le_bytes_4 four (from_le_bytes w32 four) refl (four_bytes a b c d rest left.are) refl));
      fit = (omega (arith, left.are 0, left.are 1, left.are 2, left.are 3), tt);
      behind = record { are = λ i. left.are (suc (suc (suc (suc i)))); most = omega arith };
    }

word_read : (size : ℕ) (test : ℕ → Bool) (bytes : List ℕ) → Left size bytes
    → Reads size (λ word. (test word.0 ≡ true) × Spelled size (word.0 ∷ []) bytes word.1) (word_in test bytes)
unfolding word_in
word_read size test bytes left =
    match_holds (number_in bytes) _ _ _ (Within size) (number_read size bytes left) (λ word spelled.
    if_passed size _ (test word.0) _ bytes _ left (λ passes. (passes, spelled)))

-- Words that passed their test.
record WordsRead (size : ℕ) (test : ℕ → Bool) (count : ℕ) (words bytes rest : List ℕ) : Type 0 where
  pub len : length words ≡ count
  pub pass : AllByRecursion (λ word. test word ≡ true) words
  pub spelled : Spelled size words bytes rest

words_read : (size : ℕ) (test : ℕ → Bool) (count : ℕ) (bytes : List ℕ) → Left size bytes
    → Reads size (λ words. WordsRead size test count words.0 bytes words.1) (words_in test count bytes)
unfolding words_in
words_read size test zero bytes left = record { len = refl; pass = tt; spelled = record { front = refl; fit = tt; behind = left } }
words_read size test (suc count) bytes left =
    match_holds (word_in test bytes) _ _ _ (Within size) (word_read size test bytes left) (λ word first.
    match_holds (words_in test count word.1) _ _ _ (Within size) (words_read size test count word.1 first.1.behind) (λ others next. record {
      len = ap suc next.len;
      pass = (first.0, next.pass);
      spelled = then_spelled size (word.0 ∷ []) others.0 bytes word.1 others.1 first.1 next.spelled;
    }))

-- A segment that has room behind an end.
record SegmentRead (size memory end : ℕ) (segment : SegmentValue) (bytes rest : List ℕ) : Type 0 where
  pub aligned : segment.start % 4 ≡ 0
  pub from : end ≤ segment.start
  pub within : end_of segment ≤ memory
  pub spelled : Spelled size (segment_numbers segment) bytes rest

has_room : (memory start count : ℕ) → fits memory start count ≡ true → (start % 4 ≡ 0) × (start + 4 * count ≤ memory)
has_room memory start count passes = grind (arith, nat_tests)

segment_read : (size memory end : ℕ) (bytes : List ℕ) → Left size bytes
    → Reads size (λ segment. SegmentRead size memory end segment.0 bytes segment.1) (segment_in memory end bytes)
unfolding segment_in
segment_read size memory end bytes left =
    match_holds (number_in bytes) _ _ _ (Within size) (number_read size bytes left) (λ start first.
    match_holds (number_in start.1) _ _ _ (Within size) (number_read size start.1 first.behind) (λ count second.
    if_passed size _ (fits memory start.0 count.0) _ bytes _ left (λ fitting.
    if_passed size _ (nat_le end start.0) _ bytes _ left (λ behind.
    match_holds (words_in (may_stand false) count.0 count.1) _ _ _ (Within size)
    (words_read size (may_stand false) count.0 count.1 second.behind)
    (λ words third.
    let room = has_room memory start.0 count.0 fitting in
    record {
      aligned = room.0;
      from = leb-true end start.0 behind;
      within = rw third.len room.1;
      spelled = rw third.len
          (then_spelled size (start.0 ∷ []) (count.0 ∷ words.0) bytes start.1 words.1 first
          (then_spelled size (count.0 ∷ []) words.0 start.1 count.1 words.1 second third.spelled));
    })))))

-- Segments that stand one behind the other.
record SegmentsRead (size memory end count : ℕ) (segments : List SegmentValue) (bytes rest : List ℕ) : Type 0 where
  pub len : length segments ≡ count
  pub apart : AreApart end memory segments
  pub spelled : Spelled size (flat_map segment_numbers segments) bytes rest

segments_read : (size memory end count : ℕ) (bytes : List ℕ) → end ≤ memory → Left size bytes
    → Reads size (λ segments. SegmentsRead size memory end count segments.0 bytes segments.1) (segments_in memory end count bytes)
unfolding segments_in
segments_read size memory end zero bytes within left =
    record { len = refl; apart = within; spelled = record { front = refl; fit = tt; behind = left } }
segments_read size memory end (suc count) bytes within left =
    match_holds (segment_in memory end bytes) _ _ _ (Within size) (segment_read size memory end bytes left) (λ segment first.
    match_holds (segments_in memory (end_of segment.0) count segment.1) _ _ _ (Within size)
    (segments_read size memory (end_of segment.0) count segment.1 first.within first.spelled.behind) (λ others next. record {
      len = ap suc next.len;
      apart = (first.aligned, first.from, next.apart);
      spelled = then_spelled size (segment_numbers segment.0) (flat_map segment_numbers others.0) bytes segment.1 others.1 first.spelled
          next.spelled;
    }))

magic_read : (size : ℕ) (bytes : List ℕ) → Left size bytes → Reads size (λ rest. Spelled size (0x31504d4b ∷ []) bytes rest) (magic_in bytes)
unfolding magic_in
magic_read size bytes left =
    match_holds (number_in bytes) _ _ _ (Within size) (number_read size bytes left) (λ magic spelled.
    if_passed size _ (magic.0 == 0x31504d4b) _ bytes _ left (λ passes.
    subst (λ (n : ℕ). Spelled size (n ∷ []) bytes magic.1) (eqb-true magic.0 0x31504d4b passes) spelled))

are_lines : (lines : ℕ) → (nat_le 2 lines && nat_le lines (2 ^ 21)) ≡ true → (2 ≤ lines) × (lines ≤ 2 ^ 21)
are_lines lines passes = grind (arith, nat_tests)

lines_read : (size : ℕ) (bytes : List ℕ) → Left size bytes
    → Reads size (λ lines. ((2 ≤ lines.0) × (lines.0 ≤ 2 ^ 21)) × Spelled size (lines.0 ∷ []) bytes lines.1) (lines_in bytes)
unfolding lines_in
lines_read size bytes left =
    match_holds (number_in bytes) _ _ _ (Within size) (number_read size bytes left) (λ lines spelled.
    if_passed size _ (nat_le 2 lines.0 && nat_le lines.0 (2 ^ 21)) _ bytes _ left (λ passes. (are_lines lines.0 passes, spelled)))

-- A number of code words that has room.
record IsCodeCount (memory count : ℕ) : Type 0 where
  pub some : 0 < count
  pub even : count % 2 ≡ 0
  pub few : count ≤ 2 ^ 16
  pub within : 4 * count ≤ memory

is_even : (count : ℕ) → (not (count == 0) && (count % 2 == 0)) ≡ true → (0 < count) × (count % 2 ≡ 0)
is_even count passes = grind (arith, nat_tests)

are_few : (memory count : ℕ) → (nat_le count (2 ^ 16) && nat_le (4 * count) memory) ≡ true → (count ≤ 2 ^ 16) × (4 * count ≤ memory)
are_few memory count passes = grind (arith, nat_tests)

code_count_read : (size memory : ℕ) (bytes : List ℕ) → Left size bytes
    → Reads size (λ count. IsCodeCount memory count.0 × Spelled size (count.0 ∷ []) bytes count.1) (code_count_in memory bytes)
unfolding code_count_in
code_count_read size memory bytes left =
    match_holds (number_in bytes) _ _ _ (Within size) (number_read size bytes left) (λ count spelled.
    if_passed size _ (not (count.0 == 0) && (count.0 % 2 == 0)) _ bytes _ left (λ even_passes.
    if_passed size _ (nat_le count.0 (2 ^ 16) && nat_le (4 * count.0) memory) _ bytes _ left (λ few_passes.
    let even = is_even count.0 even_passes in
    let few = are_few memory count.0 few_passes in
    (record { some = even.0; even = even.1; few = few.0; within = few.1 }, spelled))))

-- A good image, whose numbers left all that bytes left.
record ImageRead (size : ℕ) (image : ImageValue) (bytes : List ℕ) : Type 0 where
  pub lines : (2 ≤ image.memory_lines) × (image.memory_lines ≤ 2 ^ 21)
  pub count : IsCodeCount (memory_bytes image) (length image.code)
  pub code : AllByRecursion (λ word. may_stand true word ≡ true) image.code
  pub apart : AreApart (4 * length image.code) (memory_bytes image) image.segments
  pub spelled : Spelled size (image_numbers image) bytes []

image_read : (size : ℕ) (bytes : List ℕ) → Left size bytes → Reads size (λ image. ImageRead size image bytes) (image_in bytes)
unfolding image_in
image_read size bytes left =
    match_holds (magic_in bytes) _ _ _ (Within size) (magic_read size bytes left) (λ behind magic.
    match_holds (lines_in behind) _ _ _ (Within size) (lines_read size behind magic.behind) (λ lines second.
    match_holds (code_count_in (8 * lines.0) lines.1) _ _ _ (Within size) (code_count_read size (8 * lines.0) lines.1 second.1.behind)
    (λ count third.
    match_holds (number_in count.1) _ _ _ (Within size) (number_read size count.1 third.1.behind) (λ segment_count fourth.
    match_holds (words_in (may_stand true) count.0 segment_count.1) _ _ _ (Within size)
    (words_read size (may_stand true) count.0 segment_count.1 fourth.behind) (λ code words.
    match_holds (segments_in (8 * lines.0) (4 * count.0) segment_count.0 code.1) _ _ _ (Within size)
    (segments_read size (8 * lines.0) (4 * count.0) segment_count.0 code.1 third.0.within words.spelled.behind) (λ segments others.
    if_passed size _ (length segments.1 == 0) _ segments.1 _ others.spelled.behind (λ ends.
    let none = nil_from_length segments.1 (eqb-true (length segments.1) 0 ends) in
    let numbers = code.0 ++ flat_map segment_numbers segments.0 in
    let all =
    then_spelled size (0x31504d4b ∷ []) (lines.0 ∷ count.0 ∷ segment_count.0 ∷ numbers) bytes behind segments.1 magic
    (then_spelled size (lines.0 ∷ []) (count.0 ∷ segment_count.0 ∷ numbers) behind lines.1 segments.1 second.1
    (then_spelled size (count.0 ∷ []) (segment_count.0 ∷ numbers) lines.1 count.1 segments.1 third.1
    (then_spelled size (segment_count.0 ∷ []) numbers count.1 segment_count.1 segments.1 fourth
    (then_spelled size code.0 (flat_map segment_numbers segments.0) segment_count.1 code.1 segments.1 words.spelled others.spelled)))) in
    record {
      lines = second.0;
      count = rw words.len third.0;
      code = words.pass;
      apart = rw words.len others.apart;
      spelled = rw (words.len, others.len)
          (subst (Spelled size (0x31504d4b ∷ lines.0 ∷ count.0 ∷ segment_count.0 ∷ numbers) bytes) none all);
    })))))))

-- all bytes are left
whole : (bytes : List ℕ) → AreBytes bytes → Left (length bytes) bytes
whole bytes are = record { are = are; most = omega arith }

read_as : (bytes : List ℕ) (image : ImageValue) → AreBytes bytes → image_in bytes ≡ Ok image → ImageRead (length bytes) image bytes
read_as bytes image are read = rw read at (image_read (length bytes) bytes (whole bytes are))

pub fault_within : (bytes : List ℕ) (cause : ImageCause) (left : ℕ) → AreBytes bytes → image_in bytes ≡ Err (cause, left)
    → left ≤ length bytes
fault_within bytes cause left are read = rw read at (image_read (length bytes) bytes (whole bytes are))

pub only_spelling : (bytes : List ℕ) (image : ImageValue) → AreBytes bytes → image_in bytes ≡ Ok image → bytes ≡ image_bytes image
unfolding image_bytes
only_spelling bytes image are read =
    (read_as bytes image are read).spelled.front ∙ append-nil (number_bytes (image_numbers image))

are_instructions : (words : List ℕ) → AllByRecursion (λ word. may_stand true word ≡ true) words → IsCode words
are_instructions words each =
    All-from_recursion (λ word. IsSome (instr_of word)) words
    (AllByRecursion-weaker (λ word. may_stand true word ≡ true) (λ word. IsSome (instr_of word)) (λ word is. is) words each)

pub good_image : (bytes : List ℕ) (image : ImageValue) → AreBytes bytes → length bytes < 2 ^ 32 → image_in bytes ≡ Ok image → IsGood image
good_image bytes image are few read =
    let parts = read_as bytes image are read in
    record {
      two_lines = parts.lines.0;
      lines = parts.lines.1;
      some_code = parts.count.some;
      even_code = parts.count.even;
      code_words = parts.count.few;
      code = are_instructions image.code parts.code;
      apart = parts.apart;
      few_bytes = subst (λ (b : List ℕ). length b < 2 ^ 32) (only_spelling bytes image are read) few;
      numbers = parts.spelled.fit;
    }
