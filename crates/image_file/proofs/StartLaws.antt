-- How many words memory has at the start, and which states the cores.
use Rattle.std.proofs.Common.{◌≡◌, ℕ, ◌+◌, ◌-◌, ◌*◌, ◌/◌, ◌%◌, ◌≤◌, List, [], ◌∷◌, length, refl, ◌∙◌, ap, subst, arith}
use Rattle.std.specs.Prelude.{◌<◌, Some, slice_get}
use Rattle.std.proofs.lemmas.Grind.{common_steps}
use Rattle.std.proofs.lemmas.Option.{slice_get-get_or}
use Rattle.std.proofs.lemmas.List.FromFn.{get_or-map-range_with_len, length-map-range_with_len}
use Rattle.mips_isa.specs.Steps.{start}
use Rattle.image_file.specs.Value.{ImageValue, SegmentValue, IsGood, AreApart, memory_bytes, with_segment, with_segments, filled}
use Rattle.image_file.specs.Value.{start_memory, start_state, start_states}

pub segment-length : (memory : List ℕ) (s : SegmentValue)
    → length (with_segment memory s) ≡ length memory + ((s.start / 4 - length memory) + length s.words)
segment-length memory s = grind (arith, common_steps)

segment-end : (n start words total : ℕ) → start % 4 ≡ 0 → 4 * n ≤ start → total ≡ n + ((start / 4 - n) + words)
    → start + 4 * words ≡ 4 * total
segment-end n start words total m h e = omega arith

segments-length : (memory : List ℕ) (words : ℕ) (ss : List SegmentValue) → AreApart (4 * length memory) (4 * words) ss
    → length (with_segments memory ss) ≤ words
segments-length memory words [] h = omega arith
segments-length memory words (s ∷ ss) h =
    let P : ℕ → Type 0 = λ from. AreApart from (4 * words) ss in
    segments-length (with_segment memory s) words ss
    (subst P (segment-end (length memory) s.start (length s.words) (length (with_segment memory s)) h.0 h.1 (segment-length memory s)) h.2)

pub filled-length : (words : ℕ) (memory : List ℕ) → length memory ≤ words → length (filled words memory) ≡ words
filled-length words memory h = grind (arith, common_steps)

bytes-words : (lines : ℕ) → 8 * lines ≡ 4 * (2 * lines)
bytes-words lines = omega arith

pub length-start_memory : (image : ImageValue) → IsGood image → length (start_memory image) ≡ 2 * image.memory_lines
unfolding start_memory
length-start_memory image good =
    let P : ℕ → Type 0 = λ bytes. AreApart (4 * length image.code) bytes image.segments in
    filled-length (2 * image.memory_lines) (with_segments image.code image.segments)
    (segments-length image.code (2 * image.memory_lines) image.segments (subst P (bytes-words image.memory_lines) good.apart))

pub bytes-start_memory : (image : ImageValue) → IsGood image → 4 * length (start_memory image) ≡ memory_bytes image
bytes-start_memory image good = let e = length-start_memory image good in omega (arith, e)

pub length-start_states : (image : ImageValue) (cores : ℕ) → length (start_states image cores) ≡ cores
length-start_states image cores = length-map-range_with_len (λ core. start_state image core cores) 0 cores

pub start_states-at : (image : ImageValue) (cores core : ℕ) → core < cores
    → slice_get (start_states image cores) core ≡ Some (start_state image core cores)
start_states-at image cores core within =
    let state = λ (c : ℕ). start_state image c cores in
    let long : core < length (start_states image cores) =
    (let e : length (start_states image cores) ≡ cores = length-start_states image cores in omega arith) in
    slice_get-get_or (start_states image cores) core (state 0) long
    ∙ ap Some (get_or-map-range_with_len state 0 cores core core (state 0) within (omega arith))

pub registers-start_state : (image : ImageValue) (cores core : ℕ) → length (start_state image core cores).regs ≡ 32
unfolding start
registers-start_state image cores core = refl
