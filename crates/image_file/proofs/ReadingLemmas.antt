-- Words and segments that are read one after the other.
use Rattle.std.proofs.Common.{◌≡◌, ℕ, suc, Bool, List, [], ◌∷◌, ◌++◌, Result, Ok, refl}
use Rattle.kmp_base.specs.declared.fault.Fault.{Fault}
use Rattle.kmp_base.specs.Gives.{Fails}
use Rattle.kmp_base.proofs.ReadingLaws.{with_front_and_rest, all_read_and_rest, first_and_more, first_is_read, first_fails}
use Rattle.image_file.specs.declared.fault.ImageCause.{ImageCause}
use Rattle.image_file.specs.Value.{SegmentValue}
use Rattle.image_file.specs.Reading.{word_in, words_in, segment_in, segments_in, end_of}

-- ---- words

module _ (test : ℕ → Bool) (front : List ℕ) (left more : ℕ) (bytes : List ℕ) (total : Result (List ℕ × List ℕ) (ImageCause × ℕ))
    (one_more : left ≡ suc more) (so_far : with_front_and_rest front (words_in test left bytes) ≡ total) where
  word_first : words_in test left bytes ≡ first_and_more (λ word. word.0 ∷ []) (word_in test bytes) (λ word. words_in test more word.1)
  unfolding words_in
  word_first = rw one_more refl

  pub words_go_on : (word : ℕ) (rest : List ℕ) → word_in test bytes ≡ Ok (word, rest)
      → with_front_and_rest (front ++ word ∷ []) (words_in test more rest) ≡ total
  words_go_on word rest read =
      first_is_read (λ w. w.0 ∷ []) (word_in test bytes) (λ w. words_in test more w.1) _ total front (word, rest) word_first read so_far

  pub words_end : (fault : Fault (ImageCause × ℕ)) → Fails fault (word_in test bytes) → Fails fault total
  words_end fault fails =
      first_fails (λ cause. cause) fault (λ w. w.0 ∷ []) (word_in test bytes) (λ w. words_in test more w.1) _ total front word_first fails
      so_far

pub words_done : (test : ℕ → Bool) (front : List ℕ) (left : ℕ) (rest : List ℕ) (total : Result (List ℕ × List ℕ) (ImageCause × ℕ))
    → left ≡ 0 → with_front_and_rest front (words_in test left rest) ≡ total → total ≡ Ok (front, rest)
unfolding words_in
words_done test front left rest total none so_far = all_read_and_rest front rest total (rw none at so_far)

-- ---- segments

module _ (memory end : ℕ) (front : List SegmentValue) (left more : ℕ) (bytes : List ℕ)
    (total : Result (List SegmentValue × List ℕ) (ImageCause × ℕ)) (one_more : left ≡ suc more)
    (so_far : with_front_and_rest front (segments_in memory end left bytes) ≡ total) where
  segment_first : segments_in memory end left bytes
      ≡ first_and_more (λ s. s.0 ∷ []) (segment_in memory end bytes) (λ s. segments_in memory (end_of s.0) more s.1)
  unfolding segments_in
  segment_first = rw one_more refl

  pub segments_go_on : (segment : SegmentValue) (rest : List ℕ) → segment_in memory end bytes ≡ Ok (segment, rest)
      → with_front_and_rest (front ++ segment ∷ []) (segments_in memory (end_of segment) more rest) ≡ total
  segments_go_on segment rest read =
      first_is_read (λ s. s.0 ∷ []) (segment_in memory end bytes) (λ s. segments_in memory (end_of s.0) more s.1) _ total front
      (segment, rest) segment_first read so_far

  pub segments_end : (fault : Fault (ImageCause × ℕ)) → Fails fault (segment_in memory end bytes) → Fails fault total
  segments_end fault fails =
      first_fails (λ cause. cause) fault (λ s. s.0 ∷ []) (segment_in memory end bytes) (λ s. segments_in memory (end_of s.0) more s.1) _
      total front segment_first fails so_far

pub segments_done : (memory end : ℕ) (front : List SegmentValue) (left : ℕ) (rest : List ℕ)
    (total : Result (List SegmentValue × List ℕ) (ImageCause × ℕ)) → left ≡ 0
    → with_front_and_rest front (segments_in memory end left rest) ≡ total → total ≡ Ok (front, rest)
unfolding segments_in
segments_done memory end front left rest total none so_far = all_read_and_rest front rest total (rw none at so_far)
