-- The cores that run on, and the words that draw them.
use Rattle.std.proofs.Common.{◌≡◌, ℕ, zero, suc, ◌+◌, ◌-◌, ◌*◌, ◌<◌, true, false, Some, None, List, [], ◌∷◌, ◌++◌, length}
use Rattle.std.proofs.Common.{refl, ap, sym, ◌∙◌, subst, append_assoc, append-nil, arith}
use Rattle.std.specs.Prelude.{Option, ◌%◌, cond, not, is_some, is_none, filter, nat_lt, slice_get, slice_index}
use Rattle.std.specs.List.{range_with_len}
use Rattle.std.proofs.lemmas.Bool.{lt-ltb, le-ltb}
use Rattle.std.proofs.lemmas.List.{length-append}
use Rattle.std.proofs.lemmas.List.Elements.{filter-append, filter_passes}
use Rattle.std.proofs.lemmas.Option.{get_or_from_slice_get, slice_get_within}
use Rattle.std_laws.proofs.ListLaws.{slice_get_some, slice_get_at}
use Rattle.std_laws.proofs.RangeLaws.{range_with_len-append, filter-range_with_len_same, false_from_filter-range_with_len}
use Rattle.rand_pcg.specs.Lcg.{Lcg, advance, next}
use Rattle.rand_pcg.specs.Pcg.{multiplier_64, pcg32}
use Rattle.rand_pcg.proofs.LcgLemmas.{advance_zero, advance_more}
use Rattle.timetable.specs.declared.End.{End}
use Rattle.right_run.specs.Seeded.{generator_of, word_of, turns_of, cores_left, drawn}
use Rattle.core_run.specs.declared.serial.CoreSlot.{CoreSlot}
use Rattle.core_run.specs.Seeded.{runs_on, running, IsTotal, AreTotals}

-- Where a core runs on, a slot is there.
pub runs-within : {E : Type 0} (slots : List (CoreSlot E)) (core : ℕ) → runs_on (slice_get slots core) ≡ true → core < length slots
runs-within [] core on = cc
runs-within (s ∷ slots) zero on = omega arith
runs-within (s ∷ slots) (suc core) on = let within = runs-within slots core on in omega (arith, within)

-- A core that is drawn runs on.
pub drawn-runs : {E : Type 0} (slots : List (CoreSlot E)) (word core : ℕ) → drawn word (running slots) ≡ Some core
    → runs_on (slice_get slots core) ≡ true
drawn-runs slots word core got =
    let q = λ (i : ℕ). runs_on (slice_get slots i) in
    let i = word % length (running slots) in
    subst (λ (n : ℕ). q n ≡ true) (get_or_from_slice_get (running slots) i core core got)
    (filter_passes q (range_with_len 0 (length slots)) i core (slice_get_within (running slots) i core got))

module _ {E : Type 0} (slots : List (CoreSlot E)) where
  -- Those of the first so many that run on.
  abbrev pub running_below : ℕ → List ℕ
  running_below n = filter (λ core. runs_on (slice_get slots core)) (range_with_len 0 n)

  below-more : (n : ℕ) → running_below (n + 1) ≡ running_below n ++ cond (runs_on (slice_get slots n)) (n ∷ []) []
  below-more n =
      ap (filter (λ core. runs_on (slice_get slots core))) (range_with_len-append 0 n 1 (n + 1) n (omega arith) (omega arith))
      ∙ filter-append (λ core. runs_on (slice_get slots core)) (range_with_len 0 n) (n ∷ [])

  module _ (core : ℕ) (s : CoreSlot E) (got : slice_get slots core ≡ Some s) where
    runs-here : runs_on (slice_get slots core) ≡ is_none s.end
    runs-here = ap runs_on got

    here-on : is_some s.end ≡ false → runs_on (slice_get slots core) ≡ true
    here-on on = runs-here ∙ ap not on

    -- One more, where it runs on.
    pub count-on : is_some s.end ≡ false → length (running_below (core + 1)) ≡ length (running_below core) + 1
    count-on on = rw (below-more core, here-on on) (length-append (running_below core) (core ∷ []))

    pub count-off : is_some s.end ≡ true → length (running_below (core + 1)) ≡ length (running_below core)
    count-off off = rw (below-more core, runs-here ∙ ap not off) (ap length (append-nil (running_below core)))

    -- Its position is the number of those before it.
    pub position-here : is_some s.end ≡ false → core < length slots → slice_get (running slots) (length (running_below core)) ≡ Some core
    position-here on inside =
        let q = λ (i : ℕ). runs_on (slice_get slots i) in
        let rest = length slots - (core + 1) in
        let whole = range_with_len-append 0 (core + 1) rest (length slots) (core + 1) (omega arith) (omega arith) in
        let all : running slots ≡ (running_below core ++ core ∷ []) ++ filter q (range_with_len (core + 1) rest) =
        ap (filter q) whole ∙ (filter-append q (range_with_len 0 (core + 1)) (range_with_len (core + 1) rest)
        ∙ ap (λ t. t ++ filter q (range_with_len (core + 1) rest)) (below-more core ∙ rw (here-on on) refl)) in
        rw (all, append_assoc (running_below core) (core ∷ []) (filter q (range_with_len (core + 1) rest)))
        (slice_get_at (running_below core) core (filter q (range_with_len (core + 1) rest)) (length (running_below core)) refl)

    -- Where none runs on, it has ended.
    pub none-runs : running slots ≡ [] → core < length slots → s.end ≡ None → ⊥
    none-runs none inside no_end =
        let q = λ (i : ℕ). runs_on (slice_get slots i) in
        let off = sym runs-here ∙ false_from_filter-range_with_len q 0 (length slots) core none (omega arith) (omega arith) in
        let on = ap (is_none {T = End}) no_end in
        cc

-- A core runs on exactly where it has fewer turns than cycles in all.
left-at : (end : Option End) (had turns total : ℕ) → had ≡ turns → IsTotal end had total → nat_lt turns total ≡ is_none end
left-at None had turns total same h = lt-ltb turns total (omega arith)
left-at (Some end) had turns total same h = le-ltb turns total (omega arith)

pub left-running : {E : Type 0} (slots : List (CoreSlot E)) (turns totals : List ℕ)
    → ((core : ℕ) (s : CoreSlot E) → slice_get slots core ≡ Some s → s.cycles ≡ turns_of core turns)
    → AreTotals slots totals → cores_left totals turns ≡ running slots
left-running {E} slots turns totals cycles h =
    let p = λ (core : ℕ). nat_lt (turns_of core turns) (slice_index totals core) in
    let q = λ (core : ℕ). runs_on (slice_get slots core) in
    ap (λ n. filter p (range_with_len 0 n)) h.count
    ∙ filter-range_with_len_same p q 0 (length slots) (λ core low high.
    (let s = slice_get_some slots core (omega arith) in
    left-at s.0.end s.0.cycles (turns_of core turns) (slice_index totals core) (cycles core s.0 s.1) (h.each core s.0 s.1)
    ∙ sym (ap runs_on s.1)))

-- A word more.
advance-next : (w m n : ℕ) (g : Lcg) → next w m (advance w m n g) ≡ advance w m (n + 1) g
advance-next w m zero g = ap (next w m) (advance_zero w m g) ∙ (sym (advance_zero w m (next w m g)) ∙ advance_more w m 0 g)
advance-next w m (suc n) g =
    let one : suc n ≡ n + 1 = omega arith in
    let two : suc n + 1 ≡ (n + 1) + 1 = omega arith in
    rw (two, one) (ap (next w m) (sym (advance_more w m n g)) ∙ (advance-next w m n (next w m g) ∙ advance_more w m (n + 1) g))

abbrev words_behind : ℕ → ℕ → Lcg
words_behind seed n = advance 64 multiplier_64 n (generator_of seed)

-- The two words of a turn, where so many turns are had.
pub words-more : (seed n : ℕ) (words later last : Lcg) (choice : ℕ) → words ≡ words_behind seed (2 * n) → later ≡ (pcg32 words).1
    → (choice, last) ≡ pcg32 later → (choice ≡ word_of seed (2 * n + 1)) × (last ≡ words_behind seed (2 * (n + 1)))
words-more seed n words later last choice at took chose =
    let between : later ≡ words_behind seed (2 * n + 1) =
    took ∙ (ap (next 64 multiplier_64) at ∙ advance-next 64 multiplier_64 (2 * n) (generator_of seed)) in
    let all : (2 * n + 1) + 1 ≡ 2 * (n + 1) = omega arith in (
      ap (λ (p : ℕ × Lcg). p.0) chose ∙ ap (λ (g : Lcg). (pcg32 g).0) between,
      ap (λ (p : ℕ × Lcg). p.1) chose ∙ (ap (next 64 multiplier_64) between
          ∙ (advance-next 64 multiplier_64 (2 * n + 1) (generator_of seed) ∙ ap (words_behind seed) all)),
    )
