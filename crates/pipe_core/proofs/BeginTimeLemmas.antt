-- A begin in IF keeps the timetable.
use Rattle.std.proofs.Common.{◌≡◌, ℕ, ◌+◌, ◌*◌, ◌<◌, ◌≤◌, inl, refl, ap, sym, ◌∙◌, arith, subst, List, length}
use Rattle.std.specs.Prelude.{Option, Some, None}
use Rattle.mips_isa.specs.declared.Instr.{Instr}
use Rattle.mips_isa.specs.Effects.{is_off_code}
use Rattle.pipe_regs.specs.declared.Slot.{Slot}
use Rattle.timetable.specs.declared.rows.TimeRow.{TimeRow}
use Rattle.timetable.specs.Tables.{Timed, prior, IsSoon, Takes}
use Rattle.image_file.specs.Value.{ImageValue}
use Rattle.pipe_core.specs.declared.flight.Flight.{Flight}
use Rattle.pipe_core.specs.declared.flight.Operands.{Operands}
use Rattle.pipe_core.specs.declared.flight.Times.{Times}
use Rattle.pipe_core.specs.Moves.{begun_in}
use Rattle.pipe_core.specs.OnTime.{onto, mem_row, ex_row, id_row, IsOnTime}
use Rattle.pipe_core.specs.Punctual.{last_in}
use Rattle.pipe_core.specs.Steps.{begins}
use Rattle.pipe_core.proofs.OnTimeLemmas.{begin-on_time}
use Rattle.pipe_core.proofs.StageLemmas.{IsReady, AfterD, IsIdle}

module _ (k : Option ℕ) (p : ImageValue) (t : ℕ) (past : List Timed) (left place : ℕ) (held : Option Slot) (ops : Option Operands)
    (word : Option (Option Instr)) where
  prior-f : (id ex mem : Option Slot) (ti tx tm : Times) (r q o : TimeRow) → ti.f ≤ t → tx.f ≤ t → tm.f ≤ t → (prior past).f ≤ t
      → (prior (onto id (id_row ti o) (onto ex (ex_row tx q) (onto mem (mem_row tm r) past)))).f < t + 1
  prior-f (Some x) ex mem ti tx tm r q o a b c d = omega arith
  prior-f None (Some x) mem ti tx tm r q o a b c d = omega arith
  prior-f None None (Some x) ti tx tm r q o a b c d = omega arith
  prior-f None None None ti tx tm r q o a b c d = omega arith

  prior-left : (id ex mem : Option Slot) (ti tx tm : Times) (r q o : TimeRow)
      → (prior (onto id (id_row ti o) (onto ex (ex_row tx q) (onto mem (mem_row tm r) past)))).f ≡ last_in id ex mem ti tx tm past
  prior-left (Some x) ex mem ti tx tm r q o = refl
  prior-left None (Some x) mem ti tx tm r q o = refl
  prior-left None None (Some x) ti tx tm r q o = refl
  prior-left None None None ti tx tm r q o = refl

  begins-so : (f : Flight) (i : Option Instr) → word ≡ Some i → f.fetch ≡ None → IsReady k p t past left place held word f
      → AfterD k p t past left place held ops word f → (r q o : TimeRow)
      → Takes k (onto f.stages.id (id_row f.id_times o)
      (onto f.stages.ex (ex_row f.ex_times q) (onto f.stages.mem (mem_row f.mem_times r) past))) i (t + 1)
  begins-so f i g e ready a r q o =
      let at = prior-left f.stages.id f.stages.ex f.stages.mem f.id_times f.ex_times f.mem_times r q o ∙ ready.left_is in
      let taken = ready.taken e i g in
      record {
        later = prior-f f.stages.id f.stages.ex f.stages.mem f.id_times f.ex_times f.mem_times r q o a.id_below.f a.ex_f a.mem_f
            a.earlier.f;
        off = λ n. ap (λ x. x + 1) (sym (taken.0 n) ∙ sym at);
        soon = (let P : ℕ → Type 0 = λ x. IsSoon k (x + 1) (t + 1) in subst P (sym at) taken.1);
      }

  i-cases : (f : Flight) (w : Option (Option Instr)) (fetch : Option Slot) → word ≡ w → f.fetch ≡ fetch
      → IsReady k p t past left place held word f → AfterD k p t past left place held ops word f
      → AfterD k p t past left place held ops word (begun_in (t + 1) w f fetch) × IsIdle p past left held word (begun_in (t + 1) w f fetch)
  i-cases f w (Some y) g e ready a = (a, record { left_is = ready.left_is; was = λ n. cc; no_word = λ n. cc; on = λ n. cc })
  i-cases f None None g e ready a = (
    a,
    record {
      left_is = ready.left_is;
      was = λ n. sym ready.held_is
          ∙ n;
      no_word = λ n. g;
      on = λ n. ap (λ x. is_off_code (4 * length p.code) x) ready.place_is ∙ ready.idle n g;
    },
  )
  i-cases f (Some i) None g e ready a =
      let P : Option Slot → Type 0 = λ s. IsOnTime k past f.stages.mem f.stages.ex f.stages.id s f.mem_times f.ex_times f.id_times
      f.fetch_times in (
        record {
          timely = begin-on_time k past f.mem_times f.ex_times f.id_times f.fetch_times f.stages.mem f.stages.ex f.stages.id _ (t + 1)
              (begins-so f i g e ready a)
              (subst P e a.timely);
          earlier = a.earlier;
          mem_below = a.mem_below;
          ex_below = a.ex_below;
          mem_f = a.mem_f;
          ex_f = a.ex_f;
          id_below = a.id_below;
          fetch_below = record { i = omega arith; f = omega arith; d = omega arith; e = omega arith };
          mem_now = a.mem_now;
          ex_now = a.ex_now;
          blocked = a.blocked;
          f_due = λ y k l. inl refl;
        },
        record { left_is = ready.left_is; was = λ n. cc; no_word = λ n. cc; on = λ n. cc },
      )

  pub after-i : (f : Flight) → IsReady k p t past left place held word f → AfterD k p t past left place held ops word f
      → AfterD k p t past left place held ops word (begins (t + 1) word f) × IsIdle p past left held word (begins (t + 1) word f)
  unfolding begins
  after-i f ready a = i-cases f word f.fetch refl refl ready a
