-- The move of ID keeps the timetable.
use Rattle.std.proofs.Common.{◌≡◌, ℕ, ◌+◌, inr, refl, ap, sym, ◌∙◌, arith, subst, List}
use Rattle.std.specs.Prelude.{Option, Some, None}
use Rattle.mips_isa.specs.declared.Instr.{Instr}
use Rattle.pipe_regs.specs.declared.Slot.{Slot}
use Rattle.timetable.specs.Tables.{Timed}
use Rattle.image_file.specs.Value.{ImageValue}
use Rattle.pipe_core.specs.declared.flight.Flight.{Flight}
use Rattle.pipe_core.specs.declared.flight.Operands.{Operands}
use Rattle.pipe_core.specs.declared.flight.Times.{Times}
use Rattle.pipe_core.specs.Moves.{follow, issued, with_operands}
use Rattle.pipe_core.specs.OnTime.{IsOnTime}
use Rattle.pipe_core.specs.Punctual.{last_in}
use Rattle.pipe_core.specs.Steps.{issues}
use Rattle.pipe_core.proofs.OnTimeLemmas.{issue-on_time}
use Rattle.pipe_core.proofs.StageLemmas.{Blocked, IsReady, AfterE, AfterD, later}

module _ (k : Option ℕ) (p : ImageValue) (t : ℕ) (past : List Timed) (left place : ℕ) (held : Option Slot) (ops : Option Operands)
    (word : Option (Option Instr)) where
  d-stays : (f : Flight) → ((x : Slot) → f.stages.id ≡ Some x → f.stages.ex ≡ None → Blocked None f.stages.mem past x.instr (t + 2))
      → AfterE k p t past left place held ops word f → AfterD k p t past left place held ops word f
  d-stays f blocked a = record {
    timely = a.timely;
    earlier = a.earlier;
    mem_below = a.mem_below;
    ex_below = later t f.ex_times a.ex_below;
    mem_f = a.mem_f;
    ex_f = a.ex_below.f;
    id_below = a.id_below;
    fetch_below = later t f.fetch_times a.fetch_below;
    mem_now = a.mem_now;
    ex_now = λ x e g. absurd (a.stuck x e g);
    blocked = blocked;
    f_due = λ y e g. (let n = a.fetch_now e in cc);
  }

  issue-left : (id : Option Slot) (x : Slot) (ex mem : Option Slot) (ti tx tm : Times) → id ≡ Some x
      → ti.f ≡ last_in id ex mem ti tx tm past
  issue-left (Some y) x ex mem ti tx tm e = refl
  issue-left None x ex mem ti tx tm e = cc

  d-moves : (f : Flight) (x : Slot) (o : Operands) → ops ≡ Some o → f.stages.ex ≡ None → f.stages.id ≡ Some x
      → AfterE k p t past left place held ops word f
      → AfterD k p t past left place held ops word (issued (t + 1) (Some o) f None (Some x))
  d-moves f x o has e g a =
      let P : Option Slot → Type 0 = λ s. IsOnTime k past f.stages.mem s f.stages.id f.fetch f.mem_times f.ex_times f.id_times
      f.fetch_times in
      let Q : Option Slot → Type 0 = λ s. IsOnTime k past f.stages.mem None s f.fetch f.mem_times f.ex_times f.id_times f.fetch_times in
      let here = subst Q g (subst P e a.timely) in
      let b = later t f.id_times a.id_below in
      record {
        timely = issue-on_time k past f.mem_times f.ex_times f.id_times f.fetch_times f.stages.mem x o f.fetch (t + 1)
            (λ r. a.d_due x o g has e r) here;
        earlier = a.earlier;
        mem_below = a.mem_below;
        ex_below = record { i = b.i; f = b.f; d = omega arith; e = b.e };
        mem_f = a.mem_f;
        ex_f = a.id_below.f;
        id_below = a.id_below;
        fetch_below = later t f.fetch_times a.fetch_below;
        mem_now = a.mem_now;
        ex_now = λ y k l. refl;
        blocked = λ y k l. cc;
        f_due = λ y k l. inr (with_operands x o, (refl, refl));
      }

  ready-cases : (f : Flight) (o : Option Operands) (ex id : Option Slot) → f.stages.ex ≡ ex → f.stages.id ≡ id
      → IsReady k p t past left place held word f
      → IsReady k p t past left place held word (issued (t + 1) o f ex id)
  ready-cases f o (Some x) id e g a = a
  ready-cases f o None None e g a = a
  ready-cases f None None (Some x) e g a = a
  ready-cases f (Some o) None (Some x) e g a = record {
    left_is = issue-left f.stages.id x f.stages.ex f.stages.mem f.id_times f.ex_times f.mem_times g ∙ a.left_is;
    place_is = sym (ap (λ s. follow s f.front_dpc f.front_pc) g) ∙ a.place_is;
    held_is = a.held_is;
    taken = a.taken;
    idle = a.idle;
  }

  pub ready-d : (f : Flight) → AfterE k p t past left place held ops word f → IsReady k p t past left place held word (issues (t + 1) ops f)
  unfolding issues
  ready-d f a = ready-cases f ops f.stages.ex f.stages.id refl refl a.started

  d-cases : (f : Flight) (o : Option Operands) (ex id : Option Slot) → ops ≡ o → f.stages.ex ≡ ex → f.stages.id ≡ id
      → AfterE k p t past left place held ops word f
      → AfterD k p t past left place held ops word (issued (t + 1) o f ex id)
  d-cases f o (Some x) id has e g a = d-stays f (λ y k l. cc) a
  d-cases f o None None has e g a = d-stays f (λ y k l. cc) a
  d-cases f None None (Some x) has e g a = d-stays f (λ y k l. a.blocked y k has l) a
  d-cases f (Some o) None (Some x) has e g a = d-moves f x o has e g a

  pub after-d : (f : Flight) → AfterE k p t past left place held ops word f
      → AfterD k p t past left place held ops word (issues (t + 1) ops f)
  unfolding issues
  after-d f a = d-cases f ops f.stages.ex f.stages.id refl refl refl a
