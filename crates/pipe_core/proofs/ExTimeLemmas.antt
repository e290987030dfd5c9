-- The move of EX keeps the timetable.
use Rattle.std.proofs.Common.{◌≡◌, ℕ, ◌+◌, ◌≤◌, ◌⊎◌, inl, inr, Bool, true, false, refl, ap, ◌∙◌, arith, subst, List}
use Rattle.std.specs.Prelude.{Option, Some, None, if◌then◌else◌}
use Rattle.mips_isa.specs.declared.Instr.{Instr}
use Rattle.pipe_regs.specs.declared.Slot.{Slot}
use Rattle.timetable.specs.declared.rows.TimeRow.{TimeRow}
use Rattle.timetable.specs.Recurrence.{due_d, due_e}
use Rattle.timetable.specs.Tables.{Timed, prior, ready_in, ready_for}
use Rattle.image_file.specs.Value.{ImageValue}
use Rattle.pipe_core.specs.declared.flight.Flight.{Flight}
use Rattle.pipe_core.specs.declared.flight.Operands.{Operands}
use Rattle.pipe_core.specs.declared.flight.Times.{Times}
use Rattle.pipe_core.specs.Moves.{advanced}
use Rattle.pipe_core.specs.OnTime.{onto, mem_row, IsOnTime}
use Rattle.pipe_core.specs.Punctual.{last_in}
use Rattle.pipe_core.specs.Steps.{advances}
use Rattle.pipe_core.proofs.OnTimeLemmas.{advance-on_time}
use Rattle.pipe_core.proofs.StageLemmas.{Blocked, AfterM, AfterE, later}
use Rattle.pipe_core.proofs.WaitLemmas.{waits, d-due, e-due}

prior-e : (mem : Option Slot) (tm : Times) (r : TimeRow) (past : List Timed) (t : ℕ) → tm.e ≤ t → (prior past).e ≤ t
    → (prior (onto mem (mem_row tm r) past)).e ≤ t
prior-e None tm r past t h k = k
prior-e (Some m) tm r past t h k = h

d-due-at : (mem : Option Slot) (tm : Times) (past : List Timed) (i : Option Instr) (f t : ℕ) (r : TimeRow) → f ≤ t → tm.e ≤ t
    → (prior past).e ≤ t
    → ready_for (onto mem (mem_row tm r) past) i ≤ t + 1 → (f ≡ t) ⊎ (ready_for (onto mem (mem_row tm r) past) i ≡ t + 1)
    → t + 1 ≡ due_d (prior (onto mem (mem_row tm r) past)) (ready_for (onto mem (mem_row tm r) past) i) f
d-due-at mem tm past i f t r h k l b (inl e) =
    let x = prior-e mem tm r past t k l in
    d-due (prior (onto mem (mem_row tm r) past)) _ f (t + 1) (omega arith) (omega arith) b (inl (ap (λ n. n + 1) e))
d-due-at mem tm past i f t r h k l b (inr e) =
    let x = prior-e mem tm r past t k l in
    d-due (prior (onto mem (mem_row tm r) past)) _ f (t + 1) (omega arith) (omega arith) b (inr (inr e))

module _ (k : Option ℕ) (p : ImageValue) (t : ℕ) (past : List Timed) (left place : ℕ) (held : Option Slot) (ops : Option Operands)
    (word : Option (Option Instr)) where
  -- EX stays where it is
  e-stays : (f : Flight) → ((x : Slot) → f.stages.ex ≡ Some x → f.stages.mem ≡ None → ⊥) → AfterM k p t past left place held ops word f
      → AfterE k p t past left place held ops word f
  e-stays f stuck a = record {
    timely = a.timely;
    started = a.started;
    earlier = a.earlier;
    mem_below = later t f.mem_times a.mem_below;
    mem_f = a.mem_below.f;
    ex_below = a.ex_below;
    id_below = a.id_below;
    fetch_below = a.fetch_below;
    mem_now = λ m e g. absurd (a.asks m e g);
    stuck = stuck;
    d_due = λ x o e g k r. (
        let P : Option Slot → Type 0 = λ s. ready_for (onto s r (onto f.stages.mem (mem_row f.mem_times r) past)) x.instr ≤ t + 1 in
        d-due-at f.stages.mem f.mem_times past x.instr f.id_times.f t r a.id_below.f a.mem_below.e a.earlier.e
        (subst P k (a.free x o e g r (mem_row f.mem_times r)))
        (d-case f x (a.id_due x o e g k) r));
    blocked = λ x e g k. (
        let P : Option Slot → Type 0 = λ s. Blocked s f.stages.mem past x.instr (t + 2) in
        subst P k (a.blocked x e g));
    fetch_now = a.fetch_now;
  } where
    d-case : (f : Flight) (x : Slot) → (f.id_times.f ≡ t) ⊎ ((r : TimeRow) → ready_for (onto f.stages.mem r past) x.instr ≡ t + 1)
        → (r : TimeRow)
        → (f.id_times.f ≡ t) ⊎ (ready_for (onto f.stages.mem (mem_row f.mem_times r) past) x.instr ≡ t + 1)
    d-case f x (inl e) r = inl e
    d-case f x (inr k) r = inr (k (mem_row f.mem_times r))

  due-case : (d m : ℕ) → (d ≡ t) ⊎ (m ≡ t + 1) → (d + 1 ≡ t + 1) ⊎ (m ≡ t + 1)
  due-case d m (inl e) = inl (ap (λ n. n + 1) e)
  due-case d m (inr e) = inr e

  e-blocked : (x : Slot) (i : Option Instr) → Blocked (Some x) None past i (t + 2) → Blocked None (Some x) past i (t + 2)
  e-blocked x i b = record { r = b.r; read = b.read; why = swap b.r b.why } where
    same : (a c : Bool) → (if a then c else false) ≡ true → (if a then c else false) ≡ true
    same a c e = e

    swap : (r : ℕ) → (waits (Some x) None r ≡ true) ⊎ ((q o : TimeRow) → ready_in (onto (Some x) q (onto None o past)) r ≡ t + 2)
        → (waits None (Some x) r ≡ true) ⊎ ((q o : TimeRow) → ready_in (onto None q (onto (Some x) o past)) r ≡ t + 2)
    swap r (inl e) = inl e
    swap r (inr k) = inr (λ q o. k o q)

  advance-left : (id : Option Slot) (x : Slot) (ti tx tm tn : Times) (ex mem : Option Slot) → ex ≡ Some x → mem ≡ None → tn.f ≡ tx.f
      → last_in id None (Some x) ti tx tn past ≡ last_in id ex mem ti tx tm past
  advance-left (Some y) x ti tx tm tn ex mem e g h = refl
  advance-left None x ti tx tm tn (Some z) mem e g h = h
  advance-left None x ti tx tm tn None mem e g h = cc

  e-moves : (f : Flight) (x : Slot) → f.stages.mem ≡ None → f.stages.ex ≡ Some x → AfterM k p t past left place held ops word f
      → AfterE k p t past left place held ops word (advanced (t + 1) f None (Some x))
  e-moves f x e g a =
      let P : Option Slot → Type 0 = λ o. IsOnTime k past o f.stages.ex f.stages.id f.fetch f.mem_times f.ex_times f.id_times
      f.fetch_times in
      let Q : Option Slot → Type 0 = λ o. IsOnTime k past None o f.stages.id f.fetch f.mem_times f.ex_times f.id_times f.fetch_times in
      let here = subst Q g (subst P e a.timely) in
      let dx = a.ex_below.d in
      let due : t + 1 ≡ due_e (prior past) f.ex_times.d =
      e-due (prior past) f.ex_times.d (t + 1) (omega arith) a.earlier.m (due-case _ _ (a.ex_due x e g)) in
      let b = later t f.ex_times a.ex_below in
      record {
        timely = advance-on_time k past f.mem_times f.ex_times f.id_times f.fetch_times x f.stages.id f.fetch (t + 1) due here;
        started = record {
          left_is = advance-left f.stages.id x f.id_times f.ex_times f.mem_times (record f.ex_times { e = t + 1 }) f.stages.ex
              f.stages.mem g e refl ∙ a.started.left_is;
          place_is = a.started.place_is;
          held_is = a.started.held_is;
          taken = a.started.taken;
          idle = a.started.idle;
        };
        earlier = a.earlier;
        mem_below = record { i = b.i; f = b.f; d = b.d; e = omega arith };
        mem_f = a.ex_below.f;
        ex_below = a.ex_below;
        id_below = a.id_below;
        fetch_below = a.fetch_below;
        mem_now = λ m k l. refl;
        stuck = λ y k l. cc;
        d_due = λ y o k l n r. (
            let R : Option Slot → Option Slot
            → Type 0 = λ s u. ready_for (onto s (mem_row (record f.ex_times { e = t + 1 }) r) (onto u r past)) y.instr ≤ t + 1 in
            let of_mem : Option Slot → Type 0 = λ s. R s f.stages.mem in
            let of_wb : Option Slot → Type 0 = λ u. R (Some x) u in
            let ready = subst of_wb e (subst of_mem g (a.free y o k l (mem_row (record f.ex_times { e = t + 1 }) r) r)) in
            let fi = a.id_below.f in
            d-due (mem_row (record f.ex_times { e = t + 1 }) r) _ f.id_times.f (t + 1) (omega arith) (omega arith) ready (inr (inl refl)));
        blocked = λ y k l n. (
            let S : Option Slot → Type 0 = λ s. Blocked s f.stages.mem past y.instr (t + 2) in
            let U : Option Slot → Type 0 = λ s. Blocked (Some x) s past y.instr (t + 2) in
            e-blocked x y.instr (subst U e (subst S g (a.blocked y k l))));
        fetch_now = a.fetch_now;
      }

  e-cases : (f : Flight) (mem ex : Option Slot) → f.stages.mem ≡ mem → f.stages.ex ≡ ex → AfterM k p t past left place held ops word f
      → AfterE k p t past left place held ops word (advanced (t + 1) f mem ex)
  e-cases f (Some m) ex e g a = e-stays f (λ x k l. cc) a
  e-cases f None None e g a = e-stays f (λ x k l. cc) a
  e-cases f None (Some x) e g a = e-moves f x e g a

  pub after-e : (f : Flight) → AfterM k p t past left place held ops word f
      → AfterE k p t past left place held ops word (advances (t + 1) f)
  unfolding advances
  after-e f a = e-cases f f.stages.mem f.stages.ex refl refl a
