-- The move of IF keeps the timetable.
use Rattle.std.proofs.Common.{◌≡◌, ℕ, ◌+◌, ◌≤◌, ◌⊎◌, inl, inr, true, false, refl, ap, sym, ◌∙◌, arith, subst, List}
use Rattle.std.specs.Prelude.{Option, Some, None}
use Rattle.mips_isa.specs.declared.Instr.{Instr}
use Rattle.mips_isa.specs.Effects.{rs_of, rt_of, expected_by}
use Rattle.pipe_regs.specs.declared.Slot.{Slot}
use Rattle.timetable.specs.declared.rows.TimeRow.{TimeRow}
use Rattle.timetable.specs.Tables.{Timed, prior, ready_in, ready_for}
use Rattle.image_file.specs.Value.{ImageValue}
use Rattle.pipe_core.specs.declared.flight.Flight.{Flight}
use Rattle.pipe_core.specs.declared.flight.Operands.{Operands}
use Rattle.pipe_core.specs.declared.flight.Times.{Times}
use Rattle.pipe_core.specs.Moves.{operands_of, entered}
use Rattle.pipe_core.specs.OnTime.{onto, mem_row, ex_row, IsOnTime, IsTimely}
use Rattle.pipe_core.specs.Punctual.{last_f, IsPast, IsPunctual}
use Rattle.pipe_core.specs.Steps.{enters}
use Rattle.pipe_core.proofs.OnTimeLemmas.{enter-on_time}
use Rattle.pipe_core.proofs.StageLemmas.{IsRead, Blocked, Earlier, LeavesAs, AfterD, IsIdle, later}
use Rattle.pipe_core.proofs.WaitLemmas.{waits, NoneWaits, operands-free, ready-free, greatest, f-due}

module _ (k : Option ℕ) (p : ImageValue) (t : ℕ) (past : List Timed) (left place : ℕ) (held : Option Slot) (ops : Option Operands)
    (word : Option (Option Instr)) where
  prior-d : (ex mem : Option Slot) (tx tm : Times) (r q : TimeRow) → tx.d ≤ t + 1 → tm.d ≤ t + 1 → (prior past).d ≤ t + 1
      → (prior (onto ex (ex_row tx q) (onto mem (mem_row tm r) past))).d ≤ t + 1
  prior-d (Some x) mem tx tm r q a b c = a
  prior-d None (Some x) tx tm r q a b c = b
  prior-d None None tx tm r q a b c = c

  f-reaches : (f : Flight) (r q : TimeRow) → (f.fetch_times.i ≡ t + 1) ⊎ ((x : Slot) × ((f.stages.ex ≡ Some x) × (f.ex_times.d ≡ t + 1)))
      → (f.fetch_times.i ≡ t + 1)
      ⊎ ((prior (onto f.stages.ex (ex_row f.ex_times q) (onto f.stages.mem (mem_row f.mem_times r) past))).d ≡ t + 1)
  f-reaches f r q (inl e) = inl e
  f-reaches f r q (inr k) =
      let P : Option Slot → Type 0 = λ s. (prior (onto s (ex_row f.ex_times q) (onto f.stages.mem (mem_row f.mem_times r) past))).d
      ≡ t + 1 in
      let ks : f.stages.ex ≡ Some k.0 = k.1.0 in
      inr (subst P (sym ks) k.1.1)

  end-past : Earlier t past → IsPast (t + 1) past
  end-past a =
      let ff = a.f in let fe = a.e in
      record { f = omega arith; d = a.d; e = omega arith; m = a.m; ready = λ r. (let h = a.ready r in omega arith) }

  ready-three : (mem : Option Slot) (r : TimeRow) (i : Option Instr) (x : ℕ) → IsRead i x
      → ((j : Instr) → i ≡ Some j → NoneWaits None mem j) → ((k : ℕ) → ready_in past k ≤ t + 2)
      → ready_in (onto mem r past) x ≡ t + 2 → ready_for (onto mem r past) i ≡ t + 2
  ready-three mem r None x read free bound e = absurd read
  ready-three mem r (Some j) x read free bound e =
      let n = free j refl in
      let a = ready-free None mem r r past (rs_of j) (t + 2) n.rs_free (bound (rs_of j)) in
      let b = ready-free None mem r r past (rt_of j) (t + 2) n.rt_free (bound (rt_of j)) in
      let c = ready-free None mem r r past (expected_by j) (t + 2) n.expected_free (bound (expected_by j)) in
      greatest _ _ _ (t + 2) a b c (which read) where
        which : (x ≡ rs_of j) ⊎ ((x ≡ rt_of j) ⊎ (x ≡ expected_by j))
            → (ready_in (onto mem r past) (rs_of j) ≡ t + 2)
            ⊎ ((ready_in (onto mem r past) (rt_of j) ≡ t + 2) ⊎ (ready_in (onto mem r past) (expected_by j) ≡ t + 2))
        which (inl g) = inl (ap (λ k. ready_in (onto mem r past) k) (sym g) ∙ e)
        which (inr (inl g)) = inr (inl (ap (λ k. ready_in (onto mem r past) k) (sym g) ∙ e))
        which (inr (inr g)) = inr (inr (ap (λ k. ready_in (onto mem r past) k) (sym g) ∙ e))

  read-free : (mem : Option Slot) (i : Option Instr) (x : ℕ) → IsRead i x → ((j : Instr) → i ≡ Some j → NoneWaits None mem j)
      → waits None mem x ≡ false
  read-free mem None x read free = absurd read
  read-free mem (Some j) x (inl e) free = ap (λ k. waits None mem k) e ∙ (free j refl).rs_free
  read-free mem (Some j) x (inr (inl e)) free = ap (λ k. waits None mem k) e ∙ (free j refl).rt_free
  read-free mem (Some j) x (inr (inr e)) free = ap (λ k. waits None mem k) e ∙ (free j refl).expected_free

  unblocked : (mem : Option Slot) (i : Option Instr) → Blocked None mem past i (t + 2) → ((j : Instr) → i ≡ Some j → NoneWaits None mem j)
      → ((k : ℕ) → ready_in past k ≤ t + 2)
      → (r : TimeRow) → ready_for (onto mem r past) i ≡ t + 2
  unblocked mem i b free bound r = by-why b.why where
    by-why : (waits None mem b.r ≡ true) ⊎ ((q o : TimeRow) → ready_in (onto None q (onto mem o past)) b.r ≡ t + 2)
        → ready_for (onto mem r past) i ≡ t + 2
    by-why (inl e) = (let n = read-free mem i b.r b.read free in cc)
    by-why (inr k) = ready-three mem r i b.r b.read free bound (k r r)

  f-stays : (f : Flight) → ((y : Slot) → f.stages.id ≡ None → f.fetch ≡ Some y → ⊥) → IsIdle p past left held word f
      → AfterD k p t past left place held ops word f → IsPunctual p (t + 1) past f
  f-stays f none idle a = record {
    before = end-past a.earlier;
    mem_below = a.mem_below;
    ex_below = a.ex_below;
    id_below = later t f.id_times a.id_below;
    fetch_below = a.fetch_below;
    mem_now = a.mem_now;
    ex_now = a.ex_now;
    id_now = λ x o e g k. inr (λ r. (
        let P : Option Slot → Type 0 = λ s. (j : Instr) → x.instr ≡ Some j → NoneWaits s f.stages.mem j in
        let free : (j : Instr) → x.instr ≡ Some j → NoneWaits f.stages.ex f.stages.mem j =
        (λ (j : Instr) (l : x.instr ≡ Some j). operands-free f.stages j o (ap (λ i. operands_of i f.stages) (sym l) ∙ k)) in
        let two : t + 2 ≡ (t + 1) + 1 = omega arith in
        unblocked f.stages.mem x.instr (a.blocked x e g) (subst P g free) a.earlier.ready r ∙ two));
    fetch_now = λ e. no-fetch f.fetch refl e;
    off_now = λ e g. (let on = idle.on e in cc);
  } where
    no-fetch : (s : Option Slot) → f.fetch ≡ s → f.stages.id ≡ None → f.fetch ≡ None
    no-fetch None e g = e
    no-fetch (Some y) e g = absurd (none y g e)

  f-moves : (f : Flight) (y : Slot) → f.stages.id ≡ None → f.fetch ≡ Some y → AfterD k p t past left place held ops word f
      → IsTimely k past (entered (t + 1) f None (Some y)) × IsPunctual p (t + 1) past (entered (t + 1) f None (Some y))
  f-moves f y e g a =
      let P : Option Slot → Type 0 = λ s. IsOnTime k past f.stages.mem f.stages.ex s f.fetch f.mem_times f.ex_times f.id_times
      f.fetch_times in
      let Q : Option Slot → Type 0 = λ s. IsOnTime k past f.stages.mem f.stages.ex None s f.mem_times f.ex_times f.id_times f.fetch_times in
      let here = subst Q g (subst P e a.timely) in (
        enter-on_time k past f.mem_times f.ex_times f.id_times f.fetch_times f.stages.mem f.stages.ex y f.front_pc (t + 1)
            (λ r q. f-due (prior (onto f.stages.ex (ex_row f.ex_times q) (onto f.stages.mem (mem_row f.mem_times r) past)))
            f.fetch_times.i (t + 1) a.fetch_below.i
            (prior-d f.stages.ex f.stages.mem f.ex_times f.mem_times r q a.ex_below.d a.mem_below.d a.earlier.d)
            (f-reaches f r q (a.f_due y e g))) here,
        record {
          before = end-past a.earlier;
          mem_below = a.mem_below;
          ex_below = a.ex_below;
          id_below = record { i = a.fetch_below.i; f = omega arith; d = a.fetch_below.d; e = a.fetch_below.e };
          fetch_below = a.fetch_below;
          mem_now = a.mem_now;
          ex_now = a.ex_now;
          id_now = λ x o k l m. inl refl;
          fetch_now = λ k. refl;
          off_now = λ k l. refl;
        },
      )

  f-left : (f : Flight) (id fetch : Option Slot) → IsIdle p past left held word f → (last_f past (entered (t + 1) f id fetch) ≡ t + 1)
      ⊎ LeavesAs (last_f past (entered (t + 1) f id fetch)) left held word (entered (t + 1) f id fetch)
  f-left f (Some x) fetch i = inr (record { left_is = i.left_is; was = i.was; no_word = i.no_word })
  f-left f None None i = inr (record { left_is = i.left_is; was = i.was; no_word = i.no_word })
  f-left f None (Some y) i = inl refl

  pub after-left : (f : Flight) → IsIdle p past left held word f
      → (last_f past (enters (t + 1) f) ≡ t + 1) ⊎ LeavesAs (last_f past (enters (t + 1) f)) left held word (enters (t + 1) f)
  unfolding enters
  after-left f i = f-left f f.stages.id f.fetch i

  f-cases : (f : Flight) (id fetch : Option Slot) → f.stages.id ≡ id → f.fetch ≡ fetch → IsIdle p past left held word f
      → AfterD k p t past left place held ops word f
      → IsTimely k past (entered (t + 1) f id fetch) × IsPunctual p (t + 1) past (entered (t + 1) f id fetch)
  f-cases f (Some x) fetch e g idle a = (a.timely, f-stays f (λ y k l. cc) idle a)
  f-cases f None None e g idle a = (a.timely, f-stays f (λ y k l. cc) idle a)
  f-cases f None (Some y) e g idle a = f-moves f y e g a

  pub after-f : (f : Flight) → IsIdle p past left held word f → AfterD k p t past left place held ops word f
      → IsTimely k past (enters (t + 1) f) × IsPunctual p (t + 1) past (enters (t + 1) f)
  unfolding enters
  after-f f idle a = f-cases f f.stages.id f.fetch refl refl idle a
