-- The instruction in M, and the row that it adds.
use Rattle.std.proofs.Common.{◌∷◌, ◌≡◌, ℕ, ◌+◌, ◌≤◌, ◌⊎◌, inl, inr, Bool, true, false, refl, ap, sym, ◌∙◌, arith, subst, List}
use Rattle.std.specs.Prelude.{Option, Some, None, if◌then◌else◌}
use Rattle.mips_isa.specs.declared.Instr.{Instr}
use Rattle.pipe_regs.specs.declared.Slot.{Slot}
use Rattle.pipe_regs.specs.declared.Stages.{Stages}
use Rattle.pipe_regs.specs.Slots.{is_load, is_written_by}
use Rattle.timetable.specs.declared.rows.TimeRow.{TimeRow}
use Rattle.timetable.specs.Tables.{Timed, timed, ready_in, ready_for}
use Rattle.image_file.specs.Value.{ImageValue}
use Rattle.pipe_core.specs.declared.flight.Flight.{Flight}
use Rattle.pipe_core.specs.declared.flight.Operands.{Operands}
use Rattle.pipe_core.specs.declared.flight.Times.{Times}
use Rattle.pipe_core.specs.Clock.{read_by}
use Rattle.pipe_core.specs.Moves.{operands_of}
use Rattle.pipe_core.specs.OnTime.{onto, mem_row, IsOnTime, IsTimely}
use Rattle.pipe_core.specs.Punctual.{last_in, IsPast, IsPunctual}
use Rattle.pipe_core.specs.Wants.{access_in, place_of}
use Rattle.pipe_core.proofs.OnTimeLemmas.{retire-on_time}
use Rattle.pipe_core.proofs.StageLemmas.{Blocked, Earlier, IsReady, AfterM}
use Rattle.pipe_core.proofs.WaitLemmas.{writes, loads_in, waits, operands-free, operands-wait, ready-for-free}

earlier-of : (t : ℕ) (past : List Timed) → IsPast t past → Earlier t past
earlier-of t past b =
    let d = b.d in let m = b.m in
    record { f = b.f; d = omega arith; e = b.e; m = omega arith; ready = λ r. (let h = b.ready r in omega arith) }

free-at : (s : Stages) (past : List Timed) (t : ℕ) (id : Option Slot) (x : Slot) (ops : Option Operands) (o : Operands) → id ≡ Some x
    → ops ≡ read_by id s → ops ≡ Some o → ((r : ℕ) → ready_in past r ≤ t + 1)
    → (q r : TimeRow) → ready_for (onto s.ex q (onto s.mem r past)) x.instr ≤ t + 1
free-at s past t id x ops o at is e bound q r = by-instr x.instr refl where
  by-instr : (i : Option Instr) → x.instr ≡ i → ready_for (onto s.ex q (onto s.mem r past)) i ≤ t + 1
  by-instr None g = omega arith
  by-instr (Some j) g =
      ready-for-free s.ex s.mem q r past j (t + 1)
      (operands-free s j o (ap (λ i. operands_of i s) (sym g) ∙ (ap (λ k. read_by k s) (sym at) ∙ (sym is ∙ e)))) bound

read-here : (s : Stages) (id : Option Slot) (x : Slot) (ops o : Option Operands) → id ≡ Some x → ops ≡ read_by id s → ops ≡ o
    → operands_of x.instr s ≡ o
read-here s id x ops o at is e = ap (λ k. read_by k s) (sym at) ∙ (sym is ∙ e)

blocked-at : (s : Stages) (past : List Timed) (t : ℕ) (i : Option Instr) → operands_of i s ≡ None → Blocked s.ex s.mem past i (t + 2)
blocked-at s past t None e = cc
blocked-at s past t (Some j) e =
    let w = operands-wait s j e in
    record { r = w.0; read = w.1.0; why = inl w.1.1 }

-- M keeps its instruction, or has none
module _ (k : Option ℕ) (p : ImageValue) (t : ℕ) (past : List Timed) (left place : ℕ) (held : Option Slot) (ops : Option Operands)
    (word : Option (Option Instr)) where
  pub stays-m : (f : Flight) → ops ≡ read_by f.stages.id f.stages → IsReady k p t past left place held word f → IsTimely k past f
      → IsPunctual p t past f
      → ((m : Slot) → f.stages.mem ≡ Some m → access_in p f.executed f.stages.mem ≡ None → ⊥) → AfterM k p t past left place held ops word f
  stays-m f is ready timely h asks = record {
    timely = timely;
    started = ready;
    earlier = earlier-of t past h.before;
    mem_below = h.mem_below;
    ex_below = h.ex_below;
    id_below = h.id_below;
    fetch_below = h.fetch_below;
    ex_due = λ x e g. inl (h.ex_now x g e);
    asks = asks;
    free = λ x o e g q r. free-at f.stages past t f.stages.id x ops o e is g h.before.ready q r;
    id_due = λ x o e g k. h.id_now x o e k (read-here f.stages f.stages.id x ops (Some o) e is g);
    blocked = λ x e g. blocked-at f.stages past t x.instr (read-here f.stages f.stages.id x ops None e is g);
    fetch_now = h.fetch_now;
  }

  -- M's instruction is executed: what waited for it is there in the next clock
  through : (ex : Option Slot) (m : Slot) (i : Option Instr) (row : TimeRow) → row.m ≡ t + 1 → Blocked ex (Some m) past i (t + 2)
      → Blocked ex None (timed m.instr row ∷ past) i (t + 2)
  through ex m i row e b = record { r = b.r; read = b.read; why = by-why b.why } where
    by-ex : (w l : Bool) (v : Bool) → (if w then l else v) ≡ true → ((if w then l else false) ≡ true) ⊎ ((w ≡ false) × (v ≡ true))
    by-ex true l v g = inl g
    by-ex false l v g = inr (refl, g)

    by-mem : (w l : Bool) (n : ℕ) (rest : ℕ) → n ≡ t + 1 → (if w then l else false) ≡ true
        → (if w then (if l then n + 1 else 0) else rest) ≡ t + 2
    by-mem true true n rest k g = omega arith
    by-mem true false n rest k g = cc
    by-mem false l n rest k g = cc

    skip : (s : Option Slot) (q : TimeRow) (all : List Timed) (r : ℕ) → writes s r ≡ false → ready_in (onto s q all) r ≡ ready_in all r
    skip None q all r g = refl
    skip (Some x) q all r g = rw g refl

    by-why : (waits ex (Some m) b.r ≡ true) ⊎ ((q o : TimeRow) → ready_in (onto ex q (onto (Some m) o past)) b.r ≡ t + 2)
        → (waits ex None b.r ≡ true) ⊎ ((q o : TimeRow) → ready_in (onto ex q (onto None o (timed m.instr row ∷ past))) b.r ≡ t + 2)
    by-why (inr k) = inr (λ q o. k q row)
    by-why (inl g) = by-case (by-ex (writes ex b.r) (loads_in ex) (if writes (Some m) b.r then loads_in (Some m) else false) g) where
      by-case : ((if writes ex b.r then loads_in ex else false) ≡ true)
          ⊎ ((writes ex b.r ≡ false) × ((if writes (Some m) b.r then loads_in (Some m) else false) ≡ true))
          → (waits ex None b.r ≡ true) ⊎ ((q o : TimeRow) → ready_in (onto ex q (onto None o (timed m.instr row ∷ past))) b.r ≡ t + 2)
      by-case (inl k) = inl k
      by-case (inr k) = inr
          (λ q o. skip ex q (timed m.instr row ∷ past) b.r k.0
          ∙ by-mem (is_written_by m.instr b.r) (is_load m.instr) row.m (ready_in past b.r) e k.1)

  ready-more : (i : Option Instr) (row : TimeRow) → row.m ≡ t + 1 → ((r : ℕ) → ready_in past r ≤ t + 1) → (r : ℕ)
      → ready_in (timed i row ∷ past) r ≤ t + 2
  ready-more i row e bound r = by-case (is_written_by i r) (is_load i) (bound r) where
    by-case : (w l : Bool) → ready_in past r ≤ t + 1 → (if w then (if l then row.m + 1 else 0) else ready_in past r) ≤ t + 2
    by-case true true h = omega arith
    by-case true false h = omega arith
    by-case false l h = omega arith

  retire-left : (id ex mem : Option Slot) (m : Slot) (ti tx tm : Times) (r : TimeRow) → mem ≡ Some m
      → last_in id ex None ti tx tm (timed m.instr (mem_row tm r) ∷ past) ≡ last_in id ex mem ti tx tm past
  retire-left (Some x) ex mem m ti tx tm r e = refl
  retire-left None (Some x) mem m ti tx tm r e = refl
  retire-left None None (Some x) m ti tx tm r e = refl
  retire-left None None None m ti tx tm r e = cc

  -- the components of a flight from which M's instruction is gone
  pub retires-m : (f g : Flight) (m : Slot) (r : TimeRow) → f.stages.mem ≡ Some m → r.m ≡ t + 1 → ops ≡ read_by f.stages.id f.stages
      → g.stages.mem ≡ None → g.stages.ex ≡ f.stages.ex → g.stages.id ≡ f.stages.id → g.fetch ≡ f.fetch
      → g.mem_times ≡ f.mem_times → g.ex_times ≡ f.ex_times → g.id_times ≡ f.id_times → g.fetch_times ≡ f.fetch_times
      → place_of g ≡ place_of f → IsReady k p t past left place held word f
      → IsTimely k past f → IsPunctual p t past f → AfterM k p t (timed m.instr (mem_row f.mem_times r) ∷ past) left place held ops word g
  retires-m f g m r e late is em ex ei ef tm tx ti tf at ready timely h =
      let P : Option Slot → Type 0 = λ s. IsOnTime k past s f.stages.ex f.stages.id f.fetch f.mem_times f.ex_times f.id_times
      f.fetch_times in
      let on = retire-on_time k past f.mem_times f.ex_times f.id_times f.fetch_times m f.stages.ex f.stages.id f.fetch r
      (subst P e timely) in
      let below_m = h.mem_below in
      let mf = below_m.f in let md = below_m.d in let me = below_m.e in
      record {
        timely = rw (em, ex, ei, ef, tm, tx, ti, tf) on;
        started = record {
          left_is = rw (em, ex, ei, tm, tx, ti) (retire-left f.stages.id f.stages.ex f.stages.mem m f.id_times f.ex_times f.mem_times r e)
              ∙ ready.left_is;
          place_is = at ∙ ready.place_is;
          held_is = ef ∙ ready.held_is;
          taken = λ n. ready.taken (sym ef ∙ n);
          idle = λ n. ready.idle (sym ef ∙ n);
        };
        earlier = record {
          f = mf;
          d = omega arith;
          e = me;
          m = omega arith;
          ready = ready-more m.instr (mem_row f.mem_times r) late
              h.before.ready;
        };
        mem_below = rw tm h.mem_below;
        ex_below = rw tx h.ex_below;
        id_below = rw ti h.id_below;
        fetch_below = rw tf h.fetch_below;
        ex_due = λ x k l. inr late;
        asks = λ n k l. cc;
        free = λ x o k l q u. (
            let here = free-at f.stages past t f.stages.id x ops o (sym ei ∙ k) is l h.before.ready q (mem_row f.mem_times r) in
            let S : Option Slot → Type 0 = λ s. ready_for (onto f.stages.ex q (onto s (mem_row f.mem_times r) past)) x.instr ≤ t + 1 in
            let there = subst S e here in
            rw (ex, em) there);
        id_due = λ x o k l n. (
            let got = h.id_now x o (sym ei ∙ k) (sym ex ∙ n) (read-here f.stages f.stages.id x ops (Some o) (sym ei ∙ k) is l) in
            due x got);
        blocked = λ x k l. (
            let here = blocked-at f.stages past t x.instr (read-here f.stages f.stages.id x ops None (sym ei ∙ k) is l) in
            let S : Option Slot → Type 0 = λ s. Blocked f.stages.ex s past x.instr (t + 2) in
            let there = through f.stages.ex m x.instr (mem_row f.mem_times r) late (subst S e here) in
            rw (ex, em) there);
        fetch_now = λ k. ef ∙ h.fetch_now (sym ei ∙ k);
      } where
        due : (x : Slot) → (f.id_times.f ≡ t) ⊎ ((u : TimeRow) → ready_for (onto f.stages.mem u past) x.instr ≡ t + 1)
            → (g.id_times.f ≡ t) ⊎ ((u : TimeRow)
            → ready_for (onto g.stages.mem u (timed m.instr (mem_row f.mem_times r) ∷ past)) x.instr ≡ t + 1)
        due x (inl k) = inl (ap (λ s. s.f) ti ∙ k)
        due x (inr k) = inr (λ u. (
            let S : Option Slot → Type 0 = λ s. ready_for (onto s (mem_row f.mem_times r) past) x.instr ≡ t + 1 in
            let there = subst S e (k (mem_row f.mem_times r)) in
            rw em there))
