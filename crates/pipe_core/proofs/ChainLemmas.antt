-- Each move keeps the chain.
use Rattle.std.proofs.Common.{◌≡◌, ℕ, refl, ap, sym, ◌∙◌, subst, List}
use Rattle.std.specs.Prelude.{Option, Some, None, if◌then◌else◌}
use Rattle.mips_isa.specs.declared.Instr.{Instr}
use Rattle.mips_isa.specs.declared.CoreState.{CoreState}
use Rattle.pipe_regs.specs.declared.Slot.{Slot}
use Rattle.timetable.specs.Trace.{instr_on}
use Rattle.pipe_core.specs.declared.flight.Flight.{Flight}
use Rattle.pipe_core.specs.declared.flight.Operands.{Operands}
use Rattle.pipe_core.specs.Chain.{passed, Holds, IsAt, Chained, AreRead, regs_of, state_of, IsChained}
use Rattle.pipe_core.specs.Moves.{next_pc_where, regs_after, follow, retired, advanced, issued, begun_in, entered, with_operands}
use Rattle.pipe_regs.specs.Slots.{is_load}

next-pc-same : (i : Option Instr) (a b p c d q : ℕ) → a ≡ c → b ≡ d → p ≡ q → next_pc_where i a b p ≡ next_pc_where i c d q
next-pc-same i a b p c d q e f g = cc

module _ (code : List ℕ) (s : CoreState) where
  pub retire-parts : (m : Slot) (ex id fetch : Option Slot) (fd fp w : ℕ) → Chained code s (Some m) ex id fetch fd fp
      → Chained code (passed m.instr s w) None ex id fetch fd fp
  retire-parts m ex id fetch fd fp w h = record {
    in_mem = tt;
    in_ex = λ u. h.in_ex w;
    front_dpc_is = λ u v. h.front_dpc_is w v;
    front_pc_is = λ u v. h.front_pc_is w v;
    in_id = h.in_id;
    in_fetch = h.in_fetch;
  }

  pub advance-parts : (x : Slot) (id fetch : Option Slot) (fd fp : ℕ) → Chained code s None (Some x) id fetch fd fp
      → Chained code s (Some x) None id fetch fd fp
  advance-parts x id fetch fd fp h = record {
    in_mem = h.in_ex 0;
    in_ex = λ w. tt;
    front_dpc_is = λ w v. h.front_dpc_is 0 w;
    front_pc_is = λ w v. h.front_pc_is 0 w;
    in_id = h.in_id;
    in_fetch = h.in_fetch;
  }

  pub issue-parts : (mem : Option Slot) (x : Slot) (o : Operands) (fetch : Option Slot) (fd fp : ℕ)
      → Chained code s mem None (Some x) fetch fd fp
      → AreRead s mem None x.instr o.a o.b o.c
      → Chained code s mem (Some (with_operands x o)) None fetch fp (next_pc_where x.instr o.a o.b x.pc)
  unfolding passed
  issue-parts mem x o fetch fd fp h r = record {
    in_mem = h.in_mem;
    in_ex = λ w. record {
      dpc = h.in_id.0.dpc_is ∙ h.front_dpc_is w 0;
      pc = h.in_id.1 ∙ h.front_pc_is w 0;
      instr = h.in_id.0.instr_is ∙ ap (λ d. instr_on code d) (h.front_dpc_is w 0);
      a = r.a_is w 0;
      b = r.b_is w 0;
      c = r.c_is w 0;
      result = refl;
    };
    front_dpc_is = λ w v. h.front_pc_is w 0;
    front_pc_is = λ w v. next-pc-same x.instr o.a o.b x.pc _ _ _ (r.a_is w 0) (r.b_is w 0) (h.in_id.1 ∙ h.front_pc_is w 0);
    in_id = tt;
    in_fetch = h.in_fetch;
  }

  pub begin-parts : (mem ex id : Option Slot) (fd fp : ℕ) (y : Slot) → Chained code s mem ex id None fd fp
      → IsAt code (follow id fd fp) y → Chained code s mem ex id (Some y) fd fp
  begin-parts mem ex id fd fp y h is = record {
    in_mem = h.in_mem;
    in_ex = h.in_ex;
    front_dpc_is = h.front_dpc_is;
    front_pc_is = h.front_pc_is;
    in_id = h.in_id;
    in_fetch = is;
  }

  pub enter-parts : (mem ex : Option Slot) (y : Slot) (fd fp : ℕ) → Chained code s mem ex None (Some y) fd fp
      → Chained code s mem ex (Some (record y { pc = fp })) None fd fp
  enter-parts mem ex y fd fp h = record {
    in_mem = h.in_mem;
    in_ex = h.in_ex;
    front_dpc_is = h.front_dpc_is;
    front_pc_is = h.front_pc_is;
    in_id = (record { dpc_is = h.in_fetch.dpc_is; instr_is = h.in_fetch.instr_is }, refl);
    in_fetch = tt;
  }

  -- the same over the whole record, by cases on the stages
  advance-cases : (t : ℕ) (f : Flight) (mem ex : Option Slot) → f.stages.mem ≡ mem → f.stages.ex ≡ ex → IsChained code s f
      → IsChained code s (advanced t f mem ex)
  advance-cases t f (Some m) ex e g h = h
  advance-cases t f None None e g h = h
  advance-cases t f None (Some x) e g h =
      let P : Option Slot → Type 0 = λ o. Chained code s o f.stages.ex f.stages.id f.fetch f.front_dpc f.front_pc in
      let Q : Option Slot → Type 0 = λ o. Chained code s None o f.stages.id f.fetch f.front_dpc f.front_pc in
      advance-parts x f.stages.id f.fetch f.front_dpc f.front_pc (subst Q g (subst P e h))

  pub advance-chained : (t : ℕ) (f : Flight) → IsChained code s f → IsChained code s (advanced t f f.stages.mem f.stages.ex)
  advance-chained t f h = advance-cases t f f.stages.mem f.stages.ex refl refl h

  issue-cases : (t : ℕ) (o : Option Operands) (f : Flight) (ex id : Option Slot) → f.stages.ex ≡ ex → f.stages.id ≡ id
      → ((x : Slot) (p : Operands) → o ≡ Some p → f.stages.id ≡ Some x → AreRead s f.stages.mem f.stages.ex x.instr p.a p.b p.c)
      → IsChained code s f → IsChained code s (issued t o f ex id)
  issue-cases t o f (Some x) id e g r h = h
  issue-cases t o f None None e g r h = h
  issue-cases t None f None (Some x) e g r h = h
  issue-cases t (Some p) f None (Some x) e g r h =
      let P : Option Slot → Type 0 = λ o. Chained code s f.stages.mem o f.stages.id f.fetch f.front_dpc f.front_pc in
      let Q : Option Slot → Type 0 = λ o. Chained code s f.stages.mem None o f.fetch f.front_dpc f.front_pc in
      let R : Option Slot → Type 0 = λ o. AreRead s f.stages.mem o x.instr p.a p.b p.c in
      issue-parts f.stages.mem x p f.fetch f.front_dpc f.front_pc (subst Q g (subst P e h)) (subst R e (r x p refl g))

  pub issue-chained : (t : ℕ) (o : Option Operands) (f : Flight)
      → ((x : Slot) (p : Operands) → o ≡ Some p → f.stages.id ≡ Some x → AreRead s f.stages.mem f.stages.ex x.instr p.a p.b p.c)
      → IsChained code s f → IsChained code s (issued t o f f.stages.ex f.stages.id)
  issue-chained t o f r h = issue-cases t o f f.stages.ex f.stages.id refl refl r h

  begin-cases : (t : ℕ) (word : Option (Option Instr)) (f : Flight) (fetch : Option Slot) → f.fetch ≡ fetch
      → ((i : Option Instr) → f.fetch ≡ None → word ≡ Some i → i ≡ instr_on code (follow f.stages.id f.front_dpc f.front_pc))
      → IsChained code s f → IsChained code s (begun_in t word f fetch)
  begin-cases t word f (Some y) e r h = h
  begin-cases t None f None e r h = h
  begin-cases t (Some i) f None e r h =
      let P : Option Slot → Type 0 = λ o. Chained code s f.stages.mem f.stages.ex f.stages.id o f.front_dpc f.front_pc in
      begin-parts f.stages.mem f.stages.ex f.stages.id f.front_dpc f.front_pc _ (subst P e h)
      (record { dpc_is = refl; instr_is = r i e refl })

  pub begin-chained : (t : ℕ) (word : Option (Option Instr)) (f : Flight)
      → ((i : Option Instr) → f.fetch ≡ None → word ≡ Some i → i ≡ instr_on code (follow f.stages.id f.front_dpc f.front_pc))
      → IsChained code s f → IsChained code s (begun_in t word f f.fetch)
  begin-chained t word f r h = begin-cases t word f f.fetch refl r h

  enter-cases : (t : ℕ) (f : Flight) (id fetch : Option Slot) → f.stages.id ≡ id → f.fetch ≡ fetch → IsChained code s f
      → IsChained code s (entered t f id fetch)
  enter-cases t f (Some x) fetch e g h = h
  enter-cases t f None None e g h = h
  enter-cases t f None (Some y) e g h =
      let P : Option Slot → Type 0 = λ o. Chained code s f.stages.mem f.stages.ex o f.fetch f.front_dpc f.front_pc in
      let Q : Option Slot → Type 0 = λ o. Chained code s f.stages.mem f.stages.ex None o f.front_dpc f.front_pc in
      enter-parts f.stages.mem f.stages.ex y f.front_dpc f.front_pc (subst Q g (subst P e h))

  pub enter-chained : (t : ℕ) (f : Flight) → IsChained code s f → IsChained code s (entered t f f.stages.id f.fetch)
  enter-chained t f h = enter-cases t f f.stages.id f.fetch refl refl h

  -- what was read stays right while the older instructions move on
  pub read-retire : (m : Slot) (ex : Option Slot) (i : Option Instr) (a b c w : ℕ) → AreRead s (Some m) ex i a b c
      → AreRead (passed m.instr s w) None ex i a b c
  read-retire m ex i a b c w h = record {
    a_is = λ u v. h.a_is w v;
    b_is = λ u v. h.b_is w v;
    c_is = λ u v. h.c_is w v;
  }

  pub read-advance : (ex : Option Slot) (i : Option Instr) (a b c : ℕ) → AreRead s None ex i a b c → AreRead s ex None i a b c
  read-advance ex i a b c h = record {
    a_is = λ u v. h.a_is 0 u;
    b_is = λ u v. h.b_is 0 u;
    c_is = λ u v. h.c_is 0 u;
  }

passed-is : (code : List ℕ) (s : CoreState) (m : Slot) (regs : List ℕ) (w : ℕ) → Holds code s m → regs ≡ s.regs
    → passed m.instr s w ≡ record
    { pc = next_pc_where m.instr m.a m.b m.pc; dpc = m.pc; regs = regs_after regs m.instr (if is_load m.instr then w else m.result) }
unfolding passed
passed-is code s m regs w h e =
    rw (h.result, h.a, h.b, h.pc, e) refl

-- the state after the instruction in M is executed
pub retire-state : (code : List ℕ) (f : Flight) (m : Slot) (w : ℕ) → f.stages.wb ≡ None → Holds code (state_of f) m
    → state_of (retired w f (Some m)) ≡ passed m.instr (state_of f) w
retire-state code f m w e h = sym (passed-is code (state_of f) m f.stages.regs w h (sym (ap (λ o. regs_of f.stages.regs o) e)))
