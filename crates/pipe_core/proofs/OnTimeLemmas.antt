-- Each move keeps the clocks.
use Rattle.std.proofs.Common.{[], ◌∷◌, ◌++◌, ◌≡◌, ℕ, ◌+◌, ◌≤◌, refl, arith, List}
use Rattle.std.specs.Prelude.{Option, Some, None}
use Rattle.std.proofs.lemmas.Grind.{common_steps}
use Rattle.mips_isa.specs.declared.Instr.{Instr}
use Rattle.pipe_regs.specs.declared.Slot.{Slot}
use Rattle.timetable.specs.declared.rows.TimeRow.{TimeRow}
use Rattle.timetable.specs.Recurrence.{greater, due_f, due_d, due_e, due_m}
use Rattle.timetable.specs.Tables.{Timed, timed, prior, ready_for, Takes, IsAnswered, IsRow, IsStopRow, IsTable, past_of}
use Rattle.mips_isa.specs.Steps.{kind_at}
use Rattle.pipe_core.specs.declared.flight.Operands.{Operands}
use Rattle.pipe_core.specs.declared.flight.Times.{Times}
use Rattle.pipe_core.specs.Moves.{with_operands}
use Rattle.pipe_core.specs.OnTime.{mem_row, ex_row, id_row, onto, IsOnTime}

module _ (k : Option ℕ) (past : List Timed) (tm tx ti tf : Times) where
  -- the row of the instruction that is executed joins the past
  pub retire-on_time : (m : Slot) (ex id fetch : Option Slot) (r : TimeRow) → IsOnTime k past (Some m) ex id fetch tm tx ti tf
      → IsOnTime k (timed m.instr (mem_row tm r) ∷ past) None ex id fetch tm tx ti tf
  retire-on_time m ex id fetch r h = record {
    mem_on = tt;
    ex_on = λ u. h.ex_on r;
    id_on = λ u q. h.id_on r q;
    fetch_on = λ u q o. h.fetch_on r q o;
  }

  -- the row itself
  pub retire-row : (m : Slot) (r : TimeRow) (ex id fetch : Option Slot) → IsOnTime k past (Some m) ex id fetch tm tx ti tf
      → IsAnswered k (kind_at m.instr) tm.e r.a → r.m ≡ due_m tm.e r.a → r.w ≡ Some (r.m + 1)
      → IsRow k past m.instr (mem_row tm r)
  retire-row m r ex id fetch h a e w = record { executes = h.mem_on; a = a; m = e; w = w }

  pub stop-row : (m : Slot) (r : TimeRow) (ex id fetch : Option Slot) → IsOnTime k past (Some m) ex id fetch tm tx ti tf → r.a ≡ None
      → r.m ≡ tm.e + 1 → r.w ≡ None
      → IsStopRow k past m.instr (mem_row tm r)
  stop-row m r ex id fetch h a e w = record { executes = h.mem_on; a = a; m = e; w = w }

  pub advance-on_time : (x : Slot) (id fetch : Option Slot) (t : ℕ) → t ≡ due_e (prior past) tx.d
      → IsOnTime k past None (Some x) id fetch tm tx ti tf
      → IsOnTime k past (Some x) None id fetch (record { i = tx.i; f = tx.f; d = tx.d; e = t }) tx ti tf
  advance-on_time x id fetch t e h = record {
    mem_on = record {
      decodes = h.ex_on (mem_row tm (ex_row tx (record { i = 0; f = 0; d = 0; e = 0; a = None; m = 0; w = None })));
      executed = e;
    };
    ex_on = λ r. tt;
    id_on = λ r q. h.id_on r (record { i = 0; f = 0; d = 0; e = t; a = r.a; m = r.m; w = r.w });
    fetch_on = λ r q o. h.fetch_on r (record { i = 0; f = 0; d = 0; e = t; a = r.a; m = r.m; w = r.w }) o;
  }

  pub issue-on_time : (mem : Option Slot) (x : Slot) (o : Operands) (fetch : Option Slot) (t : ℕ)
      → ((r : TimeRow) → t ≡ due_d (prior (onto mem (mem_row tm r) past)) (ready_for (onto mem (mem_row tm r) past) x.instr) ti.f)
      → IsOnTime k past mem None (Some x) fetch tm tx ti tf
      → IsOnTime k past mem (Some (with_operands x o)) None fetch tm (record { i = ti.i; f = ti.f; d = t; e = ti.e }) ti tf
  issue-on_time mem x o fetch t e h = record {
    mem_on = h.mem_on;
    ex_on = λ r. record { begins = h.id_on r r; decoded = e r };
    id_on = λ r q. tt;
    fetch_on = λ r q o. h.fetch_on r q (record { i = 0; f = 0; d = t; e = q.e; a = q.a; m = q.m; w = q.w });
  }

  pub begin-on_time : (mem ex id : Option Slot) (y : Slot) (t : ℕ)
      → ((r q o : TimeRow) → Takes k (onto id (id_row ti o) (onto ex (ex_row tx q) (onto mem (mem_row tm r) past))) y.instr t)
      → IsOnTime k past mem ex id None tm tx ti tf
      → IsOnTime k past mem ex id (Some y) tm tx ti (record { i = t; f = 0; d = 0; e = 0 })
  begin-on_time mem ex id y t e h = record {
    mem_on = h.mem_on;
    ex_on = h.ex_on;
    id_on = h.id_on;
    fetch_on = λ r q o. e r q o;
  }

  pub enter-on_time : (mem ex : Option Slot) (y : Slot) (pc t : ℕ)
      → ((r q : TimeRow) → t ≡ due_f (prior (onto ex (ex_row tx q) (onto mem (mem_row tm r) past))) tf.i)
      → IsOnTime k past mem ex None (Some y) tm tx ti tf
      → IsOnTime k past mem ex (Some (record y { pc = pc })) None tm tx (record { i = tf.i; f = t; d = tf.d; e = tf.e }) tf
  enter-on_time mem ex y pc t e h = record {
    mem_on = h.mem_on;
    ex_on = h.ex_on;
    id_on = λ r q. record { taken = h.fetch_on r q r; leaves = e r q };
    fetch_on = λ r q o. tt;
  }

-- a row more at the end of a table
pub past_of-append : (k : Option ℕ) (past : List Timed) (instrs : List (Option Instr)) (rows : List TimeRow) (i : Option Instr)
    (r : TimeRow) → IsTable k past instrs rows
    → past_of past (instrs ++ i ∷ []) (rows ++ r ∷ []) ≡ timed i r ∷ past_of past instrs rows
past_of-append k past [] [] i r h = refl
past_of-append k past [] (q ∷ rows) i r h = absurd h
past_of-append k past (j ∷ instrs) [] i r h = absurd h
past_of-append k past (j ∷ instrs) (q ∷ rows) i r h = past_of-append k (timed j q ∷ past) instrs rows i r h.1

pub table-append : (k : Option ℕ) (past : List Timed) (instrs : List (Option Instr)) (rows : List TimeRow) (i : Option Instr)
    (r : TimeRow) → IsTable k past instrs rows
    → IsRow k (past_of past instrs rows) i r → IsTable k past (instrs ++ i ∷ []) (rows ++ r ∷ [])
table-append k past [] [] i r h row = (row, tt)
table-append k past [] (q ∷ rows) i r h row = absurd h
table-append k past (j ∷ instrs) [] i r h row = absurd h
table-append k past (j ∷ instrs) (q ∷ rows) i r h row = (h.0, table-append k (timed j q ∷ past) instrs rows i r h.1 row)

pub greater-left : (a b : ℕ) → b ≤ a → greater a b ≡ a
greater-left a b h = grind (arith, common_steps)

pub greater-right : (a b : ℕ) → a ≤ b → greater a b ≡ b
greater-right a b h = grind (arith, common_steps)

pub greater-below : (a b c : ℕ) → a ≤ c → b ≤ c → greater a b ≤ c
greater-below a b c h k = grind (arith, common_steps)
