-- What holds of stages and clocks within a clock, behind the move of each stage.
use Rattle.std.proofs.Common.{◌≡◌, ℕ, ◌+◌, ◌*◌, ◌≤◌, ◌⊎◌, true, false, arith, List, length}
use Rattle.std.specs.Prelude.{Option, Some, None}
use Rattle.mips_isa.specs.declared.Instr.{Instr}
use Rattle.mips_isa.specs.Effects.{rs_of, rt_of, expected_by, is_off_code}
use Rattle.pipe_regs.specs.declared.Slot.{Slot}
use Rattle.timetable.specs.declared.rows.TimeRow.{TimeRow}
use Rattle.timetable.specs.Recurrence.{due_d}
use Rattle.timetable.specs.Tables.{Timed, prior, ready_in, ready_for, IsSoon}
use Rattle.image_file.specs.Value.{ImageValue}
use Rattle.pipe_core.specs.declared.flight.Flight.{Flight}
use Rattle.pipe_core.specs.declared.flight.Operands.{Operands}
use Rattle.pipe_core.specs.declared.flight.Times.{Times}
use Rattle.pipe_core.specs.OnTime.{onto, mem_row, IsTimely}
use Rattle.pipe_core.specs.Punctual.{last_f, TimesBelow}
use Rattle.pipe_core.specs.Wants.{place_of, access_in}
use Rattle.pipe_core.proofs.WaitLemmas.{waits}

abbrev pub IsRead : Option Instr → ℕ → Type 0
IsRead None r = ⊥
IsRead (Some j) r = (r ≡ rs_of j) ⊎ ((r ≡ rt_of j) ⊎ (r ≡ expected_by j))

-- an operand is waited for, or it comes in the next clock
pub record Blocked (ex mem : Option Slot) (past : List Timed) (i : Option Instr) (t : ℕ) : Type 0 where
  pub r : ℕ
  pub read : IsRead i r
  pub why : (waits ex mem r ≡ true) ⊎ ((q o : TimeRow) → ready_in (onto ex q (onto mem o past)) r ≡ t)

pub record Earlier (t : ℕ) (past : List Timed) : Type 0 where
  pub f : (prior past).f ≤ t
  pub d : (prior past).d ≤ t + 1
  pub e : (prior past).e ≤ t
  pub m : (prior past).m ≤ t + 1
  pub ready : (r : ℕ) → ready_in past r ≤ t + 2

-- What an instruction that begins in clock t + 1 finds: where it begins, when the one before it left IF, and that it comes
-- in time. Off the code something always begins.
pub record IsReady (k : Option ℕ) (p : ImageValue) (t : ℕ) (past : List Timed) (left place : ℕ) (held : Option Slot)
    (word : Option (Option Instr)) (f : Flight) : Type 0 where
  pub left_is : last_f past f ≡ left
  pub place_is : place_of f ≡ place
  pub held_is : f.fetch ≡ held
  pub taken : f.fetch ≡ None → (i : Option Instr) → word ≡ Some i → (i ≡ None → left ≡ t) × IsSoon k (left + 1) (t + 1)
  pub idle : f.fetch ≡ None → word ≡ None → is_off_code (4 * length p.code) place ≡ false

-- The last instruction left IF when it did before; then IF is empty only where it was and no word came.
pub record LeavesAs (now left : ℕ) (held : Option Slot) (word : Option (Option Instr)) (f : Flight) : Type 0 where
  pub left_is : now ≡ left
  pub was : f.fetch ≡ None → held ≡ None
  pub no_word : f.fetch ≡ None → word ≡ None

-- in clock t + 1, after M
pub record AfterM (k : Option ℕ) (p : ImageValue) (t : ℕ) (past : List Timed) (left place : ℕ) (held : Option Slot)
    (ops : Option Operands) (word : Option (Option Instr)) (f : Flight) : Type 0 where
  pub timely : IsTimely k past f
  pub started : IsReady k p t past left place held word f
  pub earlier : Earlier t past
  pub mem_below : TimesBelow t f.mem_times
  pub ex_below : TimesBelow t f.ex_times
  pub id_below : TimesBelow t f.id_times
  pub fetch_below : TimesBelow t f.fetch_times
  pub ex_due : (x : Slot) → f.stages.mem ≡ None → f.stages.ex ≡ Some x → (f.ex_times.d ≡ t) ⊎ ((prior past).m ≡ t + 1)
  pub asks : (m : Slot) → f.stages.mem ≡ Some m → access_in p f.executed f.stages.mem ≡ None → ⊥
  pub free : (x : Slot) (o : Operands) → f.stages.id ≡ Some x → ops ≡ Some o → (q r : TimeRow)
      → ready_for (onto f.stages.ex q (onto f.stages.mem r past)) x.instr ≤ t + 1
  pub id_due : (x : Slot) (o : Operands) → f.stages.id ≡ Some x → ops ≡ Some o → f.stages.ex ≡ None
      → (f.id_times.f ≡ t) ⊎ ((r : TimeRow) → ready_for (onto f.stages.mem r past) x.instr ≡ t + 1)
  pub blocked : (x : Slot) → f.stages.id ≡ Some x → ops ≡ None → Blocked f.stages.ex f.stages.mem past x.instr (t + 2)
  pub fetch_now : f.stages.id ≡ None → f.fetch ≡ None

-- after EX
pub record AfterE (k : Option ℕ) (p : ImageValue) (t : ℕ) (past : List Timed) (left place : ℕ) (held : Option Slot)
    (ops : Option Operands) (word : Option (Option Instr)) (f : Flight) : Type 0 where
  pub timely : IsTimely k past f
  pub started : IsReady k p t past left place held word f
  pub earlier : Earlier t past
  pub mem_below : TimesBelow (t + 1) f.mem_times
  pub mem_f : f.mem_times.f ≤ t
  pub ex_below : TimesBelow t f.ex_times
  pub id_below : TimesBelow t f.id_times
  pub fetch_below : TimesBelow t f.fetch_times
  pub mem_now : (m : Slot) → f.stages.mem ≡ Some m → access_in p f.executed f.stages.mem ≡ None → f.mem_times.e ≡ t + 1
  pub stuck : (x : Slot) → f.stages.ex ≡ Some x → f.stages.mem ≡ None → ⊥
  pub d_due : (x : Slot) (o : Operands) → f.stages.id ≡ Some x → ops ≡ Some o → f.stages.ex ≡ None → (r : TimeRow)
      → t + 1 ≡ due_d (prior (onto f.stages.mem (mem_row f.mem_times r) past))
      (ready_for (onto f.stages.mem (mem_row f.mem_times r) past) x.instr) f.id_times.f
  pub blocked : (x : Slot) → f.stages.id ≡ Some x → ops ≡ None → f.stages.ex ≡ None → Blocked None f.stages.mem past x.instr (t + 2)
  pub fetch_now : f.stages.id ≡ None → f.fetch ≡ None

-- after ID, and after a begin in IF
pub record AfterD (k : Option ℕ) (p : ImageValue) (t : ℕ) (past : List Timed) (left place : ℕ) (held : Option Slot)
    (ops : Option Operands) (word : Option (Option Instr)) (f : Flight) : Type 0 where
  pub timely : IsTimely k past f
  pub earlier : Earlier t past
  pub mem_below : TimesBelow (t + 1) f.mem_times
  pub ex_below : TimesBelow (t + 1) f.ex_times
  pub mem_f : f.mem_times.f ≤ t
  pub ex_f : f.ex_times.f ≤ t
  pub id_below : TimesBelow t f.id_times
  pub fetch_below : TimesBelow (t + 1) f.fetch_times
  pub mem_now : (m : Slot) → f.stages.mem ≡ Some m → access_in p f.executed f.stages.mem ≡ None → f.mem_times.e ≡ t + 1
  pub ex_now : (x : Slot) → f.stages.ex ≡ Some x → f.stages.mem ≡ None → f.ex_times.d ≡ t + 1
  pub blocked : (x : Slot) → f.stages.id ≡ Some x → f.stages.ex ≡ None → Blocked None f.stages.mem past x.instr (t + 2)
  pub f_due : (y : Slot) → f.stages.id ≡ None → f.fetch ≡ Some y
      → (f.fetch_times.i ≡ t + 1) ⊎ ((x : Slot) × ((f.stages.ex ≡ Some x) × (f.ex_times.d ≡ t + 1)))

-- After a begin: IF is empty only where it was, no word came, and one was wanted.
pub record IsIdle (p : ImageValue) (past : List Timed) (left : ℕ) (held : Option Slot) (word : Option (Option Instr)) (f : Flight) : Type
    0 where
  pub left_is : last_f past f ≡ left
  pub was : f.fetch ≡ None → held ≡ None
  pub no_word : f.fetch ≡ None → word ≡ None
  pub on : f.fetch ≡ None → is_off_code (4 * length p.code) (place_of f) ≡ false

pub later : (t : ℕ) (times : Times) → TimesBelow t times → TimesBelow (t + 1) times
later t times b =
    let i = b.i in let f = b.f in let d = b.d in let e = b.e in
    record { i = omega arith; f = omega arith; d = omega arith; e = omega arith }
