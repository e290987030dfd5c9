-- What is waited for, and when it is there.
use Rattle.std.proofs.Common.{◌≡◌, ℕ, ◌+◌, ◌≤◌, ◌⊎◌, inl, inr, Bool, true, false, refl, ap, sym, ◌∙◌, arith, List, subst}
use Rattle.std.specs.Prelude.{Option, Some, None, if◌then◌else◌}
use Rattle.mips_isa.specs.declared.Instr.{Instr}
use Rattle.mips_isa.specs.Effects.{rs_of, rt_of, expected_by}
use Rattle.pipe_regs.specs.declared.Slot.{Slot}
use Rattle.pipe_regs.specs.declared.Stages.{Stages}
use Rattle.pipe_regs.specs.Slots.{is_load, is_written_by}
use Rattle.forwarding.specs.declared.Operand.{Operand}
use Rattle.forwarding.specs.declared.Operand.TheVariants.{Value, Wait}
use Rattle.forwarding.specs.Select.{in_flight, in_wb, or_else, selected}
use Rattle.timetable.specs.declared.rows.TimeRow.{TimeRow}
use Rattle.timetable.specs.Recurrence.{greater, due_f, due_d, due_e}
use Rattle.timetable.specs.Tables.{Timed, ready_in, ready_for}
use Rattle.pipe_core.specs.declared.flight.Operands.{Operands}
use Rattle.pipe_core.specs.Moves.{all_three, operands_of}
use Rattle.pipe_core.specs.OnTime.{onto}
use Rattle.pipe_core.proofs.OnTimeLemmas.{greater-left, greater-right, greater-below}

-- whether the last earlier writer among EX and M is a load
abbrev pub writes : Option Slot → ℕ → Bool
writes None r = false
writes (Some x) r = is_written_by x.instr r

abbrev pub loads_in : Option Slot → Bool
loads_in None = false
loads_in (Some x) = is_load x.instr

abbrev pub waits : Option Slot → Option Slot → ℕ → Bool
waits ex mem r = if writes ex r then loads_in ex else (if writes mem r then loads_in mem else false)

flight-case : (b l : Bool) (v : ℕ) (rest : Operand) (w : Bool) → (rest ≡ Wait → w ≡ true)
    → or_else (if b then Some (if l then Wait else Value v) else None) rest ≡ Wait
    → (if b then l else w) ≡ true
flight-case true true v rest w k e = refl
flight-case true false v rest w k e = cc
flight-case false l v rest w k e = k e

flight-free : (b l : Bool) (v x : ℕ) (rest : Operand) (w : Bool) → ((y : ℕ) → rest ≡ Value y → w ≡ false)
    → or_else (if b then Some (if l then Wait else Value v) else None) rest ≡ Value x
    → (if b then l else w) ≡ false
flight-free true true v x rest w k e = cc
flight-free true false v x rest w k e = refl
flight-free false l v x rest w k e = k x e

stage-wait : (slot : Option Slot) (r : ℕ) (rest : Operand) (w : Bool) → (rest ≡ Wait → w ≡ true) → or_else (in_flight slot r) rest ≡ Wait
    → (if writes slot r then loads_in slot else w) ≡ true
stage-wait None r rest w k e = k e
stage-wait (Some x) r rest w k e = flight-case (is_written_by x.instr r) (is_load x.instr) x.result rest w k e

stage-free : (slot : Option Slot) (r x : ℕ) (rest : Operand) (w : Bool) → ((y : ℕ) → rest ≡ Value y → w ≡ false)
    → or_else (in_flight slot r) rest ≡ Value x
    → (if writes slot r then loads_in slot else w) ≡ false
stage-free None r x rest w k e = k x e
stage-free (Some s) r x rest w k e = flight-free (is_written_by s.instr r) (is_load s.instr) s.result x rest w k e

wb-value : (b : Bool) (v w : ℕ) → or_else (if b then Some (Value v) else None) (Value w) ≡ Wait → ⊥
wb-value true v w e = cc
wb-value false v w e = cc

wb-free : (wb : Option Slot) (r v : ℕ) → or_else (in_wb wb r) (Value v) ≡ Wait → ⊥
wb-free None r v e = cc
wb-free (Some x) r v e = wb-value (is_written_by x.instr r) x.result v e

pub select-wait : (r : ℕ) (s : Stages) → selected r s ≡ Wait → waits s.ex s.mem r ≡ true
select-wait r s e = stage-wait s.ex r _ _ (λ g. stage-wait s.mem r _ _ (λ k. absurd (wb-free s.wb r _ k)) g) e

pub select-free : (r x : ℕ) (s : Stages) → selected r s ≡ Value x → waits s.ex s.mem r ≡ false
select-free r x s e = stage-free s.ex r x _ _ (λ y g. stage-free s.mem r y _ _ (λ z k. refl) g) e

-- all operands are there, or one is waited for
pub record NoneWaits (ex mem : Option Slot) (i : Instr) : Type 0 where
  pub rs_free : waits ex mem (rs_of i) ≡ false
  pub rt_free : waits ex mem (rt_of i) ≡ false
  pub expected_free : waits ex mem (expected_by i) ≡ false

three-free : (s : Stages) (r q p : ℕ) (a b c : Operand) (o : Operands) → selected r s ≡ a → selected q s ≡ b → selected p s ≡ c
    → all_three a b c ≡ Some o
    → (waits s.ex s.mem r ≡ false) × ((waits s.ex s.mem q ≡ false) × (waits s.ex s.mem p ≡ false))
three-free s r q p (Value a) (Value b) (Value c) o e g h k = (select-free r a s e, (select-free q b s g, select-free p c s h))
three-free s r q p (Value a) (Value b) Wait o e g h k = cc
three-free s r q p (Value a) Wait c o e g h k = cc
three-free s r q p Wait b c o e g h k = cc

pub operands-free : (s : Stages) (i : Instr) (o : Operands) → operands_of (Some i) s ≡ Some o → NoneWaits s.ex s.mem i
operands-free s i o e =
    let t = three-free s (rs_of i) (rt_of i) (expected_by i) _ _ _ o refl refl refl e in
    record { rs_free = t.0; rt_free = t.1.0; expected_free = t.1.1 }

three-wait : (s : Stages) (r q p : ℕ) (a b c : Operand) → selected r s ≡ a → selected q s ≡ b → selected p s ≡ c → all_three a b c ≡ None
    → (x : ℕ) × (((x ≡ r) ⊎ ((x ≡ q) ⊎ (x ≡ p))) × (waits s.ex s.mem x ≡ true))
three-wait s r q p (Value a) (Value b) (Value c) e g h k = cc
three-wait s r q p (Value a) (Value b) Wait e g h k = (p, (inr (inr refl), select-wait p s h))
three-wait s r q p (Value a) Wait c e g h k = (q, (inr (inl refl), select-wait q s g))
three-wait s r q p Wait b c e g h k = (r, (inl refl, select-wait r s e))

pub operands-wait : (s : Stages) (i : Instr) → operands_of (Some i) s ≡ None
    → (x : ℕ) × (((x ≡ rs_of i) ⊎ ((x ≡ rt_of i) ⊎ (x ≡ expected_by i))) × (waits s.ex s.mem x ≡ true))
operands-wait s i e = three-wait s (rs_of i) (rt_of i) (expected_by i) _ _ _ refl refl refl e

none-waits : (s : Stages) (i : Instr) → s.ex ≡ None → s.mem ≡ None → operands_of (Some i) s ≡ None → ⊥
none-waits s i e g h =
    let w = operands-wait s i h in
    let P : Option Slot → Option Slot → Type 0 = λ x y. waits x y w.0 ≡ true in
    let P1 : Option Slot → Type 0 = λ x. P x s.mem in
    let P2 : Option Slot → Type 0 = λ y. P None y in
    let no = subst P2 g (subst P1 e w.1.1) in
    cc

-- where nothing older is under way, all operands are there
pub operands-there : (s : Stages) (i : Option Instr) → s.ex ≡ None → s.mem ≡ None → (o : Operands) × (operands_of i s ≡ Some o)
operands-there s i e g = by-case i (operands_of i s) refl where
  by-case : (i : Option Instr) (o : Option Operands) → operands_of i s ≡ o → (p : Operands) × (operands_of i s ≡ Some p)
  by-case i (Some p) h = (p, h)
  by-case None None h = cc
  by-case (Some j) None h = absurd (none-waits s j e g h)

-- an operand that nothing is to be waited for is there
ready-case : (b l : Bool) (m rest t : ℕ) (w : Bool) → (if b then l else w) ≡ false → (w ≡ false → rest ≤ t)
    → (if b then (if l then m + 1 else 0) else rest) ≤ t
ready-case true true m rest t w e k = cc
ready-case true false m rest t w e k = omega arith
ready-case false l m rest t w e k = k e

ready-stage : (slot : Option Slot) (row : TimeRow) (past : List Timed) (r t : ℕ) (w : Bool)
    → (if writes slot r then loads_in slot else w) ≡ false
    → (w ≡ false → ready_in past r ≤ t) → ready_in (onto slot row past) r ≤ t
ready-stage None row past r t w e k = k e
ready-stage (Some x) row past r t w e k = ready-case (is_written_by x.instr r) (is_load x.instr) row.m (ready_in past r) t w e k

pub ready-free : (ex mem : Option Slot) (q o : TimeRow) (past : List Timed) (r t : ℕ) → waits ex mem r ≡ false → ready_in past r ≤ t
    → ready_in (onto ex q (onto mem o past)) r ≤ t
ready-free ex mem q o past r t e h = ready-stage ex q _ r t _ e (λ g. ready-stage mem o past r t false g (λ _. h))

pub ready-for-free : (ex mem : Option Slot) (q o : TimeRow) (past : List Timed) (i : Instr) (t : ℕ) → NoneWaits ex mem i
    → ((r : ℕ) → ready_in past r ≤ t)
    → ready_for (onto ex q (onto mem o past)) (Some i) ≤ t
ready-for-free ex mem q o past i t h k =
    greater-below _ _ t (ready-free ex mem q o past (rs_of i) t h.rs_free (k (rs_of i)))
    (greater-below _ _ t (ready-free ex mem q o past (rt_of i) t h.rt_free (k (rt_of i)))
    (ready-free ex mem q o past (expected_by i) t h.expected_free (k (expected_by i))))

-- the greatest of three that reaches a bound
pub greatest : (a b c t : ℕ) → a ≤ t → b ≤ t → c ≤ t → (a ≡ t) ⊎ ((b ≡ t) ⊎ (c ≡ t)) → greater a (greater b c) ≡ t
greatest a b c t h k l (inl e) = greater-left a (greater b c) (rw e (greater-below b c t k l)) ∙ e
greatest a b c t h k l (inr (inl e)) = ap (λ x. greater a x) (greater-left b c (rw e l) ∙ e) ∙ greater-right a t h
greatest a b c t h k l (inr (inr e)) = ap (λ x. greater a x) (greater-right b c (rw e k) ∙ e) ∙ greater-right a t h

-- D: one of F + 1, the E before, and the operands reaches the clock, and none is later
pub d-due : (row : TimeRow) (ready f t : ℕ) → f + 1 ≤ t → row.e ≤ t → ready ≤ t → (f + 1 ≡ t) ⊎ ((row.e ≡ t) ⊎ (ready ≡ t))
    → t ≡ due_d row ready f
d-due row ready f t h k l e = sym (greatest (f + 1) row.e ready t h k l e)

pub e-due : (row : TimeRow) (d t : ℕ) → d + 1 ≤ t → row.m ≤ t → (d + 1 ≡ t) ⊎ (row.m ≡ t) → t ≡ due_e row d
e-due row d t h k (inl e) = sym (greater-left (d + 1) row.m (rw e k) ∙ e)
e-due row d t h k (inr e) = sym (greater-right (d + 1) row.m (rw e h) ∙ e)

pub f-due : (row : TimeRow) (i t : ℕ) → i ≤ t → row.d ≤ t → (i ≡ t) ⊎ (row.d ≡ t) → t ≡ due_f row i
f-due row i t h k (inl e) = sym (greater-left i row.d (rw e k) ∙ e)
f-due row i t h k (inr e) = sym (greater-right i row.d (rw e h) ∙ e)
