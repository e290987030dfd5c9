-- What is selected is what the state behind the older instructions has.
use Rattle.std.proofs.Common.{◌≡◌, ℕ, ◌<◌, ◌==◌, ◌&&◌, nat_lt, Bool, true, false, refl, ap, sym, ◌∙◌, arith, subst, List, length}
use Rattle.std.proofs.Common.{length-set}
use Rattle.std.specs.Prelude.{Option, Some, None, if◌then◌else◌, slice_index, slice_set}
use Rattle.std.proofs.lemmas.Grind.{common_steps}
use Rattle.mips_isa.specs.declared.Instr.{Instr}
use Rattle.mips_isa.specs.declared.CoreState.{CoreState}
use Rattle.mips_isa.specs.Effects.{rs_of, rt_of, expected_by, written_by}
use Rattle.mips_isa.specs.Steps.{rs_value_at, written_to}
use Rattle.pipe_regs.specs.declared.Slot.{Slot}
use Rattle.forwarding.specs.declared.Operand.{Operand}
use Rattle.forwarding.specs.declared.Operand.TheVariants.{Value, Wait}
use Rattle.forwarding.specs.Select.{in_flight, in_wb, or_else, selected}
use Rattle.pipe_core.specs.declared.flight.Flight.{Flight}
use Rattle.pipe_core.specs.declared.flight.Operands.{Operands}
use Rattle.pipe_core.specs.Chain.{rt_value_at, passed, behind, HoldsWhere, AreRead, regs_of, state_of, IsChained}
use Rattle.pipe_core.specs.Moves.{result_where, regs_after, all_three, operands_of}
use Rattle.pipe_regs.specs.Slots.{is_load, is_written_by}

pub length-after : (regs : List ℕ) (i : Option Instr) (v : ℕ) → length (regs_after regs i v) ≡ length regs
length-after regs None v = refl
length-after regs (Some i) v = length-written regs (written_by i) v where
  length-case : (b : Bool) (regs : List ℕ) (d v : ℕ) → length (if b then regs else slice_set regs d v) ≡ length regs
  length-case true regs d v = refl
  length-case false regs d v = simp length-set

  length-written : (regs : List ℕ) (d v : ℕ) → length (written_to regs d v) ≡ length regs
  length-written regs d v = length-case (d == 0) regs d v

index-written : (regs : List ℕ) (d v r : ℕ) → r < length regs
    → slice_index (written_to regs d v) r ≡ (if nat_lt 0 r && (d == r) then v else slice_index regs r)
index-written regs d v r h = grind (arith, common_steps)

index-after : (regs : List ℕ) (i : Option Instr) (v r : ℕ) → r < length regs
    → slice_index (regs_after regs i v) r ≡ (if is_written_by i r then v else slice_index regs r)
index-after regs None v r h = refl
index-after regs (Some i) v r h = index-written regs (written_by i) v r h

told-case : (b load : Bool) (w result old x : ℕ) (rest : Operand)
    → or_else (if b then Some (if load then Wait else Value result) else None) rest ≡ Value x
    → ((y : ℕ) → rest ≡ Value y → old ≡ y) → (if b then (if load then w else result) else old) ≡ x
told-case true true w result old x rest e h = cc
told-case true false w result old x rest e h = cc
told-case false load w result old x rest e h = h x e

module _ (code : List ℕ) (r : ℕ) (below : r < 32) where
  stage-reads : (s : CoreState) (slot : Option Slot) (w x : ℕ) (rest : Operand) → HoldsWhere code s slot → length s.regs ≡ 32
      → or_else (in_flight slot r) rest ≡ Value x → ((y : ℕ) → rest ≡ Value y → slice_index s.regs r ≡ y)
      → slice_index (behind slot s w).regs r ≡ x
  unfolding passed
  stage-reads s None w x rest h len e k = k x e
  stage-reads s (Some slot) w x rest h len e k =
      let below_len : r < length s.regs = omega arith in
      let result : slot.result ≡ result_where slot.instr (rs_value_at s slot.instr) (rt_value_at s slot.instr) s.pc =
      rw (h.result, h.a, h.b, h.pc) refl in
      index-after s.regs slot.instr _ r below_len
      ∙ told-case (is_written_by slot.instr r) (is_load slot.instr) w _ (slice_index s.regs r) x rest
      (let P : ℕ → Type 0 = λ v. or_else
      (if is_written_by slot.instr r then Some (if is_load slot.instr then Wait else Value v) else None) rest ≡ Value x in
      subst P result e) k

  wb-case : (b : Bool) (result old x : ℕ) → or_else (if b then Some (Value result) else None) (Value old) ≡ Value x
      → (if b then result else old) ≡ x
  wb-case true result old x e = cc
  wb-case false result old x e = cc

  wb-reads : (regs : List ℕ) (wb : Option Slot) (x : ℕ) → length regs ≡ 32 → or_else (in_wb wb r) (Value (slice_index regs r)) ≡ Value x
      → slice_index (regs_of regs wb) r ≡ x
  wb-reads regs None x len e = cc
  wb-reads regs (Some slot) x len e =
      let below_len : r < length regs = omega arith in
      index-after regs slot.instr slot.result r below_len ∙ wb-case (is_written_by slot.instr r) slot.result (slice_index regs r) x e

  length-behind : (s : CoreState) (slot : Option Slot) (w : ℕ) → length s.regs ≡ 32 → length (behind slot s w).regs ≡ 32
  unfolding passed
  length-behind s None w e = e
  length-behind s (Some slot) w e = length-after s.regs slot.instr _ ∙ e

  length-of : (regs : List ℕ) (wb : Option Slot) → length regs ≡ 32 → length (regs_of regs wb) ≡ 32
  length-of regs None e = e
  length-of regs (Some slot) e = length-after regs slot.instr slot.result ∙ e

  pub select-reads : (f : Flight) (x w v : ℕ) → IsChained code (state_of f) f → length f.stages.regs ≡ 32 → selected r f.stages ≡ Value x
      → x ≡ slice_index (behind f.stages.ex (behind f.stages.mem (state_of f) w) v).regs r
  select-reads f x w v h len e =
      let len0 : length (state_of f).regs ≡ 32 = length-of f.stages.regs f.stages.wb len in
      let len1 : length (behind f.stages.mem (state_of f) w).regs ≡ 32 = length-behind (state_of f) f.stages.mem w len0 in
      sym (stage-reads (behind f.stages.mem (state_of f) w) f.stages.ex v x _ (h.in_ex w) len1 e
      (λ y g. stage-reads (state_of f) f.stages.mem w y _ h.in_mem len0 g
      (λ z k. wb-reads f.stages.regs f.stages.wb z len k)))

three-parts : (a b c : Operand) (o : Operands) → all_three a b c ≡ Some o → (a ≡ Value o.a) × (b ≡ Value o.b) × (c ≡ Value o.c)
three-parts (Value a) (Value b) (Value c) o e = (cc, cc, cc)
three-parts (Value a) (Value b) Wait o e = cc
three-parts (Value a) Wait c o e = cc
three-parts Wait b c o e = cc

pub operands-read : (code : List ℕ) (f : Flight) (i : Option Instr) (o : Operands) → IsChained code (state_of f) f
    → length f.stages.regs ≡ 32
    → ((j : Instr) → i ≡ Some j → (rs_of j < 32) × (rt_of j < 32) × (expected_by j < 32))
    → operands_of i f.stages ≡ Some o → AreRead (state_of f) f.stages.mem f.stages.ex i o.a o.b o.c
operands-read code f None o h len few e = record {
  a_is = λ w v. (let g : o ≡ record { a = 0; b = 0; c = 0 } = cc in ap (λ p. p.a) g);
  b_is = λ w v. (let g : o ≡ record { a = 0; b = 0; c = 0 } = cc in ap (λ p. p.b) g);
  c_is = λ w v. (let g : o ≡ record { a = 0; b = 0; c = 0 } = cc in ap (λ p. p.c) g);
}
operands-read code f (Some j) o h len few e =
    let parts = three-parts _ _ _ o e in
    let small = few j refl in
    record {
      a_is = λ w v. select-reads code (rs_of j) small.0 f o.a w v h len parts.0;
      b_is = λ w v. select-reads code (rt_of j) small.1 f o.b w v h len parts.1;
      c_is = λ w v. select-reads code (expected_by j) small.2 f o.c w v h len parts.2;
    }
