-- A word and an answer that are kept are what is due exactly where they come within the bound.
use Rattle.std.proofs.Common.{◌≡◌, ℕ, ◌+◌, ◌≤◌, List, refl, ap, sym, ◌∙◌, arith}
use Rattle.std.specs.Prelude.{min, max, Option, Some, None}
use Rattle.std.proofs.Math.Nat.{le-max_left, max-eq_right, max-le, min-le_right, min-eq_left}
use Rattle.mips_isa.specs.declared.Instr.{Instr}
use Rattle.mips_isa.specs.declared.Kind.{Kind}
use Rattle.timetable.specs.Tables.{Timed, prior, IsSoon, Takes, IsAnswered}
use Rattle.row_check.specs.Rows.{due_within, word_within, answer_within}

due-is : (bound : Option ℕ) (first kept : ℕ) → kept ≡ due_within bound first kept → (first ≤ kept) × IsSoon bound first kept
due-is None first kept is = (let late = le-max_left first kept in omega (arith, is, late), tt)
due-is (Some bound) first kept is =
    let late = le-max_left first (min kept (first + bound)) in
    let soon : max first (min kept (first + bound)) ≤ first + bound = max-le (omega arith) (min-le_right kept (first + bound)) in
    (omega (arith, is, late), omega (arith, is, soon))

due-agrees : (bound : Option ℕ) (first kept : ℕ) → first ≤ kept → IsSoon bound first kept → kept ≡ due_within bound first kept
due-agrees None first kept late soon = sym (max-eq_right late)
due-agrees (Some bound) first kept late soon =
    sym (ap (λ n. max first n) (min-eq_left soon) ∙ max-eq_right late)

soon-first : (bound : Option ℕ) (first : ℕ) → IsSoon bound first first
soon-first None first = tt
soon-first (Some bound) first = omega arith

-- ---- a word

pub taken-is : (bound : Option ℕ) (past : List Timed) (instr : Option Instr) (i : ℕ)
    → i ≡ word_within bound instr ((prior past).f + 1) i → Takes bound past instr i
taken-is bound past None i is = record {
  later = omega (arith, is);
  off = λ none. is;
  soon = rw is (soon-first bound ((prior past).f + 1));
}
taken-is bound past (Some instr) i is =
    let h = due-is bound ((prior past).f + 1) i is in
    let first = h.0 in
    record { later = omega (arith, first); off = λ none. cc; soon = h.1 }

pub taken-agrees : (bound : Option ℕ) (past : List Timed) (instr : Option Instr) (i : ℕ) → Takes bound past instr i
    → i ≡ word_within bound instr ((prior past).f + 1) i
taken-agrees bound past None i h = h.off refl
taken-agrees bound past (Some instr) i h =
    let later = h.later in due-agrees bound ((prior past).f + 1) i (omega (arith, later)) h.soon

-- ---- an answer

pub answered-is : (bound : Option ℕ) (kind : Option Kind) (e : ℕ) (a : Option ℕ) → a ≡ answer_within bound kind e a
    → IsAnswered bound kind e a
answered-is bound None e a is = is
answered-is bound (Some kind) e None is = cc
answered-is bound (Some kind) e (Some a) is =
    let h = due-is bound (e + 1) a cc in
    let first = h.0 in
    (omega (arith, first), h.1)

pub answered-agrees : (bound : Option ℕ) (kind : Option Kind) (e : ℕ) (a : Option ℕ) → IsAnswered bound kind e a
    → a ≡ answer_within bound kind e a
answered-agrees bound None e a h = h
answered-agrees bound (Some kind) e None h = absurd h
answered-agrees bound (Some kind) e (Some a) h =
    let later = h.0 in ap (λ n. Some n) (due-agrees bound (e + 1) a (omega (arith, later)) h.1)
