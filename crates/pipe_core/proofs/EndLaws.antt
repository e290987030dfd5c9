-- Where the budget of a core is spent whose wants were met at once, the next instruction would not be done within it.
use Rattle.std.proofs.Common.{[], ◌≡◌, ℕ, ◌+◌, ◌*◌, ◌<◌, ◌≤◌, ◌⊎◌, inl, inr, Bool, true, false, refl, ap, sym, ◌∙◌, arith, subst, List}
use Rattle.std.proofs.Common.{length, IsSome}
use Rattle.std.specs.Prelude.{Option, Some, None}
use Rattle.mips_isa.specs.declared.Instr.{Instr}
use Rattle.mips_isa.specs.Effects.{is_off_code}
use Rattle.access_log.specs.declared.request.Request.{Request}
use Rattle.mem_port.specs.ServiceHistory.{ServiceHistory}
use Rattle.pipe_regs.specs.declared.Slot.{Slot}
use Rattle.timetable.specs.declared.rows.TimeRow.{TimeRow}
use Rattle.timetable.specs.Recurrence.{no_row}
use Rattle.timetable.specs.Tables.{Timed, prior, ready_for, past_of}
use Rattle.timetable.specs.Trace.{instr_on}
use Rattle.timetable.specs.AtOnce.{first_f, first_d, first_m}
use Rattle.timetable.specs.Ends.{EndsSpent}
use Rattle.timetable.proofs.FirstClockLaws.{first-m-d, first-d-f, first-d-ready, first-f-i, begins-first, decodes-first, executes-first}
use Rattle.pipe_core.specs.declared.flight.Flight.{Flight}
use Rattle.pipe_core.specs.Chain.{behind, HoldsWhere, DecodesWhere, state_of}
use Rattle.pipe_core.specs.OnTime.{onto, mem_row, ex_row, ExecutesIn, DecodesIn, BeginsIn}
use Rattle.pipe_core.specs.PipeHistory.{IsUnderWay, IsMetWithin}
use Rattle.pipe_core.specs.PipeView.{PipeValue}
use Rattle.pipe_core.specs.Punctual.{last_in, last_f, IsTimed}
use Rattle.pipe_core.specs.Wants.{access_in, place_of}
use Rattle.pipe_core.proofs.WaitLemmas.{operands-there}
use Rattle.pipe_core.proofs.WantLemmas.{fetch-wanted}

module _ (history : ServiceHistory) (v : PipeValue) (zero : history.bound ≡ Some 0) (under : IsUnderWay history v) where
  abbrev f : Flight
  f = v.flight

  abbrev t : ℕ
  t = v.clocks

  abbrev past : List Timed
  past = past_of [] v.table.instrs v.table.rows

  abbrev due : Option Instr
  due = instr_on v.image.code (state_of v.flight).dpc

  timed : IsTimed (Some 0) v.image t f v.table
  timed = (let P : Option ℕ → Type 0 = λ k. IsTimed k v.image t f v.table in subst P zero under.timed)

  by-mem : (m : Slot) → f.stages.mem ≡ Some m → t < first_m past due
  by-mem m e =
      let P : Option Slot → Type 0 = λ s. ExecutesIn (Some 0) past s f.mem_times in
      let Q : Option Slot → Type 0 = λ s. HoldsWhere v.image.code (state_of f) s in
      let on = subst P e timed.stages.mem_on in
      let at : m.instr ≡ due = (subst Q e under.chained.in_mem).instr in
      let first = executes-first past m.instr _ _ _ _ on ∙ ap (λ i. first_m past i) at in
      let late = by-access (access_in v.image f.executed f.stages.mem) refl in
      omega arith where
        by-access : (o : Option Request) → access_in v.image f.executed f.stages.mem ≡ o → t ≤ f.mem_times.e
        by-access None g = (let h = timed.punctual.mem_now m e g in omega arith)
        by-access (Some r) g =
            let some : IsSome (access_in v.image f.executed f.stages.mem) = rw g refl in
            let P : Option ℕ → Type 0 = λ k. IsMetWithin k t history.access_left f.mem_times.e in
            let h = subst P zero (under.access_soon some) in omega (arith)

  by-ex : (x : Slot) → f.stages.mem ≡ None → f.stages.ex ≡ Some x → t < first_m past due
  by-ex x e g =
      let P : Option Slot → Option Slot → Type 0 = λ s u. DecodesIn (Some 0) (onto s (mem_row f.mem_times no_row) past) u f.ex_times in
      let P1 : Option Slot → Type 0 = λ s. P s f.stages.ex in
      let P2 : Option Slot → Type 0 = λ u. P None u in
      let on = subst P2 g (subst P1 e (timed.stages.ex_on no_row)) in
      let Q : Option Slot → Option Slot → Type 0 = λ s u. HoldsWhere v.image.code (behind s (state_of f) 0) u in
      let Q1 : Option Slot → Type 0 = λ s. Q s f.stages.ex in
      let Q2 : Option Slot → Type 0 = λ u. Q None u in
      let at : x.instr ≡ due = (subst Q2 g (subst Q1 e (under.chained.in_ex 0))).instr in
      let first = decodes-first past x.instr _ _ _ on ∙ ap (λ i. first_d past i) at in
      let now = timed.punctual.ex_now x g e in
      let more = first-m-d past due in
      omega arith

  by-id : (x : Slot) → f.stages.mem ≡ None → f.stages.ex ≡ None → f.stages.id ≡ Some x → t < first_m past due
  by-id x e g h =
      let P : Option Slot → Option Slot → Option Slot
      → Type 0 = λ s u w. BeginsIn (Some 0) (onto u (ex_row f.ex_times no_row) (onto s (mem_row f.mem_times no_row) past)) w
      f.id_times in
      let P1 : Option Slot → Type 0 = λ s. P s f.stages.ex f.stages.id in
      let P2 : Option Slot → Type 0 = λ u. P None u f.stages.id in
      let P3 : Option Slot → Type 0 = λ w. P None None w in
      let on = subst P3 h (subst P2 g (subst P1 e (timed.stages.id_on no_row no_row))) in
      let Q : Option Slot → Type 0 = λ s. DecodesWhere v.image.code f.front_dpc f.front_pc s in
      let there = subst Q h under.chained.in_id in
      let R : Option Slot → Option Slot → Type 0 = λ s u. f.front_dpc ≡ (behind u (behind s (state_of f) 0) 0).dpc in
      let of_ex : Option Slot → Type 0 = λ s. R s f.stages.ex in
      let of_mem : Option Slot → Type 0 = λ u. R None u in
      let front : f.front_dpc ≡ (state_of f).dpc = subst of_mem g (subst of_ex e (under.chained.front_dpc_is 0 0)) in
      let at : x.instr ≡ due = there.0.instr_is ∙ ap (λ d. instr_on v.image.code d) front in
      let first = begins-first past x.instr _ _ on in
      let ops = operands-there f.stages x.instr g e in
      let now = timed.punctual.id_now x ops.0 h g ops.1 in
      by-why x at first now where
        by-why : (x : Slot) → x.instr ≡ due → f.id_times.f ≡ first_f past
            → (f.id_times.f ≡ t) ⊎ ((r : TimeRow) → ready_for (onto f.stages.mem r past) x.instr ≡ t + 1) → t < first_m past due
        by-why x at first (inl k) = (let a = first-m-d past due in let b = first-d-f past due in omega arith)
        by-why x at first (inr k) =
            let S : Option Slot → Type 0 = λ s. ready_for (onto s no_row past) x.instr ≡ t + 1 in
            let ready : ready_for past due ≡ t + 1 = ap (λ i. ready_for past i) (sym at) ∙ subst S e (k no_row) in
            let a = first-m-d past due in let b = first-d-ready past due in omega arith

  by-none : f.stages.mem ≡ None → f.stages.ex ≡ None → f.stages.id ≡ None → t < first_m past due
  by-none e g h =
      let empty = timed.punctual.fetch_now h in
      let last : last_f past f ≡ (prior past).f = none-left f.stages.id f.stages.ex f.stages.mem h g e in
      let late : t ≤ (prior past).f = by-place empty last (is_off_code (4 * length v.image.code) (place_of f)) refl in
      let a = first-m-d past due in let b = first-d-f past due in let d = first-f-i past in
      omega arith where
        none-left : (id ex mem : Option Slot) → id ≡ None → ex ≡ None → mem ≡ None
            → last_in id ex mem f.id_times f.ex_times f.mem_times past ≡ (prior past).f
        none-left None None None e g h = refl
        none-left None None (Some x) e g h = cc
        none-left None (Some x) mem e g h = cc
        none-left (Some x) ex mem e g h = cc

        by-place : f.fetch ≡ None → last_f past f ≡ (prior past).f → (b : Bool) → is_off_code (4 * length v.image.code) (place_of f) ≡ b
            → t ≤ (prior past).f
        by-place empty last true k = (let n = timed.punctual.off_now empty k in omega (arith, n, last))
        by-place empty last false k =
            let P : Option ℕ → Type 0 = λ b. IsMetWithin b t history.fetch_left (last_f past f) in
            let n = subst P zero (under.fetch_soon (fetch-wanted v.image f empty k)) in
            omega (arith, last)

  next-later : (mem ex id : Option Slot) → f.stages.mem ≡ mem → f.stages.ex ≡ ex → f.stages.id ≡ id → t < first_m past due
  next-later (Some m) ex id e g h = by-mem m e
  next-later None (Some x) id e g h = by-ex x e g
  next-later None None (Some x) e g h = by-id x e g h
  next-later None None None e g h = by-none e g h

  pub spent : EndsSpent (Some 0) v.table.instrs due history.service.clocks v.table.rows
  spent = record {
    table = timed.rows;
    within = rw under.clocks timed.punctual.before.m;
    no_more = rw under.clocks (let later = next-later f.stages.mem f.stages.ex f.stages.id refl refl refl in omega (arith, later));
  }
