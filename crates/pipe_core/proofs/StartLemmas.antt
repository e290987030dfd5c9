-- An engine at its start, with nothing under way.
use Rattle.std.proofs.Common.{[], ◌≡◌, ℕ, true, refl, ap, sym, arith, subst}
use Rattle.std.specs.Prelude.{Option, Some, None}
use Rattle.image_file.specs.Value.{ImageValue, start_state}
use Rattle.mem_port.specs.ServiceHistory.{Service, no_service, ServiceHistory, IsLeft, IsFirstHistory}
use Rattle.pipe_regs.specs.declared.Slot.{Slot}
use Rattle.timetable.specs.Trace.{walks, trace}
use Rattle.pipe_core.specs.declared.flight.Flight.{Flight}
use Rattle.pipe_core.specs.declared.flight.Times.{Times}
use Rattle.pipe_core.specs.Chain.{state_of, IsChained}
use Rattle.pipe_core.specs.PipeHistory.{IsMetWithin, UsesClocks, IsUnderWay}
use Rattle.pipe_core.specs.PipeRun.{AreOf}
use Rattle.pipe_core.specs.PipeView.{pipe_of}
use Rattle.pipe_core.specs.Punctual.{last_in, IsTimed, TimesBelow}
use Rattle.pipe_core.specs.Steps.{IsEmpty}
use Rattle.pipe_core.specs.Table.{TableValue}
use Rattle.pipe_core.specs.Wants.{access_in}

-- Before the first clock each want may stay unmet for the bound.
met-first : (bound : Option ℕ) (left : ℕ) → IsLeft {W = ℕ} bound None None 0 left → IsMetWithin bound 0 left 0
met-first None left h = tt
met-first (Some bound) left h = omega arith

start-left : (id ex mem : Option Slot) (ti tx tm : Times) → id ≡ None → ex ≡ None → mem ≡ None → last_in id ex mem ti tx tm [] ≡ 0
start-left None None None ti tx tm e g h = refl
start-left None None (Some x) ti tx tm e g h = cc
start-left None (Some x) mem ti tx tm e g h = cc
start-left (Some x) ex mem ti tx tm e g h = cc

-- nothing under way: a timetable without rows
pub start-timed : (k : Option ℕ) (p : ImageValue) (f : Flight) (u : TableValue) → IsEmpty f → u.rows ≡ [] → u.instrs ≡ []
    → TimesBelow 0 f.mem_times → TimesBelow 0 f.ex_times → TimesBelow 0 f.id_times → TimesBelow 0 f.fetch_times → IsTimed k p 0 f u
start-timed k p f u empty rows instrs tm tx ti tf = record {
  rows = rw (rows, instrs) tt;
  stages = rw (instrs, empty.mem, empty.ex, empty.id, empty.fetch)
      (record { mem_on = tt; ex_on = λ r. tt; id_on = λ r q. tt; fetch_on = λ r q o. tt });
  punctual = rw instrs (record {
    before = record { f = omega arith; d = omega arith; e = omega arith; m = omega arith; ready = λ r. omega arith };
    mem_below = tm;
    ex_below = tx;
    id_below = ti;
    fetch_below = tf;
    mem_now = λ m e g. (let k = empty.mem in cc);
    ex_now = λ x e g. (let k = empty.ex in cc);
    id_now = λ x o e g l. (let k = empty.id in cc);
    fetch_now = λ e. empty.fetch;
    off_now = λ e g. start-left f.stages.id f.stages.ex f.stages.mem f.id_times f.ex_times f.mem_times empty.id empty.ex empty.mem;
  });
}

pub start-under : (p : ImageValue) (c n budget : ℕ) (f : Flight) (u : TableValue) (history : ServiceHistory) → IsFirstHistory history
    → IsEmpty f → u.rows ≡ [] → u.instrs ≡ [] → f.executed ≡ 0 → state_of f ≡ start_state p c n
    → IsChained p.code (state_of f) f
    → TimesBelow 0 f.mem_times → TimesBelow 0 f.ex_times → TimesBelow 0 f.id_times → TimesBelow 0 f.fetch_times
    → IsUnderWay history (pipe_of p c n budget 0 true f u)
unfolding walks trace
start-under p c n budget f u history first empty rows instrs executed state chained tm tx ti tf =
    let last = start-left f.stages.id f.stages.ex f.stages.mem f.id_times f.ex_times f.mem_times empty.id empty.ex empty.mem in
    let S : Service → Type 0 = λ s. AreOf p c n f.executed (state_of f) s.accesses u.instrs u.rows in
    let run : S no_service = rw (executed, state, instrs, rows) (record { walked = refl; instrs_are = refl; count = refl; clocks = tt }) in
    let U : Service → Type 0 = λ s. UsesClocks s f in
    let uses : U no_service = record { clocks = omega arith; words = omega arith; accesses = omega arith } in
    record {
      drained = first.drained;
      clocks = ap (λ (s : Service). s.clocks) first.service;
      chained = chained;
      timed = start-timed history.bound p f u empty rows instrs tm tx ti tf;
      fetch_soon = λ some. rw (instrs, last) (met-first history.bound history.fetch_left first.fetch);
      access_soon = λ some. (let none = ap (λ o. access_in p f.executed o) empty.mem in cc);
      run = subst S (sym first.service) run;
      uses = subst U (sym first.service) uses;
    }
