-- An engine with five stages uses what it gets.
use Rattle.std.proofs.Common.{◌≡◌, ◌+◌, ◌≤◌, Bool, true, false, refl, arith}
use Rattle.std.specs.Prelude.{Option, Some, None, is_some}
use Rattle.pipe_regs.specs.declared.Slot.{Slot}
use Rattle.mem_port.specs.ServiceHistory.{Service, ServiceHistory, UsesService, one_if}
use Rattle.pipe_core.specs.declared.flight.Flight.{Flight}
use Rattle.pipe_core.specs.PipeView.{PipeValue}
use Rattle.pipe_core.specs.PipeHistory.{stages_left, under_way, UsesClocks, told_by, pipe_timed}

few-left : (mem ex id : Option Slot) → stages_left mem ex id ≤ 3
few-left (Some oldest) ex id = omega arith
few-left None (Some oldest) id = omega arith
few-left None None (Some oldest) = omega arith
few-left None None None = omega arith

pub at-most-one : (b : Bool) → one_if b ≤ 1
at-most-one true = omega arith
at-most-one false = omega arith

pub few-under_way : (flight : Flight) → under_way flight ≤ 4
few-under_way flight =
    let mem = at-most-one (is_some flight.stages.mem) in
    let ex = at-most-one (is_some flight.stages.ex) in
    let id = at-most-one (is_some flight.stages.id) in
    let fetch = at-most-one (is_some flight.fetch) in
    omega (arith, mem, ex, id, fetch)

-- Also in a clock more, in which the core came to a stop and a word of code may have come.
pub uses-more : (old new : Service) (flight : Flight) → UsesClocks old flight → new.clocks ≤ old.clocks + 1 → new.words ≤ old.words + 1
    → old.unmet ≤ new.unmet → new.accesses ≡ old.accesses → UsesService new flight.executed
uses-more old new flight uses clock word unmet same =
    let few = few-left flight.stages.mem flight.stages.ex flight.stages.id in
    let some = few-under_way flight in
    let clocks = uses.clocks in
    let words = uses.words in
    record { clocks = omega (arith, clocks, few, clock, unmet); words = omega (arith, words, some, word); accesses = rw same uses.accesses }

uses-by : (live is_drained : Bool) (history : ServiceHistory) (pipe : PipeValue) → told_by live is_drained history pipe
    → UsesService history.service pipe.flight.executed
uses-by true is_drained history pipe told =
    uses-more history.service history.service pipe.flight told.uses (omega arith) (omega arith) (omega arith) refl
uses-by false true history pipe told = told.uses
uses-by false false history pipe told = told.uses

pub pipe-uses : (history : ServiceHistory) (pipe : PipeValue) → pipe_timed history pipe → UsesService history.service pipe.flight.executed
pipe-uses history pipe told = uses-by pipe.live history.is_drained history pipe told
