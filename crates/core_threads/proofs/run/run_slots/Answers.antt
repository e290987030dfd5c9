use Rattle.std.proofs.Common.{ℕ, ap, sym, subst, arith}
use Rattle.std.proofs.lemmas.Option.{slice_get_within}
use Rattle.timetable.specs.Outcome.{OutcomeValue}
use Rattle.mem_port.specs.Memory.{IsFresh, IsAtOnce}
use Rattle.mem_port.specs.ServiceHistory.{ServiceHistory}
use Rattle.core_run.specs.Outcomes.{IsStartSlot, IsRun, EndsServed, NoneWaited}
use Rattle.core_run.proofs.DoneLaws.{run-is, entries-settled}
use Rattle.turn.specs.Views.{CoresFit, counted}
use Rattle.core_threads.proofs.RunLemmas.{ended-alone}
use Rattle.core_threads.proofs.LeftLemmas.{slot-at, pass-at, as-many, speaks-all, rests-own, ends-done, ends-served, all-served}
use Rattle.core_threads.proofs.run.run_slots.Goals as goal

pub run_workers-requires-clause-fresh : goal.run_workers-requires-clause-fresh
run_workers-requires-clause-fresh g c κs within =
    let view = g.M.MemoryCore.view in
    subst (λ m. IsFresh (view m).image (view m).cores c.args.budget (view m).caches (view m)) (sym c.in_ok-turn.ensures.memory)
    c.requires.fresh

pub run_workers-requires-clause-ready : goal.run_workers-requires-clause-ready
run_workers-requires-clause-ready g c κs within core w got =
    let view = g.M.MemoryCore.view in
    let cores = ap (λ m. (view m).cores) c.in_ok-turn.ensures.memory in
    let starts = as-many c.args.slots.items c.in_ok-workers.workers.items c.in_ok-workers.ensures.slots in
    let here = slice_get_within c.in_ok-workers.workers.items core w got in
    let start = c.requires.slots core w.slot (slot-at _ core _ w c.in_ok-workers.ensures.slots got) in
    record {
      slot = subst (λ m. IsStartSlot (view m).image core (view m).cores c.args.budget (g.E.CoreEngine.view w.slot.engine) w.slot.lane
          w.slot.end w.slot.cycles) (sym c.in_ok-turn.ensures.memory) start;
      within = omega (arith, cores, starts, here, c.requires.cores, c.args.slots.ok.0);
      pass = c.in_ok-turn.ensures.passes core w.pass (pass-at _ core _ w c.in_ok-workers.ensures.passes got);
    }

pub gather-pass-requires-clause-alone : goal.gather-pass-requires-clause-alone
gather-pass-requires-clause-alone g c core w got =
    ended-alone g.E.CoreEngine.view c.in_ok-turn.turn c.args.budget core w (c.run_workers.ensures.worked core w got).1.1.ended

pub close-requires-clause-all : goal.close-requires-clause-all
close-requires-clause-all g c =
    let view = g.M.MemoryCore.view in
    let cores = ap (λ m. (view m).cores) c.in_ok-turn.ensures.memory in
    let starts = as-many c.args.slots.items c.in_ok-workers.workers.items c.in_ok-workers.ensures.slots in
    speaks-all g.E.CoreEngine.view g.E.TimedEngine.rows g.E.CoreEngine.timed c.in_ok-turn.turn c.args.budget c.run_workers.new.workers.items
    (λ core w got. (c.run_workers.ensures.worked core w got).1.1.ended) c.gather-pass.result c.gather-pass.ensures.cores
    (omega (
      arith,
      cores,
      starts,
      c.requires.cores,
      c.args.slots.ok.0,
      c.in_ok-workers.workers.ok.0,
      c.run_workers.ensures.count,
      c.run_workers.new.workers.ok.0,
    ))

pub close-requires-clause-rest : goal.close-requires-clause-rest
close-requires-clause-rest g c =
    let starts = as-many c.args.slots.items c.in_ok-workers.workers.items c.in_ok-workers.ensures.slots in
    rests-own g.E.CoreEngine.view g.E.TimedEngine.rows g.E.CoreEngine.timed c.in_ok-turn.turn c.args.budget c.run_workers.new.workers.items
    (λ core w got. (c.run_workers.ensures.worked core w got).1.1.ended) c.gather-pass.result c.gather-pass.ensures.cores
    (omega (
      arith,
      starts,
      c.requires.some,
      c.args.slots.ok.0,
      c.in_ok-workers.workers.ok.0,
      c.run_workers.ensures.count,
      c.run_workers.new.workers.ok.0,
    ))

pub returns-clause-run : goal.returns-clause-run
returns-clause-run g c =
    let view = g.M.MemoryCore.view in
    let m = view c.close.result in
    let fits = c.close.ensures.cores in
    let kept = c.close.ensures.kept in
    let ends = c.gather-pass.new.ends.items in
    let cores = ap (λ m. (view m).cores) c.in_ok-turn.ensures.memory in
    let starts = as-many c.args.slots.items c.in_ok-workers.workers.items c.in_ok-workers.ensures.slots in
    let R : g.row.M.Denot → Type 0 = λ first. IsRun (view first).image (view first).cores c.args.budget (view first).caches
    (record { cores = ends; words = c.settle-words.result.0; items = c.settle-words.result.1.items }) in
    subst R c.in_ok-turn.ensures.memory
    (rw (sym kept.image, sym kept.cores, sym kept.caches)
    (run-is c.args.budget m ends
    (omega (
      arith,
      cores,
      starts,
      kept.cores,
      c.requires.cores,
      c.args.slots.ok.0,
      c.in_ok-workers.workers.ok.0,
      c.run_workers.ensures.count,
      c.gather-pass.ensures.count,
    ))
    (ends-done g.E.CoreEngine.view g.E.TimedEngine.rows g.E.CoreEngine.timed c.in_ok-turn.turn c.args.budget c.run_workers.new.workers.items
    (λ core w got. (c.run_workers.ensures.worked core w got).1.1.ended) (counted m fits.0) kept
    (subst (λ vs. CoresFit (counted m fits.0) vs) c.gather-pass.ensures.cores fits.1) ends c.gather-pass.ensures.ends)
    _ _ c.close.ensures.lawful c.settle-words.ensures.settles))

pub returns-clause-served : goal.returns-clause-served
returns-clause-served g c tells =
    let view = g.M.MemoryCore.view in
    let m = view c.close.result in
    let fits = c.close.ensures.cores in
    let workers = c.run_workers.new.workers.items in
    let cores = ap (λ first. (view first).cores) c.in_ok-turn.ensures.memory in
    let starts = as-many c.args.slots.items c.in_ok-workers.workers.items c.in_ok-workers.ensures.slots in
    let settled = c.settle-words.result in
    let outcome : OutcomeValue = record { cores = c.gather-pass.new.ends.items; words = settled.0; items = settled.1.items } in
    let all = all-served g.E.CoreEngine.view g.E.TimedEngine.rows g.E.CoreEngine.timed c.in_ok-turn.turn c.args.budget workers _ _
    (omega (
      arith,
      cores,
      starts,
      c.requires.cores,
      c.args.slots.ok.0,
      c.in_ok-workers.workers.ok.0,
      c.run_workers.ensures.count,
      c.run_workers.new.workers.ok.0,
    )) c.in_ok-workers.ensures.slots c.run_workers.ensures.worked tells in
    let served = ends-served g.E.CoreEngine.view g.E.TimedEngine.rows g.E.CoreEngine.timed c.in_ok-turn.turn c.args.budget workers
    (λ core w got. (c.run_workers.ensures.worked core w got).1.1.ended) (counted m fits.0) c.close.ensures.kept
    (subst (λ vs. CoresFit (counted m fits.0) vs) c.gather-pass.ensures.cores fits.1) c.gather-pass.new.ends.items
    c.gather-pass.ensures.ends outcome.words outcome.items all.0 (entries-settled c.settle-words.ensures.settles) all.1.0 in
    let S : g.row.M.Denot → Type 0 = λ first. (histories : ℕ → ServiceHistory)
    × (EndsServed g.E.CoreEngine.view g.E.TimedEngine.rows g.E.CoreEngine.timed (view first) outcome histories
    × (IsAtOnce (view first) → NoneWaited (view first).cores histories)) in
    subst S c.in_ok-turn.ensures.memory (all.0, (served, all.1.1))
