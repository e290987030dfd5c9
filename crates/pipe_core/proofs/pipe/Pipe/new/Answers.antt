use Rattle.std.specs.Prelude.{None}
use Rattle.std.proofs.Common.{inl, ap, arith, ◌≡◌, ◌+◌}
use Rattle.pipe_core.proofs.StartLemmas.{start-under, start-timed}
use Rattle.pipe_core.proofs.pipe.Pipe.new.Goals as goal

pub invariant_of-result : goal.invariant_of-result
invariant_of-result c =
    let room : c.in_ok-table.table.spare ≡ c.args.budget + 1 = ap (λ t. t.spare) c.in_ok-table.ensures.empty in
    let timed = start-timed None c.args.image.now c.starting.result c.in_ok-table.table c.starting.ensures.empty
    (ap (λ t. t.rows) c.in_ok-table.ensures.empty) (ap (λ t. t.instrs) c.in_ok-table.ensures.empty)
    c.starting.ensures.mem_times c.starting.ensures.ex_times c.starting.ensures.id_times c.starting.ensures.fetch_times in
    record {
      good = c.lines_of-lines.ensures.good;
      chained = c.starting.ensures.chained _;
      fit = c.starting.ensures.fit;
      within = omega arith;
      small = c.requires.budget;
      executed = omega arith;
      spare = omega arith;
      rows = inl timed.rows;
      timed = λ l. timed;
    }

pub returns-clause-timed : goal.returns-clause-timed
returns-clause-timed c history first =
    start-under c.args.image.now c.args.core c.args.cores c.args.budget c.starting.result c.in_ok-table.table history first
    c.starting.ensures.empty
    (ap (λ t. t.rows) c.in_ok-table.ensures.empty) (ap (λ t. t.instrs) c.in_ok-table.ensures.empty) c.starting.ensures.executed
    c.starting.ensures.state (c.starting.ensures.chained _)
    c.starting.ensures.mem_times c.starting.ensures.ex_times c.starting.ensures.id_times c.starting.ensures.fetch_times
