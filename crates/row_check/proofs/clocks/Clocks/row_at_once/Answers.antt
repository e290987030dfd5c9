use Rattle.std.proofs.Common.{arith}
use Rattle.row_check.proofs.ClocksLemmas.{f-within, d-within, e-within}
use Rattle.row_check.proofs.clocks.Clocks.row_at_once.Goals as goal

pub due_e-e-requires : goal.due_e-e-requires
due_e-e-requires c =
    let d = d-within 1000000 c.args.self.now.prior c.requires.within.last c.ready_for.result c.due_f-f.result c.due_d-d.result
    (c.ready_for.ensures.within 1000000 c.requires.within) c.due_f-f.ensures.value c.due_d-d.ensures.value in
    record { fits = omega (arith, d) }

pub answer_at-requires-clause-fits : goal.answer_at-requires-clause-fits
answer_at-requires-clause-fits c =
    let e = e-within 1000000 c.args.self.now.prior c.requires.within.last c.ready_for.result c.due_f-f.result c.due_d-d.result
    c.due_e-e.result (c.ready_for.ensures.within 1000000 c.requires.within) c.due_f-f.ensures.value c.due_d-d.ensures.value
    c.due_e-e.ensures.value in
    omega (arith, e)

pub overflow_add-m : goal.overflow_add-m
overflow_add-m c =
    let e = e-within 1000000 c.args.self.now.prior c.requires.within.last c.ready_for.result c.due_f-f.result c.due_d-d.result
    c.due_e-e.result (c.ready_for.ensures.within 1000000 c.requires.within) c.due_f-f.ensures.value c.due_d-d.ensures.value
    c.due_e-e.ensures.value in
    omega (arith, e)

pub overflow_add-result : goal.overflow_add-result
overflow_add-result c =
    let e = e-within 1000000 c.args.self.now.prior c.requires.within.last c.ready_for.result c.due_f-f.result c.due_d-d.result
    c.due_e-e.result (c.ready_for.ensures.within 1000000 c.requires.within) c.due_f-f.ensures.value c.due_d-d.ensures.value
    c.due_e-e.ensures.value in
    omega (arith, e)

pub returns-clause-within : goal.returns-clause-within
returns-clause-within c bound within =
    let is_ready = c.ready_for.ensures.within bound within in
    let f = f-within bound c.args.self.now.prior within.last c.due_f-f.result c.due_f-f.ensures.value in
    let d = d-within bound c.args.self.now.prior within.last c.ready_for.result c.due_f-f.result c.due_d-d.result is_ready
    c.due_f-f.ensures.value c.due_d-d.ensures.value in
    let e = e-within bound c.args.self.now.prior within.last c.ready_for.result c.due_f-f.result c.due_d-d.result c.due_e-e.result
    is_ready c.due_f-f.ensures.value c.due_d-d.ensures.value c.due_e-e.ensures.value in
    record { i = omega (arith, within.last.f); f = omega (arith, f); d = omega (arith, d); e = omega (arith, e); m = omega (arith, e) }
