use Rattle.std.proofs.Common.{◌≡◌, ◌<◌, ℕ, subst, sym, ap, ◌∙◌}
use Rattle.access_log.specs.Items.{own_items}
use Rattle.mem_port.specs.Ports.{core_of, IsAtRest}
use Rattle.turn.specs.Views.{CoresFit, counted}
use Rattle.turn.specs.Counting.{seen}
use Rattle.turn.specs.Passes.{first_view, all_cores}
use Rattle.turn.proofs.Closing.{open-own, rest-own, rest-port, rest-paid}
use Rattle.turn.proofs.pass.Turn.close.Goals as goal

pub returns-clause-ports : goal.returns-clause-ports
returns-clause-ports g c = λ q within. (
    let view = g.M.MemoryCore.view in let vs = all_cores c.args.pass in let e = c.into_memory.ensures.memory in
    let near = subst (λ (n : ℕ). core_of q < n) (ap (λ m. (view m).cores) e ∙ c.close.ensures.kept.cores) within in
    subst (λ m. IsAtRest ((view m).port q)) (sym e)
    (rest-port (seen c.close.result) vs c.close.ensures.cores (open-own vs c.requires.rest c.args.pass.joined_rest) q
    (c.requires.all (core_of q) near)))

pub returns-clause-own : goal.returns-clause-own
returns-clause-own g c = λ i v got. (
    let view = g.M.MemoryCore.view in let vs = all_cores c.args.pass in
    subst (λ m. own_items (view m).history v.core ≡ v.entries) (sym c.into_memory.ensures.memory)
    (rest-own (seen c.close.result) vs c.close.ensures.cores (open-own vs c.requires.rest c.args.pass.joined_rest) i v got))

pub returns-clause-paid : goal.returns-clause-paid
returns-clause-paid g c = λ told i v got.
    rest-paid (first_view c.args.self) (seen c.close.result) (all_cores c.args.pass) c.close.ensures.kept c.close.ensures.cores
    c.close.result.paid c.requires.all told i v got

pub returns-clause-cores : goal.returns-clause-cores
returns-clause-cores g c =
    let view = g.M.MemoryCore.view in let n = (seen c.close.result).numbers in
    (n, subst (λ m. CoresFit (counted (view m) n) (all_cores c.args.pass)) (sym c.into_memory.ensures.memory) c.close.ensures.cores)
