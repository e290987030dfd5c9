use Rattle.std.proofs.Common.{rules, ◌≡◌, ◌<◌, ◌∙◌, ap, sym, length}
use Rattle.mem_port.specs.declared.port.PortState.TheVariants.{Free}
use Rattle.mem_port.specs.declared.cell.Cell.{Cell}
use Rattle.mem_system.proofs.SystemLaws.{read-cell}
use Rattle.mem_system.proofs.CallLaws.{asked-lawful}
use Rattle.mem_system.proofs.system.MemSystemMemoryCore.ask.Goals as goal

pub returns-clause-lawful : goal.returns-clause-lawful
returns-clause-lawful c =
    let at = c.cell_index-index.ensures.index in
    let within : c.cell_index-index.result < length c.args.self.now.cells.items = search rules in
    let free : c.index.result.now.state ≡ Free =
    ap (λ (x : Cell). x.state) (sym
    (read-cell c.args.self.now.cells.items c.args.port c.cell_index-index.result c.index.result.now at within
    c.index.ensures)) ∙ c.requires.free in
    asked-lawful c.args.self.now.bus c.args.self.now.cells.items c.args.self.now.queue.items c.args.port c.cell_index-index.result
    c.index.result.now at within c.index.ensures c.requires.lawful c.requires.core c.args.self.now.queued c.args.request _ free
    c.requires.proper
