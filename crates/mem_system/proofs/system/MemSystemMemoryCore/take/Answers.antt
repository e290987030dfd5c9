use Rattle.std.proofs.Common.{rules, ◌<◌, length}
use Rattle.mem_system.proofs.CallLaws.{taken-lawful}
use Rattle.mem_system.proofs.system.MemSystemMemoryCore.take.Goals as goal

pub returns-clause-lawful : goal.returns-clause-lawful
returns-clause-lawful c =
    let within : c.cell_index-index.result < length c.args.self.now.cells.items = search rules in
    taken-lawful c.args.self.now.bus c.args.self.now.cells.items c.args.self.now.queue.items c.args.port c.cell_index-index.result
    c.index.result.now c.cell_index-index.ensures.index within c.index.ensures c.requires.lawful c.requires.core c.args.self.now.queued _ _
    _ c.in-Answered.is
