use Rattle.std.proofs.Common.{rules, ◌<◌, length}
use Rattle.mem_port.proofs.FlatLaws.{quiet-lawful}
use Rattle.mem_port.proofs.flat.FlatMemoryMemoryCore.take.Goals as goal

pub returns-clause-lawful : goal.returns-clause-lawful
returns-clause-lawful c =
    let within : c.cell_index-index.result < length c.args.self.now.cells.items = search rules in
    quiet-lawful _ _ _ c.args.port _ _ _ c.cell_index-index.ensures.index within c.requires.core c.requires.lawful tt tt (λ core. tt)
    (λ w. w)
