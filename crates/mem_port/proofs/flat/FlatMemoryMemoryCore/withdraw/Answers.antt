use Rattle.std.proofs.Common.{rules, ◌<◌, length}
use Rattle.mem_port.proofs.FlatLaws.{quiet-lawful}
use Rattle.mem_port.proofs.flat.FlatMemoryMemoryCore.withdraw.Goals as goal

pub returns-in-Answered-clause-lawful : goal.returns-in-Answered-clause-lawful
returns-in-Answered-clause-lawful c =
    let within : c.cell_index-index.result < length c.args.self.now.cells.items = search rules in
    quiet-lawful _ _ _ c.args.port _ _ _ c.cell_index-index.ensures.index within c.requires.core c.requires.lawful tt tt (λ core. tt)
    (λ w. w)

pub returns-in_default-clause-lawful : goal.returns-in_default-clause-lawful
returns-in_default-clause-lawful c =
    let within : c.cell_index-index.result < length c.args.self.now.cells.items = search rules in
    quiet-lawful _ _ _ c.args.port _ _ _ c.cell_index-index.ensures.index within c.requires.core c.requires.lawful tt tt (λ core. tt)
    (λ w. w)
