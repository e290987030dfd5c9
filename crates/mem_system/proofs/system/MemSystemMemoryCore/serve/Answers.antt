use Rattle.std.proofs.Common.{rules, ◌<◌, ◌∙◌, sym, length, arith}
use Rattle.mem_system.proofs.CallLaws.{quiet-kept, hit-queued, hit-lawful, hit-made, joined-queued, joined-lawful, joined-made}
use Rattle.mem_system.proofs.CallLaws.{answered-room, answered-idle, joined-room, joined-idle}
use Rattle.mem_system.proofs.system.MemSystemMemoryCore.serve.Goals as goal

pub invariant_of-self-clause-quiet : goal.invariant_of-self-clause-quiet
invariant_of-self-clause-quiet c =
    quiet-kept c.args.self.now.bus c.answer-word.new.self c.answer-word.ensures.bus c.answer-word.ensures.slaves c.args.self.now.quiet

pub invariant_of-self-clause-queued : goal.invariant_of-self-clause-queued
invariant_of-self-clause-queued c =
    let within : c.cell_index-index.result < length c.args.self.now.cells.items = search rules in
    hit-queued c.args.self.now.bus c.args.self.now.cells.items c.args.self.now.queue.items c.args.port c.cell_index-index.result
    c.index.result.now c.cell_index-index.ensures.index within c.index.ensures c.answer-word.new.self c.in-Asked.request
    c.answer-word.result c.requires.lawful c.requires.core c.args.self.now.queued c.in-Asked.is c.answer-word.ensures.kept
    c.answer-word.ensures.items c.answer-word.ensures.word c.answer-word.ensures.follows

pub invariant_of-self-clause-room : goal.invariant_of-self-clause-room
invariant_of-self-clause-room c =
    let within : c.cell_index-index.result < length c.args.self.now.cells.items = search rules in
    answered-room c.args.self.now.cells.items c.cell_index-index.result c.index.result.now within c.index.ensures c.in-Asked.request
    c.answer-word.result _ _ c.in-Asked.is c.args.self.now.room c.answer-word.ensures.spare

pub invariant_of-self-clause-queue_room : goal.invariant_of-self-clause-queue_room
invariant_of-self-clause-queue_room c =
    let within : c.cell_index-index.result < length c.args.self.now.cells.items = search rules in
    answered-idle c.args.self.now.cells.items c.cell_index-index.result c.index.result.now within c.index.ensures c.in-Asked.request
    c.answer-word.result _ _ c.in-Asked.is c.args.self.now.queue_room

pub invariant_of-self-else-serves-clause-queued : goal.invariant_of-self-else-serves-clause-queued
invariant_of-self-else-serves-clause-queued c =
    let within : c.cell_index-index.result < length c.args.self.now.cells.items = search rules in
    rw c.push_reserved.ensures.items
    (joined-queued c.args.self.now.bus c.args.self.now.cells.items c.args.self.now.queue.items c.args.port c.cell_index-index.result
    c.index.result.now c.cell_index-index.ensures.index within c.index.ensures c.requires.lawful c.requires.core c.args.self.now.queued
    c.in-Asked.request _ c.in-Asked.is)

pub invariant_of-self-else-serves-clause-room : goal.invariant_of-self-else-serves-clause-room
invariant_of-self-else-serves-clause-room c =
    let within : c.cell_index-index.result < length c.args.self.now.cells.items = search rules in
    joined-room c.args.self.now.cells.items c.cell_index-index.result c.index.result.now within c.index.ensures c.in-Asked.request _
    c.in-Asked.is c.args.self.now.room

pub invariant_of-self-else-serves-clause-queue_room : goal.invariant_of-self-else-serves-clause-queue_room
invariant_of-self-else-serves-clause-queue_room c =
    let within : c.cell_index-index.result < length c.args.self.now.cells.items = search rules in
    let h = joined-idle c.args.self.now.cells.items c.cell_index-index.result c.index.result.now within c.index.ensures c.in-Asked.request
    _ _ c.in-Asked.is c.args.self.now.queue_room in
    omega (arith, h, c.push_reserved.ensures.len, c.push_reserved.ensures.capacity)

pub returns-then-serves-clause-lawful : goal.returns-then-serves-clause-lawful
returns-then-serves-clause-lawful c =
    let within : c.cell_index-index.result < length c.args.self.now.cells.items = search rules in
    hit-lawful c.args.self.now.bus c.args.self.now.cells.items c.args.self.now.queue.items c.args.port c.cell_index-index.result
    c.index.result.now c.cell_index-index.ensures.index within c.index.ensures c.answer-word.new.self c.in-Asked.request
    c.answer-word.result c.requires.lawful c.requires.core c.args.self.now.queued c.in-Asked.is c.answer-word.ensures.kept
    c.answer-word.ensures.items c.answer-word.ensures.word c.answer-word.ensures.follows

pub returns-then-serves-clause-made : goal.returns-then-serves-clause-made
returns-then-serves-clause-made c =
    let within : c.cell_index-index.result < length c.args.self.now.cells.items = search rules in
    hit-made c.args.self.now.bus c.args.self.now.cells.items c.args.self.now.queue.items c.args.port c.cell_index-index.result
    c.index.result.now c.cell_index-index.ensures.index within c.index.ensures c.answer-word.new.self c.in-Asked.request
    c.answer-word.result c.requires.lawful c.requires.core c.args.self.now.queued c.in-Asked.is c.answer-word.ensures.kept
    c.answer-word.ensures.items c.answer-word.ensures.word c.answer-word.ensures.follows
    c.args.self.now.quiet (sym c.serves.ensures.serves ∙ c.if-serves.true)

pub returns-else-serves-clause-lawful : goal.returns-else-serves-clause-lawful
returns-else-serves-clause-lawful c =
    let within : c.cell_index-index.result < length c.args.self.now.cells.items = search rules in
    rw c.push_reserved.ensures.items
    (joined-lawful c.args.self.now.bus c.args.self.now.cells.items c.args.self.now.queue.items c.args.port c.cell_index-index.result
    c.index.result.now c.cell_index-index.ensures.index within c.index.ensures c.requires.lawful c.requires.core c.args.self.now.queued
    c.in-Asked.request _ c.in-Asked.is)

pub returns-else-serves-clause-made : goal.returns-else-serves-clause-made
returns-else-serves-clause-made c =
    let within : c.cell_index-index.result < length c.args.self.now.cells.items = search rules in
    rw c.push_reserved.ensures.items
    (joined-made c.args.self.now.bus c.args.self.now.cells.items c.args.self.now.queue.items c.args.port c.cell_index-index.result
    c.index.result.now c.cell_index-index.ensures.index within c.index.ensures c.in-Asked.request c.in-Asked.is c.args.self.now.quiet
    (sym c.serves.ensures.serves ∙ c.if-serves.false))
