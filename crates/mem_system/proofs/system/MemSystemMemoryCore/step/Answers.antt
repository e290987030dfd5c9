use Rattle.std.proofs.Common.{rules, ◌≡◌, refl, length, arith, ◌*◌}
use Rattle.mem_system.proofs.CallLaws.{quiet-kept, quiet-off, place-port, first-within, first-core, first-state}
use Rattle.mem_system.proofs.CallLaws.{first-may, first-room, step-room, step-idle}
use Rattle.mem_system.proofs.CallLaws.{step-queued, step-lawful, step-made}
use Rattle.mem_system.proofs.system.MemSystemMemoryCore.step.Goals as goal

pub index-requires : goal.index-requires
index-requires c =
    let len : length c.args.self.now.cells.items ≡ 2 * c.args.self.now.bus.cores = search rules in
    let within = first-within c.args.self.now.bus c.args.self.now.cells.items c.args.self.now.queue.items c.take_first-cache.new.queue.items
    c.take_first-cache.result c.requires.lawful c.args.self.now.queued len c.take_first-cache.ensures.first in
    search rules

pub unreachable-requires : goal.unreachable-requires
unreachable-requires c =
    let len : length c.args.self.now.cells.items ≡ 2 * c.args.self.now.bus.cores = search rules in
    let state = first-state c.args.self.now.bus c.args.self.now.cells.items c.args.self.now.queue.items c.take_first-cache.new.queue.items
    c.take_first-cache.result c.requires.lawful c.args.self.now.queued len c.take_first-cache.ensures.first _ refl c.index.result.now
    c.index.ensures in
    c.in_default.not-Waiting state.0 state.1

pub make_hit-requires-clause-cache : goal.make_hit-requires-clause-cache
make_hit-requires-clause-cache c =
    let len : length c.args.self.now.cells.items ≡ 2 * c.args.self.now.bus.cores = search rules in
    let within = first-within c.args.self.now.bus c.args.self.now.cells.items c.args.self.now.queue.items c.take_first-cache.new.queue.items
    c.take_first-cache.result c.requires.lawful c.args.self.now.queued len c.take_first-cache.ensures.first in
    omega (arith, within, len)

pub make_hit-requires-clause-proper : goal.make_hit-requires-clause-proper
make_hit-requires-clause-proper c =
    let len : length c.args.self.now.cells.items ≡ 2 * c.args.self.now.bus.cores = search rules in
    first-may c.args.self.now.bus c.args.self.now.cells.items c.args.self.now.queue.items c.take_first-cache.new.queue.items
    c.take_first-cache.result c.requires.lawful c.args.self.now.queued len c.take_first-cache.ensures.first _ refl c.index.result.now
    c.index.ensures c.in-Waiting.request c.in-Waiting.is

pub make_hit-requires-clause-room : goal.make_hit-requires-clause-room
make_hit-requires-clause-room c =
    let len : length c.args.self.now.cells.items ≡ 2 * c.args.self.now.bus.cores = search rules in
    let two = first-room c.args.self.now.bus c.args.self.now.cells.items c.args.self.now.queue.items c.take_first-cache.new.queue.items
    c.take_first-cache.result c.requires.lawful c.args.self.now.queued len c.take_first-cache.ensures.first _ refl c.index.result.now
    c.index.ensures c.in-Waiting.request _ c.in-Waiting.is c.args.self.now.room in
    omega (arith, two)

pub answer-word-requires-clause-core : goal.answer-word-requires-clause-core
answer-word-requires-clause-core c =
    let len : length c.args.self.now.cells.items ≡ 2 * c.args.self.now.bus.cores = search rules in
    rw c.make_hit.ensures.hit.kept.cores
    (first-core c.args.self.now.bus c.args.self.now.cells.items c.args.self.now.queue.items c.take_first-cache.new.queue.items
    c.take_first-cache.result c.requires.lawful c.args.self.now.queued len c.take_first-cache.ensures.first _ c.port_of-port.ensures.port)

pub answer-word-requires-clause-proper : goal.answer-word-requires-clause-proper
answer-word-requires-clause-proper c =
    let len : length c.args.self.now.cells.items ≡ 2 * c.args.self.now.bus.cores = search rules in
    rw c.make_hit.ensures.hit.kept.image
    (first-may c.args.self.now.bus c.args.self.now.cells.items c.args.self.now.queue.items c.take_first-cache.new.queue.items
    c.take_first-cache.result c.requires.lawful c.args.self.now.queued len c.take_first-cache.ensures.first _ c.port_of-port.ensures.port
    c.index.result.now c.index.ensures c.in-Waiting.request c.in-Waiting.is)

pub answer-word-requires-clause-hit : goal.answer-word-requires-clause-hit
answer-word-requires-clause-hit c =
    rw (c.port_of-port.ensures.port, place-port c.take_first-cache.result) c.make_hit.ensures.hit.hit

pub answer-word-requires-clause-other : goal.answer-word-requires-clause-other
answer-word-requires-clause-other c on = absurd (quiet-off _ c.make_hit.ensures.hit.quiet on)

pub answer-word-requires-clause-room : goal.answer-word-requires-clause-room
answer-word-requires-clause-room c =
    let len : length c.args.self.now.cells.items ≡ 2 * c.args.self.now.bus.cores = search rules in
    let two = first-room c.args.self.now.bus c.args.self.now.cells.items c.args.self.now.queue.items c.take_first-cache.new.queue.items
    c.take_first-cache.result c.requires.lawful c.args.self.now.queued len c.take_first-cache.ensures.first _ refl c.index.result.now
    c.index.ensures c.in-Waiting.request _ c.in-Waiting.is c.args.self.now.room in
    omega (arith, two, c.make_hit.ensures.hit.spare)

pub index_mut-requires : goal.index_mut-requires
index_mut-requires c =
    let len : length c.args.self.now.cells.items ≡ 2 * c.args.self.now.bus.cores = search rules in
    let within = first-within c.args.self.now.bus c.args.self.now.cells.items c.args.self.now.queue.items c.take_first-cache.new.queue.items
    c.take_first-cache.result c.requires.lawful c.args.self.now.queued len c.take_first-cache.ensures.first in
    search rules

pub invariant_of-self-clause-quiet : goal.invariant_of-self-clause-quiet
invariant_of-self-clause-quiet c =
    quiet-kept _ _ c.answer-word.ensures.bus c.answer-word.ensures.slaves c.make_hit.ensures.hit.quiet

pub invariant_of-self-clause-queued : goal.invariant_of-self-clause-queued
invariant_of-self-clause-queued c =
    let len : length c.args.self.now.cells.items ≡ 2 * c.args.self.now.bus.cores = search rules in
    step-queued c.args.self.now.bus c.args.self.now.cells.items c.args.self.now.queue.items c.take_first-cache.new.queue.items
    c.take_first-cache.result c.requires.lawful c.args.self.now.queued len c.take_first-cache.ensures.first c.port_of-port.result
    c.port_of-port.ensures.port c.index.result.now c.index.ensures c.make_hit.new.bus c.answer-word.new.self c.in-Waiting.request
    c.answer-word.result c.in-Waiting.is c.make_hit.ensures.hit c.answer-word.ensures.kept c.answer-word.ensures.items
    c.answer-word.ensures.word c.answer-word.ensures.follows

pub invariant_of-self-clause-room : goal.invariant_of-self-clause-room
invariant_of-self-clause-room c =
    let len : length c.args.self.now.cells.items ≡ 2 * c.args.self.now.bus.cores = search rules in
    step-room c.args.self.now.bus c.args.self.now.cells.items c.args.self.now.queue.items c.take_first-cache.new.queue.items
    c.take_first-cache.result c.requires.lawful c.args.self.now.queued len c.take_first-cache.ensures.first _ refl c.index.result.now
    c.index.ensures c.in-Waiting.request c.answer-word.result _ _ c.in-Waiting.is c.args.self.now.room
    (omega (arith, c.make_hit.ensures.hit.spare, c.answer-word.ensures.spare))

pub invariant_of-self-clause-queue_room : goal.invariant_of-self-clause-queue_room
invariant_of-self-clause-queue_room c =
    let len : length c.args.self.now.cells.items ≡ 2 * c.args.self.now.bus.cores = search rules in
    let many : length c.args.self.now.queue.items ≡ c.args.self.now.queue.len = search rules in
    let left : length c.take_first-cache.new.queue.items ≡ c.take_first-cache.new.queue.len = search rules in
    let room = step-idle c.args.self.now.bus c.args.self.now.cells.items c.args.self.now.queue.items c.take_first-cache.new.queue.items
    c.take_first-cache.result c.requires.lawful c.args.self.now.queued len c.take_first-cache.ensures.first _ refl c.index.result.now
    c.index.ensures c.in-Waiting.request c.answer-word.result _ _ c.in-Waiting.is many c.args.self.now.queue_room in
    omega (arith, room, left, c.take_first-cache.ensures.capacity)

pub returns-clause-lawful : goal.returns-clause-lawful
returns-clause-lawful c =
    let len : length c.args.self.now.cells.items ≡ 2 * c.args.self.now.bus.cores = search rules in
    step-lawful c.args.self.now.bus c.args.self.now.cells.items c.args.self.now.queue.items c.take_first-cache.new.queue.items
    c.take_first-cache.result c.requires.lawful c.args.self.now.queued len c.take_first-cache.ensures.first c.port_of-port.result
    c.port_of-port.ensures.port c.index.result.now c.index.ensures c.make_hit.new.bus c.answer-word.new.self c.in-Waiting.request
    c.answer-word.result c.in-Waiting.is c.make_hit.ensures.hit c.answer-word.ensures.kept c.answer-word.ensures.items
    c.answer-word.ensures.word c.answer-word.ensures.follows

pub returns-clause-made : goal.returns-clause-made
returns-clause-made c =
    let len : length c.args.self.now.cells.items ≡ 2 * c.args.self.now.bus.cores = search rules in
    step-made c.args.self.now.bus c.args.self.now.cells.items c.args.self.now.queue.items c.take_first-cache.new.queue.items
    c.take_first-cache.result c.requires.lawful c.args.self.now.queued len c.take_first-cache.ensures.first c.port_of-port.result
    c.port_of-port.ensures.port c.index.result.now c.index.ensures c.make_hit.new.bus c.answer-word.new.self c.in-Waiting.request
    c.answer-word.result c.in-Waiting.is c.make_hit.ensures.hit c.answer-word.ensures.kept c.answer-word.ensures.items
    c.answer-word.ensures.word c.answer-word.ensures.follows c.args._choice

pub returns-clause-steps : goal.returns-clause-steps
returns-clause-steps c = (returns-clause-made c).obeys
