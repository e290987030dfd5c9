use Rattle.std.proofs.Common.{rules, ◌≡◌, ◌<◌, ◌∙◌, sym, ap, length, arith, subst}
use Rattle.std.specs.Prelude.{not, ◌==◌, filter}
use Rattle.std.proofs.lemmas.Fn.{filter_same}
use Rattle.mem_port.specs.declared.port.PortState.{PortState}
use Rattle.mem_port.specs.declared.cell.Cell.{Cell}
use Rattle.mem_port.specs.Ports.{IsOpen, IsUnanswered}
use Rattle.mem_system.proofs.SystemLaws.{read-cell}
use Rattle.mem_system.proofs.CallLaws.{closed-queued, closed-lawful, closed-leaves, closed-room, closed-idle, open-unanswered}
use Rattle.mem_system.proofs.system.MemSystemMemoryCore.withdraw.Goals as goal

pub invariant_of-self-clause-queued : goal.invariant_of-self-clause-queued
invariant_of-self-clause-queued c =
    let within : c.cell_index-index.result < length c.args.self.now.cells.items = search rules in
    let rest : c.retain.new.self.items ≡ filter (λ cache. not (cache == c.cell_index-index.result)) c.args.self.now.queue.items =
    filter_same _ (λ cache. not (cache == c.cell_index-index.result)) _ (λ x b f k. search rules) _ _ c.retain.ensures.filtered in
    rw rest
    (closed-queued c.args.self.now.bus c.args.self.now.cells.items c.args.self.now.queue.items c.args.port c.cell_index-index.result
    c.index.result.now c.cell_index-index.ensures.index within c.index.ensures c.requires.lawful c.requires.core c.args.self.now.queued
    c.index.result.now.asks)

pub invariant_of-self-clause-room : goal.invariant_of-self-clause-room
invariant_of-self-clause-room c =
    let within : c.cell_index-index.result < length c.args.self.now.cells.items = search rules in
    closed-room c.args.self.now.cells.items c.cell_index-index.result c.index.result.now within c.index.ensures _ c.args.self.now.room

pub invariant_of-self-clause-queue_room : goal.invariant_of-self-clause-queue_room
invariant_of-self-clause-queue_room c =
    let within : c.cell_index-index.result < length c.args.self.now.cells.items = search rules in
    let rest : c.retain.new.self.items ≡ filter (λ cache. not (cache == c.cell_index-index.result)) c.args.self.now.queue.items =
    filter_same _ (λ cache. not (cache == c.cell_index-index.result)) _ (λ x b f k. search rules) _ _ c.retain.ensures.filtered in
    let many : length c.args.self.now.queue.items ≡ c.args.self.now.queue.len = search rules in
    let left : length c.retain.new.self.items ≡ c.retain.new.self.len = search rules in
    let h = closed-idle c.args.self.now.cells.items c.cell_index-index.result c.index.result.now within c.index.ensures
    c.args.self.now.queue.items _ _ c.args.self.now.queued many c.args.self.now.queue_room in
    let l : length c.retain.new.self.items
    ≡ length (filter (λ cache. not (cache == c.cell_index-index.result)) c.args.self.now.queue.items) = ap (λ xs. length xs) rest in
    omega (arith, h, l, left, c.retain.ensures.capacity)

pub returns-in-Answered-clause-lawful : goal.returns-in-Answered-clause-lawful
returns-in-Answered-clause-lawful c =
    let within : c.cell_index-index.result < length c.args.self.now.cells.items = search rules in
    let rest : c.retain.new.self.items ≡ filter (λ cache. not (cache == c.cell_index-index.result)) c.args.self.now.queue.items =
    filter_same _ (λ cache. not (cache == c.cell_index-index.result)) _ (λ x b f k. search rules) _ _ c.retain.ensures.filtered in
    rw rest
    (closed-lawful c.args.self.now.bus c.args.self.now.cells.items c.args.self.now.queue.items c.args.port c.cell_index-index.result
    c.index.result.now c.cell_index-index.ensures.index within c.index.ensures c.requires.lawful c.requires.core c.args.self.now.queued
    c.index.result.now.asks)

pub returns-in-Answered-clause-withdraws : goal.returns-in-Answered-clause-withdraws
returns-in-Answered-clause-withdraws c =
    let within : c.cell_index-index.result < length c.args.self.now.cells.items = search rules in
    let rest : c.retain.new.self.items ≡ filter (λ cache. not (cache == c.cell_index-index.result)) c.args.self.now.queue.items =
    filter_same _ (λ cache. not (cache == c.cell_index-index.result)) _ (λ x b f k. search rules) _ _ c.retain.ensures.filtered in
    let is = ap (λ (x : Cell). x.state)
    (read-cell c.args.self.now.cells.items c.args.port c.cell_index-index.result c.index.result.now c.cell_index-index.ensures.index within
    c.index.ensures) in
    rw rest (
      (_, is ∙ c.in-Answered.is),
      closed-leaves c.args.self.now.bus c.args.self.now.cells.items c.args.self.now.queue.items c.args.port c.cell_index-index.result
          c.index.result.now c.cell_index-index.ensures.index within c.index.ensures c.requires.lawful c.requires.core
          c.args.self.now.queued,
    )

pub returns-in-Answered-clause-made : goal.returns-in-Answered-clause-made
returns-in-Answered-clause-made c =
    let rest : c.retain.new.self.items ≡ filter (λ cache. not (cache == c.cell_index-index.result)) c.args.self.now.queue.items =
    filter_same _ (λ cache. not (cache == c.cell_index-index.result)) _ (λ x b f k. search rules) _ _ c.retain.ensures.filtered in
    record {
      obeys = returns-in-Answered-clause-withdraws c;
      queue = rest ∙ ap (λ i. filter (λ cache. not (cache == i)) c.args.self.now.queue.items) c.cell_index-index.ensures.index;
    }

pub returns-in_default-clause-lawful : goal.returns-in_default-clause-lawful
returns-in_default-clause-lawful c =
    let within : c.cell_index-index.result < length c.args.self.now.cells.items = search rules in
    let rest : c.retain.new.self.items ≡ filter (λ cache. not (cache == c.cell_index-index.result)) c.args.self.now.queue.items =
    filter_same _ (λ cache. not (cache == c.cell_index-index.result)) _ (λ x b f k. search rules) _ _ c.retain.ensures.filtered in
    rw rest
    (closed-lawful c.args.self.now.bus c.args.self.now.cells.items c.args.self.now.queue.items c.args.port c.cell_index-index.result
    c.index.result.now c.cell_index-index.ensures.index within c.index.ensures c.requires.lawful c.requires.core c.args.self.now.queued
    c.index.result.now.asks)

pub returns-in_default-clause-withdraws : goal.returns-in_default-clause-withdraws
returns-in_default-clause-withdraws c =
    let within : c.cell_index-index.result < length c.args.self.now.cells.items = search rules in
    let rest : c.retain.new.self.items ≡ filter (λ cache. not (cache == c.cell_index-index.result)) c.args.self.now.queue.items =
    filter_same _ (λ cache. not (cache == c.cell_index-index.result)) _ (λ x b f k. search rules) _ _ c.retain.ensures.filtered in
    let is = ap (λ (x : Cell). x.state)
    (read-cell c.args.self.now.cells.items c.args.port c.cell_index-index.result c.index.result.now c.cell_index-index.ensures.index within
    c.index.ensures) in
    let Open : PortState → Type 0 = λ z. IsOpen z in
    let Unanswered : PortState → Type 0 = λ z. IsUnanswered z in
    rw rest (
      subst Unanswered (sym is)
          (open-unanswered c.index.result.now.state (subst Open is c.requires.opened) c.in_default.not-Answered),
      closed-leaves c.args.self.now.bus c.args.self.now.cells.items c.args.self.now.queue.items c.args.port c.cell_index-index.result
          c.index.result.now c.cell_index-index.ensures.index within c.index.ensures c.requires.lawful c.requires.core
          c.args.self.now.queued,
    )

pub returns-in_default-clause-made : goal.returns-in_default-clause-made
returns-in_default-clause-made c =
    let rest : c.retain.new.self.items ≡ filter (λ cache. not (cache == c.cell_index-index.result)) c.args.self.now.queue.items =
    filter_same _ (λ cache. not (cache == c.cell_index-index.result)) _ (λ x b f k. search rules) _ _ c.retain.ensures.filtered in
    record {
      obeys = returns-in_default-clause-withdraws c;
      queue = rest ∙ ap (λ i. filter (λ cache. not (cache == i)) c.args.self.now.queue.items) c.cell_index-index.ensures.index;
    }
