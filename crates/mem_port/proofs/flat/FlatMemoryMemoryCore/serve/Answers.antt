use Rattle.std.proofs.Common.{rules, ◌≡◌, ◌<◌, length, ◌∙◌}
use Rattle.std.proofs.Math.Seq.{take-append_seam}
use Rattle.mem_port.proofs.FlatLaws.{served-lawful, words-after, room-after}
use Rattle.mem_port.specs.Ports.{items_of}
use Rattle.mem_port.proofs.flat.FlatMemoryMemoryCore.serve.Goals as goal

pub invariant_of-self-clause-words_are : goal.invariant_of-self-clause-words_are
invariant_of-self-clause-words_are c =
    let size : length c.answer-word.new.words ≡ c.args.self.now.words.len = c.answer-word.auto.words ∙ c.deref_mut.ensures.len in
    let more = items_of c.args.port c.in-Asked.request c.answer-word.result in
    rw (← size, take-append_seam) (words-after _ _ _ c.args.self.now.history.items more _
    (c.deref_mut.ensures.value ∙ c.args.self.now.words_are) c.answer-word.ensures.words c.answer-word.ensures.items)

pub invariant_of-self-clause-room : goal.invariant_of-self-clause-room
invariant_of-self-clause-room c =
    let within : c.cell_index-index.result < length c.args.self.now.cells.items = search rules in
    room-after c.args.self.now.cells.items c.cell_index-index.result c.index.result.now c.in-Asked.request c.answer-word.result _ _ within
    c.index.ensures c.in-Asked.is c.args.self.now.room c.answer-word.ensures.spare

pub returns-clause-lawful : goal.returns-clause-lawful
returns-clause-lawful c =
    let within : c.cell_index-index.result < length c.args.self.now.cells.items = search rules in
    let found = c.answer-word.ensures.word in
    let items = c.answer-word.ensures.items in
    let is = c.deref_mut.ensures.value ∙ c.args.self.now.words_are in
    rw items (served-lawful _ _ _ c.args.port _ c.index.result.now c.in-Asked.request c.answer-word.result _
    c.cell_index-index.ensures.index
    within c.requires.core c.requires.lawful c.index.ensures c.in-Asked.is (rw is at found))
