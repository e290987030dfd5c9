use Rattle.std.proofs.Common.{◌≡◌, sym, ◌∙◌, ap, arith, length}
use Rattle.std.specs.Prelude.{Some, slice_get}
use Rattle.std.proofs.lemmas.Option.{slice_get-get_or}
use Rattle.std.proofs.lemmas.List.{with_items_is}
use Rattle.seq_machine.specs.Entering.{Enters}
use Rattle.seq_machine.proofs.EnteringLaws.{enters_in}
use Rattle.seq_machine.proofs.machine.Machine.enter.Goals as goal

pub returns : goal.returns
returns c =
    let here : slice_get c.self.inside.cores.items c.args.entry.now.core ≡ Some c.index_mut-core.result.now =
    slice_get-get_or c.self.inside.cores.items c.args.entry.now.core c.index_mut-core.result.now (rw (← c.self.view_is) at c.requires.core)
    ∙ ap Some (sym c.index_mut-core.ensures.value) in
    let h : Enters c.self.inside.code.items c.self.inside.memory.items c.index_mut-core.result.now c.args.entry.now c.enter.result
    c.enter.new.memory c.enter.new.core =
    rw (← c.deref.ensures.value, ← c.deref_mut.ensures.value) c.enter.ensures in
    let len : length c.enter.new.memory ≡ c.self.inside.memory.len = omega arith in
    rw (← c.self.view_is, here, with_items_is c.self.inside.memory c.enter.new.memory len)
    (enters_in (record { code = c.self.inside.code.items; cores = c.self.inside.cores.items; memory = c.self.inside.memory.items })
    c.args.entry.now c.index_mut-core.result.now c.enter.result c.enter.new.memory c.enter.new.core here h)
