use Rattle.std.proofs.Common.{◌∙◌, ℕ, Option, Some, cond, sym, ap}
use Rattle.std.specs.Str.{bytes_eq}
use Rattle.std.proofs.lemmas.Map.Text.{btree_map_updates_str}
use Rattle.asm_layout.specs.Places.{address_at}
use Rattle.asm_layout.proofs.LabelsLemmas.{found_behind, label_added}
use Rattle.asm_layout.proofs.labels.add_label.Goals as goal

pub returns-in-None-clause-added : goal.returns-in-None-clause-added
returns-in-None-clause-added c = λ known holds.
    let name = c.as_slice.result.now in
    let none = sym (holds name) ∙ sym c.in_ok-insert-in-Label.ensures.old ∙ c.in-None.is in
    let added = label_added known c.args.statement.now.body c.in-Label.name name (address_at c.args.place) c.address.result c.in-Label.is
    c.as_slice.ensures.bytes c.address.ensures.value none in (
      added.0,
      rw added.1 (λ wanted.
          btree_map_updates_str name c.args.labels.now c.insert.new.self _ c.in_ok-insert-in-Label.ensures.updates wanted
          ∙ ap (λ (other : Option ℕ). cond (bytes_eq name wanted) (Some c.address.result) other) (holds wanted)
          ∙ sym (found_behind known name c.address.result wanted none)),
    )
