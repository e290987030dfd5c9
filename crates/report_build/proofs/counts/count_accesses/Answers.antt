use Rattle.std.proofs.Common.{◌≤◌, ◌∙◌, length}
use Rattle.std.proofs.lemmas.List.{take_all}
use Rattle.mips_isa.specs.declared.Kind.TheVariants.{Lw, Sw, Cas}
use Rattle.report_text.specs.Counts.{is_of_kind, is_swap}
use Rattle.report_text.proofs.CountLaws.{count_by_at_entry}
use Rattle.report_build.proofs.counts.count_accesses.Goals as goal

pub returns : goal.returns
returns c =
    let past : length c.args.items.now ≤ c.loop-item.item-index = c.loop-item-test.false in
    let all = rw take_all at c.loop-item.invariant in
    record {
      loads = all.loads ∙ count_by_at_entry (is_of_kind Lw) c.args.items.now;
      stores = all.stores ∙ count_by_at_entry (is_of_kind Sw) c.args.items.now;
      compare_and_swaps = all.compare_and_swaps ∙ count_by_at_entry (is_of_kind Cas) c.args.items.now;
      swaps = all.swaps ∙ count_by_at_entry is_swap c.args.items.now;
    }
