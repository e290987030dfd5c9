use Rattle.std.proofs.Common.{◌≡◌, take}
use Rattle.std.specs.List.{count_by}
use Rattle.mips_isa.specs.declared.Kind.TheVariants.{Lw, Sw, Cas}
use Rattle.report_text.specs.Counts.{is_of_kind, is_swap, at_entry}
use Rattle.report_build.proofs.counts.count_accesses.Given as goal

abbrev pub invariant-loop-item : goal.invariant-loop-item
invariant-loop-item l = record {
  loads : l.counts.loads ≡ count_by (at_entry (is_of_kind Lw)) (take l.item-index l.items);
  stores : l.counts.stores ≡ count_by (at_entry (is_of_kind Sw)) (take l.item-index l.items);
  compare_and_swaps : l.counts.compare_and_swaps ≡ count_by (at_entry (is_of_kind Cas)) (take l.item-index l.items);
  swaps : l.counts.swaps ≡ count_by (at_entry is_swap) (take l.item-index l.items);
}
