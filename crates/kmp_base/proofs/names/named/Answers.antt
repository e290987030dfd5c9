use Rattle.std.proofs.Common.{◌≡◌, ◌∙◌, false, get_or, sym}
use Rattle.std.specs.Str.{bytes_eq}
use Rattle.kmp_base.proofs.NamesLemmas.{named-drop_more}
use Rattle.kmp_base.proofs.names.named.Goals as goal

pub loop-name-preserved : goal.loop-name-preserved
loop-name-preserved g c =
    let other : bytes_eq (get_or c.args.table.now c.loop-name.name-index c.loop-name-item.result).0.now c.args.text.now ≡ false =
    rw (← c.loop-name-item.is, ← c.as_bytes.ensures.value) (sym c.if-eq.ensures) in
    sym (named-drop_more c.args.table.now c.loop-name.name-index c.loop-name-item.result c.args.text.now c.loop-name-test.true other)
    ∙ c.loop-name.invariant
