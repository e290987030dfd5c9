use Rattle.std.proofs.Common.{[], ◌∷◌, ◌++◌, codes, decimal, refl, sym}
use Rattle.std.proofs.lemmas.List.{append-nil}
use Rattle.std.proofs.lemmas.Result.{on_ok_weaker}
use Rattle.workload_gen.proofs.SourceLemmas.{line_behind}
use Rattle.workload_gen.proofs.source.add_swap.Goals as goal

pub returns : goal.returns
returns c =
    let load = codes "lw $t0, " ++ decimal c.args.offset ++ codes "($s0)" in
    let address = codes "addiu $t1, $s0, " ++ decimal c.args.offset in
    let swap = codes "cas $t0, $t1, $s1" in
    let text = c.args.text.now.items in
    let first = line_behind text text _ [] load load (sym (append-nil text)) refl c.in_ok-add_numbered.ensures.line in
    let second = line_behind text _ _ (load ∷ []) address _ first (append-nil address) c.in_ok-add_numbered-2.ensures.line in
    let third = line_behind text _ _ (load ∷ address ∷ []) swap swap second refl in
    record { lines = on_ok_weaker c.add_line.result third c.add_line.ensures.line }
