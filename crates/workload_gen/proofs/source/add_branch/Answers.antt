use Rattle.std.proofs.Common.{[], ◌∷◌, ◌++◌, codes, decimal, refl, sym}
use Rattle.std.proofs.lemmas.List.{append-nil}
use Rattle.std.proofs.lemmas.Result.{on_ok_weaker}
use Rattle.workload_gen.proofs.SourceLemmas.{line_behind}
use Rattle.workload_gen.proofs.source.add_branch.Goals as goal

pub returns : goal.returns
returns c =
    let branch = codes "beq $s1, $zero, n" ++ decimal c.args.number in
    let one = codes "addiu $s1, $s1, 1" in
    let mix = codes "xor $s1, $s1, $a0" in
    let label = codes "n" ++ decimal c.args.number ++ codes ":" in
    let text = c.args.text.now.items in
    let first = line_behind text text _ [] branch _ (sym (append-nil text)) (append-nil branch) c.in_ok-add_numbered.ensures.line in
    let second = line_behind text _ _ (branch ∷ []) one one first refl c.in_ok-add_line.ensures.line in
    let third = line_behind text _ _ (branch ∷ one ∷ []) mix mix second refl c.in_ok-add_line-2.ensures.line in
    let fourth = line_behind text _ _ (branch ∷ one ∷ mix ∷ []) label label third refl in
    record { lines = on_ok_weaker c.add_numbered-2.result fourth c.add_numbered-2.ensures.line }
