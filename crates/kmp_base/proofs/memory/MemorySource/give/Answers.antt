use Rattle.std.proofs.Common.{◌≡◌, ℕ, ◌+◌, ◌++◌, take, drop, length, length-take, take-append-drop, sym, ap, ◌∙◌, arith}
use Rattle.std.proofs.lemmas.List.{take_at, drop-drop}
use Rattle.kmp_base.proofs.memory.MemorySource.give.Goals as goal

pub returns-clause-next : goal.returns-clause-next
returns-clause-next c =
    let at = c.args.self.now.at in
    let count = c.min-count.result in
    let left = drop at c.args.self.now.bytes.items in
    let given = c.copy_from_slice.new.self in
    let long : length given ≡ count = omega (arith, c.copy_from_slice.ensures.len, length-take {A = ℕ}) in
    let front : given ≡ take count left = (rw c.deref.ensures.value at c.copy_from_slice.ensures.after)
    ∙ ap (λ n. take n left) (omega arith) in
    sym (take-append-drop count left)
    ∙ ap (λ after. take count left ++ after) (drop-drop count at c.args.self.now.bytes.items)
    ∙ ap (λ before. before ++ drop (at + count) c.args.self.now.bytes.items) (sym front ∙ sym (take_at given _ count long))
