use Rattle.std.proofs.Common.{◌∙◌, ℕ, drop, sym, ap}
use Rattle.std.proofs.lemmas.List.{nil_from_length}
use Rattle.asm_parse.specs.Lines.{lines_of}
use Rattle.asm_parse.proofs.LinesLemmas.{splits}
use Rattle.asm_parse.proofs.source.split_line.Goals as goal

pub returns-in-None-clause-lines : goal.returns-in-None-clause-lines
unfolding lines_of
returns-in-None-clause-lines c =
    let n = c.line_len.ensures.value in
    let empty = nil_from_length c.split_at.result.1.now c.in-None.ensures.cases in
    let none = ap (λ (k : ℕ). drop k c.args.text.now) (sym n) ∙ sym c.split_at.ensures.back ∙ empty in
    rw (c.split_at.ensures.front, n, empty) ((splits c.args.text.now).0 c.requires none)

pub returns-in-Some-clause-lines : goal.returns-in-Some-clause-lines
returns-in-Some-clause-lines c =
    let n = c.line_len.ensures.value in
    let cells = ap (λ (k : ℕ). drop k c.args.text.now) (sym n) ∙ sym c.split_at.ensures.back ∙ c.in-Some.ensures.cases.0 in
    rw (c.split_at.ensures.front, n) ((splits c.args.text.now).1 _ c.in-Some.rest.now cells)
