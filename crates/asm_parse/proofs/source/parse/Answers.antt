use Rattle.std.proofs.Common.{◌≡◌, ◌≤◌, ◌∙◌, [], ℕ, List, length, sym, ap, arith}
use Rattle.std.specs.Prelude.{All}
use Rattle.std.proofs.lemmas.Result.{err_from_is_err_and, IfOk-at_ok}
use Rattle.std.proofs.lemmas.Bool.{eqb-true}
use Rattle.std.proofs.lemmas.List.{nil_from_length}
use Rattle.asm_parse.specs.declared.statement.Statement.{Statement}
use Rattle.asm_parse.specs.Lines.{lines_of, statements_of, AreRising}
use Rattle.asm_parse.proofs.LinesLemmas.{read_behind, line_goes_on, line_ends, lines_done}
use Rattle.asm_parse.proofs.OrderLemmas.{rise_in_text}
use Rattle.asm_parse.proofs.SizeLemmas.{few_in_text}
use Rattle.asm_parse.proofs.source.parse.Goals as goal

pub returns-in_err-part-clause-meaning : goal.returns-in_err-part-clause-meaning
returns-in_err-part-clause-meaning c =
    let p = err_from_is_err_and c.from_residual.result c.from_residual.ensures.1 in
    let first = c.split_line.ensures.lines in
    rw (p.1, p.2) (line_ends c.in_err-part.field-0.0 c.lines.statements.items c.lines.number c.lines.part c.split_line.result.0.now
    (lines_of c.split_line.result.1.now) (statements_of c.args.text.now) c.in_err-part.ensures.err
    (ap (λ (ls : List (List ℕ)). read_behind c.lines.statements.items c.lines.number c.lines.part ls) (sym first) ∙ c.lines.invariant.read))

pub lines-preserved : goal.lines-preserved
lines-preserved c =
    let first = c.split_line.ensures.lines in
    let ok = c.in_ok-part.ensures.ok in
    let step = line_goes_on c.lines.statements.items c.lines.number c.lines.part c.split_line.result.0.now
    (lines_of c.split_line.result.1.now) ok.0 c.in_ok-part.part ok.1 in
    record {
      read = rw ok.2 (sym step ∙ ap (λ (ls : List (List ℕ)). read_behind c.lines.statements.items c.lines.number c.lines.part ls)
          (sym first) ∙ c.lines.invariant.read);
      room = omega (arith, c.lines.invariant.room, c.split_line.ensures.shorter);
      proper = c.in_ok-part.ensures.proper;
    }

pub returns-clause-meaning : goal.returns-clause-meaning
unfolding lines_of
returns-clause-meaning c =
    let empty : c.lines.rest.now ≡ [] =
    nil_from_length c.lines.rest.now (eqb-true (length c.lines.rest.now) 0 (sym c.is_empty.ensures ∙ c.lines-test.false)) in
    lines_done c.lines.statements.items c.lines.number c.lines.part (statements_of c.args.text.now)
    (ap (λ (bytes : List ℕ). read_behind c.lines.statements.items c.lines.number c.lines.part (lines_of bytes)) (sym empty)
    ∙ c.lines.invariant.read)

pub returns-clause-few : goal.returns-clause-few
returns-clause-few c = IfOk-at_ok (λ (ss : List Statement). length ss ≤ length c.args.text.now) (returns-clause-meaning c)
    (few_in_text c.args.text.now)

pub returns-clause-rising : goal.returns-clause-rising
returns-clause-rising c =
    let rise = IfOk-at_ok (λ (ss : List Statement). All (λ s. 1 ≤ s.line) ss × AreRising ss) (returns-clause-meaning c)
    (rise_in_text c.args.text.now) in
    rise.1
