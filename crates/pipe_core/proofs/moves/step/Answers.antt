use Rattle.std.proofs.Common.{◌≡◌, ap, sym, ◌∙◌, subst, false}
use Rattle.pipe_core.specs.declared.flight.Flight.{Flight}
use Rattle.pipe_core.specs.Steps.{retires, advances, issues, begins, enters}
use Rattle.pipe_core.proofs.EnableLemmas.{still-ex, still-id, still-fetch}
use Rattle.pipe_core.proofs.moves.step.Goals as goal

pub advance-requires-clause-still : goal.advance-requires-clause-still
advance-requires-clause-still c =
    let e2 = c.retire.ensures.moved ∙ ap (λ (g : Flight). retires c.args.goes g) c.commit.ensures.moved in
    let P : Flight → Type 0 = λ g. c.args.enables.ex ≡ false → advances c.args.clock g ≡ g in
    subst P (sym e2) (still-ex c.args.enables c.args.flight.now c.args.goes c.args.operands c.args.word c.requires.enabled c.args.clock)

pub issue-requires-clause-still : goal.issue-requires-clause-still
issue-requires-clause-still c =
    let e2 = c.retire.ensures.moved ∙ ap (λ (g : Flight). retires c.args.goes g) c.commit.ensures.moved in
    let e3 = c.advance.ensures.moved ∙ ap (λ (g : Flight). advances c.args.clock g) e2 in
    let P : Flight → Type 0 = λ g. c.args.enables.id ≡ false → issues c.args.clock c.args.operands g ≡ g in
    subst P (sym e3) (still-id c.args.enables c.args.flight.now c.args.goes c.args.operands c.args.word c.requires.enabled c.args.clock)

pub enter-requires-clause-still : goal.enter-requires-clause-still
enter-requires-clause-still c =
    let e2 = c.retire.ensures.moved ∙ ap (λ (g : Flight). retires c.args.goes g) c.commit.ensures.moved in
    let e3 = c.advance.ensures.moved ∙ ap (λ (g : Flight). advances c.args.clock g) e2 in
    let e4 = c.issue.ensures.moved ∙ ap (λ (g : Flight). issues c.args.clock c.args.operands g) e3 in
    let e5 = c.begin.ensures.moved ∙ ap (λ (g : Flight). begins c.args.clock c.args.word g) e4 in
    let P : Flight → Type 0 = λ g. c.args.enables.fetch ≡ false → enters c.args.clock g ≡ g in
    subst P (sym e5) (still-fetch c.args.enables c.args.flight.now c.args.goes c.args.operands c.args.word c.requires.enabled c.args.clock)
