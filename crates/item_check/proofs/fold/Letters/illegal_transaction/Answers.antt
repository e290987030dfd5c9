use Rattle.std.proofs.Common.{◌≡◌, [], ◌∷◌, ap, ◌∙◌, Some}
use Rattle.item_check.specs.Held.{HeldLetters, caches_of, letters_of}
use Rattle.item_check.specs.Illegal.{first_difference, im_due, line_due, held_due}
use Rattle.item_check.proofs.IllegalLaws.{front-illegal}
use Rattle.item_check.proofs.fold.Letters.illegal_transaction.Goals as goal

pub returns-in-Some : goal.returns-in-Some
returns-in-Some c =
    let bus = c.args.bus.now in
    let letters = c.args.self.now in
    let code_lines = ap (λ (l : HeldLetters). l.code_lines) c.self.view_is in
    let first : Some c.in-Some.illegal ≡ first_difference (im_due bus ∷ line_due c.args.self.now.code_lines bus
    ∷ held_due ((letters_of c.args.self.now).letter bus.master bus.line) bus ∷ []) =
    c.in-Some.ensures.first
    ∙ (ap (λ n. first_difference (im_due bus ∷ line_due n bus ∷ held_due c.letter-held.result bus ∷ [])) code_lines
    ∙ ap (λ held. first_difference (im_due bus ∷ line_due c.args.self.now.code_lines bus ∷ held_due held bus ∷ []))
    c.letter-held.ensures.letter) in
    record {
      illegal = front-illegal (caches_of letters) letters.cores letters.code_lines (letters_of letters) bus c.in-Some.illegal first;
    }
