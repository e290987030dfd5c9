use Rattle.std.proofs.Common.{arith, ◌∙◌, sym}
use Rattle.item_check.proofs.HeldLemmas.{stands-nowhere, place-within, place-letter}
use Rattle.item_check.proofs.held.HeldLines.letter.Goals as goal

pub bounds-deref-place : goal.bounds-deref-place
bounds-deref-place c = place-within c.args.self.now c.args.line c.in-Some.place c.place_of.result c.place_of.ensures.place c.in-Some.is
    c.deref.result.now (c.deref.ensures.0 ∙ c.self.view_is)

pub offset_bounds-deref-place : goal.offset_bounds-deref-place
offset_bounds-deref-place c = let below = bounds-deref-place c in let few = c.deref.ensures.1 in omega (arith, below, few)

pub returns-in-Some : goal.returns-in-Some
returns-in-Some c = record {
  letter = place-letter c.args.self.now c.args.line c.in-Some.place c.place_of.result c.place_of.ensures.place c.in-Some.is
      c.deref.result.now _ (c.deref.ensures.0 ∙ c.self.view_is);
}

pub returns-in-None : goal.returns-in-None
returns-in-None c = record { letter = sym (stands-nowhere c.args.self.now c.args.line (sym c.place_of.ensures.place ∙ c.in-None.is)).0 }
