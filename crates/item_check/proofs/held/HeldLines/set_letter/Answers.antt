use Rattle.std.proofs.Common.{arith, ◌∙◌, sym}
use Rattle.item_check.proofs.HeldLemmas.{stands-nowhere, place-within, place-with}
use Rattle.item_check.proofs.held.HeldLines.set_letter.Goals as goal

pub bounds-deref_mut-place : goal.bounds-deref_mut-place
bounds-deref_mut-place c = place-within c.args.self.now c.args.line c.in-Some.place c.place_of.result c.place_of.ensures.place c.in-Some.is
    c.deref_mut.result.now (c.deref_mut.ensures.value ∙ c.self.view_is)

pub offset_bounds-deref_mut-place : goal.offset_bounds-deref_mut-place
offset_bounds-deref_mut-place c = let below = bounds-deref_mut-place c in let few = c.deref_mut.ensures.fits in omega (arith, below, few)

pub returns-in-Some : goal.returns-in-Some
returns-in-Some c = record {
  lines = place-with c.args.self.now c.args.line c.in-Some.place c.place_of.result c.place_of.ensures.place c.in-Some.is
      c.deref_mut.result.now c.self.inside.lines.items c.args.letter c.deref_mut.ensures.value c.self.view_is;
}

pub returns-in_default : goal.returns-in_default
returns-in_default c =
    record { lines = sym ((stands-nowhere c.args.self.now c.args.line (sym c.place_of.ensures.place ∙ c.in_default.is)).1 c.args.letter) }
