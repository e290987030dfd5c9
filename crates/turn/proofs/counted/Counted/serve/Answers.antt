use Rattle.std.proofs.Common.{sym, ap, subst}
use Rattle.turn.specs.Numbers.{numbers, IsHelped, IsPaid, with_serve}
use Rattle.turn.specs.declared.tally.Tally.{Tally}
use Rattle.turn.proofs.NumberLaws.{helped-serves, paid-serves}
use Rattle.turn.proofs.counted.Counted.serve.Goals as goal

pub invariant_of-self : goal.invariant_of-self
unfolding numbers
invariant_of-self g c =
    let view = g.M.MemoryCore.view in let old = c.args.self.now in let m = view c.serve.new.self in let p = c.args.port in
    let s = c.serve.ensures.serves c.requires.asked.0 c.requires.asked.1 in
    let H : Tally _ → Type 0 = λ t. IsHelped m (with_serve p (numbers view t)) in
    let P : Tally _ → Type 0 = λ t. IsPaid m (with_serve p (numbers view t)) in
    record {
      lawful = c.serve.ensures.lawful;
      helped = subst H (sym c.of.ensures)
          (helped-serves p c.requires.asked.0 (view old.memory) m (numbers view old.tally) c.serve.ensures.lawful s old.helped);
      paid = subst P (sym c.of.ensures) (paid-serves p c.requires.asked.0 (view old.memory) m (numbers view old.tally) s old.paid);
    }

pub returns-clause-counted : goal.returns-clause-counted
unfolding numbers
returns-clause-counted g c = record {
  made = c.serve.ensures.made;
  numbers = ap (λ t. with_serve c.args.port (numbers g.M.MemoryCore.view t)) c.of.ensures;
}
