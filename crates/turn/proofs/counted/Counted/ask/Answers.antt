use Rattle.std.proofs.Common.{sym, ap, subst}
use Rattle.turn.specs.Numbers.{numbers, IsHelped, IsPaid, with_ask}
use Rattle.turn.specs.declared.tally.Tally.{Tally}
use Rattle.turn.proofs.NumberLaws.{helped-asks, paid-asks}
use Rattle.turn.proofs.counted.Counted.ask.Goals as goal

pub invariant_of-self : goal.invariant_of-self
unfolding numbers
invariant_of-self g c =
    let view = g.M.MemoryCore.view in let old = c.args.self.now in let m = view c.ask.new.self in let p = c.args.port in
    let H : Tally _ → Type 0 = λ t. IsHelped m (with_ask p (numbers view t)) in
    let P : Tally _ → Type 0 = λ t. IsPaid m (with_ask p (numbers view t)) in
    record {
      lawful = c.ask.ensures.lawful;
      helped = subst H (sym c.of.ensures)
          (helped-asks p c.args.request (view old.memory) m (numbers view old.tally) c.ask.ensures.asks old.helped);
      paid = subst P (sym c.of.ensures)
          (paid-asks p c.args.request (view old.memory) m (numbers view old.tally) c.requires.core c.ask.ensures.asks old.paid);
    }

pub returns-clause-counted : goal.returns-clause-counted
unfolding numbers
returns-clause-counted g c = record {
  made = c.ask.ensures.made;
  numbers = ap (λ t. with_ask c.args.port (numbers g.M.MemoryCore.view t)) c.of.ensures;
}
