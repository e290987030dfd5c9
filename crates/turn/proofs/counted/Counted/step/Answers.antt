use Rattle.std.proofs.Common.{◌≡◌, sym, ap, subst, refl}
use Rattle.mem_port.specs.declared.port.Moved.TheVariants as moved
use Rattle.mem_port.specs.Memory.{Steps}
use Rattle.turn.specs.Numbers.{numbers, IsHelped, IsPaid, with_move}
use Rattle.turn.specs.declared.tally.Tally.{Tally}
use Rattle.turn.proofs.NumberLaws.{helped-steps, paid-steps}
use Rattle.turn.proofs.counted.Counted.step.Goals as goal

pub invariant_of-self : goal.invariant_of-self
unfolding numbers
invariant_of-self g c =
    let view = g.M.MemoryCore.view in let old = c.args.self.now in let m = view c.step.new.self in let core = c.args.core in
    let s : Steps moved.Moved (view old.memory) m = c.in-Moved.ensures.steps in
    let before : view c.of-before.result.value ≡ view old.memory = ap view c.of-before.ensures in
    let H : Tally _ → Type 0 = λ t. IsHelped m (with_move core (view c.of-before.result.value) (numbers view t)) in
    let P : Tally _ → Type 0 = λ t. IsPaid m (with_move core (view c.of-before.result.value) (numbers view t)) in
    record {
      lawful = c.step.ensures.lawful;
      helped = subst H (sym c.of.ensures) (subst (λ x. IsHelped m (with_move core x (numbers view old.tally))) (sym before)
          (helped-steps moved.Moved core (view old.memory) m (numbers view old.tally) s old.helped));
      paid = subst P (sym c.of.ensures) (subst (λ x. IsPaid m (with_move core x (numbers view old.tally))) (sym before)
          (paid-steps moved.Moved core (view old.memory) m (numbers view old.tally) s old.paid));
    }

pub returns-in-Moved-clause-counted : goal.returns-in-Moved-clause-counted
unfolding numbers
returns-in-Moved-clause-counted g c = record { made = c.in-Moved.ensures.made; numbers = rw (c.of.ensures, c.of-before.ensures) refl }
