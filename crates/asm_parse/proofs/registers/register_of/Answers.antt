use Rattle.std.proofs.Common.{ℕ, ◌<◌, Option, refl, sym, subst}
use Rattle.std.specs.Prelude.{IfSome}
use Rattle.asm_parse.specs.Registers.{register_texts, register_of}
use Rattle.asm_parse.proofs.TablesLemmas.{found_below}
use Rattle.asm_parse.proofs.registers.register_of.Goals as goal

pub returns-clause-value : goal.returns-clause-value
unfolding register_of
returns-clause-value c = c.named.ensures.first

pub returns-clause-bound : goal.returns-clause-bound
returns-clause-bound c = subst (λ (o : Option ℕ). IfSome o (λ r. r < 32)) (sym c.named.ensures.first)
    (found_below 32 register_texts c.args.name.now refl)
