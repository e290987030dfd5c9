use Rattle.std.proofs.Common.{sym, ◌∙◌}
use Rattle.item_check.specs.Held.{caches_of, letters_of}
use Rattle.item_check.proofs.IllegalLaws.{legal-transaction}
use Rattle.item_check.proofs.fold.Letters.next.Goals as goal

pub transact-requires : goal.transact-requires
transact-requires c =
    let letters = c.args.self.now in
    record {
      allowed = legal-transaction (caches_of letters) letters.cores letters.code_lines (letters_of letters) c.in-Bus.bus
          (rw c.in-Bus.is at c.requires.cores) (rw c.in-Bus.is at (sym c.illegal.ensures.illegal ∙ c.in_default.is));
    }
