use Rattle.history_check.specs.Checks.{illegal_by}
use Rattle.history_check.proofs.ItemLemmas.{not_made-differs, illegal-differs}
use Rattle.history_check.proofs.history.item_difference.Goals as goal

pub returns-in-Err-clause-differs : goal.returns-in-Err-clause-differs
returns-in-Err-clause-differs c =
    rw c.told.ensures
    (not_made-differs (illegal_by c.args.letters.now c.args.item.now) c.args.item.now c.args.machine.now c.make.new.machine
    c.in-Err.differs c.in-Err.ensures.differs)

pub returns-in-Err-allow-clause-differs : goal.returns-in-Err-allow-clause-differs
returns-in-Err-allow-clause-differs c =
    rw c.told-in-Err-allow.ensures
    (illegal-differs (illegal_by c.args.letters.now c.args.item.now) c.args.item.now c.args.machine.now c.make.new.machine
    c.in-Err-allow.illegal c.in_default.ensures.made c.in-Err-allow.ensures.illegal)
