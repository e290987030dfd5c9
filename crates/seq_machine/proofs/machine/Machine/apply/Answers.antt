use Rattle.std.proofs.Common.{refl, ◌∙◌}
use Rattle.seq_machine.specs.declared.Reach.TheVariants.{There, AccessAt}
use Rattle.seq_machine.proofs.EnteringLaws.{elsewhere, entered-away, entered-made, entered-differs, as_large-entered}
use Rattle.seq_machine.proofs.ReachingLaws.{CatchesUp-core, CatchesUp-count, as_large-CatchesUp}
use Rattle.seq_machine.proofs.machine.Machine.apply.Goals as goal

pub returns-in-AccessAt-clause-err : goal.returns-in-AccessAt-clause-err
returns-in-AccessAt-clause-err c =
    entered-away c.args.self.now c.args.entry.now (AccessAt c.in-AccessAt.m) c.catch_up_in.new.self c.in-AccessAt.ensures (λ e. cc)

pub returns-in-AccessAt-clause-cores : goal.returns-in-AccessAt-clause-cores
returns-in-AccessAt-clause-cores c =
    (as_large-CatchesUp c.args.self.now c.args.entry.now.core c.args.entry.now.nth (AccessAt c.in-AccessAt.m) c.catch_up_in.new.self
    c.in-AccessAt.ensures).cores

pub returns-in-AccessAt-clause-memory : goal.returns-in-AccessAt-clause-memory
returns-in-AccessAt-clause-memory c =
    (as_large-CatchesUp c.args.self.now c.args.entry.now.core c.args.entry.now.nth (AccessAt c.in-AccessAt.m) c.catch_up_in.new.self
    c.in-AccessAt.ensures).memory

pub returns-in-StopAt-clause-err : goal.returns-in-StopAt-clause-err
returns-in-StopAt-clause-err c =
    entered-away c.args.self.now c.args.entry.now c.catch_up_in.result c.catch_up_in.new.self c.catch_up_in.ensures
    (elsewhere c.catch_up_in.result c.in-StopAt.is)

pub returns-in-StopAt-clause-cores : goal.returns-in-StopAt-clause-cores
returns-in-StopAt-clause-cores c =
    (as_large-CatchesUp c.args.self.now c.args.entry.now.core c.args.entry.now.nth c.catch_up_in.result c.catch_up_in.new.self
    c.catch_up_in.ensures).cores

pub returns-in-StopAt-clause-memory : goal.returns-in-StopAt-clause-memory
returns-in-StopAt-clause-memory c =
    (as_large-CatchesUp c.args.self.now c.args.entry.now.core c.args.entry.now.nth c.catch_up_in.result c.catch_up_in.new.self
    c.catch_up_in.ensures).memory

pub enter-requires-clause-nth : goal.enter-requires-clause-nth
enter-requires-clause-nth c =
    rw (CatchesUp-core c.args.self.now c.args.entry.now.core c.args.entry.now.nth There c.catch_up_in.new.self c.in-There.ensures)
    (CatchesUp-count c.args.self.now c.args.entry.now.core c.args.entry.now.nth c.catch_up_in.new.self c.in-There.ensures)

pub returns-in-None-clause-ok : goal.returns-in-None-clause-ok
returns-in-None-clause-ok c =
    entered-made c.args.self.now c.args.entry.now c.catch_up_in.new.self c.enter.new.self c.in-There.ensures
    (rw (CatchesUp-core c.args.self.now c.args.entry.now.core c.args.entry.now.nth There c.catch_up_in.new.self c.in-There.ensures) at
    c.in-None.ensures)

pub returns-in-None-clause-cores : goal.returns-in-None-clause-cores
returns-in-None-clause-cores c =
    (as_large-entered c.args.self.now c.args.entry.now c.enter.new.self (returns-in-None-clause-ok c)).cores

pub returns-in-None-clause-memory : goal.returns-in-None-clause-memory
returns-in-None-clause-memory c =
    (as_large-entered c.args.self.now c.args.entry.now c.enter.new.self (returns-in-None-clause-ok c)).memory

pub returns-in-Some-clause-err : goal.returns-in-Some-clause-err
returns-in-Some-clause-err c =
    let told = rw (CatchesUp-core c.args.self.now c.args.entry.now.core c.args.entry.now.nth There c.catch_up_in.new.self
    c.in-There.ensures) at c.in-Some.ensures in
    entered-differs c.args.self.now c.args.entry.now (c.in-Some.field, c.in-Some.found) c.catch_up_in.new.self c.in-There.ensures told.1

pub returns-in-Some-clause-first : goal.returns-in-Some-clause-first
returns-in-Some-clause-first c =
    let h = c.in-There.ensures in
    let told = rw (CatchesUp-core c.args.self.now c.args.entry.now.core c.args.entry.now.nth There c.catch_up_in.new.self
    c.in-There.ensures) at c.in-Some.ensures in
    record {
      reach = There;
      catches = record { before = h.before; after = h.after; was = h.was; reaches = h.reaches; is = told.0 ∙ h.is };
      entry_is = rw c.differs-in-Some.ensures refl;
      told = rw (c.differs-in-Some.ensures, told.0) told.1;
    }

pub returns-in-Some-clause-cores : goal.returns-in-Some-clause-cores
returns-in-Some-clause-cores c =
    let told = rw (CatchesUp-core c.args.self.now c.args.entry.now.core c.args.entry.now.nth There c.catch_up_in.new.self
    c.in-There.ensures) at c.in-Some.ensures in
    rw told.0 (as_large-CatchesUp c.args.self.now c.args.entry.now.core c.args.entry.now.nth There c.catch_up_in.new.self
    c.in-There.ensures).cores

pub returns-in-Some-clause-memory : goal.returns-in-Some-clause-memory
returns-in-Some-clause-memory c =
    let told = rw (CatchesUp-core c.args.self.now c.args.entry.now.core c.args.entry.now.nth There c.catch_up_in.new.self
    c.in-There.ensures) at c.in-Some.ensures in
    rw told.0 (as_large-CatchesUp c.args.self.now c.args.entry.now.core c.args.entry.now.nth There c.catch_up_in.new.self
    c.in-There.ensures).memory
