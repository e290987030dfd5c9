use Rattle.std.proofs.Common.{refl, sym, ◌∙◌, arith}
use Rattle.machine_tests.proofs.threads.run_queued.Goals as goal

pub run_slots-requires-clause-fresh : goal.run_slots-requires-clause-fresh
run_slots-requires-clause-fresh g c κs bounds =
    let fresh = c.in_ok-memory.ensures.fresh _ _ _ _ c.in_ok-flat.ensures.fresh in
    record {
      lawful = fresh.lawful;
      image_is = refl;
      cores_are = refl;
      caches_are = refl;
      history = fresh.history;
      ports = fresh.ports;
      asks_left = λ q within. fresh.asks_left q (omega (arith, within, fresh.cores_are));
      idle = fresh.idle;
    }

pub run_slots-requires-clause-cores : goal.run_slots-requires-clause-cores
run_slots-requires-clause-cores g c κs bounds =
    let fresh = c.in_ok-memory.ensures.fresh _ _ _ _ c.in_ok-flat.ensures.fresh in
    c.in_ok-slots.ensures.count ∙ sym fresh.cores_are

pub run_slots-requires-clause-slots : goal.run_slots-requires-clause-slots
run_slots-requires-clause-slots g c κs bounds core s got =
    let fresh = c.in_ok-memory.ensures.fresh _ _ _ _ c.in_ok-flat.ensures.fresh in
    rw (fresh.image_is, fresh.cores_are) (c.in_ok-slots.ensures.slots 20000 (omega arith) core s got)
