use Rattle.std.proofs.Common.{◌≡◌, ℕ, vec_len}
use Rattle.mem_port.specs.Memory.{IsLawful, Keeps}
use Rattle.mem_port.specs.ServiceHistory.{ServiceHistory}
use Rattle.core_run.specs.Serial.{Leads, AreInRounds, AreServed}
use Rattle.core_run.proofs.RoundLemmas.{AreInSlots}
use Rattle.core_run.proofs.serial.play_all.Given as goal

abbrev pub invariant-loop : goal.invariant-loop
invariant-loop g l =
    let view = g.E.CoreEngine.view in
    let old = g.M.MemoryCore.view l.fn.memory in
    let new = g.M.MemoryCore.view l.memory in
    record {
      lawful : IsLawful new;
      kept : Keeps old new;
      count : vec_len l.slots ≡ vec_len l.fn.slots;
      slots : AreInSlots view (λ core. l.counter) l.budget new l.slots.items;
      made : Leads g.M.MemoryCore.makes l.fn.memory l.memory;
      served : (histories : ℕ → ServiceHistory) → AreServed view g.E.CoreEngine.timed (AreInRounds 0 0) old l.fn.slots.items histories
          → (after : ℕ → ServiceHistory) × AreServed view g.E.CoreEngine.timed (AreInRounds l.counter 0) new l.slots.items after;
    }
