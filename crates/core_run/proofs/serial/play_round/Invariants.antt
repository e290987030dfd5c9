use Rattle.std.proofs.Common.{◌≡◌, ℕ, vec_len}
use Rattle.mem_port.specs.Memory.{IsLawful, Keeps}
use Rattle.mem_port.specs.ServiceHistory.{ServiceHistory}
use Rattle.core_run.specs.Serial.{Leads, AreInRounds, AreServed}
use Rattle.core_run.proofs.RoundLemmas.{turns, AreInSlots}
use Rattle.core_run.proofs.serial.play_round.Given as goal

abbrev pub invariant-loop-index : goal.invariant-loop-index
invariant-loop-index g l =
    let view = g.E.CoreEngine.view in
    let old = g.M.MemoryCore.view l.fn.memory in
    let new = g.M.MemoryCore.view l.memory in
    record {
      lawful : IsLawful new;
      kept : Keeps old new;
      count : vec_len l.slots ≡ vec_len l.fn.slots;
      slots : (rounds : ℕ) → AreInSlots view (λ core. rounds) l.budget old l.fn.slots.items
          → AreInSlots view (turns rounds l.index) l.budget new l.slots.items;
      made : Leads g.M.MemoryCore.makes l.fn.memory l.memory;
      served : (rounds : ℕ) (histories : ℕ → ServiceHistory) → AreInSlots view (λ core. rounds) l.budget old l.fn.slots.items
          → AreServed view g.E.CoreEngine.timed (AreInRounds rounds 0) old l.fn.slots.items histories
          → (after : ℕ → ServiceHistory) × AreServed view g.E.CoreEngine.timed (AreInRounds rounds l.index) new l.slots.items after;
    }
