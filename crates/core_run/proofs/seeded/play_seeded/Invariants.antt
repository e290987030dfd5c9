use Rattle.std.proofs.Common.{◌≡◌, ℕ, ◌*◌, List, length, vec_len}
use Rattle.rand_pcg.specs.Lcg.{advance}
use Rattle.rand_pcg.specs.Pcg.{multiplier_64}
use Rattle.right_run.specs.Seeded.{generator_of}
use Rattle.mem_port.specs.Memory.{IsLawful, Keeps}
use Rattle.core_run.specs.Seeded.{HaveHad}
use Rattle.core_run.proofs.SeededLemmas.{all_to_go}
use Rattle.core_run.proofs.seeded.play_seeded.Given as goal

abbrev pub invariant-loop-core : goal.invariant-loop-core
invariant-loop-core g l =
    let sees = g.M.MemoryCore.view in
    record {
      lawful : IsLawful (sees l.memory);
      kept : Keeps (sees l.fn.memory) (sees l.memory);
      count : vec_len l.slots ≡ vec_len l.fn.slots;
      had : (turns : List ℕ) × ((l.words ≡ advance 64 multiplier_64 (2 * length turns) (generator_of l.seed))
          × HaveHad g.E.CoreEngine.view g.E.CoreEngine.timed sees g.M.MemoryCore.makes l.budget l.seed turns l.fn.memory l.memory
          l.fn.slots.items l.slots.items);
    }

abbrev pub decreases-loop-core : goal.decreases-loop-core
decreases-loop-core g l = all_to_go l.budget l.slots.items
