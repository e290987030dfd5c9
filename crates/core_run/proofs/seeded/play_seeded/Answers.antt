use Rattle.std.proofs.Common.{refl, ap, sym, ◌∙◌, subst, ◌≡◌, ◌+◌, ◌*◌, ◌++◌, ◌∷◌, [], ℕ, List, Some, length}
use Rattle.std.proofs.lemmas.List.{length-append}
use Rattle.rand_core.specs.Pcg32Seed.{pcg32_seed}
use Rattle.rand_pcg.specs.Lcg.{Lcg, advance}
use Rattle.rand_pcg.specs.Pcg.{multiplier_64, pcg32, pcg32_of_seed}
use Rattle.rand_pcg.proofs.LcgLemmas.{advance_zero}
use Rattle.right_run.specs.Seeded.{generator_of, drawn}
use Rattle.mem_port.proofs.SideLaws.{stays-view, kept_twice}
use Rattle.core_run.specs.declared.serial.CoreSlot.{CoreSlot}
use Rattle.core_run.specs.Seeded.{running}
use Rattle.core_run.proofs.DrawLemmas.{drawn-runs, words-more}
use Rattle.core_run.proofs.SeededLemmas.{had-none, had-more, less-to-go}
use Rattle.core_run.proofs.seeded.play_seeded.Goals as goal

pub loop-core-init : goal.loop-core-init
loop-core-init g c =
    let words = c.seed_from_u64-words in
    let first = subst (λ (n : ℕ). words.result ≡ pcg32_of_seed (pcg32_seed 16 (n + 1))) c.from.ensures words.ensures in
    record {
      lawful = c.requires.lawful;
      kept = (stays-view 0 _).kept;
      count = refl;
      had = (
        [],
        (
          first ∙ sym (advance_zero 64 multiplier_64 (generator_of c.args.seed)),
          had-none g.E.CoreEngine.view g.E.CoreEngine.timed g.M.MemoryCore.view g.M.MemoryCore.makes c.args.budget c.args.seed
              c.args.memory.now c.args.slots.now.items c.requires.slots c.requires.no_cycle,
        ),
      );
    }

pub play_at-requires-clause-runs_on : goal.play_at-requires-clause-runs_on
play_at-requires-clause-runs_on g c =
    let items = c.loop-core.slots.items in
    let word = (pcg32 c.loop-core.words).0 in
    drawn-runs items word c.in-Some.core
    (subst (λ (t : List (CoreSlot g.row.E.Denot)). drawn word (running t) ≡ Some c.in-Some.core) c.deref.ensures.value
    c.in-Some.ensures.drawn.0)

pub loop-core-smaller : goal.loop-core-smaller
loop-core-smaller g c =
    let had = c.loop-core.invariant.had.1.1 in
    less-to-go g.E.CoreEngine.view g.E.CoreEngine.timed g.M.MemoryCore.view g.M.MemoryCore.makes c.args.budget c.in-Some.core
    c.next_word-choice.result c.loop-core.memory c.play_at.new.memory c.loop-core.slots.items c.play_at.new.slots.items
    c.play_at.ensures.played had.slots

pub loop-core-preserved : goal.loop-core-preserved
loop-core-preserved g c =
    let l = c.loop-core in
    let items = l.slots.items in
    let core = c.in-Some.core in
    let turns = l.invariant.had.0 in
    let at = l.invariant.had.1.0 in
    let took = c.in-Some.ensures.drawn in
    let played = c.play_at.ensures.played in
    let words = words-more c.args.seed (length turns) l.words c.draw.new.words c.next_word-choice.new.self c.next_word-choice.result at
    took.1 c.next_word-choice.ensures in
    let is_drawn = subst (λ (g : Lcg). drawn (pcg32 g).0 (running items) ≡ Some core) at
    (subst (λ (t : List (CoreSlot g.row.E.Denot)). drawn (pcg32 l.words).0 (running t) ≡ Some core) c.deref.ensures.value took.0) in
    let count : length turns + 1 ≡ length (turns ++ core ∷ []) = sym (length-append turns (core ∷ [])) in
    record {
      lawful = c.play_at.ensures.lawful;
      kept = kept_twice l.invariant.kept played.others.kept;
      count = c.play_at.ensures.cores ∙ l.invariant.count;
      had = (
        turns ++ core ∷ [],
        (
          words.1 ∙ ap (λ n. advance 64 multiplier_64 (2 * n) (generator_of c.args.seed)) count,
          had-more g.E.CoreEngine.view g.E.CoreEngine.timed g.M.MemoryCore.view g.M.MemoryCore.makes c.args.budget core
              c.next_word-choice.result l.memory c.play_at.new.memory items c.play_at.new.slots.items played c.args.seed turns
              c.args.memory.now c.args.slots.now.items l.invariant.had.1.1 is_drawn words.0,
        ),
      );
    }
