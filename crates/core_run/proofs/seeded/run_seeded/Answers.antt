use Rattle.std.proofs.Common.{arith, sym, ◌∙◌, []}
use Rattle.std.proofs.lemmas.Option.{slice_get_within}
use Rattle.right_run.specs.Seeded.{HaveTurns, AreSeeded}
use Rattle.right_run.specs.Turns.{cycles_of}
use Rattle.core_run.proofs.SerialLemmas.{start-slot}
use Rattle.core_run.proofs.ServedLemmas.{served-first, served-ordered}
use Rattle.core_run.proofs.DoneLaws.{ports-rest, run-is, entries-settled}
use Rattle.core_run.proofs.RunLemmas.{ends-done, ends-served}
use Rattle.core_run.proofs.SeededLemmas.{all-ended, ends-totals, ends-all}
use Rattle.core_run.proofs.seeded.run_seeded.Goals as goal

pub play_seeded-requires-clause-slots : goal.play_seeded-requires-clause-slots
play_seeded-requires-clause-slots g c core s got =
    let within = slice_get_within c.args.slots.items core s got in
    let cores = c.requires.cores in
    start-slot core c.args.budget _ _ _ _ _ c.requires.budget (omega arith) c.requires.fresh (c.requires.slots core s got)

pub play_seeded-requires-clause-no_cycle : goal.play_seeded-requires-clause-no_cycle
play_seeded-requires-clause-no_cycle g c core s got = (c.requires.slots core s got).no_cycle

pub gather-requires-clause-over : goal.gather-requires-clause-over
gather-requires-clause-over g c core s got =
    let f = c.play_seeded.ensures in
    let over = all-ended g.E.CoreEngine.view c.args.budget _ _ f.had.1.slots f.ended core s got in
    (over.it, over.ended)

pub settle-words-requires-clause-rest : goal.settle-words-requires-clause-rest
settle-words-requires-clause-rest g c =
    let f = c.play_seeded.ensures in
    ports-rest c.args.budget _ c.gather.new.ends.items (c.gather.ensures.count ∙ (f.cores ∙ (c.requires.cores ∙ sym f.kept.cores)))
    (ends-done g.E.CoreEngine.view g.E.TimedEngine.rows c.args.budget _ _ c.gather.new.ends.items
    (all-ended g.E.CoreEngine.view c.args.budget _ _ f.had.1.slots f.ended) c.gather.ensures.ends)

pub returns-clause-run : goal.returns-clause-run
returns-clause-run g c =
    let f = c.play_seeded.ensures in
    rw (sym f.kept.image, sym f.kept.cores, sym f.kept.caches)
    (run-is c.args.budget _ c.gather.new.ends.items (c.gather.ensures.count ∙ (f.cores ∙ (c.requires.cores ∙ sym f.kept.cores)))
    (ends-done g.E.CoreEngine.view g.E.TimedEngine.rows c.args.budget _ _ c.gather.new.ends.items
    (all-ended g.E.CoreEngine.view c.args.budget _ _ f.had.1.slots f.ended) c.gather.ensures.ends)
    _ _ f.lawful c.settle-words.ensures.settles)

pub returns-clause-made : goal.returns-clause-made
returns-clause-made g c =
    let had = c.play_seeded.ensures.had in
    let ends = c.gather.new.ends.items in
    let slots = c.play_seeded.new.slots in
    let totals = ends-totals g.E.CoreEngine.view g.E.TimedEngine.rows slots.items ends c.gather.ensures.ends
    (c.gather.ensures.count ∙ slots.ok.0) in (
      c.play_seeded.new.memory,
      (
        record {
          turns = had.0;
          calls = had.1.calls;
          are = had.1.are (cycles_of ends) totals;
          all = ends-all g.E.CoreEngine.view g.E.TimedEngine.rows slots.items ends c.gather.ensures.ends had.0 had.1.cycles;
          lead = had.1.lead;
        },
        c.settle-words.ensures.settles,
      ),
    )

pub returns-clause-served : goal.returns-clause-served
returns-clause-served g c tells =
    let f = c.play_seeded.ensures in
    let had = f.had in
    let ends = c.gather.new.ends.items in
    let slots = c.play_seeded.new.slots in
    let view = g.E.CoreEngine.view in
    let rows = g.E.TimedEngine.rows in
    let times = g.E.CoreEngine.timed in
    let totals = ends-totals view rows slots.items ends c.gather.ensures.ends (c.gather.ensures.count ∙ slots.ok.0) in
    let all = ends-all view rows slots.items ends c.gather.ensures.ends had.0 had.1.cycles in
    let h = had.1.served _ (served-first view times (HaveTurns 0 []) _ c.args.budget c.args.slots.items tt
    (sym c.args.slots.ok.0 ∙ c.requires.cores) c.requires.fresh c.requires.slots tells) in
    let served = served-ordered view times (HaveTurns 0 had.0) (AreSeeded c.args.seed (cycles_of ends)) _ slots.items h.0
    (λ stamps have. record { turns = had.0; drawn = (had.1.are (cycles_of ends) totals).drawn; all = all; have = have }) h.1 in (
      h.0,
      ends-served view rows times (AreSeeded c.args.seed (cycles_of ends)) _ _ c.args.budget _ _ slots.items ends h.0 f.kept
          (c.gather.ensures.count ∙ (f.cores ∙ c.requires.cores)) (entries-settled c.settle-words.ensures.settles)
          (all-ended view c.args.budget _ _ had.1.slots f.ended) c.gather.ensures.ends served,
    )
