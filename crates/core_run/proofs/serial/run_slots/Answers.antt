use Rattle.std.proofs.Common.{arith, sym, ◌∙◌}
use Rattle.std.proofs.lemmas.Option.{slice_get_within}
use Rattle.core_run.specs.Serial.{AreInRounds}
use Rattle.core_run.proofs.SerialLemmas.{start-slot}
use Rattle.core_run.proofs.StampLemmas.{in-rounds-start}
use Rattle.core_run.proofs.ServedLemmas.{served-first}
use Rattle.core_run.proofs.DoneLaws.{ports-rest, run-is, entries-settled}
use Rattle.core_run.proofs.RunLemmas.{slot-over, ends-done, ends-served}
use Rattle.core_run.proofs.serial.run_slots.Goals as goal

pub play_all-requires-clause-slots : goal.play_all-requires-clause-slots
play_all-requires-clause-slots g c core s got =
    let within = slice_get_within c.args.slots.items core s got in
    let cores = c.requires.cores in
    let start = c.requires.slots core s got in
    record {
      slot = start-slot core c.args.budget _ _ _ _ _ c.requires.budget (omega arith) c.requires.fresh start;
      count = λ none. start.no_cycle;
    }

pub gather-requires-clause-over : goal.gather-requires-clause-over
gather-requires-clause-over g c core s got = let over = slot-over (c.play_all.ensures.slots core s got) in (over.it, over.ended)

pub settle-words-requires-clause-rest : goal.settle-words-requires-clause-rest
settle-words-requires-clause-rest g c =
    let f = c.play_all.ensures in
    ports-rest c.args.budget _ c.gather.new.ends.items (c.gather.ensures.count ∙ (f.cores ∙ (c.requires.cores ∙ sym f.kept.cores)))
    (ends-done g.E.CoreEngine.view g.E.TimedEngine.rows c.args.budget _ _ c.gather.new.ends.items
    (λ core s got. slot-over (f.slots core s got)) c.gather.ensures.ends)

pub returns-clause-run : goal.returns-clause-run
returns-clause-run g c =
    let f = c.play_all.ensures in
    rw (sym f.kept.image, sym f.kept.cores, sym f.kept.caches)
    (run-is c.args.budget _ c.gather.new.ends.items (c.gather.ensures.count ∙ (f.cores ∙ (c.requires.cores ∙ sym f.kept.cores)))
    (ends-done g.E.CoreEngine.view g.E.TimedEngine.rows c.args.budget _ _ c.gather.new.ends.items
    (λ core s got. slot-over (f.slots core s got)) c.gather.ensures.ends)
    _ _ f.lawful c.settle-words.ensures.settles)

pub returns-clause-made : goal.returns-clause-made
returns-clause-made g c =
    (c.play_all.new.memory, (c.play_all.ensures.made, c.settle-words.ensures.settles))

pub returns-clause-served : goal.returns-clause-served
returns-clause-served g c tells =
    let f = c.play_all.ensures in
    let h = f.served _ (served-first g.E.CoreEngine.view g.E.CoreEngine.timed (AreInRounds 0 0) _ c.args.budget c.args.slots.items
    in-rounds-start (sym c.args.slots.ok.0 ∙ c.requires.cores) c.requires.fresh c.requires.slots tells) in (
      h.0,
      ends-served g.E.CoreEngine.view g.E.TimedEngine.rows g.E.CoreEngine.timed (AreInRounds c.args.budget 0) _ _ c.args.budget _ _ _ c.gather.new.ends.items h.0 f.kept
          (c.gather.ensures.count ∙ (f.cores ∙ c.requires.cores))
          (entries-settled c.settle-words.ensures.settles) (λ core s got. slot-over (f.slots core s got)) c.gather.ensures.ends h.1,
    )
