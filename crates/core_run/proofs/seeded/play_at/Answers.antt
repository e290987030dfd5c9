use Rattle.std.proofs.Common.{arith, refl, subst, sym, ap, ◌∙◌, ◌≡◌, ℕ}
use Rattle.std.specs.Prelude.{is_some}
use Rattle.std.proofs.lemmas.Option.{slice_get_read}
use Rattle.std_laws.proofs.OptionLaws.{none_from_is_none}
use Rattle.mem_port.specs.Side.{LeavesOthers}
use Rattle.core_run.specs.Running.{AreOfCycle}
use Rattle.core_run.specs.Serial.{Receives}
use Rattle.core_run.specs.Seeded.{runs_on}
use Rattle.core_run.proofs.DrawLemmas.{runs-within}
use Rattle.core_run.proofs.seeded.play_at.Goals as goal

pub play-requires-clause-serves : goal.play-requires-clause-serves
play-requires-clause-serves g c =
    let items = c.args.slots.now.items in
    let inside = runs-within items c.args.core c.requires.runs_on in
    let got = slice_get_read items _ c.args.core c.index_mut-slot.result.now refl inside c.index_mut-slot.ensures.value in
    let is = (c.requires.slots c.args.core c.index_mut-slot.result.now got).lane_is in
    let all = c.requires.cores in
    record { lawful = c.requires.lawful; within = omega (arith, is, all) }

pub play-requires-clause-slot : goal.play-requires-clause-slot
play-requires-clause-slot g c =
    let items = c.args.slots.now.items in
    let inside = runs-within items c.args.core c.requires.runs_on in
    let got = slice_get_read items _ c.args.core c.index_mut-slot.result.now refl inside c.index_mut-slot.ensures.value in
    record { lane_is = refl; holds = (c.requires.slots c.args.core c.index_mut-slot.result.now got).holds }

pub play-requires-clause-no_end : goal.play-requires-clause-no_end
play-requires-clause-no_end g c =
    let items = c.args.slots.now.items in
    let s = c.index_mut-slot.result.now in
    let inside = runs-within items c.args.core c.requires.runs_on in
    let got = slice_get_read items _ c.args.core s refl inside c.index_mut-slot.ensures.value in
    none_from_is_none s.end (sym (ap runs_on got) ∙ c.requires.runs_on)

pub returns-clause-played : goal.returns-clause-played
returns-clause-played g c =
    let items = c.args.slots.now.items in
    let s = c.index_mut-slot.result.now in
    let sees = g.M.MemoryCore.view in
    let inside = runs-within items c.args.core c.requires.runs_on in
    let got = slice_get_read items _ c.args.core s refl inside c.index_mut-slot.ensures.value in
    let is : s.lane.core ≡ c.args.core = (c.requires.slots c.args.core s got).lane_is in
    let f = c.play.ensures in
    let old = sees c.args.memory.now in
    let new = sees c.play.new.memory in
    record {
      was = s;
      is = c.play.new.slot;
      at = got;
      no_end = none_from_is_none s.end (sym (ap runs_on got) ∙ c.requires.runs_on);
      slots = refl;
      slot = record { lane_is = f.slot.lane_is ∙ is; holds = f.slot.holds };
      cycles = f.cycles;
      others = subst (λ (k : ℕ). LeavesOthers k old new) is f.others;
      calls = f.made.0;
      made = subst (λ (k : ℕ). AreOfCycle k c.args.choice (is_some c.play.new.slot.end) f.made.0) is f.made.1.0;
      lead = f.made.1.1;
      served = λ history was.
          (let h = f.served history was in
          (h.0, (h.1.0, λ once. subst (λ (k : ℕ). Receives k c.play.new.slot.cycles old.history new.history history h.0) is (h.1.1 once))));
    }
