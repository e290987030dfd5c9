use Rattle.std.proofs.Common.{rules, arith, refl, ◌+◌, ◌<◌, ℕ, length}
use Rattle.std.proofs.lemmas.Option.{slice_get_read}
use Rattle.mem_port.proofs.SideLaws.{stays-view, kept_twice}
use Rattle.core_run.specs.Serial.{AreInRounds}
use Rattle.core_run.proofs.RoundLemmas.{AreInSlots, at-own, adds-turn, slot-now, slots-start, slots-turn, slots-round}
use Rattle.core_run.proofs.ServedLemmas.{served-turn, served-ordered}
use Rattle.core_run.proofs.StampLemmas.{after-round}
use Rattle.core_run.proofs.TurnLemmas.{leads-none, leads-twice}
use Rattle.core_run.proofs.serial.play_round.Goals as goal

pub loop-index-init : goal.loop-index-init
loop-index-init g c = record {
  lawful = c.requires.lawful;
  kept = (stays-view 0 _).kept;
  count = refl;
  slots = λ rounds start. slots-start g.E.CoreEngine.view rounds c.args.budget _ c.args.slots.now.items start;
  made = leads-none g.M.MemoryCore.makes _;
  served = λ rounds histories start served. (histories, served);
}

pub play_if_on-requires-clause-serves : goal.play_if_on-requires-clause-serves
play_if_on-requires-clause-serves g c =
    let inside : c.loop-index.index < length c.loop-index.slots.items = search rules in
    let got = slice_get_read c.loop-index.slots.items _ c.loop-index.index c.index_mut-slot.result.now refl inside
    c.index_mut-slot.ensures.value in
    let is = (c.loop-index.invariant.slots c.requires.slots.0 c.requires.slots.1 c.loop-index.index c.index_mut-slot.result.now got).slot.lane_is
    in
    let cores = c.loop-index.invariant.kept.cores in
    let all = c.requires.cores in
    record { lawful = c.loop-index.invariant.lawful; within = omega (arith, is, cores, all) }

pub play_if_on-requires-clause-at : goal.play_if_on-requires-clause-at
play_if_on-requires-clause-at g c =
    let inside : c.loop-index.index < length c.loop-index.slots.items = search rules in
    let got = slice_get_read c.loop-index.slots.items _ c.loop-index.index c.index_mut-slot.result.now refl inside
    c.index_mut-slot.ensures.value in
    (_, at-own (c.loop-index.invariant.slots c.requires.slots.0 c.requires.slots.1 c.loop-index.index c.index_mut-slot.result.now got))

pub loop-index-preserved : goal.loop-index-preserved
loop-index-preserved g c =
    let l = c.loop-index in
    let f = c.play_if_on.ensures in
    let s = c.index_mut-slot.result.now in
    let inside : l.index < length l.slots.items = search rules in
    let got = slice_get_read l.slots.items _ l.index s refl inside c.index_mut-slot.ensures.value in
    let is = (l.invariant.slots c.requires.slots.0 c.requires.slots.1 l.index s got).slot.lane_is in
    let at = λ (rounds : ℕ) (start : AreInSlots g.E.CoreEngine.view (λ core. rounds) c.args.budget (g.M.MemoryCore.view c.args.memory.now)
    c.args.slots.now.items).
    at-own (slot-now g.E.CoreEngine.view rounds c.args.budget _ l.slots.items l.index s got (l.invariant.slots rounds start)) in
    record {
      lawful = f.serves.lawful;
      kept = kept_twice l.invariant.kept f.others.kept;
      count = l.invariant.count;
      slots = λ rounds start.
          slots-turn g.E.CoreEngine.view rounds c.args.budget _ _ l.slots.items l.index s.lane.core c.play_if_on.new.slot inside is f.others
          (f.at rounds (at rounds start)) (l.invariant.slots rounds start);
      made = leads-twice g.M.MemoryCore.makes c.args.memory.now l.memory c.play_if_on.new.memory l.invariant.made f.made;
      served = λ rounds histories start served.
          (let h = l.invariant.served rounds histories start served in
          let slots = l.invariant.slots rounds start in
          served-turn (AreInRounds rounds l.index) (AreInRounds rounds (l.index + 1)) l.index (rounds + 1) (adds-turn rounds l.index)
          g.E.CoreEngine.view g.E.CoreEngine.timed _ _ l.slots.items s.lane.core c.play_if_on.new.slot h.0 inside is f.others
          (λ core s got. (slots core s got).slot.lane_is) h.1 (f.served rounds (h.0 l.index) (at rounds start) (h.1.each l.index s got)));
    }

pub returns-clause-slots : goal.returns-clause-slots
returns-clause-slots g c rounds start =
    slots-round g.E.CoreEngine.view rounds c.args.budget _ c.loop-index.slots.items c.loop-index.index (search rules)
    (c.loop-index.invariant.slots rounds start)

pub returns-clause-served : goal.returns-clause-served
returns-clause-served g c rounds histories start served =
    let h = c.loop-index.invariant.served rounds histories start served in (
      h.0,
      served-ordered g.E.CoreEngine.view g.E.CoreEngine.timed (AreInRounds rounds c.loop-index.index) (AreInRounds (rounds + 1) 0) _
          c.loop-index.slots.items h.0 (after-round rounds c.loop-index.index) h.1,
    )
