-- A run of the sequential machine is an interleaving.
use Rattle.std.proofs.Common.{◌≡◌, ℕ, zero, suc, ◌+◌, ◌*◌, ◌<◌, List, [], ◌∷◌, length, arith, refl, ap, sym, subst, ◌∙◌, zero-add}
use Rattle.std.specs.Prelude.{true, Some, slice_get, slice_set}
use Rattle.std.specs.Option.{option_and_then}
use Rattle.std.specs.List.{AllByRecursion}
use Rattle.std.proofs.lemmas.Option.{none-some, same_Some, slice_get_within}
use Rattle.std.proofs.lemmas.Bool.{eq-eqb}
use Rattle.std.proofs.lemmas.List.{length-set}
use Rattle.std_laws.proofs.ListLaws.{slice_get_some, slice_get-set_other}
use Rattle.std_laws.proofs.OptionLaws.{option_and_then_parts, option_map_parts, cond_some_parts}
use Rattle.mips_isa.specs.declared.CoreState.{CoreState}
use Rattle.mips_isa.specs.declared.Next.{Next}
use Rattle.mips_isa.specs.declared.Next.TheVariants.{Stops, Asks, Goes}
use Rattle.mips_isa.specs.Kinds.{part}
use Rattle.access_log.specs.declared.Core.{Core}
use Rattle.access_log.specs.declared.Entry.{Entry}
use Rattle.access_log.specs.Memory.{word_at, made, due, has_found, after, memory_after, is_same}
use Rattle.access_log.specs.Replay.{FlatMachine, memory_bytes, next_in, caught_up, caught_up_in, caught_up_for, finished, entered_by}
use Rattle.access_log.specs.Replay.{entered, entered_all, with_core, moved, ended, started, starting, replay, own, own_by, own_step}
use Rattle.access_log.specs.Replay.{own_steps}
use Rattle.access_log.specs.Interleaving.{RunsAlone, Interleaves}
use Rattle.access_log.proofs.EntryLaws.{is_same-true, is_same-same}
use Rattle.access_log.proofs.ItemLaws.{length-after}
use Rattle.access_log.proofs.MergeLaws.{due-made, due-old, stepped, each_all, length-memory_after}
use Rattle.access_log.proofs.EndLaws.{EachEnds, Ended, ended-each}
use Rattle.access_log.proofs.InterleavingLaws.{start_of, start_at, length-start}

abbrev at : List ℕ → List Core → List ℕ → FlatMachine
at code cores memory = record { code = code; cores = cores; memory = memory }

-- what an entry that the machine makes is for its core, and for memory
record By (machine : FlatMachine) (entry : Entry) (core : Core) (next : Next) (new : FlatMachine) : Type 0 where
  pub after_it : Core
  pub own_is : own_by machine.code entry core next ≡ Some after_it
  pub found : has_found machine.memory entry ≡ true
  pub new_is : new ≡ stepped machine entry after_it

by_entered : (machine : FlatMachine) (entry : Entry) (core : Core) (next : Next) (new : FlatMachine)
    → entered_by machine entry core next ≡ Some new → By machine entry core next new
by_entered machine entry core (Stops stop) new h = absurd (none-some new h)
by_entered machine entry core (Goes state) new h = absurd (none-some new h)
by_entered machine entry core (Asks access) new h =
    let parts = cond_some_parts (is_same entry (due machine.memory entry.core core.executed access))
    (Some (stepped machine entry (finished machine.code entry.old core))) new h in
    let is : entry ≡ due machine.memory entry.core core.executed access =
    is_same-true entry (due machine.memory entry.core core.executed access) parts.0 in
    let by_core : entry ≡ made entry.core core.executed access entry.old =
    due-made machine.memory entry.core core.executed access entry is in
    let same : is_same entry (made entry.core core.executed access entry.old) ≡ true = rw (← by_core) (is_same-same entry) in
    record {
      after_it = finished machine.code entry.old core;
      own_is = rw same refl;
      found = eq-eqb entry.old (part entry.kind entry.addr (word_at machine.memory entry.addr))
          (due-old machine.memory entry.core core.executed access entry is);
      new_is = sym (same_Some (stepped machine entry (finished machine.code entry.old core)) new parts.1);
    }

record Step (machine : FlatMachine) (entry : Entry) (new : FlatMachine) : Type 0 where
  pub before : Core
  pub after_it : Core
  pub was : slice_get machine.cores entry.core ≡ Some before
  pub own_is : own_step machine.code (memory_bytes machine) entry before ≡ Some after_it
  pub found : has_found machine.memory entry ≡ true
  pub new_is : new ≡ stepped machine entry after_it

step_entered : (machine : FlatMachine) (entry : Entry) (new : FlatMachine) → entered entry machine ≡ Some new → Step machine entry new
unfolding entered own_step
step_entered machine entry new h =
    let there = option_and_then_parts (λ (core : Core). entered_by machine entry core (next_in machine core)) (caught_up_for machine entry)
    new h
    in
    let before = option_and_then_parts (caught_up_in machine entry.nth) (slice_get machine.cores entry.core) there.0 there.1 in
    let by = by_entered machine entry there.0 (next_in machine there.0) new there.2 in
    record {
      before = before.0;
      after_it = by.after_it;
      was = before.1;
      own_is = rw before.2 by.own_is;
      found = by.found;
      new_is = by.new_is;
    }

-- what a list of entries that the machine makes is for each core, and for memory
record Split (code : List ℕ) (bytes : ℕ) (order : List Entry) (cores : List Core) (memory : List ℕ) (new : FlatMachine) : Type 0 where
  pub code_is : new.code ≡ code
  pub within : AllByRecursion (λ entry. entry.core < length cores) order
  pub remembers : memory_after order memory ≡ Some new.memory
  pub each : (c : ℕ) (core : Core) → slice_get cores c ≡ Some core → own_steps code bytes (own order c) core ≡ slice_get new.cores c
  pub length_is : length new.cores ≡ length cores

split_all : (code : List ℕ) (bytes : ℕ) (order : List Entry) (cores : List Core) (memory : List ℕ) (new : FlatMachine)
    → 4 * length memory ≡ bytes
    → entered_all order (at code cores memory) ≡ Some new → Split code bytes order cores memory new
unfolding entered_all memory_after own_steps
split_all code bytes [] cores memory new size h =
    let is : at code cores memory ≡ new = same_Some (at code cores memory) new h in
    record {
      code_is = ap (λ (m : FlatMachine). m.code) (sym is);
      within = tt;
      remembers = ap (λ (m : FlatMachine). Some m.memory) is;
      each = λ c core here. sym here ∙ ap (λ (m : FlatMachine). slice_get m.cores c) is;
      length_is = ap (λ (m : FlatMachine). length m.cores) (sym is);
    }
split_all code bytes (entry ∷ entries) cores memory new size h =
    let first = option_and_then_parts (entered_all entries) (entered entry (at code cores memory)) new h in
    let step = step_entered (at code cores memory) entry first.0 first.1 in
    let next : List Core = slice_set cores entry.core step.after_it in
    let made_is : entered_all entries (at code next (after memory entry)) ≡ Some new = rw step.new_is at first.2 in
    let others = split_all code bytes entries next (after memory entry) new (rw (length-after memory entry) size) made_is in
    let within : entry.core < length cores = slice_get_within cores entry.core step.before step.was in
    record {
      code_is = others.code_is;
      within = (within, rw (length-set cores entry.core step.after_it) at others.within);
      remembers = rw step.found others.remembers;
      each = λ c core here. each_all code bytes entry entries cores new.cores step.before step.after_it within step.was
          (rw size at step.own_is) others.each c core here;
      length_is = rw (length-set cores entry.core step.after_it) at others.length_is;
    }

-- where the machine's cores catch up to their counts, each can
each_ends : (code : List ℕ) (bytes index : ℕ) (counts : List ℕ) (cores : List Core) (memory : List ℕ) (new : FlatMachine)
    → 4 * length memory ≡ bytes
    → ended index counts (at code cores memory) ≡ Some new → EachEnds code bytes index counts cores
unfolding ended
each_ends code bytes index [] cores memory new size h = λ c n counted. absurd (none-some n counted)
each_ends code bytes index (n ∷ counts) cores memory new size h =
    let first = option_and_then_parts (ended (index + 1) counts) (moved index n (at code cores memory)) new h in
    let end = option_map_parts (with_core (at code cores memory) index)
    (option_and_then (caught_up_in (at code cores memory) n) (slice_get cores index)) first.0 first.1 in
    let core = option_and_then_parts (caught_up_in (at code cores memory) n) (slice_get cores index) end.0 end.1 in
    let others = each_ends code bytes (index + 1) counts (slice_set cores index end.0) memory new size (rw (← end.2) at first.2) in
    both core.0 end.0 core.1 (rw size at core.2) others
  where
    both : (core final : Core) → slice_get cores index ≡ Some core → caught_up code bytes n core ≡ Some final
        → EachEnds code bytes (index + 1) counts (slice_set cores index final)
        → EachEnds code bytes index (n ∷ counts) cores
    both core final here caught others zero m counted =
        let e : index + 0 ≡ index = omega arith in
        (core, final, rw e here, rw (← same_Some n m counted) caught)
    both core final here caught others (suc c) m counted =
        let there = others c m counted in
        let e : index + suc c ≡ index + 1 + c = omega arith in
        (there.0, there.1, rw e (sym (slice_get-set_other cores index (index + 1 + c) final (λ k. omega arith)) ∙ there.2), there.3)

-- a machine by its fields
fields : (machine : FlatMachine) (code : List ℕ) → machine.code ≡ code → machine ≡ at code machine.cores machine.memory
fields machine code e = ap (λ c. at c machine.cores machine.memory) e

-- the order interleaves what the cores do by themselves
gathered : (code memory : List ℕ) (starts : List CoreState) (order : List Entry) (counts : List ℕ) (mid : FlatMachine) (finals : List Core)
    → length counts ≡ length starts
    → Split code (4 * length memory) order (start_of starts) memory mid
    → Ended code (4 * length memory) 0 counts mid.cores mid.memory finals
    → Interleaves code memory starts order counts finals mid.memory
gathered code memory starts order counts mid finals few s e = record {
  within = rw length-start at s.within;
  remembers = s.remembers;
  counts_are = few;
  finals_are = rw (s.length_is, length-start) at e.length_is;
  alone = alone;
}
  where
    alone : (c n : ℕ) (start : CoreState) (final : Core) → slice_get starts c ≡ Some start → slice_get counts c ≡ Some n
        → slice_get finals c ≡ Some final
        → RunsAlone code memory start order c n final
    alone c n start final begins counted there =
        let within : c < length starts = rw few at (slice_get_within counts c n counted) in
        let mid_is = slice_get_some mid.cores c (rw (s.length_is, length-start) within) in
        let here : slice_get mid.cores (0 + c) ≡ Some mid_is.0 = rw zero-add mid_is.1 in
        let ends_at : caught_up code (4 * length memory) n mid_is.0 ≡ slice_get finals (0 + c) = e.each c n mid_is.0 counted here in
        let ends_here : caught_up code (4 * length memory) n mid_is.0 ≡ slice_get finals c = rw zero-add at ends_at in
        record {
          mid = mid_is.0;
          own_entries = s.each c (starting start) (start_at starts c start begins) ∙ mid_is.1;
          end = ends_here ∙ there;
        }

split_at : (code memory : List ℕ) (starts : List CoreState) (order : List Entry) (counts : List ℕ) (mid machine : FlatMachine)
    → length counts ≡ length starts
    → Split code (4 * length memory) order (start_of starts) memory mid → ended 0 counts mid ≡ Some machine
    → Interleaves code memory starts order counts machine.cores machine.memory
split_at code memory starts order counts mid machine few s h =
    let size : 4 * length mid.memory ≡ 4 * length memory =
    ap (λ (n : ℕ). 4 * n) (length-memory_after order memory mid.memory s.remembers) in
    let run : ended 0 counts (at code mid.cores mid.memory) ≡ Some machine = rw (fields mid code s.code_is) at h in
    let e = ended-each code (4 * length memory) 0 counts mid.cores mid.memory size
    (each_ends code (4 * length memory) 0 counts mid.cores mid.memory machine size run) in
    at_end e.0 e.1 run
  where
    at_end : (finals : List Core) → Ended code (4 * length memory) 0 counts mid.cores mid.memory finals
        → ended 0 counts (at code mid.cores mid.memory) ≡ Some machine
        → Interleaves code memory starts order counts machine.cores machine.memory
    at_end finals e run =
        let P : FlatMachine → Type 0 = λ m. Interleaves code memory starts order counts m.cores m.memory in
        subst P (same_Some (at code finals mid.memory) machine (rw e.run at run))
        (gathered code memory starts order counts mid finals few s e)

pub split : (code memory : List ℕ) (starts : List CoreState) (order : List Entry) (counts : List ℕ) (machine : FlatMachine)
    → length counts ≡ length starts
    → replay code memory starts order counts ≡ Some machine → Interleaves code memory starts order counts machine.cores machine.memory
unfolding replay started
split code memory starts order counts machine few h =
    let mid = option_and_then_parts (ended 0 counts) (entered_all order (started code memory starts)) machine h in
    split_at code memory starts order counts mid.0 machine few
    (split_all code (4 * length memory) order (start_of starts) memory mid.0 refl mid.1) mid.2
