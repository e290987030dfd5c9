-- An interleaving is a run of the sequential machine.
use Rattle.std.proofs.Common.{◌≡◌, ℕ, zero, suc, ◌+◌, ◌*◌, ◌<◌, List, [], ◌∷◌, length, arith, refl, ap, sym, subst, ◌∙◌, zero-add, inl, inr}
use Rattle.std.proofs.lemmas.Bool.{cases_lt}
use Rattle.std.specs.Prelude.{Some, slice_get, map}
use Rattle.std.proofs.lemmas.Option.{same_Some, slice_get_within, slice_get_past}
use Rattle.std.proofs.lemmas.List.{length-map}
use Rattle.std_laws.proofs.ListLaws.{slice_get_some, same_from_slice_get}
use Rattle.mips_isa.specs.declared.CoreState.{CoreState}
use Rattle.access_log.specs.declared.Core.{Core}
use Rattle.access_log.specs.declared.Entry.{Entry}
use Rattle.access_log.specs.Replay.{FlatMachine, caught_up, own, own_steps, started, starting, replay}
use Rattle.access_log.specs.Interleaving.{RunsAlone, Interleaves}
use Rattle.access_log.proofs.MergeLaws.{EachRuns, Merged, merged, length-memory_after}
use Rattle.access_log.proofs.EndLaws.{EachEnds, Ended, ended-each}

abbrev at : List ℕ → List Core → List ℕ → FlatMachine
at code cores memory = record { code = code; cores = cores; memory = memory }

abbrev pub start_of : List CoreState → List Core
start_of starts = map starting starts

pub start_at : (starts : List CoreState) (c : ℕ) (start : CoreState) → slice_get starts c ≡ Some start
    → slice_get (start_of starts) c ≡ Some (starting start)
start_at [] c start h = cc
start_at (first ∷ starts) zero start h = ap (λ (s : CoreState). Some (starting s)) (same_Some first start h)
start_at (first ∷ starts) (suc c) start h = start_at starts c start h

-- what the law is told of a core
record Alone (code memory : List ℕ) (starts : List CoreState) (order : List Entry) (counts : List ℕ) (finals : List Core) (c : ℕ) : Type 0
  where
    pub n : ℕ
    pub start : CoreState
    pub final : Core
    pub begins : slice_get starts c ≡ Some start
    pub counted : slice_get counts c ≡ Some n
    pub ends : slice_get finals c ≡ Some final
    pub runs : RunsAlone code memory start order c n final

alone_at : (code memory : List ℕ) (starts : List CoreState) (order : List Entry) (counts : List ℕ) (finals : List Core)
    (new_memory : List ℕ)
    → Interleaves code memory starts order counts finals new_memory → (c : ℕ) → c < length starts
    → Alone code memory starts order counts finals c
alone_at code memory starts order counts finals new_memory h c within =
    let count = slice_get_some counts c (rw h.counts_are within) in
    let final = slice_get_some finals c (rw h.finals_are within) in
    let start = slice_get_some starts c within in
    record {
      n = count.0;
      start = start.0;
      final = final.0;
      begins = start.1;
      counted = count.1;
      ends = final.1;
      runs = h.alone c count.0 start.0 final.0 start.1 count.1 final.1;
    }

pub length-start : (starts : List CoreState) → length (start_of starts) ≡ length starts
length-start starts = length-map starts starting

start_within : (starts : List CoreState) (c : ℕ) (core : Core) → slice_get (start_of starts) c ≡ Some core → c < length starts
start_within starts c core here =
    let long : c < length (start_of starts) = slice_get_within (start_of starts) c core here in
    let is : length (start_of starts) ≡ length starts = length-start starts in
    omega arith

each_runs : (code memory : List ℕ) (starts : List CoreState) (order : List Entry) (counts : List ℕ) (finals : List Core)
    (new_memory : List ℕ)
    → Interleaves code memory starts order counts finals new_memory → EachRuns code (4 * length memory) order (start_of starts)
each_runs code memory starts order counts finals new_memory h c core here =
    let within : c < length starts = start_within starts c core here in
    let alone = alone_at code memory starts order counts finals new_memory h c within in
    let is : core ≡ starting alone.start = same_Some core (starting alone.start) (sym here ∙ start_at starts c alone.start alone.begins) in
    let run : own_steps code (4 * length memory) (own order c) core ≡ Some alone.runs.mid =
    subst (λ (k : Core). own_steps code (4 * length memory) (own order c) k ≡ Some alone.runs.mid) (sym is) alone.runs.own_entries in
    (alone.runs.mid, run)

-- the cores behind their entries
mid_at : (code memory : List ℕ) (starts : List CoreState) (order : List Entry) (counts : List ℕ) (finals : List Core) (new_memory : List ℕ)
    (mids : List Core)
    → Interleaves code memory starts order counts finals new_memory
    → Merged code (4 * length memory) order (start_of starts) memory mids new_memory
    → (c : ℕ) → c < length starts → (alone : Alone code memory starts order counts finals c) × (slice_get mids c ≡ Some alone.runs.mid)
mid_at code memory starts order counts finals new_memory mids h merged_is c within =
    let alone = alone_at code memory starts order counts finals new_memory h c within in
    (alone, sym (merged_is.each c (starting alone.start) (start_at starts c alone.start alone.begins)) ∙ alone.runs.own_entries)

ends_of : (code memory : List ℕ) (starts : List CoreState) (order : List Entry) (counts : List ℕ) (finals : List Core) (new_memory : List ℕ)
    (mids : List Core)
    → Interleaves code memory starts order counts finals new_memory
    → Merged code (4 * length memory) order (start_of starts) memory mids new_memory
    → EachEnds code (4 * length memory) 0 counts mids
ends_of code memory starts order counts finals new_memory mids h merged_is c n counted =
    let within : c < length starts = rw h.counts_are at (slice_get_within counts c n counted) in
    let stands = mid_at code memory starts order counts finals new_memory mids h merged_is c within in
    let alone = stands.0 in
    let same : n ≡ alone.n = same_Some n alone.n (sym counted ∙ alone.counted) in
    let here : slice_get mids (0 + c) ≡ Some alone.runs.mid = rw zero-add stands.1 in
    let end : caught_up code (4 * length memory) n alone.runs.mid ≡ Some alone.final =
    subst (λ (k : ℕ). caught_up code (4 * length memory) k alone.runs.mid ≡ Some alone.final) (sym same) alone.runs.end in
    (alone.runs.mid, alone.final, here, end)

finals_of : (code memory : List ℕ) (starts : List CoreState) (order : List Entry) (counts : List ℕ) (finals : List Core)
    (new_memory : List ℕ) (mids ends : List Core)
    → Interleaves code memory starts order counts finals new_memory
    → Merged code (4 * length memory) order (start_of starts) memory mids new_memory
    → Ended code (4 * length memory) 0 counts mids new_memory ends
    → (c : ℕ) → slice_get ends c ≡ slice_get finals c
finals_of code memory starts order counts finals new_memory mids ends h merged_is ended_is c =
    elim (cases_lt c (length starts)) [
      | inl within ↦
          (let stands = mid_at code memory starts order counts finals new_memory mids h merged_is c within in
          let alone = stands.0 in
          let there : slice_get mids (0 + c) ≡ Some alone.runs.mid = rw zero-add stands.1 in
          let ends_at : caught_up code (4 * length memory) alone.n alone.runs.mid ≡ slice_get ends (0 + c) =
          ended_is.each c alone.n alone.runs.mid alone.counted there in
          let ends_here : caught_up code (4 * length memory) alone.n alone.runs.mid ≡ slice_get ends c = rw zero-add at ends_at in
          sym ends_here ∙ alone.runs.end ∙ sym alone.ends)
      | inr past ↦
          (let few : length ends ≡ length starts = ended_is.length_is ∙ (merged_is.length_is ∙ length-start starts) in
          slice_get_past ends c (rw few past) ∙ sym (slice_get_past finals c (rw h.finals_are past)))
    ]

pub interleaving : (code memory : List ℕ) (starts : List CoreState) (order : List Entry) (counts : List ℕ) (finals : List Core)
    (new_memory : List ℕ)
    → Interleaves code memory starts order counts finals new_memory
    → replay code memory starts order counts ≡ Some (at code finals new_memory)
unfolding replay started
interleaving code memory starts order counts finals new_memory h =
    let m = merged code (4 * length memory) order (start_of starts) memory new_memory refl h.remembers (rw length-start h.within)
    (each_runs code memory starts order counts finals new_memory h) in
    let size : 4 * length new_memory ≡ 4 * length memory =
    ap (λ (n : ℕ). 4 * n) (length-memory_after order memory new_memory h.remembers) in
    let e = ended-each code (4 * length memory) 0 counts m.0 new_memory size
    (ends_of code memory starts order counts finals new_memory m.0 h m.1) in
    let lengths : length e.0 ≡ length finals = e.1.length_is ∙ (m.1.length_is ∙ (length-start starts ∙ sym h.finals_are)) in
    let same : e.0 ≡ finals = same_from_slice_get e.0 finals lengths
    (finals_of code memory starts order counts finals new_memory m.0 e.0 h m.1 e.1) in
    rw (m.1.run, e.1.run, same) refl
