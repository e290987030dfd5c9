-- From the lock to the pass: what a pass may do with the memory that it holds, and what it has seen once it let go.
use Rattle.std.proofs.Common.{◌≡◌, ℕ, ◌+◌, ◌<◌, List, [], ◌∷◌, length, Some, None, get_or, sym, refl, ap, ◌∙◌, subst, arith}
use Rattle.atomic_table.specs.Table.{Me, rest}
use Rattle.mem_port.specs.declared.memory.MemoryCore.{Ghosts}
use Rattle.mem_port.specs.declared.port.Port.TheVariants.{Fetch, Access}
use Rattle.mem_port.specs.Calls.{Call}
use Rattle.mem_port.specs.Memory.{Keeps}
use Rattle.turn.specs.declared.views.CoreView.{CoreView}
use Rattle.turn.specs.declared.views.PassView.{PassView}
use Rattle.turn.specs.declared.counted.Counted.{Counted}
use Rattle.turn.specs.declared.pass.Turn.{Turn}
use Rattle.turn.specs.declared.pass.Pass.{Pass}
use Rattle.turn.specs.Views.{CountedView, CoreFits, LeavesCores, core_view, asks_of}
use Rattle.turn.specs.Rule.{own_core, joined_cores, Releases, pass_view, Event, IsCaused, moves_in, with_event, counts_of}
use Rattle.turn.specs.Holding.{HasTurn, MayRelease}
use Rattle.turn.specs.Counting.{seen, IsCounted}
use Rattle.turn.specs.Passes.{event_of, first_view, own, IsOf, HasMade}
use Rattle.turn.proofs.CallLaws.{Leads, call-leaves, call-asked, call-caused, event-moves}

module _ {S : Type 0} {view : S → CountedView} where
  -- The memory in the slot is the one that was taken.
  same_memory : (before me : Me S (PassView S)) (m : S) (h : HasTurn view before me) → me.1 ≡ (0, m) ∷ rest me.1 → h.memory ≡ m
  same_memory before me m h e =
      let l : (0, h.memory) ∷ [] ≡ (0, m) ∷ rest me.1 = ap (λ (x : Me S (PassView S)). x.1) (sym h.is) ∙ e in
      ap (λ (l : List (ℕ × S)). (get_or l 0 (0, h.memory)).1) l

  had : (before me : Me S (PassView S)) (m : S) → HasTurn view before me → me.1 ≡ (0, m) ∷ rest me.1
      → CoreFits (view m) (own_core before.0.cores)
  had before me m h e = subst (λ (z : S). CoreFits (view z) (own_core before.0.cores)) (same_memory before me m h e) h.fits

  had-kept : (before me : Me S (PassView S)) (m k : S) → HasTurn view before me → me.1 ≡ (0, m) ∷ rest me.1 → before.0.origin ≡ Some k
      → Keeps (view k).memory (view m).memory
  had-kept before me m k h e is = subst (λ (z : S). Keeps (view k).memory (view z).memory) (same_memory before me m h e) (h.kept k is)

  may-release : (event : Event) (before me : Me S (PassView S)) (m n : S) → HasTurn view before me → 0 < length before.0.cores
      → me.1 ≡ (0, m) ∷ rest me.1 → LeavesCores (own_core before.0.cores).core (view m) (view n)
      → IsCaused event (own_core before.0.cores).core (view m) (view n) → MayRelease view event (me.0, (0, n) ∷ rest me.1)
  may-release event before me m n h some_core e leaves caused =
      let v : CoreView = own_core before.0.cores in
      let f = had before me m h e in
      let same = same_memory before me m h e in
      let P : Me S (PassView S) → Type 0 = λ x. MayRelease view event (x.0, (0, n) ∷ rest x.1) in
      subst P (sym h.is) record {
        view = pass_view before.0.origin (Some h.memory) before.0.cores (counts_of before.0);
        memory = n;
        taken = h.memory;
        is = refl;
        has = refl;
        some_core = some_core;
        within = subst (λ (k : ℕ). v.core < k) (sym leaves.memory.kept.cores) f.within;
        leaves = subst (λ (z : S). LeavesCores v.core (view z) (view n)) (sym same) leaves;
        caused = subst (λ (z : S). IsCaused event v.core (view z) (view n)) (sym same) caused;
      }

  -- What a seat knows once the lock is let go.
  pub released : (event : Event) (before me w : Me S (PassView S)) (n : S) → HasTurn view before me
      → Releases view event (me.0, (0, n) ∷ rest me.1) w
      → w ≡ (
        pass_view before.0.origin None
            (core_view (view n) (own_core before.0.cores).core ∷ joined_cores before.0.cores) (with_event event (counts_of before.0)),
        [],
      )
  released event before me w n h r =
      let same : r.0 ≡ n = ap (λ (l : List (ℕ × S)). (get_or l 0 (0, n)).1) (sym r.1) in
      let old : Me S (PassView S) = (pass_view before.0.origin (Some h.memory) before.0.cores (counts_of before.0), (0, h.memory) ∷ []) in
      let F : S → PassView S → Me S (PassView S) = λ z v. (
        pass_view v.origin None
            (core_view (view z) (own_core v.cores).core ∷ joined_cores v.cores) (with_event event (counts_of v)),
        [],
      ) in
      r.2 ∙ (ap (λ (z : S). F z me.0) same ∙ ap (λ (x : Me S (PassView S)). F n x.0) h.is)

  -- It has the memory in its first slot.
  pub slot-of : (before me : Me S (PassView S)) → HasTurn view before me → (m : S) × (me.1 ≡ (0, m) ∷ rest me.1)
  slot-of before me h =
      (h.memory, (let P : Me S (PassView S) → Type 0 = λ x. x.1 ≡ (0, h.memory) ∷ rest x.1 in subst P (sym h.is) refl))

-- What a pass's seat knows and holds.
abbrev pub PassMe : {M : Type 0} → Ghosts M → Type 0
PassMe {M} g = Me (Counted M g) (PassView (Counted M g))

module _ {M : Type 0} {g : Ghosts M} (turn : Turn M g) (old : Pass M g) (of : IsOf turn old) where
  -- Of the memory that was taken all is so that the pass had seen.
  pub took : (me : PassMe g) (m : Counted M g) → HasTurn seen old.seat.me me → me.1 ≡ (0, m) ∷ rest me.1
      → CoreFits (seen m) (own old) × Keeps (first_view turn) (seen m).memory
  took me m held here = (had old.seat.me me m held here, had-kept old.seat.me me m turn.lock.table.shared.key.value held here of.origin)

  -- A call that was made on the memory that was taken, by the law, and counted: it may be let go, and the pass has made the call.
  module _ (call : Call) (me : PassMe g) (m n : Counted M g) (held : HasTurn seen old.seat.me me) (here : me.1 ≡ (0, m) ∷ rest me.1)
      (made : IsCounted old.core call m n) (leads : Leads old.core call (seen m).memory (seen n).memory) where
    pub may : MayRelease seen (event_of call) (me.0, (0, n) ∷ rest me.1)
    may =
        let P : ℕ → Type 0 = λ c. LeavesCores c (seen m) (seen n) in
        let Q : ℕ → Type 0 = λ c. IsCaused (event_of call) c (seen m) (seen n) in
        may-release (event_of call) old.seat.me me m n held old.some_core here
        (subst P (sym old.named) (call-leaves old.core (seen m) (seen n) call leads made.numbers))
        (subst Q (sym old.named) (call-caused old.core (seen m) (seen n) call leads made.numbers))

    abbrev pub has_made : (new : Pass M g) → Releases seen (event_of call) (me.0, (0, n) ∷ rest me.1) new.seat.me
        → new.seat.table_id ≡ old.seat.table_id → new.core ≡ old.core → HasMade turn call old new
    has_made new r table core =
        let is = released (event_of call) old.seat.me me new.seat.me n held r in
        let fit = took me m held here in
        let caused = call-caused old.core (seen m) (seen n) call leads made.numbers in
        let shows : own new ≡ core_view (seen n) old.core =
        ap (λ (x : PassMe g). own_core x.0.cores) is ∙ ap (λ (c : ℕ). core_view (seen n) c) old.named in
        let fetch : (own old).fetch.asked ≡ (seen m).numbers.asked (Fetch old.core) =
        fit.0.fetch.asked ∙ ap (λ (c : ℕ). (seen m).numbers.asked (Fetch c)) old.named in
        let access : (own old).access.asked ≡ (seen m).numbers.asked (Access old.core) =
        fit.0.access.asked ∙ ap (λ (c : ℕ). (seen m).numbers.asked (Access c)) old.named in
        let asks : asks_of (own new) ≡ (seen n).numbers.asked (Fetch old.core) + (seen n).numbers.asked (Access old.core) =
        ap (λ (v : CoreView). asks_of v) shows in
        let asked = call-asked old.core (seen m) (seen n) call leads made.numbers in
        let was : (own old).moved ≡ (seen m).numbers.moved old.core =
        fit.0.moved ∙ ap (λ (c : ℕ). (seen m).numbers.moved c) old.named in
        record {
          turn_is = record { table = table ∙ of.table; origin = ap (λ (x : PassMe g). x.0.origin) is ∙ of.origin };
          core = core;
          joined = ap (λ (x : PassMe g). joined_cores x.0.cores) is;
          counts_are = ap (λ (x : PassMe g). counts_of x.0) is;
          asked = omega (arith, fetch, access, asks, asked);
          moved = ap (λ (v : CoreView). v.moved) shows ∙ (caused.moved ∙ (ap (λ (k : ℕ). k + moves_in (event_of call)) (sym was)
              ∙ ap (λ (k : ℕ). (own old).moved + k) (event-moves call)));
          taken = m;
          left = n;
          kept = fit.1;
          fits = fit.0;
          made = made;
          caused = caused;
          shows = shows;
        }
