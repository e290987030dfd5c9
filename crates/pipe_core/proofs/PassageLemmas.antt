-- A clock is a passage.
use Rattle.std.proofs.Common.{◌≡◌, ℕ, ◌⊎◌, inl, inr, refl, ap, sym, ◌∙◌}
use Rattle.std.specs.Prelude.{Option, Some, None}
use Rattle.mips_isa.specs.declared.Instr.{Instr}
use Rattle.pipe_regs.specs.declared.Slot.{Slot}
use Rattle.pipe_core.specs.declared.flight.Flight.{Flight}
use Rattle.pipe_core.specs.declared.flight.Operands.{Operands}
use Rattle.pipe_core.specs.declared.flight.Times.{Times}
use Rattle.pipe_core.specs.Clock.{clocked, flight_after}
use Rattle.pipe_core.specs.Moves.{retired, advanced, issued, begun_in, entered}
use Rattle.pipe_core.specs.Passage.{Same, LeftEx, LeftId, Began, LeftIf, IsPassage}
use Rattle.pipe_core.specs.Steps.{commits, retires, advances, issues, begins, enters, stepped}
use Rattle.pipe_core.specs.Wants.{access_in, goes_by}
use Rattle.pipe_core.proofs.ClockTimeLemmas.{commits-same}
use Rattle.mips_isa.specs.declared.Stop.{Stop}
use Rattle.image_file.specs.Value.{ImageValue}

abbrev pub SameMem : Flight → Flight → Type 0
SameMem f g = Same f.stages.mem g.stages.mem f.mem_times g.mem_times

abbrev pub SameEx : Flight → Flight → Type 0
SameEx f g = Same f.stages.ex g.stages.ex f.ex_times g.ex_times

abbrev pub SameId : Flight → Flight → Type 0
SameId f g = Same f.stages.id g.stages.id f.id_times g.id_times

abbrev pub SameFetch : Flight → Flight → Type 0
SameFetch f g = Same f.fetch g.fetch f.fetch_times g.fetch_times

same : (x : Option Slot) (s : Times) → Same x x s s
same x s = record { slot = refl; clocks = refl }

more : (x y z : Option Slot) (s t u : Times) → Same x y s t → Same y z t u → Same x z s u
more x y z s t u a b = record { slot = b.slot ∙ a.slot; clocks = b.clocks ∙ a.clocks }

-- WB and M
pub record ByRetire (f g : Flight) : Type 0 where
  pub mem : SameMem f g ⊎ (g.stages.mem ≡ None)
  pub ex : SameEx f g
  pub id : SameId f g
  pub fetch : SameFetch f g

by-retire : (f : Flight) (mem : Option Slot) (old : ℕ) → ByRetire f (retired old f mem)
by-retire f None old = record { mem = inl (same _ _); ex = same _ _; id = same _ _; fetch = same _ _ }
by-retire f (Some m) old = record { mem = inr refl; ex = same _ _; id = same _ _; fetch = same _ _ }

by-retires : (f : Flight) (goes : Option ℕ) → ByRetire f (retires goes f)
unfolding retires
by-retires f None = record { mem = inl (same _ _); ex = same _ _; id = same _ _; fetch = same _ _ }
by-retires f (Some old) = by-retire f f.stages.mem old

pub first-two : (f : Flight) (goes : Option ℕ) → ByRetire f (retires goes (commits f))
first-two f goes =
    let c = commits-same f in
    let r = by-retires (commits f) goes in
    record {
      mem = either r.mem;
      ex = more _ _ _ _ _ _ (record { slot = c.ex; clocks = c.tx }) r.ex;
      id = more _ _ _ _ _ _ (record { slot = c.id; clocks = c.ti }) r.id;
      fetch = more _ _ _ _ _ _ (record { slot = c.fetch; clocks = c.tf }) r.fetch;
    } where
      either : SameMem (commits f) (retires goes (commits f)) ⊎ ((retires goes (commits f)).stages.mem ≡ None)
          → SameMem f (retires goes (commits f)) ⊎ ((retires goes (commits f)).stages.mem ≡ None)
      either (inl k) = inl (more _ _ _ _ _ _ (record { slot = (commits-same f).mem; clocks = (commits-same f).tm }) k)
      either (inr k) = inr k

-- EX
pub record ByAdvance (t : ℕ) (f g : Flight) : Type 0 where
  pub mem : SameMem f g ⊎ LeftEx t f g
  pub ex : SameEx f g ⊎ (g.stages.ex ≡ None)
  pub id : SameId f g
  pub fetch : SameFetch f g

by-advance : (t : ℕ) (f : Flight) (mem ex : Option Slot) → f.stages.ex ≡ ex → ByAdvance t f (advanced t f mem ex)
by-advance t f (Some m) ex e = record { mem = inl (same _ _); ex = inl (same _ _); id = same _ _; fetch = same _ _ }
by-advance t f None None e = record { mem = inl (same _ _); ex = inl (same _ _); id = same _ _; fetch = same _ _ }
by-advance t f None (Some x) e = record
    { mem = inr (record { slot = sym e; clocks = refl }); ex = inr refl; id = same _ _; fetch = same _ _ }

pub by-advances : (t : ℕ) (f : Flight) → ByAdvance t f (advances t f)
unfolding advances
by-advances t f = by-advance t f f.stages.mem f.stages.ex refl

-- ID
pub record ByIssue (t : ℕ) (f g : Flight) : Type 0 where
  pub mem : SameMem f g
  pub ex : SameEx f g ⊎ LeftId t f g
  pub id : SameId f g ⊎ (g.stages.id ≡ None)
  pub fetch : SameFetch f g

by-issue : (t : ℕ) (o : Option Operands) (f : Flight) (ex id : Option Slot) → f.stages.id ≡ id → ByIssue t f (issued t o f ex id)
by-issue t o f (Some x) id e = record { mem = same _ _; ex = inl (same _ _); id = inl (same _ _); fetch = same _ _ }
by-issue t o f None None e = record { mem = same _ _; ex = inl (same _ _); id = inl (same _ _); fetch = same _ _ }
by-issue t None f None (Some x) e = record { mem = same _ _; ex = inl (same _ _); id = inl (same _ _); fetch = same _ _ }
by-issue t (Some o) f None (Some x) e =
    record {
      mem = same _ _;
      ex = inr (record { held = x; read = o; was = e; slot = refl; clocks = refl });
      id = inr refl;
      fetch = same _
          _;
    }

pub by-issues : (t : ℕ) (o : Option Operands) (f : Flight) → ByIssue t f (issues t o f)
unfolding issues
by-issues t o f = by-issue t o f f.stages.ex f.stages.id refl

-- IF
pub record ByBegin (t : ℕ) (f g : Flight) : Type 0 where
  pub mem : SameMem f g
  pub ex : SameEx f g
  pub id : SameId f g
  pub fetch : SameFetch f g ⊎ Began t f g.fetch_times

by-begin : (t : ℕ) (word : Option (Option Instr)) (f : Flight) (fetch : Option Slot) → f.fetch ≡ fetch
    → ByBegin t f (begun_in t word f fetch)
by-begin t word f (Some y) e = record { mem = same _ _; ex = same _ _; id = same _ _; fetch = inl (same _ _) }
by-begin t None f None e = record { mem = same _ _; ex = same _ _; id = same _ _; fetch = inl (same _ _) }
by-begin t (Some i) f None e = record { mem = same _ _; ex = same _ _; id = same _ _; fetch = inr (record { empty = e; clock_is = refl }) }

pub by-begins : (t : ℕ) (word : Option (Option Instr)) (f : Flight) → ByBegin t f (begins t word f)
unfolding begins
by-begins t word f = by-begin t word f f.fetch refl

pub record Entered (t : ℕ) (f g : Flight) : Type 0 where
  pub held : Slot
  pub was : f.fetch ≡ Some held
  pub slot : (pc : ℕ) × (g.stages.id ≡ Some (record held { pc = pc }))
  pub clocks : g.id_times ≡ record f.fetch_times { f = t }

pub record ByEnter (t : ℕ) (f g : Flight) : Type 0 where
  pub mem : SameMem f g
  pub ex : SameEx f g
  pub id : SameId f g ⊎ Entered t f g
  pub fetch : SameFetch f g ⊎ (g.fetch ≡ None)

by-enter : (t : ℕ) (f : Flight) (id fetch : Option Slot) → f.fetch ≡ fetch → ByEnter t f (entered t f id fetch)
by-enter t f (Some x) fetch e = record { mem = same _ _; ex = same _ _; id = inl (same _ _); fetch = inl (same _ _) }
by-enter t f None None e = record { mem = same _ _; ex = same _ _; id = inl (same _ _); fetch = inl (same _ _) }
by-enter t f None (Some y) e =
    record {
      mem = same _ _;
      ex = same _ _;
      id = inr (record { held = y; was = e; slot = (f.front_pc, refl); clocks = refl });
      fetch = inr
          refl;
    }

pub by-enters : (t : ℕ) (f : Flight) → ByEnter t f (enters t f)
unfolding enters
by-enters t f = by-enter t f f.stages.id f.fetch refl

compose : (t : ℕ) (f f2 f3 f4 f5 g : Flight) → ByRetire f f2 → ByAdvance t f2 f3 → ByIssue t f3 f4 → ByBegin t f4 f5 → ByEnter t f5 g
    → IsPassage t f g
compose t f f2 f3 f4 f5 g a b c d e = record {
  to_mem = mem-case a.mem b.mem;
  to_ex = ex-case b.ex c.ex;
  to_id = id-case c.id e.id;
  to_fetch = fetch-case d.fetch e.fetch;
} where
  late_mem : SameMem f3 g
  late_mem = more _ _ _ _ _ _ c.mem (more _ _ _ _ _ _ d.mem e.mem)

  mem-case : SameMem f f2 ⊎ (f2.stages.mem ≡ None) → SameMem f2 f3 ⊎ LeftEx t f2 f3 → SameMem f g ⊎ ((g.stages.mem ≡ None) ⊎ LeftEx t f g)
  mem-case (inl k) (inl l) = inl (more _ _ _ _ _ _ k (more _ _ _ _ _ _ l late_mem))
  mem-case (inr k) (inl l) = inr (inl (late_mem.slot ∙ (l.slot ∙ k)))
  mem-case k (inr l) = inr (inr (record {
    slot = late_mem.slot ∙ (l.slot ∙ a.ex.slot);
    clocks = late_mem.clocks ∙ (l.clocks ∙ ap (λ (s : Times). (let r : Times = record s { e = t } in r)) a.ex.clocks);
  }))

  late_ex : SameEx f4 g
  late_ex = more _ _ _ _ _ _ d.ex e.ex

  early_id : SameId f f3
  early_id = more _ _ _ _ _ _ a.id b.id

  ex-case : SameEx f2 f3 ⊎ (f3.stages.ex ≡ None) → SameEx f3 f4 ⊎ LeftId t f3 f4 → SameEx f g ⊎ ((g.stages.ex ≡ None) ⊎ LeftId t f g)
  ex-case (inl k) (inl l) = inl (more _ _ _ _ _ _ a.ex (more _ _ _ _ _ _ k (more _ _ _ _ _ _ l late_ex)))
  ex-case (inr k) (inl l) = inr (inl (late_ex.slot ∙ (l.slot ∙ k)))
  ex-case k (inr l) = inr (inr (record {
    held = l.held;
    read = l.read;
    was = sym early_id.slot ∙ l.was;
    slot = late_ex.slot ∙ l.slot;
    clocks = late_ex.clocks ∙ (l.clocks ∙ ap (λ (s : Times). (let r : Times = record s { d = t } in r)) early_id.clocks);
  }))

  early_fetch : SameFetch f f4
  early_fetch = more _ _ _ _ _ _ a.fetch (more _ _ _ _ _ _ b.fetch c.fetch)

  came : (y : Slot) → f5.fetch ≡ Some y → SameFetch f4 f5 ⊎ Began t f4 f5.fetch_times
      → ((f.fetch ≡ Some y) × (f5.fetch_times ≡ f.fetch_times)) ⊎ Began t f f5.fetch_times
  came y k (inl l) = inl (sym early_fetch.slot ∙ (sym l.slot ∙ k), l.clocks ∙ early_fetch.clocks)
  came y k (inr l) = inr (record { empty = sym early_fetch.slot ∙ l.empty; clock_is = l.clock_is })

  id-case : SameId f3 f4 ⊎ (f4.stages.id ≡ None) → SameId f5 g ⊎ Entered t f5 g → SameId f g ⊎ ((g.stages.id ≡ None) ⊎ LeftIf t f g)
  id-case (inl k) (inl l) = inl (more _ _ _ _ _ _ early_id (more _ _ _ _ _ _ k (more _ _ _ _ _ _ d.id l)))
  id-case (inr k) (inl l) = inr (inl (l.slot ∙ (d.id.slot ∙ k)))
  id-case k (inr l) = inr
      (inr (record { held = l.held; times = f5.fetch_times; was = came l.held l.was d.fetch; slot = l.slot; clocks = l.clocks }))

  fetch-case : SameFetch f4 f5 ⊎ Began t f4 f5.fetch_times → SameFetch f5 g ⊎ (g.fetch ≡ None)
      → SameFetch f g ⊎ ((g.fetch ≡ None) ⊎ Began t f g.fetch_times)
  fetch-case k (inr l) = inr (inl l)
  fetch-case (inl k) (inl l) = inl (more _ _ _ _ _ _ early_fetch (more _ _ _ _ _ _ k l))
  fetch-case (inr k) (inl l) = inr
      (inr (record { empty = sym early_fetch.slot ∙ k.empty; clock_is = ap (λ (s : Times). s.i) l.clocks ∙ k.clock_is }))

pub stepped-passage : (goes : Option ℕ) (ops : Option Operands) (word : Option (Option Instr)) (t : ℕ) (f : Flight)
    → IsPassage t f (stepped goes ops word t f)
unfolding stepped
stepped-passage goes ops word t f =
    let f2 = retires goes (commits f) in
    compose t f (retires goes (commits f)) (advances t (retires goes (commits f))) (issues t ops (advances t (retires goes (commits f))))
    (begins t word (issues t ops (advances t (retires goes (commits f)))))
    (enters t (begins t word (issues t ops (advances t (retires goes (commits f))))))
    (first-two f goes) (by-advances t (retires goes (commits f))) (by-issues t ops (advances t (retires goes (commits f))))
    (by-begins t word (issues t ops (advances t (retires goes (commits f)))))
    (by-enters t (begins t word (issues t ops (advances t (retires goes (commits f))))))

-- M after a clock: it is empty, or its instruction came in this clock, or has stayed
pub record MemStays (f g : Flight) (goes : Option ℕ) : Type 0 where
  pub none : goes ≡ None
  pub slot : g.stages.mem ≡ f.stages.mem
  pub clocks : g.mem_times ≡ f.mem_times

abbrev pub MemAfter : Flight → Flight → Option ℕ → ℕ → Type 0
MemAfter f g goes t = (g.stages.mem ≡ None) ⊎ ((g.mem_times.e ≡ t) ⊎ MemStays f g goes)

gone : (f : Flight) (mem : Option Slot) (old : ℕ) → f.stages.mem ≡ mem → (retired old f mem).stages.mem ≡ None
gone f None old e = e
gone f (Some m) old e = refl

mem-out : (f g : Flight) (goes : Option ℕ) (t : ℕ) (f2 f3 : Flight) → f2.stages.mem ≡ None → SameMem f2 f3 ⊎ LeftEx t f2 f3 → SameMem f3 g
    → MemAfter f g goes t
mem-out f g goes t f2 f3 e (inl k) l = inl (l.slot ∙ (k.slot ∙ e))
mem-out f g goes t f2 f3 e (inr k) l = inr (inl (ap (λ (s : Times). s.e) (l.clocks ∙ k.clocks)))

mem-kept : (f g : Flight) (goes : Option ℕ) (t : ℕ) (f2 f3 : Flight) → goes ≡ None → SameMem f f2 → SameMem f2 f3 ⊎ LeftEx t f2 f3
    → SameMem f3 g → MemAfter f g goes t
mem-kept f g goes t f2 f3 e s (inl k) l =
    (let all = more _ _ _ _ _ _ s (more _ _ _ _ _ _ k l) in inr (inr (record { none = e; slot = all.slot; clocks = all.clocks })))
mem-kept f g goes t f2 f3 e s (inr k) l = inr (inl (ap (λ (x : Times). x.e) (l.clocks ∙ k.clocks)))

mem-by : (f f2 f3 g : Flight) (goes : Option ℕ) (t : ℕ) → f2 ≡ retires goes (commits f) → SameMem f2 f3 ⊎ LeftEx t f2 f3 → SameMem f3 g
    → MemAfter f g goes t
unfolding retires
mem-by f f2 f3 g None t e k l =
    let c = commits-same f in
    mem-kept f g None t f2 f3 refl
    (record { slot = ap (λ (x : Flight). x.stages.mem) e ∙ c.mem; clocks = ap (λ (x : Flight). x.mem_times) e ∙ c.tm }) k l
mem-by f f2 f3 g (Some old) t e k l =
    mem-out f g (Some old) t f2 f3 (ap (λ (x : Flight). x.stages.mem) e ∙ gone (commits f) (commits f).stages.mem old refl) k l

pub stepped-mem : (goes : Option ℕ) (ops : Option Operands) (word : Option (Option Instr)) (t : ℕ) (f : Flight)
    → MemAfter f (stepped goes ops word t f) goes t
unfolding stepped
stepped-mem goes ops word t f =
    let f2 = retires goes (commits f) in
    let a = by-advances t (retires goes (commits f)) in
    let i = by-issues t ops (advances t (retires goes (commits f))) in
    let b = by-begins t word (issues t ops (advances t (retires goes (commits f)))) in
    let e = by-enters t (begins t word (issues t ops (advances t (retires goes (commits f))))) in
    mem-by f f2 (advances t (retires goes (commits f))) _ goes t refl a.mem (more _ _ _ _ _ _ i.mem (more _ _ _ _ _ _ b.mem e.mem))

pub clocked-mem : (p : ImageValue) (fetched reply : Option ℕ) (t : ℕ) (f : Flight)
    → MemAfter f (clocked p fetched reply t f) (goes_by f.stages.mem (access_in p f.executed f.stages.mem) reply) t
unfolding clocked
clocked-mem p fetched reply t f = stepped-mem _ _ _ t f

pub same-passage : (t : ℕ) (f : Flight) → IsPassage t f f
same-passage t f = record { to_mem = inl (same _ _); to_ex = inl (same _ _); to_id = inl (same _ _); to_fetch = inl (same _ _) }

pub after-passage : (o : Option Stop) (p : ImageValue) (fetched reply : Option ℕ) (t : ℕ) (f : Flight)
    → IsPassage t f (flight_after o p fetched reply t f)
unfolding clocked
after-passage (Some why) p fetched reply t f = same-passage t f
after-passage None p fetched reply t f = stepped-passage _ _ _ t f
