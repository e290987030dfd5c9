-- A clock uses what it gets: where no want stays unmet, the oldest instruction leaves a stage.
use Rattle.std.proofs.Common.{◌≡◌, ℕ, ◌+◌, ◌*◌, ◌≤◌, ◌⊎◌, inl, inr, Bool, true, false, refl, ap, sym, ◌∙◌, arith, subst, List}
use Rattle.std.proofs.Common.{length, IsSome}
use Rattle.std.specs.Prelude.{Option, Some, None, is_some, ◌||◌}
use Rattle.std.proofs.lemmas.List.{length-append, length-map}
use Rattle.mips_isa.specs.declared.Instr.{Instr}
use Rattle.mips_isa.specs.Effects.{is_off_code}
use Rattle.mips_isa.specs.Fields.{instr_of}
use Rattle.mips_isa.specs.Kinds.{loaded}
use Rattle.image_file.specs.Value.{ImageValue, IsGood}
use Rattle.access_log.specs.declared.request.Request.{Request}
use Rattle.access_log.specs.declared.Entry.{Entry}
use Rattle.access_log.specs.Stamps.{Stamp, stamped}
use Rattle.mem_port.specs.Engine.{FetchFits, ReplyFits}
use Rattle.mem_port.specs.ServiceHistory.{Service, one_if, is_unmet, executed_by, after_clock}
use Rattle.pipe_regs.specs.declared.Slot.{Slot}
use Rattle.timetable.specs.Tables.{Timed}
use Rattle.pipe_core.specs.declared.flight.Flight.{Flight}
use Rattle.pipe_core.specs.declared.flight.Operands.{Operands}
use Rattle.pipe_core.specs.Chain.{state_of, IsChained}
use Rattle.pipe_core.specs.Clock.{read_by, clocked}
use Rattle.pipe_core.specs.Moves.{retired, advanced, issued, begun_in, entered, with_operands}
use Rattle.pipe_core.specs.PipeHistory.{stages_left, under_way, UsesClocks}
use Rattle.pipe_core.specs.PipeView.{view_of}
use Rattle.pipe_core.specs.Punctual.{IsPunctual}
use Rattle.pipe_core.specs.Steps.{commits, retires, advances, issues, begins, enters, stepped, IsFit}
use Rattle.pipe_core.specs.Wants.{access_in, goes_by, fetch_in, place_of}
use Rattle.pipe_core.proofs.ChainStepLemmas.{mem-stays}
use Rattle.pipe_core.proofs.ClockLemmas.{stays, goes-on, goes-is}
use Rattle.pipe_core.proofs.ClockTimeLemmas.{commits-same, none-same, begins_with}
use Rattle.pipe_core.proofs.PassageLemmas.{first-two, by-advances, by-issues, by-begins, by-enters, SameEx, SameId}
use Rattle.pipe_core.proofs.WaitLemmas.{operands-there}
use Rattle.pipe_core.proofs.WantLemmas.{fetch-empty, fetch-on, word-on}

-- ---- the instructions that have begun: each move but a begin leaves their number

abbrev pub begun : Flight → ℕ
begun f = f.executed + under_way f

commit-begun : (f : Flight) → begun (commits f) ≡ begun f
commit-begun f = (let same = commits-same f in rw (same.executed, same.mem, same.ex, same.id, same.fetch) refl)

retired-begun : (f : Flight) (mem : Option Slot) (word : ℕ) → f.stages.mem ≡ mem → begun (retired word f mem) ≡ begun f
retired-begun f None word e = refl
retired-begun f (Some m) word e = rw e (omega arith)

retire-begun : (f : Flight) (goes : Option ℕ) → begun (retires goes f) ≡ begun f
unfolding retires
retire-begun f None = refl
retire-begun f (Some word) = retired-begun f f.stages.mem word refl

advanced-begun : (t : ℕ) (f : Flight) (mem ex : Option Slot) → f.stages.mem ≡ mem → f.stages.ex ≡ ex → begun (advanced t f mem ex) ≡ begun f
advanced-begun t f (Some m) ex e g = refl
advanced-begun t f None None e g = refl
advanced-begun t f None (Some x) e g = rw (e, g) (omega arith)

advance-begun : (t : ℕ) (f : Flight) → begun (advances t f) ≡ begun f
unfolding advances
advance-begun t f = advanced-begun t f f.stages.mem f.stages.ex refl refl

issued-begun : (t : ℕ) (o : Option Operands) (f : Flight) (ex id : Option Slot) → f.stages.ex ≡ ex → f.stages.id ≡ id
    → begun (issued t o f ex id) ≡ begun f
issued-begun t o f (Some x) id e g = refl
issued-begun t o f None None e g = refl
issued-begun t None f None (Some x) e g = refl
issued-begun t (Some o) f None (Some x) e g = rw (e, g) (omega arith)

issue-begun : (t : ℕ) (o : Option Operands) (f : Flight) → begun (issues t o f) ≡ begun f
unfolding issues
issue-begun t o f = issued-begun t o f f.stages.ex f.stages.id refl refl

entered-begun : (t : ℕ) (f : Flight) (id fetch : Option Slot) → f.stages.id ≡ id → f.fetch ≡ fetch → begun (entered t f id fetch) ≡ begun f
entered-begun t f (Some x) fetch e g = refl
entered-begun t f None None e g = refl
entered-begun t f None (Some x) e g = rw (e, g) (omega arith)

enter-begun : (t : ℕ) (f : Flight) → begun (enters t f) ≡ begun f
unfolding enters
enter-begun t f = entered-begun t f f.stages.id f.fetch refl refl

begun_in-begun : (t : ℕ) (word : Option (Option Instr)) (f : Flight) (fetch : Option Slot) → f.fetch ≡ fetch
    → begun f ≤ begun (begun_in t word f fetch)
begun_in-begun t word f (Some y) e = omega arith
begun_in-begun t None f None e = omega arith
begun_in-begun t (Some i) f None e = rw e (omega arith)

begin-begun : (t : ℕ) (word : Option (Option Instr)) (f : Flight) → begun f ≤ begun (begins t word f)
unfolding begins
begin-begun t word f = begun_in-begun t word f f.fetch refl

-- A word that comes begins an instruction.
word-begun : (t : ℕ) (word : Option (Option Instr)) (i : Option Instr) (f : Flight) → f.fetch ≡ None → word ≡ Some i
    → begun (begins t word f) ≡ begun f + 1
unfolding begins
word-begun t word i f none is = rw (is, none) (omega arith)

-- ---- the stages of a clock, where the older ones are empty

module _ (goes : Option ℕ) (ops : Option Operands) (word : Option (Option Instr)) (t : ℕ) (f : Flight) where
  abbrev older : Flight
  older = advances t (retires goes (commits f))

  abbrev younger : Flight
  younger = issues t ops (advances t (retires goes (commits f)))

  abbrev begins_then : Flight
  begins_then = begins t word (issues t ops (advances t (retires goes (commits f))))

  -- An instruction in EX comes to M, where M was empty.
  to-mem : (x : Slot) → f.stages.mem ≡ None → f.stages.ex ≡ Some x → (stepped goes ops word t f).stages.mem ≡ Some x
  unfolding stepped advances
  to-mem x e g =
      let same = commits-same f in
      let rest = none-same goes (commits f) (inr (same.mem ∙ e)) in
      let moved : (advances t (commits f)).stages.mem ≡ Some x = rw (same.mem ∙ e, same.ex ∙ g) refl in
      let here : (advances t (retires goes (commits f))).stages.mem ≡ Some x = ap (λ (h : Flight). (advances t h).stages.mem) rest
      ∙ moved in
      (by-enters t begins_then).mem.slot ∙ ((by-begins t word younger).mem.slot ∙ ((by-issues t ops older).mem.slot ∙ here))

  -- EX is empty behind M, where it was.
  ex-none : f.stages.ex ≡ None → (advances t (retires goes (commits f))).stages.ex ≡ None
  ex-none e = by-case (by-advances t (retires goes (commits f))).ex where
    before : (retires goes (commits f)).stages.ex ≡ None
    before = (first-two f goes).ex.slot ∙ e

    by-case : SameEx (retires goes (commits f)) (advances t (retires goes (commits f)))
        ⊎ ((advances t (retires goes (commits f))).stages.ex ≡ None)
        → (advances t (retires goes (commits f))).stages.ex ≡ None
    by-case (inl same) = same.slot ∙ before
    by-case (inr none) = none

  id-older : (advances t (retires goes (commits f))).stages.id ≡ f.stages.id
  id-older = (by-advances t (retires goes (commits f))).id.slot ∙ (first-two f goes).id.slot

  -- An instruction in ID comes to EX, where EX was empty and its operands are there.
  to-ex : (x : Slot) (read : Operands) → f.stages.ex ≡ None → f.stages.id ≡ Some x → ops ≡ Some read
      → (stepped goes ops word t f).stages.ex ≡ Some (with_operands x read)
  unfolding stepped issues
  to-ex x read e g is =
      let here : (issues t ops (advances t (retires goes (commits f)))).stages.ex ≡ Some (with_operands x read) =
      rw (ex-none e, id-older ∙ g, is) refl in
      (by-enters t begins_then).ex.slot ∙ ((by-begins t word younger).ex.slot ∙ here)

  id-none : f.stages.id ≡ None → (begins t word (issues t ops (advances t (retires goes (commits f))))).stages.id ≡ None
  id-none e = (by-begins t word younger).id.slot ∙ by-case (by-issues t ops older).id where
    by-case : SameId (advances t (retires goes (commits f))) (issues t ops (advances t (retires goes (commits f))))
        ⊎ ((issues t ops (advances t (retires goes (commits f)))).stages.id ≡ None)
        → (issues t ops (advances t (retires goes (commits f)))).stages.id ≡ None
    by-case (inl same) = same.slot ∙ (id-older ∙ e)
    by-case (inr none) = none

  fetch-younger : (issues t ops (advances t (retires goes (commits f)))).fetch ≡ f.fetch
  fetch-younger = (by-issues t ops older).fetch.slot
      ∙ ((by-advances t (retires goes (commits f))).fetch.slot ∙ (first-two f goes).fetch.slot)

  -- What begins comes to ID in the same clock, where ID was empty.
  to-id : (i : Option Instr) → f.stages.id ≡ None → f.fetch ≡ None → word ≡ Some i → IsSome (stepped goes ops word t f).stages.id
  unfolding stepped begins enters
  to-id i e g is =
      let none = id-none e in
      let there : IsSome (begins t word (issues t ops (advances t (retires goes (commits f))))).fetch = rw (is, fetch-younger ∙ g) refl in
      by-case begins_then.fetch there none where
        by-case : (fetch : Option Slot) → IsSome fetch → begins_then.stages.id ≡ None
            → IsSome (entered t begins_then begins_then.stages.id fetch).stages.id
        by-case None some none = cc
        by-case (Some y) some none = rw none refl

  stepped-begun : (begun f ≤ begun (stepped goes ops word t f))
      × ((i : Option Instr) → f.fetch ≡ None → word ≡ Some i → begun (stepped goes ops word t f) ≡ begun f + 1)
  unfolding stepped
  stepped-begun =
      let before : begun (issues t ops (advances t (retires goes (commits f)))) ≡ begun f =
      issue-begun t ops older ∙ (advance-begun t (retires goes (commits f)) ∙ (retire-begun (commits f) goes ∙ commit-begun f)) in
      let after = enter-begun t begins_then in
      let begin = begin-begun t word younger in (
        omega (arith, before, after, begin),
        λ i none is. (let word = word-begun t word i younger (fetch-younger ∙ none) is in omega (arith, before, after, word)),
      )

-- ---- a clock

or-true : (b : Bool) → one_if (b || true) ≡ 1
or-true true = refl
or-true false = refl

three-left : (m : Slot) (mem ex id : Option Slot) → mem ≡ Some m → stages_left mem ex id ≡ 3
three-left m mem ex id e = rw e refl

two-left : (x : Slot) (mem ex id : Option Slot) → ex ≡ Some x → 2 ≤ stages_left mem ex id
two-left x (Some m) ex id e = omega arith
two-left x None None id e = cc
two-left x None (Some y) id e = omega arith

one-left : (mem ex id : Option Slot) → IsSome id → 1 ≤ stages_left mem ex id
one-left (Some m) ex id some = omega arith
one-left None (Some x) id some = omega arith
one-left None None None some = cc
one-left None None (Some x) some = omega arith

fits-wanted : (p : ImageValue) (want : Option ℕ) (w : ℕ) → FetchFits p want (Some w) → IsSome want
fits-wanted p None w fits = absurd fits
fits-wanted p (Some place) w fits = refl

module _ (p : ImageValue) (c n : ℕ) (f : Flight) (good : IsGood p) (h : IsChained p.code (state_of f) f) (fit : IsFit f)
    (fetched reply : Option ℕ) (fetch_fits : FetchFits p (fetch_in p f) fetched)
    (reply_fits : ReplyFits (access_in p f.executed f.stages.mem) reply)
    (t : ℕ) where
  after : Flight
  after = clocked p fetched reply t f

  goes-at : (m : Slot) (access : Option Request) (came : Option ℕ) → f.stages.mem ≡ Some m → access_in p f.executed (Some m) ≡ access
      → reply ≡ came
      → goes_by f.stages.mem (access_in p f.executed f.stages.mem) reply ≡ goes_by (Some m) access came
  goes-at m access came e g r =
      goes-is p c n f good h fit fetched reply fetch_fits reply_fits t m access e g ∙ ap (λ o. goes_by (Some m) access o) r

  -- M: its instruction is executed, or its access stays unmet.
  moves-mem : (m : Slot) (access : Option Request) (came : Option ℕ) (other : Bool) → f.stages.mem ≡ Some m
      → access_in p f.executed (Some m) ≡ access → reply ≡ came
      → 4 * f.executed + 4 ≤ 4 * (clocked p fetched reply t f).executed
      + stages_left (clocked p fetched reply t f).stages.mem (clocked p fetched reply t f).stages.ex (clocked p fetched reply t f).stages.id
      + one_if (other || is_unmet access came)
  unfolding clocked
  moves-mem m None came other e g r =
      let k = goes-on p c n f good h fit fetched reply fetch_fits reply_fits t m 0 e (goes-at m None came e g r) in
      let one = k.1 in omega (arith, one)
  moves-mem m (Some q) None other e g r =
      let none = goes-at m (Some q) None e g r in
      let k = stays p c n f good h fit fetched reply fetch_fits reply_fits t (inl none) in
      let same = k.executed in
      let stays_there = mem-stays p.code _ _ _ t f m e none in
      let left = three-left m (clocked p fetched reply t f).stages.mem (clocked p fetched reply t f).stages.ex
      (clocked p fetched reply t f).stages.id stays_there in
      let unmet = or-true other in
      omega (arith, same, left, unmet)
  moves-mem m (Some q) (Some w) other e g r =
      let k = goes-on p c n f good h fit fetched reply fetch_fits reply_fits t m (loaded q.kind w) e (goes-at m (Some q) (Some w) e g r) in
      let one = k.1 in omega (arith, one)

  mem-comes : (x : Slot) → f.stages.mem ≡ None → f.stages.ex ≡ Some x → (clocked p fetched reply t f).stages.mem ≡ Some x
  unfolding clocked
  mem-comes x e g = to-mem _ _ _ t f x e g

  ex-comes : (x : Slot) (read : Operands) → f.stages.ex ≡ None → f.stages.id ≡ Some x → read_by f.stages.id f.stages ≡ Some read
      → (clocked p fetched reply t f).stages.ex ≡ Some (with_operands x read)
  unfolding clocked
  ex-comes x read g q are = to-ex _ _ _ t f x read g q are

  id-comes : (i : Option Instr) → f.stages.id ≡ None → f.fetch ≡ None → begins_with p f fetched ≡ Some i
      → IsSome (clocked p fetched reply t f).stages.id
  unfolding clocked
  id-comes i g none is = to-id _ _ _ t f i g none is

  -- EX: its instruction goes on to M, where M is empty.
  moves-ex : (x : Slot) → f.stages.mem ≡ None → f.stages.ex ≡ Some x
      → 4 * f.executed + 3 ≤ 4 * (clocked p fetched reply t f).executed
      + stages_left (clocked p fetched reply t f).stages.mem (clocked p fetched reply t f).stages.ex (clocked p fetched reply t f).stages.id
  moves-ex x e g =
      let k = stays p c n f good h fit fetched reply fetch_fits reply_fits t (inr e) in
      let same = k.executed in
      let left = three-left x (clocked p fetched reply t f).stages.mem (clocked p fetched reply t f).stages.ex
      (clocked p fetched reply t f).stages.id (mem-comes x e g) in
      omega (arith, same, left)

  -- ID: its instruction goes on to EX, where nothing older is under way.
  moves-id : (x : Slot) → f.stages.mem ≡ None → f.stages.ex ≡ None → f.stages.id ≡ Some x
      → 4 * f.executed + 2 ≤ 4 * (clocked p fetched reply t f).executed
      + stages_left (clocked p fetched reply t f).stages.mem (clocked p fetched reply t f).stages.ex (clocked p fetched reply t f).stages.id
  moves-id x e g q =
      let k = stays p c n f good h fit fetched reply fetch_fits reply_fits t (inr e) in
      let same = k.executed in
      let read = operands-there f.stages x.instr g e in
      let are : read_by f.stages.id f.stages ≡ Some read.0 = ap (λ o. read_by o f.stages) q ∙ read.1 in
      let left = two-left (with_operands x read.0) (clocked p fetched reply t f).stages.mem (clocked p fetched reply t f).stages.ex
      (clocked p fetched reply t f).stages.id (ex-comes x read.0 g q are) in
      omega (arith, same, left)

  -- IF: an instruction begins and comes to ID, or its word stays unmet.
  moves-none : (other : Bool) → f.stages.mem ≡ None → f.stages.id ≡ None → f.fetch ≡ None
      → 4 * f.executed + 1 ≤ 4 * (clocked p fetched reply t f).executed
      + stages_left (clocked p fetched reply t f).stages.mem (clocked p fetched reply t f).stages.ex (clocked p fetched reply t f).stages.id
      + one_if (is_unmet (fetch_in p f) fetched || other)
  moves-none other e g none =
      let k = stays p c n f good h fit fetched reply fetch_fits reply_fits t (inr e) in
      let same = k.executed in
      by-word (begins_with p f fetched) refl same where
        by-word : (word : Option (Option Instr)) → begins_with p f fetched ≡ word → (clocked p fetched reply t f).executed ≡ f.executed
            → 4 * f.executed + 1 ≤ 4 * (clocked p fetched reply t f).executed
            + stages_left (clocked p fetched reply t f).stages.mem (clocked p fetched reply t f).stages.ex
            (clocked p fetched reply t f).stages.id
            + one_if (is_unmet (fetch_in p f) fetched || other)
        by-word (Some i) is same =
            let left = one-left (clocked p fetched reply t f).stages.mem (clocked p fetched reply t f).stages.ex
            (clocked p fetched reply t f).stages.id (id-comes i g none is) in
            omega (arith, same, left)
        by-word None is same =
            let on = word-on (is_off_code (4 * length p.code) (place_of f)) fetched is in
            let unmet : one_if (is_unmet (fetch_in p f) fetched || other) ≡ 1 = rw (on.1, none, on.0) refl in
            omega (arith, same, unmet)

  -- Where no want stays unmet, the oldest instruction leaves a stage.
  moves : (past : List Timed) (now : ℕ) (mem ex id : Option Slot) → IsPunctual p now past f → f.stages.mem ≡ mem → f.stages.ex ≡ ex
      → f.stages.id ≡ id
      → 4 * f.executed + stages_left mem ex id + 1 ≤ 4 * (clocked p fetched reply t f).executed
      + stages_left (clocked p fetched reply t f).stages.mem (clocked p fetched reply t f).stages.ex (clocked p fetched reply t f).stages.id
      + one_if (is_unmet (fetch_in p f) fetched || is_unmet (access_in p f.executed f.stages.mem) reply)
  moves past now (Some m) ex id punctual e g q =
      let access = sym (ap (λ o. access_in p f.executed o) e) in
      let moved = moves-mem m (access_in p f.executed f.stages.mem) reply (is_unmet (fetch_in p f) fetched) e access refl in
      omega (arith, moved)
  moves past now None (Some x) id punctual e g q = (let moved = moves-ex x e g in omega (arith, moved))
  moves past now None None (Some x) punctual e g q = (let moved = moves-id x e g q in omega (arith, moved))
  moves past now None None None punctual e g q =
      let moved = moves-none (is_unmet (access_in p f.executed f.stages.mem) reply) e q (punctual.fetch_now q) in
      omega (arith, moved)

  -- An instruction begins with each word that comes.
  words : (came : Option ℕ) → fetched ≡ came → begun f + one_if (is_some came) ≤ begun (clocked p fetched reply t f)
  unfolding clocked
  words None e = (let kept =
      (stepped-begun (goes_by f.stages.mem (access_in p f.executed f.stages.mem) reply) (read_by f.stages.id f.stages)
      (begins_with p f fetched) t f).0 in omega (arith, kept))
  words (Some w) e =
      let P : Option ℕ → Type 0 = λ o. FetchFits p (fetch_in p f) o in
      let wanted = fits-wanted p (fetch_in p f) w (subst P e fetch_fits) in
      let none = fetch-empty p f.fetch (place_of f) wanted in
      let on = fetch-on p f.fetch (place_of f) wanted in
      let is : begins_with p f fetched ≡ Some (instr_of w) = rw (e, on) refl in
      let more = (stepped-begun (goes_by f.stages.mem (access_in p f.executed f.stages.mem) reply) (read_by f.stages.id f.stages)
      (begins_with p f fetched) t f).1 (instr_of w) none is in
      omega (arith, more)

  -- An access that is answered is an instruction that is executed.
  accesses : (mem : Option Slot) (access : Option Request) (came : Option ℕ) → f.stages.mem ≡ mem → access_in p f.executed mem ≡ access
      → reply ≡ came
      → ReplyFits access came → f.executed + length (executed_by c access came) ≤ (clocked p fetched reply t f).executed
  accesses None None came e g r fits =
      (let k = stays p c n f good h fit fetched reply fetch_fits reply_fits t (inr e) in let same = k.executed in omega (arith, same))
  accesses None (Some q) came e g r fits = cc
  accesses (Some m) None (Some w) e g r fits = absurd fits
  accesses (Some m) None None e g r fits =
      let k = goes-on p c n f good h fit fetched reply fetch_fits reply_fits t m 0 e (goes-at m None None e g r) in
      let one = k.1 in omega (arith, one)
  accesses (Some m) (Some q) None e g r fits =
      let k = stays p c n f good h fit fetched reply fetch_fits reply_fits t (inl (goes-at m (Some q) None e g r)) in
      let same = k.executed in omega (arith, same)
  accesses (Some m) (Some q) (Some w) e g r fits =
      let k = goes-on p c n f good h fit fetched reply fetch_fits reply_fits t m (loaded q.kind w) e (goes-at m (Some q) (Some w) e g r) in
      let one = k.1 in omega (arith, one)

  pub clock-uses : (s : Service) (past : List Timed) (now left : ℕ) → IsPunctual p now past f → UsesClocks s f
      → UsesClocks (after_clock fetched reply (view_of p c n left true f) s) (clocked p fetched reply t f)
  clock-uses s past now left punctual uses =
      let moved = moves past now f.stages.mem f.stages.ex f.stages.id punctual refl refl refl in
      let word = words fetched refl in
      let access = accesses f.stages.mem (access_in p f.executed f.stages.mem) reply refl refl refl reply_fits in
      let was = uses.clocks in
      let had = uses.words in
      let made = uses.accesses in
      let longer = length-append s.accesses (stamped (s.clocks + 1) (executed_by c (access_in p f.executed f.stages.mem) reply)) in
      let each = length-map (executed_by c (access_in p f.executed f.stages.mem) reply)
      (λ (entry : Entry). (let stamp : Stamp = record { entry = entry; cycle = s.clocks + 1 } in stamp)) in
      record {
        clocks = omega (arith, was, moved);
        words = omega (arith, had, word);
        accesses = omega (arith, made, access, longer, each);
      }
