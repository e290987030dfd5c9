-- A clock meets the law of an engine.
use Rattle.std.proofs.Common.{◌≡◌, ℕ, ◌+◌, ◌*◌, ◌/◌, ◌%◌, ◌<◌, ◌⊎◌, inl, inr, Bool, true, false, refl, ap, sym, ◌∙◌, arith, subst, List}
use Rattle.std.proofs.Common.{length, IsSome}
use Rattle.std.specs.Prelude.{Option, Some, None, if◌then◌else◌, slice_index, slice_get}
use Rattle.std.proofs.lemmas.Option.{slice_get-get_or}
use Rattle.std.proofs.lemmas.Grind.{common_steps}
use Rattle.mips_isa.specs.declared.Instr.{Instr}
use Rattle.mips_isa.specs.declared.Stop.{Stop}
use Rattle.mips_isa.specs.declared.Instr.TheVariants as is
use Rattle.mips_isa.specs.declared.CoreState.{CoreState}
use Rattle.mips_isa.specs.Kinds.{loaded}
use Rattle.mips_isa.specs.Fields.{instr_of}
use Rattle.mips_isa.specs.Words.{IsProper}
use Rattle.mips_isa.specs.Steps.{instr_at, kind_at}
use Rattle.mips_isa.specs.Effects.{rs_of, rt_of, expected_by, is_off_code, first_stop}
use Rattle.mips_isa.proofs.StepsLaws.{instr_at-code}
use Rattle.pipe_regs.specs.declared.Slot.{Slot}
use Rattle.pipe_regs.specs.Slots.{HoldsProper, IsProperWhere}
use Rattle.image_file.specs.Value.{ImageValue, IsGood}
use Rattle.mem_port.specs.Loaded.{stop, request, on_code}
use Rattle.access_log.specs.declared.request.Request.{Request}
use Rattle.mem_port.specs.declared.engine.Progress.TheVariants as progress
use Rattle.mem_port.specs.Engine.{IsSound, FetchFits, ReplyFits, Acts, Clocks}
use Rattle.timetable.specs.Trace.{instr_on}
use Rattle.pipe_core.specs.declared.flight.Flight.{Flight}
use Rattle.pipe_core.specs.Chain.{passed, Holds, HoldsWhere, state_of, IsChained}
use Rattle.pipe_core.specs.Clock.{read_by, clocked}
use Rattle.pipe_core.specs.PipeView.{view_of}
use Rattle.pipe_core.specs.Punctual.{last_f, IsPunctual}
use Rattle.pipe_core.specs.Steps.{IsFit}
use Rattle.pipe_core.specs.Wants.{stop_at, access_at, asks, stop_in, access_in, goes_by, fetch_by, place_of, fetch_in, word_of, IsKnown}
use Rattle.pipe_core.proofs.ChainStepLemmas.{KeepsState, stepped-chained, fetch-stays, mem-stays, rests, rests-empty, passes}
use Rattle.pipe_core.proofs.ClockTimeLemmas.{InTime, begins_with}
use Rattle.pipe_core.proofs.MemLemmas.{off-none, off-even, off-below, stop-same, request-same, quiet-same, finish-same}
use Rattle.timetable.specs.Tables.{Timed, IsSoon}

off-false : (bytes dpc : ℕ) → dpc % 4 ≡ 0 → dpc < bytes → is_off_code bytes dpc ≡ false
off-false bytes dpc e h = grind (arith, common_steps)

on-false : (b : Bool) (o : Option Instr) → b ≡ false → (if b then None else o) ≡ o
on-false true o e = cc
on-false false o e = refl

-- where a slot stands on the code, it has an instruction
pub known : (p : ImageValue) (s : CoreState) (mem : Option Slot) → IsGood p → HoldsWhere p.code s mem → IsKnown p mem
known p s None g h = tt
known p s (Some m) g h = λ e below.
    let off : is_off_code (4 * length p.code) m.dpc ≡ false = off-false (4 * length p.code) m.dpc e below in
    let some : IsSome (instr_at p.code m.dpc) = instr_at-code p.code m.dpc g.code below in
    let is : m.instr ≡ instr_at p.code m.dpc =
    h.instr ∙ (ap (λ d. instr_on p.code d) (sym h.dpc) ∙ on-false (is_off_code (4 * length p.code) m.dpc) (instr_at p.code m.dpc) off) in
    let P : Option Instr → Type 0 = λ o. IsSome o in
    subst P (sym is) some

-- an instruction that does not stop is one
pub stop-none-some : (p : ImageValue) (m : Slot) → IsKnown p (Some m) → stop_at p m ≡ None → IsSome m.instr
unfolding stop_at first_stop
stop-none-some p m k e =
    let off = off-none (is_off_code (4 * length p.code) m.dpc) _ e in
    k (off-even (4 * length p.code) m.dpc off) (off-below (4 * length p.code) m.dpc off)

-- what begins is the instruction at its place
word-case : (b : Bool) (code : List ℕ) (dpc : ℕ) (i : Option Instr) (p : ImageValue) (fetched : Option ℕ) → p.code ≡ code
    → (b ≡ false → dpc / 4 < length code)
    → FetchFits p (if b then None else Some dpc) fetched → word_of b fetched ≡ Some i → i ≡ (if b then None else instr_at code dpc)
unfolding instr_at
word-case true code dpc i p fetched c below fits e = cc
word-case false code dpc i p None c below fits e = cc
word-case false code dpc i p (Some w) c below fits e =
    let at : w ≡ slice_index code (dpc / 4) = fits ∙ ap (λ l. slice_index l (dpc / 4)) c in
    let got : slice_get code (dpc / 4) ≡ Some (slice_index code (dpc / 4)) = slice_get-get_or code (dpc / 4) 0 (below refl) in
    let is : instr_of w ≡ i = cc in
    rw got (sym is ∙ ap instr_of at)

-- the code has an instruction at each of its places
instr_on-some : (p : ImageValue) (dpc : ℕ) → IsGood p → is_off_code (4 * length p.code) dpc ≡ false → IsSome (instr_on p.code dpc)
instr_on-some p dpc g off =
    let some : IsSome (instr_at p.code dpc) = instr_at-code p.code dpc g.code (off-below (4 * length p.code) dpc off) in
    rw off some

pub word-begins : (p : ImageValue) (f : Flight) (fetched : Option ℕ) (i : Option Instr) → FetchFits p (fetch_in p f) fetched
    → f.fetch ≡ None
    → word_of (is_off_code (4 * length p.code) (place_of f)) fetched ≡ Some i → i ≡ instr_on p.code (place_of f)
word-begins p f fetched i fits none e =
    let P : Option Slot → Type 0 = λ o. FetchFits p (fetch_by p o (place_of f)) fetched in
    word-case (is_off_code (4 * length p.code) (place_of f)) p.code (place_of f) i p fetched refl
    (λ off. (let h = off-below (4 * length p.code) (place_of f) off in omega arith))
    (subst P none fits) e

soon-same : (k : Option ℕ) (first clock : ℕ) → clock ≡ first → IsSoon k first clock
soon-same None first clock e = tt
soon-same (Some bound) first clock e = omega (arith, e)

idle-case : (b : Bool) (fetched : Option ℕ) → word_of b fetched ≡ None → b ≡ false
idle-case true fetched e = cc
idle-case false fetched e = refl

-- what begins in a clock comes in time, where a word that is fetched does
pub in-time : (k : Option ℕ) (p : ImageValue) (t : ℕ) (past : List Timed) (f : Flight) (fetched : Option ℕ) → IsGood p
    → FetchFits p (fetch_in p f) fetched → IsPunctual p t past f
    → ((w : ℕ) → f.fetch ≡ None → is_off_code (4 * length p.code) (place_of f) ≡ false → fetched ≡ Some w
    → IsSoon k (last_f past f + 1) (t + 1)) → InTime k p t past (begins_with p f fetched) f
in-time k p t past f fetched good fits now soon = record {
  begins = λ none i g. (off-empty none i g, by-word (is_off_code (4 * length p.code) (place_of f)) fetched refl refl none g);
  idle = λ none g. idle-case (is_off_code (4 * length p.code) (place_of f)) fetched g;
} where
  off-case : (b : Bool) → is_off_code (4 * length p.code) (place_of f) ≡ b → (i : Option Instr) → f.fetch ≡ None
      → i ≡ instr_on p.code (place_of f) → i ≡ None → last_f past f ≡ t
  off-case true e i none g h = now.off_now none e
  off-case false e i none g h =
      (let some = instr_on-some p (place_of f) good e in let no : instr_on p.code (place_of f) ≡ None = sym g ∙ h in cc)

  off-empty : f.fetch ≡ None → (i : Option Instr) → begins_with p f fetched ≡ Some i → i ≡ None → last_f past f ≡ t
  off-empty none i g h = off-case (is_off_code (4 * length p.code) (place_of f)) refl i none (word-begins p f fetched i fits none g) h

  by-word : (b : Bool) (came : Option ℕ) → is_off_code (4 * length p.code) (place_of f) ≡ b → fetched ≡ came → f.fetch ≡ None
      → {i : Option Instr} → begins_with p f fetched ≡ Some i → IsSoon k (last_f past f + 1) (t + 1)
  by-word true came e g none h = soon-same k (last_f past f + 1) (t + 1) (ap (λ x. x + 1) (sym (now.off_now none e)))
  by-word false (Some w) e g none h = soon w none e g
  by-word false None e g none {i} h =
      let no : begins_with p f fetched ≡ None = ap (λ b. word_of b fetched) e ∙ ap (λ c. word_of false c) g in cc

word-none : (b : Bool) (dpc a : ℕ) → (if b then None else Some dpc) ≡ Some a → word_of b None ≡ None
word-none true dpc a e = cc
word-none false dpc a e = refl

fetch-empty : (p : ImageValue) (o : Option Slot) (dpc a : ℕ) → fetch_by p o dpc ≡ Some a → o ≡ None
fetch-empty p None dpc a e = refl
fetch-empty p (Some x) dpc a e = cc

fetch-at : (b : Bool) (dpc a : ℕ) → (if b then None else Some dpc) ≡ Some a → b ≡ false
fetch-at true dpc a e = cc
fetch-at false dpc a e = refl

on-code : (p : ImageValue) (dpc : ℕ) → is_off_code (4 * length p.code) dpc ≡ false → on_code p dpc ≡ true
on-code p dpc e = grind (arith, common_steps)

fetch-same : (b : Bool) (dpc a : ℕ) → (if b then None else Some dpc) ≡ Some a → dpc ≡ a
fetch-same true dpc a e = cc
fetch-same false dpc a e = cc

-- what is wanted may be asked
pub sound : (p : ImageValue) (c n left : ℕ) (live : Bool) (f : Flight) → IsChained p.code (state_of f) f
    → IsSound (view_of p c n left live f)
sound p c n left live f h = record {
  fetch_on_code = λ a e. (
      let none = fetch-empty p f.fetch (place_of f) a e in
      let P : Option Slot → Type 0 = λ o. fetch_by p o (place_of f) ≡ Some a in
      let g = subst P none e in
      let at = fetch-same (is_off_code (4 * length p.code) (place_of f)) (place_of f) a g in
      let Q : ℕ → Type 0 = λ d. on_code p d ≡ true in
      subst Q at (on-code p (place_of f) (fetch-at (is_off_code (4 * length p.code) (place_of f)) (place_of f) a g)));
  access_next = λ r e. asks-next f.stages.mem h.in_mem r e;
} where
  asks-next : (mem : Option Slot) → HoldsWhere p.code (state_of f) mem → (r : Request) → access_in p f.executed mem ≡ Some r
      → request p f.executed (state_of f) ≡ Some r
  asks-next None k r e = cc
  asks-next (Some m) k r e = request-same p f.executed (state_of f) m k ∙ e

reads-small : (i : Instr) → IsProper i → (rs_of i < 32) × (rt_of i < 32) × (expected_by i < 32)
unfolding rs_of rt_of expected_by
reads-small (is.Shift op rd rt sa) h = (omega arith, omega arith, omega arith)
reads-small (is.ShiftBy op rd rt rs) h = (omega arith, omega arith, omega arith)
reads-small (is.Alu op rd rs rt) h = (omega arith, omega arith, omega arith)
reads-small (is.AluImm op rt rs imm) h = (omega arith, omega arith, omega arith)
reads-small (is.Lui rt imm) h = (omega arith, omega arith, omega arith)
reads-small (is.BranchTwo differ rs rt imm) h = (omega arith, omega arith, omega arith)
reads-small (is.BranchZero op rs imm) h = (omega arith, omega arith, omega arith)
reads-small (is.Jump link index) h = (omega arith, omega arith, omega arith)
reads-small (is.JumpReg rs) h = (omega arith, omega arith, omega arith)
reads-small (is.JumpLink rd rs) h = (omega arith, omega arith, omega arith)
reads-small (is.Lw rt rs imm) h = (omega arith, omega arith, omega arith)
reads-small (is.Sw rt rs imm) h = (omega arith, omega arith, omega arith)
reads-small (is.Cas rd rs rt) h = (omega arith, omega arith, omega arith)
reads-small is.Halt h = (omega arith, omega arith, omega arith)

module _ (p : ImageValue) (c n : ℕ) (f : Flight) (good : IsGood p) (h : IsChained p.code (state_of f) f) (fit : IsFit f)
    (fetched reply : Option ℕ) (fetch_fits : FetchFits p (fetch_in p f) fetched)
    (reply_fits : ReplyFits (access_in p f.executed f.stages.mem) reply)
    (t : ℕ) where
  in_id-small : (j : Instr) (x : Slot) → f.stages.id ≡ Some x → x.instr ≡ Some j → (rs_of j < 32) × (rt_of j < 32) × (expected_by j < 32)
  in_id-small j x e g =
      let P : Option Slot → Type 0 = λ o. HoldsProper o in
      let Q : Option Instr → Type 0 = λ o. IsProperWhere o in
      reads-small j (subst Q g (subst P e fit.proper.id))

  pub next-chained : IsChained p.code (state_of (clocked p fetched reply t f)) (clocked p fetched reply t f)
  unfolding clocked
  next-chained = stepped-chained p.code _ _ _ t f h fit.regs in_id-small (λ x e. ap (λ o. read_by o f.stages) e)
      (λ i e g. word-begins p f fetched i fetch_fits e g)

  pub fetch-kept : fetched ≡ None → (a : ℕ) → fetch_in p f ≡ Some a → fetch_in p (clocked p fetched reply t f) ≡ Some a
  unfolding clocked
  fetch-kept none a e =
      let empty = fetch-empty p f.fetch (place_of f) a e in
      let P : Option Slot → Type 0 = λ o. fetch_by p o (place_of f) ≡ Some a in
      let w = word-none (is_off_code (4 * length p.code) (place_of f)) (place_of f) a (subst P empty e) in
      let wn = ap (λ o. word_of (is_off_code (4 * length p.code) (place_of f)) o) none ∙ w in
      fetch-stays p.code _ _ _ t f p h wn empty ∙ e

  -- no instruction in M, or one that waits
  pub stays : goes_by f.stages.mem (access_in p f.executed f.stages.mem) reply ≡ None ⊎ (f.stages.mem ≡ None)
      → KeepsState f (clocked p fetched reply t f)
  unfolding clocked
  stays (inl e) = rests p.code _ _ _ t f e
  stays (inr e) = rests-empty p.code _ _ _ t f e

  pub goes-on : (m : Slot) (old : ℕ) → f.stages.mem ≡ Some m → goes_by f.stages.mem (access_in p f.executed f.stages.mem) reply ≡ Some old
      → (state_of (clocked p fetched reply t f) ≡ passed m.instr (state_of f) old)
      × ((clocked p fetched reply t f).executed ≡ f.executed + 1)
  unfolding clocked
  goes-on m old e g = passes p.code _ _ _ t f m old h e g

  pub held : (m : Slot) → f.stages.mem ≡ Some m → Holds p.code (state_of f) m
  held m e = let P : Option Slot → Type 0 = λ o. HoldsWhere p.code (state_of f) o in subst P e h.in_mem

  pub in_m : (m : Slot) → f.stages.mem ≡ Some m → access_in p f.executed f.stages.mem ≡ access_at p f.executed m
  in_m m e = ap (λ o. access_in p f.executed o) e

  pub goes-is : (m : Slot) (access : Option Request) → f.stages.mem ≡ Some m → access_at p f.executed m ≡ access
      → goes_by f.stages.mem (access_in p f.executed f.stages.mem) reply ≡ goes_by (Some m) access reply
  goes-is m access e g = ap (λ o. goes_by o (access_in p f.executed o) reply) e ∙ ap (λ a. goes_by (Some m) a reply) g

  acts-cases : (left : ℕ) (mem : Option Slot) (access : Option Request) (came : Option ℕ) → f.stages.mem ≡ mem
      → access_in p f.executed mem ≡ access → reply ≡ came
      → ReplyFits access came → stop_in p mem ≡ None
      → Acts came progress.Running (view_of p c n (left + 1) true f) (view_of p c n left true (clocked p fetched reply t f))
  acts-cases left None access None e g r fits no_stop =
      let k = stays (inr e) in
      (inl (record { executed = k.executed; state = k.state }), refl)
  acts-cases left None (Some q) (Some w) e g r fits no_stop = cc
  acts-cases left None None (Some w) e g r fits no_stop = absurd fits
  acts-cases left (Some m) None None e g r fits no_stop =
      let k = goes-on m 0 e (goes-is m None e g) in
      let some = stop-none-some p m (known p (state_of f) (Some m) good (held m e)) no_stop in
      let stop_none = stop-same p (state_of f) m good (held m e) ∙ no_stop in (
        inr (record {
          no_stop = stop_none;
          no_access = request-same p f.executed (state_of f) m (held m e) ∙ g;
          executed = k.1;
          state = k.0 ∙ sym (quiet-same p f.executed (state_of f) m 0 (held m e) some no_stop g);
        }),
        refl,
      )
  acts-cases left (Some m) None (Some w) e g r fits no_stop = absurd fits
  acts-cases left (Some m) (Some q) None e g r fits no_stop =
      let k = stays (inl (goes-is m (Some q) e g ∙ ap (λ o. goes_by (Some m) (Some q) o) r)) in
      (inl (record { executed = k.executed; state = k.state }), refl)
  acts-cases left (Some m) (Some q) (Some w) e g r fits no_stop =
      let k = goes-on m (loaded q.kind w) e (goes-is m (Some q) e g ∙ ap (λ o. goes_by (Some m) (Some q) o) r) in
      (record { executed = k.1; state = k.0 ∙ sym (finish-same p f.executed (state_of f) m q w (held m e) g) }, refl)

  pub at-m-in : (m : Slot) → f.stages.mem ≡ Some m → goes_by f.stages.mem (access_in p f.executed f.stages.mem) reply ≡ None
      → (clocked p fetched reply t f).stages.mem ≡ Some m
  unfolding clocked
  at-m-in m e g = mem-stays p.code _ _ _ t f m e g

  access-kept : (r : Request) (mem : Option Slot) → f.stages.mem ≡ mem → reply ≡ None → access_in p f.executed f.stages.mem ≡ Some r
      → access_in p (clocked p fetched reply t f).executed (clocked p fetched reply t f).stages.mem ≡ Some r
  access-kept r None e none g = (let q = ap (λ o. access_in p f.executed o) e in cc)
  access-kept r (Some m) e none g =
      let goes_none : goes_by f.stages.mem (access_in p f.executed f.stages.mem) reply ≡ None =
      goes-is m (Some r) e (sym (in_m m e) ∙ g) ∙ ap (λ o. goes_by (Some m) (Some r) o) none in
      let k = stays (inl goes_none) in
      let same : (clocked p fetched reply t f).stages.mem ≡ Some m = at-m-in m e goes_none in
      rw (k.executed, same) (sym (in_m m e) ∙ g)

  pub runs : (left : ℕ) → stop_in p f.stages.mem ≡ None
      → Clocks fetched reply progress.Running (view_of p c n (left + 1) true f) (view_of p c n left true (clocked p fetched reply t f))
  runs left no_stop = record {
    kept = record { image = refl; core = refl; cores = refl };
    clocks = refl;
    acts = acts-cases left f.stages.mem (access_in p f.executed f.stages.mem) reply refl refl refl reply_fits no_stop;
    fetch = λ e a g. fetch-kept e a g;
    access = λ e r g. access-kept r f.stages.mem refl e g;
  }

  pub no-reply : (mem : Option Slot) (why : Stop) → f.stages.mem ≡ mem → stop_in p mem ≡ Some why → access_in p f.executed mem ≡ None
  unfolding access_at
  no-reply None why e g = refl
  no-reply (Some m) why e g = ap (λ o. asks f.executed m o m.instr (kind_at m.instr)) g

  stop-is : (mem : Option Slot) (why : Stop) → f.stages.mem ≡ mem → stop_in p mem ≡ Some why → stop p (state_of f) ≡ Some why
  stop-is None why e g = cc
  stop-is (Some m) why e g = stop-same p (state_of f) m good (held m e) ∙ g

  stops-case : (came : Option ℕ) (left : ℕ) (why : Stop) → ReplyFits None came → stop p (state_of f) ≡ Some why
      → Acts came (progress.Stopped why) (view_of p c n (left + 1) true f) (view_of p c n left false f)
  stops-case None left why fits g = (g, (record { executed = refl; state = refl }, refl))
  stops-case (Some w) left why fits g = absurd fits

  pub stops : (left : ℕ) (why : Stop) → stop_in p f.stages.mem ≡ Some why
      → Clocks fetched reply (progress.Stopped why) (view_of p c n (left + 1) true f) (view_of p c n left false f)
  stops left why g =
      let P : Option Request → Type 0 = λ o. ReplyFits o reply in
      let none : ReplyFits None reply = subst P (no-reply f.stages.mem why refl g) reply_fits in
      record {
        kept = record { image = refl; core = refl; cores = refl };
        clocks = refl;
        acts = stops-case reply left why none (stop-is f.stages.mem why refl g);
        fetch = λ e a q. q;
        access = λ e r q. q;
      }
