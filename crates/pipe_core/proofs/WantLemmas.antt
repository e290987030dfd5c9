-- How long wants may stay unmet.
use Rattle.std.proofs.Common.{◌≡◌, ℕ, ◌+◌, ◌*◌, ◌≤◌, ◌⊎◌, inl, inr, Bool, true, false, refl, ap, arith, subst, List, length}
use Rattle.std.proofs.Common.{IsSome}
use Rattle.std.specs.Prelude.{Option, Some, None, if◌then◌else◌}
use Rattle.mips_isa.specs.Effects.{is_off_code}
use Rattle.image_file.specs.Value.{ImageValue}
use Rattle.access_log.specs.declared.request.Request.{Request}
use Rattle.mem_port.specs.ServiceHistory.{IsLeft}
use Rattle.pipe_regs.specs.declared.Slot.{Slot}
use Rattle.timetable.specs.Tables.{Timed, prior, IsSoon}
use Rattle.pipe_core.specs.declared.flight.Flight.{Flight}
use Rattle.pipe_core.specs.declared.flight.Times.{Times}
use Rattle.pipe_core.specs.PipeHistory.{IsMetWithin}
use Rattle.pipe_core.specs.Punctual.{last_in, last_f, IsPunctual}
use Rattle.pipe_core.specs.Wants.{access_in, goes_by, fetch_by, fetch_in, place_of, word_of}
use Rattle.pipe_core.proofs.ClockTimeLemmas.{begins_with}
use Rattle.pipe_core.proofs.PassageLemmas.{MemAfter}
use Rattle.pipe_core.proofs.StageLemmas.{LeavesAs}

-- Where a want was told, it is met in time.
pub met-soon : (bound : Option ℕ) (clocks left since : ℕ) → IsMetWithin bound clocks left since → IsSoon bound (since + 1) (clocks + 1)
met-soon None clocks left since h = tt
met-soon (Some bound) clocks left since h = omega arith

-- A want that begins may stay unmet for the bound.
pub met-begins : {W : Type 0} (want : Option W) (given bound : Option ℕ) (clocks old new since : ℕ)
    → (IsSome want → IsMetWithin bound clocks old since)
    → since ≤ clocks → IsLeft bound want given old new → IsMetWithin bound (clocks + 1) new (clocks + 1)
met-begins want given None clocks old new since soon late left = tt
met-begins None None (Some bound) clocks old new since soon late left = omega arith
met-begins None (Some word) (Some bound) clocks old new since soon late left = omega arith
met-begins (Some w) None (Some bound) clocks old new since soon late left = (let before = soon refl in omega arith)
met-begins (Some w) (Some word) (Some bound) clocks old new since soon late left = omega arith

-- A want that stays has one clock less.
pub met-stays : {W : Type 0} (want : Option W) (given bound : Option ℕ) (clocks old new since : ℕ)
    → (IsSome want → IsMetWithin bound clocks old since)
    → IsSome want → given ≡ None → IsLeft bound want given old new → IsMetWithin bound (clocks + 1) new since
met-stays want given None clocks old new since soon some none left = tt
met-stays None given (Some bound) clocks old new since soon some none left = cc
met-stays (Some w) None (Some bound) clocks old new since soon some none left = (let before = soon refl in omega arith)
met-stays (Some w) (Some word) (Some bound) clocks old new since soon some none left = cc

last-below : (id ex mem : Option Slot) (ti tx tm : Times) (past : List Timed) (t : ℕ) → ti.f ≤ t → tx.f ≤ t → tm.f ≤ t → (prior past).f ≤ t
    → last_in id ex mem ti tx tm past ≤ t
last-below (Some x) ex mem ti tx tm past t a b d e = a
last-below None (Some x) mem ti tx tm past t a b d e = b
last-below None None (Some x) ti tx tm past t a b d e = d
last-below None None None ti tx tm past t a b d e = e

pub fetch-empty : (p : ImageValue) (o : Option Slot) (dpc : ℕ) → IsSome (fetch_by p o dpc) → o ≡ None
fetch-empty p None dpc e = refl
fetch-empty p (Some x) dpc e = cc

on-code : (b : Bool) (dpc : ℕ) → IsSome (if b then None else Some dpc) → b ≡ false
on-code true dpc e = cc
on-code false dpc e = refl

pub fetch-on : (p : ImageValue) (o : Option Slot) (dpc : ℕ) → IsSome (fetch_by p o dpc) → is_off_code (4 * length p.code) dpc ≡ false
fetch-on p None dpc e = on-code (is_off_code (4 * length p.code) dpc) dpc e
fetch-on p (Some x) dpc e = cc

pub fetch-wanted : (p : ImageValue) (f : Flight) → f.fetch ≡ None → is_off_code (4 * length p.code) (place_of f) ≡ false
    → IsSome (fetch_in p f)
fetch-wanted p f none on = rw (none, on) refl

pub word-on : (b : Bool) (fetched : Option ℕ) → word_of b fetched ≡ None → (b ≡ false) × (fetched ≡ None)
word-on true fetched e = cc
word-on false None e = (refl, refl)
word-on false (Some w) e = cc

waits-none : (mem : Option Slot) (access : Option Request) (came : Option ℕ) → IsSome mem → goes_by mem access came ≡ None
    → IsSome access × (came ≡ None)
waits-none None access came some e = cc
waits-none (Some m) None came some e = cc
waits-none (Some m) (Some r) None some e = (refl, refl)
waits-none (Some m) (Some r) (Some w) some e = cc

mem-some : (q : ImageValue) (k : ℕ) (mem : Option Slot) → IsSome (access_in q k mem) → IsSome mem
mem-some q k None e = e
mem-some q k (Some m) e = refl

module _ (p : ImageValue) (t : ℕ) (bound : Option ℕ) (old new : ℕ) (f g : Flight) (past later : List Timed) (fetched reply : Option ℕ)
    (now : IsPunctual p t past f) where
  last-past : last_f past f ≤ t
  last-past =
      last-below f.stages.id f.stages.ex f.stages.mem f.id_times f.ex_times f.mem_times past t now.id_below.f now.ex_below.f now.mem_below.f
      now.before.f

  pub fetch-left : (IsSome (fetch_in p f) → IsMetWithin bound t old (last_f past f)) → IsLeft bound (fetch_in p f) fetched old new
      → (last_f later g ≡ t + 1) ⊎ LeavesAs (last_f later g) (last_f past f) f.fetch (begins_with p f fetched) g → IsSome (fetch_in p g)
      → IsMetWithin bound (t + 1) new (last_f later g)
  fetch-left soon left (inl e) some = rw e (met-begins (fetch_in p f) fetched bound t old new (last_f past f) soon last-past left)
  fetch-left soon left (inr l) some =
      let none : g.fetch ≡ None = fetch-empty p g.fetch (place_of g) some in
      let word = word-on (is_off_code (4 * length p.code) (place_of f)) fetched (l.no_word none) in
      rw l.left_is (met-stays (fetch_in p f) fetched bound t old new (last_f past f) soon (fetch-wanted p f (l.was none) word.0) word.1
      left)

  pub access-left : (IsSome (access_in p f.executed f.stages.mem) → IsMetWithin bound t old f.mem_times.e)
      → IsLeft bound (access_in p f.executed f.stages.mem) reply old new
      → MemAfter f g (goes_by f.stages.mem (access_in p f.executed f.stages.mem) reply) (t + 1)
      → IsSome (access_in p g.executed g.stages.mem)
      → IsMetWithin bound (t + 1) new g.mem_times.e
  access-left soon left (inl none) some =
      let P : Option Slot → Type 0 = λ o. IsSome (access_in p g.executed o) in
      let no = subst P none some in cc
  access-left soon left (inr (inl e)) some =
      rw e (met-begins (access_in p f.executed f.stages.mem) reply bound t old new f.mem_times.e soon now.mem_below.e left)
  access-left soon left (inr (inr s)) some =
      let P : Option Slot → Type 0 = λ o. IsSome o in
      let there : IsSome f.stages.mem = subst P s.slot (mem-some p g.executed g.stages.mem some) in
      let waits = waits-none f.stages.mem (access_in p f.executed f.stages.mem) reply there s.none in
      let e : g.mem_times.e ≡ f.mem_times.e = ap (λ (x : Times). x.e) s.clocks in
      rw e (met-stays (access_in p f.executed f.stages.mem) reply bound t old new f.mem_times.e soon waits.0 waits.1 left)
