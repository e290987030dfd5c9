-- How the calls of a cycle of a core and of its end follow one another, what they leave of its side, and how its engine goes on.
use Rattle.std.proofs.Common.{◌≡◌, ◌≢◌, ℕ, ◌+◌, ◌/◌, ◌≤◌, inl, inr, Bool, true, false, Option, Some, None, List, [], ◌∷◌, ◌++◌, append-nil}
use Rattle.std.proofs.Common.{refl, ap, sym, ◌∙◌, arith, subst, IsTrue}
use Rattle.std.specs.Prelude.{◌||◌, is_some, option_map, slice_index}
use Rattle.std.proofs.lemmas.Bool.{cases_Bool, or_left, or_right}
use Rattle.std.proofs.lemmas.Option.{same_Some}
use Rattle.std.proofs.Math.Path.{subst⁻¹}
use Rattle.image_file.specs.Value.{ImageValue, memory_bytes, start_state}
use Rattle.access_log.specs.declared.request.Request.{Request}
use Rattle.access_log.specs.declared.Entry.{Entry}
use Rattle.access_log.specs.Memory.{made}
use Rattle.access_log.specs.Requests.{entry_of, access_of, fetch_of}
use Rattle.access_log.specs.Alone.{ComesTo}
use Rattle.access_log.proofs.AloneLaws.{comes-goes, comes-does}
use Rattle.mem_port.specs.declared.port.Port.{Port}
use Rattle.mem_port.specs.declared.port.Port.TheVariants.{Fetch, Access}
use Rattle.mem_port.specs.declared.port.PortState.{PortState}
use Rattle.mem_port.specs.declared.port.PortState.TheVariants.{Answered}
use Rattle.mem_port.specs.declared.port.Withdrawal.{Withdrawal}
use Rattle.mem_port.specs.declared.port.Withdrawal.TheVariants as withdrawal
use Rattle.mem_port.specs.declared.engine.Progress.{Progress}
use Rattle.mem_port.specs.declared.engine.Progress.TheVariants as progress
use Rattle.mem_port.specs.Calls.{Call}
use Rattle.mem_port.specs.Engine.{EngineView, IsSound, FetchFits, ReplyFits, Rests, GoesOn, Finishes, Acts, KeepsEngine, Clocks, Drains}
use Rattle.mem_port.specs.Loaded.{request, IsProperAccess, next_in, finish}
use Rattle.mem_port.specs.ServiceHistory.{ServiceHistory, is_unmet, one_if, executed_by}
use Rattle.mem_port.specs.Ports.{core_of, MayAsk, IsUnanswered, entries_of}
use Rattle.mem_port.specs.Side.{PortPhase, Served, port_phase, Holds, Evolves, SideView, KeepsSide, LeavesPort, SideTakes, SideWithdraws}
use Rattle.mem_port.proofs.LoadedLaws.{request-asks, request-proper, request-no_stop, next-goes}
use Rattle.mem_port.proofs.SideLaws.{port_phase-evolves, evolves-twice}
use Rattle.core_run.specs.declared.lane.Lane.{Lane}
use Rattle.core_run.specs.declared.lane.Came.{Came}
use Rattle.core_run.specs.Cycle.{opens, sends, takes, steps, cycle_calls, moved_in, wait_left, late_reply, found_by, WasOn, IsDrained}
use Rattle.core_run.specs.Lanes.{HasCome, IsCoupled, PortHolds, StopsWhereDead, IsQuiet}
use Rattle.core_run.specs.Meets.{Makes, Opens, TakesUp, Fits, StepsOn, Meets, Closes, entries_by}
use Rattle.core_run.proofs.CycleLaws.{keeps-then}
use Rattle.core_run.proofs.LeadLaws.{lead-append}

-- Calls for a core, one after another.

module _ {S : Type 0} (serves : S → ℕ → Type 0) (makes : Call → S → S → Type 0) (leaves : ℕ → S → S → Type 0)
    (pays : ℕ → ℕ → S → S → Type 0)
    (goes_on : (core : ℕ) (s t u : S) → leaves core s t → leaves core t u → leaves core s u)
    (adds_up : (core j k : ℕ) (s t u : S) → leaves core s t → pays core j s t → pays core k t u → pays core (j + k) s u) (core : ℕ) where
  -- Calls of which the first make no step.
  pub makes-then : (first second : List Call) (steps : ℕ) (s t u : S) → Makes serves makes leaves pays core first 0 s t
      → Makes serves makes leaves pays core second steps t u
      → Makes serves makes leaves pays core (first ++ second) steps s u
  makes-then first second steps s t u h k =
      let all : steps ≡ 0 + steps = omega arith in
      record {
        serves_on = k.serves_on;
        lead = lead-append makes first second s t u h.lead k.lead;
        others = goes_on core s t u h.others k.others;
        paid = subst⁻¹ (λ n. pays core n s u) all (adds_up core 0 steps s t u h.others h.paid k.paid);
      }

  -- Those of a cycle.
  pub makes-cycle : (choice : ℕ) (e : EngineView) (lane : Lane) (came : Came) (access fetch : Option Request) (s0 s1 s2 s3 s4 s5 : S)
      → access ≡ e.access → fetch ≡ option_map fetch_of e.fetch
      → Makes serves makes leaves pays core (sends (Access lane.core) (opens lane.open_access access)) 0 s0 s1
      → Makes serves makes leaves pays core (sends (Fetch lane.core) (opens lane.open_fetch fetch)) 0 s1 s2
      → Makes serves makes leaves pays core (takes (Access lane.core) access came.reply) 0 s2 s3
      → Makes serves makes leaves pays core (takes (Fetch lane.core) fetch came.fetched) 0 s3 s4
      → Makes serves makes leaves pays core (steps choice came.step) (moved_in came.step) s4 s5
      → Makes serves makes leaves pays core (cycle_calls choice e lane came) (moved_in came.step) s0 s5
  makes-cycle choice e lane came access fetch s0 s1 s2 s3 s4 s5 is_access is_fetch a b c d k =
      let to = λ (calls : List Call) (s t : S). Makes serves makes leaves pays core calls 0 s t in
      makes-then _ _ _ s0 s1 s5 (subst⁻¹ (λ calls. to calls s0 s1)
      (ap (λ want. sends (Access lane.core) (opens lane.open_access want)) (sym is_access)) a)
      (makes-then _ _ _ s1 s2 s5 (subst⁻¹ (λ calls. to calls s1 s2)
      (sends-fetch (Fetch lane.core) lane.open_fetch e.fetch
      ∙ ap (λ want. sends (Fetch lane.core) (opens lane.open_fetch want)) (sym is_fetch)) b)
      (makes-then _ _ _ s2 s3 s5 (subst⁻¹ (λ calls. to calls s2 s3) (ap (λ want. takes (Access lane.core) want came.reply) (sym is_access))
      c)
      (makes-then _ _ _ s3 s4 s5 (subst⁻¹ (λ calls. to calls s3 s4)
      (takes-fetch (Fetch lane.core) e.fetch came.fetched ∙ ap (λ want. takes (Fetch lane.core) want came.fetched) (sym is_fetch)) d)
      k)))
    where
      sends-fetch : (p : Port) (is_open : Bool) (want : Option ℕ)
          → sends p (option_map fetch_of (opens is_open want)) ≡ sends p (opens is_open (option_map fetch_of want))
      sends-fetch p true want = refl
      sends-fetch p false want = refl

      takes-fetch : (p : Port) (want answer : Option ℕ) → takes p want answer ≡ takes p (option_map fetch_of want) answer
      takes-fetch p None answer = refl
      takes-fetch p (Some addr) answer = refl

-- The answer to what is wanted.

pub executed-none : (core : ℕ) (want : Option Request) → executed_by core want None ≡ []
executed-none core None = refl
executed-none core (Some r) = refl

entries-none : (p : Port) (want : Option Request) → entries_by p want None ≡ []
entries-none (Fetch core) want = refl
entries-none (Access core) want = executed-none core want

entries-some : (p : Port) (r : Request) (word : ℕ) → entries_by p (Some r) (Some word) ≡ entries_of p r word
entries-some (Fetch core) r word = refl
entries-some (Access core) r word = refl

-- Where nothing is taken.
taken-none : (p : Port) (want : Option Request) (old new : SideView) → new.taken ≡ old.taken → new.taken ≡ old.taken
    ++ entries_by p want None
taken-none p want old new same = same ∙ sym (ap (λ more. old.taken ++ more) (entries-none p want) ∙ append-nil old.taken)

taken-some : (p : Port) (r : Request) (word : ℕ) (old new : SideView) → new.taken ≡ old.taken ++ entries_of p r word → new.taken ≡ old.taken
    ++ entries_by p (Some r) (Some word)
taken-some p r word old new taken = taken ∙ ap (λ more. old.taken ++ more) (sym (entries-some p r word))

takes-wanted : (answer : Option ℕ) (p : Port) (r : Request) (old new : SideView) → SideTakes answer p r old new
    → TakesUp p (Some r) answer old new
takes-wanted None p r old new h = record {
  kept = h.stays.kept;
  other = record {
    port = λ q ne c. h.stays.ports q c;
    asks = λ q ne c. h.stays.asks q c;
    remaining_wait = λ told q ne c. h.remaining_wait told q c;
  };
  port = ap port_phase h.port;
  asks = h.stays.asks p refl;
  taken = taken-none p (Some r) old new h.stays.taken;
  fits = tt;
  remaining_wait = λ told unmet. (h.some_left told, h.remaining_wait told p refl);
}
takes-wanted (Some word) p r old new h = record {
  kept = h.1.0.kept;
  other = h.1.0.other;
  port = ap port_phase h.1.0.port;
  asks = h.1.0.asks;
  taken = taken-some p r word old new h.1.0.taken;
  fits = h.0;
  remaining_wait = λ told unmet. cc;
}

pub takes-answer : (answer : Option ℕ) (p : Port) (want : Option Request) (old new : SideView) → is_some want ≡ true
    → PortHolds (is_some want) (port_phase (old.port p)) want
    → ((r : Request) → port_phase (old.port p) ≡ Served r → SideTakes answer p r old new) → TakesUp p want answer old new
takes-answer answer p None old new some h taken = cc
takes-answer answer p (Some r) old new some h taken = takes-wanted answer p r old new (taken r h)

-- The end of what is open.

closes-wanted : (answer : Withdrawal) (p : Port) (r : Request) (old new : SideView) → SideWithdraws answer p r old new
    → Closes p true (Some r) answer old new
closes-wanted withdrawal.Withdrawn p r old new h = record {
  kept = h.0.kept;
  other = h.0.other;
  port = subst⁻¹ (λ port. IsQuiet (port_phase port)) h.0.port tt;
  asks = h.0.asks;
  taken = taken-none p (Some r) old new (h.0.taken ∙ append-nil old.taken);
  was = λ on s is. h.1;
}
closes-wanted (withdrawal.Answered word) p r old new h = record {
  kept = h.0.kept;
  other = h.0.other;
  port = subst⁻¹ (λ port. IsQuiet (port_phase port)) h.0.port tt;
  asks = h.0.asks;
  taken = taken-some p r word old new h.0.taken;
  was = λ on s is. subst⁻¹ (λ t. Evolves (old.port p) (Answered t word)) (sym (same_Some r s is)) h.1;
}

-- There is a request on an open port.
pub open-holds : (is_open : Bool) (port : PortPhase) (want : Option Request) → is_open ≡ true → PortHolds is_open port want → (r : Request)
    × Holds port r
open-holds true port None on h = absurd h
open-holds true port (Some r) on h = (r, subst⁻¹ (λ x. Holds x r) h refl)
open-holds false port want on h = cc

pub closes-open : (answer : Withdrawal) (p : Port) (is_open : Bool) (want : Option Request) (old new : SideView) → is_open ≡ true
    → PortHolds is_open (port_phase (old.port p)) want
    → ((r : Request) → Holds (port_phase (old.port p)) r → SideWithdraws answer p r old new) → Closes p is_open want answer old new
closes-open answer p true None old new on h withdrawn = absurd h
closes-open answer p true (Some r) old new on h withdrawn = closes-wanted answer p r old new (withdrawn r (subst⁻¹ (λ x. Holds x r) h refl))
closes-open answer p false want old new on h withdrawn = cc

-- A cycle but for its clock.

told_on : {old new : SideView} → KeepsSide old new → IsTrue old.tells_distances → IsTrue new.tells_distances
told_on kept told = kept.tells_distances ∙ told

port_phase-left : (p q : Port) (old new : SideView) → LeavesPort p old new → q ≢ p → core_of q ≡ core_of p
    → port_phase (new.port q) ≡ port_phase (old.port q)
port_phase-left p q old new h ne same = port_phase-evolves _ _ (h.port q ne same)

unmet-some : {W : Type 0} (want : Option W) (answer : Option ℕ) → is_unmet want answer ≡ true → is_some want ≡ true
unmet-some None None unmet = cc
unmet-some None (Some word) unmet = cc
unmet-some (Some want) answer unmet = refl

unmet-fetch : (want answer : Option ℕ) → is_unmet (option_map fetch_of want) answer ≡ is_unmet want answer
unmet-fetch None None = refl
unmet-fetch None (Some word) = refl
unmet-fetch (Some addr) None = refl
unmet-fetch (Some addr) (Some word) = refl

opens-fetch : (is_open : Bool) (want : Option ℕ) → is_some (opens is_open (option_map fetch_of want)) ≡ is_some (opens is_open want)
opens-fetch true want = refl
opens-fetch false None = refl
opens-fetch false (Some addr) = refl

wait_less : (is_open : Bool) (a b bound bound_after x : ℕ) → bound_after ≡ bound → b ≤ a → x ≤ wait_left is_open b bound_after
    → x ≤ wait_left is_open a bound
wait_less true a b bound bound_after x same h k = omega arith
wait_less false a b bound bound_after x same h k = omega arith

fits-fetch : (image side_image : ImageValue) (core : ℕ) (want answer : Option ℕ) → side_image ≡ image
    → Fits side_image (Fetch core) (option_map fetch_of want) answer → FetchFits image want answer
fits-fetch image side_image core want None same h = tt
fits-fetch image side_image core None (Some word) same h = h
fits-fetch image side_image core (Some addr) (Some word) same h = h ∙ ap (λ (image : ImageValue). slice_index image.code (addr / 4)) same

fits-reply : (image : ImageValue) (core : ℕ) (want : Option Request) (answer : Option ℕ) → Fits image (Access core) want answer
    → ReplyFits want answer
fits-reply image core want None h = tt
fits-reply image core None (Some word) h = h
fits-reply image core (Some r) (Some word) h = tt

module _ (e : EngineView) (lane : Lane) (came : Came) (s0 s1 s2 s3 s4 s5 : SideView) (coupled : IsCoupled e s0 lane)
    (a : Opens (Access lane.core) lane.open_access e.access s0 s1)
    (b : Opens (Fetch lane.core) lane.open_fetch (option_map fetch_of e.fetch) s1 s2)
    (c : TakesUp (Access lane.core) e.access came.reply s2 s3)
    (d : TakesUp (Fetch lane.core) (option_map fetch_of e.fetch) came.fetched s3 s4)
    (k : StepsOn lane.core (is_unmet e.access came.reply || is_unmet e.fetch came.fetched) came.step s4 s5) where
  abbrev access : Port
  access = Access lane.core

  abbrev fetch : Port
  fetch = Fetch lane.core

  kept2 : KeepsSide s0 s2
  kept2 = keeps-then s0 s1 s2 a.kept b.kept

  kept3 : KeepsSide s0 s3
  kept3 = keeps-then s0 s2 s3 kept2 c.kept

  kept4 : KeepsSide s0 s4
  kept4 = keeps-then s0 s3 s4 kept3 d.kept

  taken-all : s5.taken ≡ s0.taken ++ executed_by e.core e.access came.reply
  taken-all =
      let core : executed_by lane.core e.access came.reply ≡ executed_by e.core e.access came.reply =
      ap (λ core. executed_by core e.access came.reply) (sym coupled.core) in
      k.stays.taken ∙ (d.taken ∙ (append-nil s3.taken
      ∙ (c.taken ∙ (ap (λ own. own ++ executed_by lane.core e.access came.reply) (b.taken ∙ a.taken)
      ∙ ap (λ more. s0.taken ++ more) core))))

  asks-fetch : s5.asks_left fetch + one_if (is_some (opens lane.open_fetch e.fetch)) ≡ s0.asks_left fetch
  asks-fetch =
      let same : s5.asks_left fetch ≡ s2.asks_left fetch = k.stays.asks fetch refl ∙ (d.asks ∙ c.other.asks fetch (λ e. cc) refl) in
      ap (λ n. n + one_if (is_some (opens lane.open_fetch e.fetch))) same
      ∙ (ap (λ asked. s2.asks_left fetch + one_if asked) (sym (opens-fetch lane.open_fetch e.fetch))
      ∙ (b.asks ∙ a.other.asks fetch (λ e. cc) refl))

  asks-access : s5.asks_left access + one_if (is_some (opens lane.open_access e.access)) ≡ s0.asks_left access
  asks-access =
      let same : s5.asks_left access ≡ s1.asks_left access = k.stays.asks access refl
      ∙ (d.other.asks access (λ e. cc) refl ∙ (c.asks ∙ b.other.asks access (λ e. cc) refl)) in
      ap (λ n. n + one_if (is_some (opens lane.open_access e.access))) same ∙ a.asks

  waits-fetch : IsTrue s0.tells_distances → is_unmet e.fetch came.fetched ≡ true
      → s5.remaining_wait fetch + 1 ≤ wait_left lane.open_fetch (s0.remaining_wait fetch) s0.bound
  waits-fetch told unmet =
      let wanted = unmet-fetch e.fetch came.fetched ∙ unmet in
      let was = a.other.remaining_wait told fetch (λ e. cc) refl in
      let opened = b.remaining_wait (told_on a.kept told) (unmet-some (option_map fetch_of e.fetch) came.fetched wanted) in
      let passed = c.other.remaining_wait (told_on kept2 told) fetch (λ e. cc) refl in
      let took = d.remaining_wait (told_on kept3 told) wanted in
      let less = k.remaining_wait (told_on kept4 told) (or_right _ _ unmet) fetch refl in
      let one = took.0 in
      let same = took.1 in
      wait_less lane.open_fetch _ _ _ _ _ a.kept.bound was
      (let all : s5.remaining_wait fetch + 1
      ≤ wait_left lane.open_fetch (s1.remaining_wait fetch) s1.bound = omega (arith, opened, passed, one, same, less) in all)

  waits-access : IsTrue s0.tells_distances → is_unmet e.access came.reply ≡ true
      → s5.remaining_wait access + 1 ≤ wait_left lane.open_access (s0.remaining_wait access) s0.bound
  waits-access told unmet =
      let opened = a.remaining_wait told (unmet-some e.access came.reply unmet) in
      let passed = b.other.remaining_wait (told_on a.kept told) access (λ e. cc) refl in
      let took = c.remaining_wait (told_on kept2 told) unmet in
      let later = d.other.remaining_wait (told_on kept3 told) access (λ e. cc) refl in
      let less = k.remaining_wait (told_on kept4 told) (or_left _ _ unmet) access refl in
      let one = took.0 in
      let same = took.1 in
      omega (arith, opened, passed, one, same, later, less)

  meets-wants : Meets e lane came s0 s5
  meets-wants = record {
    kept = keeps-then s0 s4 s5 kept4 k.stays.kept;
    step = k.step_is;
    fetch = subst⁻¹ (λ port. PortHolds (is_unmet e.fetch came.fetched) port (option_map fetch_of e.fetch))
        (port_phase-evolves _ _ (k.stays.ports fetch refl))
        (subst (λ unmet. PortHolds unmet (port_phase (s4.port fetch)) (option_map fetch_of e.fetch)) (unmet-fetch e.fetch came.fetched)
        d.port);
    access = subst⁻¹ (λ port. PortHolds (is_unmet e.access came.reply) port e.access)
        (port_phase-evolves _ _ (k.stays.ports access refl) ∙ port_phase-left fetch access s3 s4 d.other (λ e. cc) refl) c.port;
    fetch_fits = fits-fetch e.image s3.image lane.core e.fetch came.fetched (kept3.image ∙ sym coupled.image) d.fits;
    reply_fits = fits-reply s2.image lane.core e.access came.reply c.fits;
    taken = taken-all;
    asks = record { fetch = asks-fetch; access = asks-access };
    waits = record { fetch = waits-fetch; access = waits-access };
    idle = k.idle;
  }

pub meets : (e : EngineView) (lane : Lane) (came : Came) (access fetch : Option Request) (open_access open_fetch : Bool)
    (s0 s1 s2 s3 s4 s5 : SideView) → IsCoupled e s0 lane
    → access ≡ e.access → fetch ≡ option_map fetch_of e.fetch → open_access ≡ is_unmet access came.reply
    → open_fetch ≡ is_unmet fetch came.fetched
    → Opens (Access lane.core) lane.open_access access s0 s1 → Opens (Fetch lane.core) lane.open_fetch fetch s1 s2
    → TakesUp (Access lane.core) access came.reply s2 s3 → TakesUp (Fetch lane.core) fetch came.fetched s3 s4
    → StepsOn lane.core (open_access || open_fetch) came.step s4 s5 → Meets e lane came s0 s5
meets e lane came access fetch open_access open_fetch s0 s1 s2 s3 s4 s5 coupled is_access is_fetch on_access on_fetch a b c d k =
    let unmet_access : open_access ≡ is_unmet e.access came.reply = on_access ∙ ap (λ want. is_unmet want came.reply) is_access in
    let unmet_word : open_fetch ≡ is_unmet e.fetch came.fetched = on_fetch
    ∙ (ap (λ want. is_unmet want came.fetched) is_fetch ∙ unmet-fetch e.fetch came.fetched) in
    meets-wants e lane came s0 s1 s2 s3 s4 s5 coupled
    (subst⁻¹ (λ want. Opens (Access lane.core) lane.open_access want s0 s1) (sym is_access) a)
    (subst⁻¹ (λ want. Opens (Fetch lane.core) lane.open_fetch want s1 s2) (sym is_fetch) b)
    (subst⁻¹ (λ want. TakesUp (Access lane.core) want came.reply s2 s3) (sym is_access) c)
    (subst⁻¹ (λ want. TakesUp (Fetch lane.core) want came.fetched s3 s4) (sym is_fetch) d)
    (subst (λ (is_open : Bool). StepsOn lane.core is_open came.step s4 s5) (rw (unmet_access, unmet_word) refl) k)

-- A wanted access may be asked.
pub access-proper : (e : EngineView) (image : ImageValue) (core : ℕ) (r : Request) → e.image ≡ image → IsSound e → e.access ≡ Some r
    → MayAsk image (Access core) r
access-proper e image core r same sound want =
    subst (λ (x : ImageValue). IsProperAccess x r.kind r.addr) same (request-proper e.image e.executed e.state r (sound.access_next r want))

-- The steps of an engine are those of its core by itself.

-- Where nothing is executed.
runs-rests : (old new : EngineView) (es : List Entry) → KeepsEngine old new → Rests old new → HasCome old es → HasCome new es
runs-rests old new es k r h = record { comes = rw (k.image, k.core, k.cores, r.executed, r.state) h.comes }

-- One instruction without an access.
runs-goes : (old new : EngineView) (es : List Entry) → KeepsEngine old new → GoesOn old new → HasCome old es → HasCome new es
unfolding next_in
runs-goes old new es k g h =
    record {
      comes = rw (k.image, k.core, k.cores, g.executed, g.state)
          (comes-goes old.image.code (memory_bytes old.image) (start_state old.image old.core old.cores) es old.executed old.state _ h.comes
          (next-goes old.image old.executed old.state g.no_stop g.no_access));
    }

-- One access.
does : (e : EngineView) (es : List Entry) (r : Request) (word : ℕ) → request e.image e.executed e.state ≡ Some r → HasCome e es →
    ComesTo e.image.code (memory_bytes e.image) (start_state e.image e.core e.cores) (es ++ entry_of e.core r word ∷ []) (e.executed + 1)
    (finish e.image e.state word)
unfolding next_in finish entry_of
does e es r word next h =
    let asks = request-asks e.image e.executed e.state r next in
    subst⁻¹ (λ n. ComesTo e.image.code (memory_bytes e.image) (start_state e.image e.core e.cores)
    (es ++ made e.core n (access_of r) word ∷ []) (e.executed + 1) (finish e.image e.state word)) asks.1
    (comes-does e.image.code (memory_bytes e.image) (start_state e.image e.core e.cores) e.core es e.executed e.state (access_of r) word
    h.comes asks.0)

runs-finishes : (want : Option Request) (word : ℕ) (old new : EngineView) (es : List Entry) → old.access ≡ want → IsSound old
    → KeepsEngine old new → Finishes word old new → ReplyFits want (Some word) → HasCome old es
    → HasCome new (es ++ executed_by old.core want (Some word))
runs-finishes None word old new es is sound k f fits h = absurd fits
runs-finishes (Some r) word old new es is sound k f fits h =
    record { comes = rw (k.image, k.core, k.cores, f.executed, f.state) (does old es r word (sound.access_next r is) h) }

-- Where nothing is executed by an answer.
runs-none : (old new : EngineView) (es : List Entry) → HasCome new es → HasCome new (es ++ executed_by old.core old.access None)
runs-none old new es h = subst⁻¹ (λ es. HasCome new es) (ap (λ more. es ++ more) (executed-none old.core old.access) ∙ append-nil es) h

runs-acts : (reply : Option ℕ) (result : Progress) (old new : EngineView) (es : List Entry) → IsSound old → KeepsEngine old new
    → Acts reply result old new → ReplyFits old.access reply → HasCome old es
    → HasCome new (es ++ executed_by old.core old.access reply)
runs-acts (Some word) progress.Running old new es sound k a fits h = runs-finishes old.access word old new es refl sound k a.0 fits h
runs-acts (Some word) (progress.Stopped why) old new es sound k a fits h = absurd a
runs-acts None progress.Running old new es sound k a fits h =
    runs-none old new es (elim a.0 as (λ _. HasCome new es) [ inl r ↦ runs-rests old new es k r h | inr g ↦ runs-goes old new es k g h ])
runs-acts None (progress.Stopped why) old new es sound k a fits h = runs-none old new es (runs-rests old new es k a.1.0 h)

-- An engine that was clocked with what came runs on as its side is.
pub runs-clocked : (came : Came) (result : Progress) (e f : EngineView) (lane : Lane) (old new : SideView) → IsSound e
    → Clocks came.fetched came.reply result e f → Meets e lane came old new → HasCome e old.taken → HasCome f new.taken
runs-clocked came result e f lane old new sound k m h =
    subst⁻¹ (λ es. HasCome f es) m.taken (runs-acts came.reply result e f old.taken sound k.kept k.acts m.reply_fits h)

-- The end of a core.

-- At a stop no access is open.
pub open-lives : (e : EngineView) (s : SideView) (lane : Lane) → IsCoupled e s lane → StopsWhereDead e → lane.open_access ≡ true
    → e.is_live ≡ true
open-lives e s lane h dead on =
    let r = open-wants lane.open_access (port_phase (s.port (Access lane.core))) e.access on h.access in
    let no_stop = request-no_stop e.image e.executed e.state r.0 (h.sound.access_next r.0 r.1) in
    elim (cases_Bool e.is_live) as (λ _. e.is_live ≡ true) [ inl l ↦ l | inr d ↦ (let stop_is = (dead d).1 in cc) ]
  where
    open-wants : (is_open : Bool) (port : PortPhase) (want : Option Request) → is_open ≡ true → PortHolds is_open port want → (r : Request)
        × (want ≡ Some r)
    open-wants true port None on h = absurd h
    open-wants true port (Some r) on h = (r, refl)
    open-wants false port want on h = cc

-- What became of a port that was seen before.
was-before : (answer : Withdrawal) (r : Request) (before state : PortState) → Evolves before state → WasOn state r answer
    → WasOn before r answer
was-before withdrawal.Withdrawn r before state (inl e) h = subst (λ (s : PortState). IsUnanswered s) e h
was-before withdrawal.Withdrawn r before state (inr s) h = absurd (subst (λ (s : PortState). IsUnanswered s) s.1.1.1 h)
was-before (withdrawal.Answered word) r before state e h = evolves-twice e h

-- Behind the end of its access a core's fetch is open as it was.
pub fetch-held : (e : EngineView) (lane : Lane) (access : Withdrawal) (s0 s1 : SideView) → IsCoupled e s0 lane
    → Closes (Access lane.core) lane.open_access e.access access s0 s1
    → PortHolds lane.open_fetch (port_phase (s1.port (Fetch lane.core))) (option_map fetch_of e.fetch)
fetch-held e lane access s0 s1 coupled a =
    subst⁻¹ (λ port. PortHolds lane.open_fetch port (option_map fetch_of e.fetch))
    (port_phase-left (Access lane.core) (Fetch lane.core) s0 s1 a.other (λ e. cc) refl) coupled.fetch

module _ (e : EngineView) (lane : Lane) (access fetch : Withdrawal) (s0 s1 s2 : SideView) (coupled : IsCoupled e s0 lane)
    (a : Closes (Access lane.core) lane.open_access e.access access s0 s1)
    (b : Closes (Fetch lane.core) lane.open_fetch (option_map fetch_of e.fetch) fetch s1 s2) where
  pub closed-was : lane.open_fetch ≡ true → (addr : ℕ) → e.fetch ≡ Some addr → WasOn (s0.port (Fetch lane.core)) (fetch_of addr) fetch
  closed-was on addr want = was-before fetch (fetch_of addr) _ _ (a.other.port (Fetch lane.core) (λ e. cc) refl)
      (b.was on (fetch_of addr) (ap (option_map fetch_of) want))

  pub closed-taken : s2.taken ≡ s0.taken ++ executed_by e.core e.access (late_reply lane.open_access access)
  closed-taken = b.taken ∙ (append-nil s1.taken
      ∙ (a.taken ∙ ap (λ core. s0.taken ++ executed_by core e.access (late_reply lane.open_access access)) (sym coupled.core)))

  pub closed-asks : (q : Port) → core_of q ≡ lane.core → s2.asks_left q ≡ s0.asks_left q
  closed-asks (Fetch core) same =
      subst⁻¹ (λ core. s2.asks_left (Fetch core) ≡ s0.asks_left (Fetch core)) same (b.asks ∙ a.other.asks (Fetch lane.core) (λ e. cc) refl)
  closed-asks (Access core) same =
      subst⁻¹ (λ core. s2.asks_left (Access core) ≡ s0.asks_left (Access core)) same
      (b.other.asks (Access lane.core) (λ e. cc) refl ∙ a.asks)

runs-ends : (reply : Option ℕ) (e f : EngineView) (es : List Entry) → IsSound e → Drains reply e f → ReplyFits e.access reply → HasCome e es
    → HasCome f (es ++ executed_by e.core e.access reply)
runs-ends None e f es sound d fits h = runs-none e f es (runs-rests e f es d.kept d.ends h)
runs-ends (Some word) e f es sound d fits h = runs-finishes e.access word e f es refl sound d.kept d.ends fits h

open-fits : (port : PortPhase) (want : Option Request) (reply : Option ℕ) → PortHolds true port want → ReplyFits want reply
open-fits port None reply h = absurd h
open-fits port (Some r) None h = tt
open-fits port (Some r) (Some word) h = tt

-- An engine that was drained with what became of its open access has run as its side tells.
pub runs-drained : {E : Type 0} (view : E → EngineView) (times : ServiceHistory → E → Type 0) (is_open : Bool) (answer : Withdrawal)
    (e f : E) (port : PortPhase) (es : List Entry) → IsSound (view e)
    → IsDrained view times is_open answer e f → PortHolds is_open port (view e).access → HasCome (view e) es
    → HasCome (view f) (es ++ executed_by (view e).core (view e).access (late_reply is_open answer))
runs-drained view times true answer e f port es sound d on h =
    runs-ends (found_by answer) (view e) (view f) es sound d.0 (open-fits port (view e).access (found_by answer) on) h
runs-drained view times false answer e f port es sound d on h = runs-none (view e) (view f) es (subst⁻¹ (λ f. HasCome (view f) es) d h)
