-- An engine without a pipeline: what its clocks do, and its times.
use Rattle.std.proofs.Common.{◌≡◌, ℕ, ◌+◌, List, [], ◌∷◌, ◌++◌, length, refl, ap, sym, ◌∙◌, arith}
use Rattle.std.specs.Prelude.{Some, IsSome, map}
use Rattle.std.proofs.lemmas.List.{map-append, length-map, length-append}
use Rattle.mips_isa.specs.declared.CoreState.{CoreState}
use Rattle.image_file.specs.Value.{ImageValue}
use Rattle.access_log.specs.declared.request.Request.{Request}
use Rattle.access_log.specs.declared.Entry.{Entry}
use Rattle.access_log.specs.Requests.{entry_of}
use Rattle.access_log.specs.Stamps.{Stamp, stamped}
use Rattle.mem_port.specs.Loaded.{request}
use Rattle.mem_port.specs.Engine.{EngineView, IsSound}
use Rattle.mem_port.specs.ServiceHistory.{ServiceHistory, with_clock}
use Rattle.mem_port.proofs.LoadedLaws.{stops-stop, goes-stop, goes-request, goes-quiet, asks-request, request-nth}
use Rattle.core_run.specs.PlainView.{wanted_access, under_way, left_out, is_drained, plain_view, in_own_cycles, IsUnstalled, IsPlainHistory}
use Rattle.core_run.specs.declared.plain.Phase.{Phase}
use Rattle.core_run.specs.declared.plain.Phase.TheVariants as phases

-- What a core does next, in the words of the law of engines.
pub ruleset next_words = (stops-stop, goes-stop, goes-request, goes-quiet, asks-request)

pub access-sound : (image : ImageValue) (core cores : ℕ) (state : CoreState) (executed clocks_left : ℕ) (r : Request)
    → request image executed state ≡ Some r
    → IsSound (plain_view image core cores state executed (phases.Access r) clocks_left)
access-sound image core cores state executed clocks_left r next = record { fetch_on_code = λ addr h. cc; access_next = λ q h. next ∙ h }

-- It waits for an answer only in an access.
pub waits_for : (phase : Phase) → IsSome (wanted_access phase) → (r : Request)
    × ((phase ≡ phases.Access r) × (wanted_access phase ≡ Some r))
waits_for phases.Begin h = cc
waits_for (phases.Access r) h = (r, (refl, refl))
waits_for phases.Stopped h = cc
waits_for phases.GivenUp h = cc
waits_for phases.FoundDone h = cc

entry_of-nth : (core : ℕ) (r : Request) (old : ℕ) → (entry_of core r old).nth ≡ r.nth
unfolding entry_of
entry_of-nth core r old = refl

-- The cycles of accesses, and of one more.
own_cycles-snoc : (earlier : ℕ) (entries : List Entry) (entry : Entry) →
    in_own_cycles earlier (entries ++ entry ∷ []) ≡ in_own_cycles earlier entries
    ++ record { entry = entry; cycle = entry.nth + (earlier + length entries) + 2 } ∷ []
own_cycles-snoc earlier [] entry = (let none : earlier + 0 ≡ earlier = omega arith in rw none refl)
own_cycles-snoc earlier (first ∷ entries) entry =
    let at : earlier + 1 + length entries ≡ earlier + length (first ∷ entries) = omega arith in
    rw (own_cycles-snoc (earlier + 1) entries entry, at) refl

-- One access more, in its cycle.
own_cycles-more : (accesses : List Stamp) (entry : Entry) (clock : ℕ)
    → accesses ≡ in_own_cycles 0 (map (λ (stamp : Stamp). stamp.entry) accesses) → clock ≡ entry.nth + length accesses + 2
    → accesses ++ stamped clock (entry ∷ [])
    ≡ in_own_cycles 0 (map (λ (stamp : Stamp). stamp.entry) (accesses ++ stamped clock (entry ∷ [])))
own_cycles-more accesses entry clock are at =
    let entries = map (λ (stamp : Stamp). stamp.entry) accesses in
    let count : length entries ≡ length accesses = length-map accesses (λ (stamp : Stamp). stamp.entry) in
    let cycle : entry.nth + (0 + length entries) + 2 ≡ clock = omega (arith, count) in
    let more = own_cycles-snoc 0 entries entry in
    rw (map-append, more, cycle, ← are) refl

-- Where the answer to an access came, in a clock or at the end of its budget.
pub answered : (p q : ServiceHistory) (old new : EngineView) (before after : Phase) (r : Request) (word : ℕ) → before ≡ phases.Access r
    → old.access ≡ Some r → under_way after ≡ 0 → IsPlainHistory p old before
    → q.service.clocks + left_out after ≡ p.service.clocks + 1 → q.service.unmet ≡ p.service.unmet → q.service.words ≡ p.service.words
    → q.service.accesses ≡ with_clock p.service.accesses old (Some word) (p.service.clocks + 1) → new.executed ≡ old.executed + 1
    → (q.bound ≡ Some 0 → IsUnstalled q) → q.is_drained ≡ is_drained after → IsSound new → IsPlainHistory q new after
answered p q old new before after r word waits wanted done was clocks unmet words accesses more unstalled drained sound =
    let entry = entry_of old.core r word in
    let longer : q.service.accesses ≡ p.service.accesses ++ stamped (p.service.clocks + 1) (entry ∷ []) = accesses ∙ rw wanted refl in
    let count : length (p.service.accesses ++ stamped (p.service.clocks + 1) (entry ∷ [])) ≡ length p.service.accesses + 1 =
    length-append p.service.accesses (stamped (p.service.clocks + 1) (entry ∷ [])) in
    let number : length q.service.accesses ≡ length p.service.accesses + 1 = ap length longer ∙ count in
    let nth = entry_of-nth old.core r word ∙ request-nth old.image old.executed old.state r (was.sound.access_next r wanted) in
    let begun : under_way before ≡ 1 = rw waits refl in
    let made : left_out before ≡ 0 = rw waits refl in
    let had = was.clocks in
    let words_had = was.words in
    let accesses_had = was.accesses in
    record {
      clocks = omega (arith, had, clocks, unmet, number, more, begun, made, done);
      words = omega (arith, words_had, words, more, begun, done);
      accesses = omega (arith, accesses_had, number, more);
      cycles = λ none. (let none_before : p.service.unmet ≡ 0 = sym unmet
          ∙ none in rw longer (own_cycles-more p.service.accesses entry (p.service.clocks + 1) (was.cycles none_before)
          (omega (arith, had, none_before, nth, begun, made))));
      unstalled = unstalled;
      drained = drained;
      sound = sound;
    }
