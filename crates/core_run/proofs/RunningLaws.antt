-- A core behind its cycle and behind its end, and how its engine was served.
use Rattle.std.proofs.Common.{◌≡◌, ◌≢◌, ℕ, ◌+◌, ◌≤◌, Bool, true, false, Some, None, List, [], ◌++◌, length, refl, ap, sym}
use Rattle.std.proofs.Common.{◌∙◌, subst, arith}
use Rattle.std.specs.Prelude.{Option, map, is_some, ◌==◌, if◌then◌else◌, ◌||◌}
use Rattle.std.proofs.lemmas.List.{map-append}
use Rattle.std.proofs.lemmas.Bool.{eq-eqb, not-true}
use Rattle.std.proofs.lemmas.Option.{same_Some}
use Rattle.std.proofs.Math.Bool.{and-true}
use Rattle.access_log.specs.declared.request.Request.{Request}
use Rattle.access_log.specs.Stamps.{Stamp, stamped}
use Rattle.timetable.specs.declared.End.{End}
use Rattle.timetable.specs.declared.End.TheVariants.{Spent}
use Rattle.mem_port.specs.declared.port.Withdrawal.{Withdrawal}
use Rattle.mem_port.specs.declared.engine.Progress.{Progress}
use Rattle.mem_port.specs.declared.engine.Progress.TheVariants as progress
use Rattle.mem_port.specs.Calls.{Call, Lead}
use Rattle.mem_port.specs.Engine.{EngineView}
use Rattle.mem_port.specs.ServiceHistory.{ServiceHistory, executed_by, is_unmet, one_if}
use Rattle.mem_port.specs.Side.{SideView, KeepsSide}
use Rattle.core_run.specs.declared.lane.Lane.{Lane}
use Rattle.core_run.specs.declared.lane.Came.{Came}
use Rattle.core_run.specs.Cycle.{IsCycle, IsEnding, cycle_calls, end_calls, lane_after, late_reply}
use Rattle.core_run.specs.Lanes.{HasCome, IsCoupled, IsFinished, Progressed, bound_of, history_after}
use Rattle.core_run.specs.Running.{IsOn, IsOver, IsOnOrOver, AreOfCycle, IsServedAt, ReceivesOne, goes_on, end_after}
use Rattle.core_run.proofs.LeadLaws.{lead-append}
use Rattle.core_run.proofs.CycleLaws.{cycle-histories, cycle-no_tighter, cycle-core, ending-core, closed-after}
use Rattle.core_run.proofs.EndLaws.{live-after, end-fits, stopped-closed, stays-closed, dead-stops, last_history, last-clocks, last-bound}
use Rattle.core_run.proofs.EndLaws.{last-accesses, last-tells, last-live, last-same}
use Rattle.core_run.proofs.StampLemmas.{entries-stamped}

-- A side tells that each answer comes as its request is served.
once-told : (told : Bool) (bound : ℕ) → (if told then Some bound else None) ≡ Some 0 → (told ≡ true) × (bound ≡ 0)
once-told true bound h = (refl, same_Some bound 0 h)
once-told false bound h = cc

bound-along : (old new : SideView) → KeepsSide old new → bound_of new ≡ bound_of old
bound-along old new kept = rw (kept.tells_distances, kept.bound) refl

spent-some : (is : Bool) → is ≡ true → (if is then Some Spent else None) ≡ None → ⊥
spent-some true same h = cc
spent-some false same h = cc

-- A cycle that ends nothing leaves its core live, and a cycle of the budget.
runs-on : (result : Progress) (cycles budget : ℕ) (e : EngineView) → Progressed result e → end_after result cycles budget ≡ None
    → (e.is_live ≡ true) × (cycles ≢ budget)
runs-on progress.Running cycles budget e live is = (live, λ at. spent-some (cycles == budget) (eq-eqb cycles budget at) is)
runs-on (progress.Stopped why) cycles budget e h is = cc

few-asks : (is_asked : Bool) → one_if is_asked ≤ 1
few-asks true = omega arith
few-asks false = omega arith

asks-less : (budget old new used cycles : ℕ) → budget ≤ old + cycles → new + used ≡ old → used ≤ 1 → budget ≤ new + (cycles + 1)
asks-less budget old new used cycles h k few = omega arith

-- One execution at most.
executed-one : (core : ℕ) (want : Option Request) (reply : Option ℕ) → length (executed_by core want reply) ≤ 1
executed-one core None reply = omega arith
executed-one core (Some r) None = omega arith
executed-one core (Some r) (Some word) = omega arith

-- A core without an end runs on.
pub is-on : {budget : ℕ} {s : SideView} {e : EngineView} {lane : Lane} {cycles : ℕ} (end : Option End) → end ≡ None
    → IsOnOrOver end budget s e lane cycles → IsOn budget s e lane cycles
is-on None none h = h
is-on (Some end) none h = cc

module _ {E S : Type 0} (view : E → EngineView) (times : ServiceHistory → E → Type 0) (side : S → ℕ → SideView)
    {makes : Call → S → S → Type 0} {pays : ℕ → ℕ → S → S → Type 0} where
  module _ {access fetch : Withdrawal} {e f : E} {s t : S} {before after : Lane}
      (ending : IsEnding view times side makes pays access fetch e f s t before after) where
    -- A core that has ended.
    pub ended-over : {budget cycles : ℕ} (result : Progress) (end : End) → Progressed result (view e)
        → end_after result cycles budget ≡ Some end → cycles ≤ budget
        → IsCoupled (view e) (side s before.core) before → IsFinished (view f) (side t before.core) before.core
        → HasCome (view f) (side t before.core).taken
        → IsOver budget (side t before.core) (view f) after end cycles
    ended-over {budget} {cycles} result end progressed is within coupled finished runs =
        let still = λ (dead : (view e).is_live ≡ false).
        ap view (stays-closed view times before.open_access access e f
        (stopped-closed (view e) (side s before.core) before coupled (dead-stops result (view e) progressed) dead)
        ending.drained) in
        record {
          finished = subst (λ (k : ℕ). IsFinished (view f) (side t before.core) k) (sym (ending-core ending)) finished;
          runs = runs;
          fits = end-fits result cycles budget end (view e) (view f) progressed is within still;
        }

    -- How its engine was served.
    pub served-ending : {cycles : ℕ} (end : End) (p : ServiceHistory) → KeepsSide (side s before.core) (side t before.core)
        → (goes_on (Some end) ≡ false → before.open_access ≡ false)
        → IsServedAt view times (side s before.core) e before (Some end) cycles p
        → IsServedAt view times (side t before.core) f after (Some end) cycles (last_history before.open_access access (view e) p)
    served-ending end p kept closed served = record {
      tells = last-tells view times p before.open_access access ending.drained served.tells;
      clocks = last-clocks (view e) p before.open_access access ∙ served.clocks;
      accesses = last-accesses (view e) p before.open_access access
          ∙ (ap (λ x. x ++ executed_by (view e).core (view e).access (late_reply before.open_access access)) served.accesses
          ∙ sym ending.taken);
      bound = last-bound (view e) p before.open_access access ∙ (served.bound ∙ sym (bound-along _ _ kept));
      live = last-live view times p before.open_access access (goes_on (Some end)) ending.drained served.live;
      stopped = λ dead. ap (λ (q : ServiceHistory). q.is_drained) (last-same (view e) p before.open_access access (closed dead))
          ∙ served.stopped dead;
      tight = λ none. cc;
      at_once = λ once.
          (let was = served.at_once (sym (last-bound (view e) p before.open_access access) ∙ once) in (
            rw ending.lane (record { fetch = refl; access = refl }),
            ap (λ (q : ServiceHistory). q.is_drained) (last-same (view e) p before.open_access access was.0.access) ∙ was.1,
          ));
    }

  module _ {choice : ℕ} {came : Came} {result : Progress} {e f : E} {s t : S} {before after : Lane}
      (cycle : IsCycle view times side makes pays choice came result e f s t before after) where
    -- A core that runs on behind a cycle.
    pub next-on : {budget cycles : ℕ} → Progressed result (view f) → IsOn budget (side s before.core) (view e) before cycles
        → end_after result (cycles + 1) budget ≡ None → IsCoupled (view f) (side t before.core) after
        → (HasCome (view e) (side s before.core).taken → HasCome (view f) (side t before.core).taken)
        → IsOn budget (side t before.core) (view f) after (cycles + 1)
    next-on {budget} {cycles} progressed on none coupled runs =
        let now = runs-on result (cycles + 1) budget (view f) progressed none in
        let behind = now.1 in
        let clocks = cycle.clock.clocks in
        record {
          coupled = coupled;
          runs = runs on.runs;
          live = now.0;
          more = omega (arith, on.more, behind);
          clocks = omega (arith, on.clocks, clocks);
          fetches = rw (cycle-core cycle) (asks-less _ _ _ _ _ on.fetches cycle.asks.fetch (few-asks _));
          accesses = rw (cycle-core cycle) (asks-less _ _ _ _ _ on.accesses cycle.asks.access (few-asks _));
        }

    -- How an engine was served behind a cycle.
    pub served-cycle : (budget cycles : ℕ) (p : ServiceHistory) (end : Option End) → KeepsSide (side s before.core) (side t before.core)
        → Progressed result (view f) → (view e).is_live ≡ true → IsServedAt view times (side s before.core) e before None cycles p
        → end ≡ end_after result (cycles + 1) budget
        → IsServedAt view times (side t before.core) f after end (cycles + 1)
        (history_after came (view e) (side t before.core) after p)
    served-cycle budget cycles p end kept progressed live served ends =
        let loose = cycle-no_tighter view times side makes pays p cycle kept (served.tight refl) in
        let more = executed_by (view e).core (view e).access came.reply in
        let not_drained : p.is_drained ≡ false = not-true p.is_drained (sym served.live ∙ live) in
        record {
          tells = cycle.timed p _ served.tells (cycle-histories view times side makes pays p cycle kept (served.tight refl));
          clocks = ap (λ n. n + 1) served.clocks;
          accesses = map-append _ p.service.accesses (stamped (p.service.clocks + 1) more)
              ∙ (ap (λ x. x ++ map (λ (stamp : Stamp). stamp.entry) (stamped (p.service.clocks + 1) more)) served.accesses
              ∙ (ap (λ x. (side s before.core).taken ++ x) (entries-stamped (p.service.clocks + 1) more) ∙ sym cycle.taken));
          bound = loose.bound;
          live = rw (not_drained, ends) (live-after result (cycles + 1) budget (view f) progressed ∙ sym (and-true _));
          stopped = λ dead. not_drained;
          tight = λ none. loose;
          at_once = λ once.
              (let told = once-told _ _ (sym served.bound ∙ once) in (
                closed-after (side s before.core) (side t before.core) before after told.0 told.1 (served.at_once once).0 cycle.waits,
                not_drained,
              ));
        }

    -- What was received in it.
    pub received-cycle : (cycles : ℕ) (p : ServiceHistory) → p.service.clocks ≡ cycles
        → ReceivesOne (cycles + 1) p (history_after came (view e) (side t before.core) after p)
    received-cycle cycles p clocks = record {
      more = executed_by (view e).core (view e).access came.reply;
      one = executed-one _ _ _;
      received = ap (λ n. p.service.accesses ++ stamped (n + 1) (executed_by (view e).core (view e).access came.reply)) clocks;
    }

    -- How it was served by a cycle behind which its core runs on, or ended.
    pub served-on : (budget cycles : ℕ) (p : ServiceHistory) (end : Option End) → KeepsSide (side s before.core) (side t before.core)
        → Progressed result (view f) → (view e).is_live ≡ true → IsServedAt view times (side s before.core) e before None cycles p
        → end ≡ end_after result (cycles + 1) budget
        → (q : ServiceHistory) × (IsServedAt view times (side t before.core) f after end (cycles + 1) q
        × (p.bound ≡ Some 0 → ReceivesOne (cycles + 1) p q))
    served-on budget cycles p end kept progressed live served ends =
        (_, (served-cycle budget cycles p end kept progressed live served ends, λ once. received-cycle cycles p served.clocks))

    pub served-ended : (budget cycles : ℕ) {access fetch : Withdrawal} {g : E} {u : S} {last : Lane}
        → IsEnding view times side makes pays access fetch f g t u after last → (p : ServiceHistory) (end : End)
        → KeepsSide (side s before.core) (side t before.core) → KeepsSide (side t after.core) (side u after.core)
        → IsCoupled (view f) (side t after.core) after → Progressed result (view f) → (view e).is_live ≡ true
        → IsServedAt view times (side s before.core) e before None cycles p
        → Some end ≡ end_after result (cycles + 1) budget
        → (q : ServiceHistory) × (IsServedAt view times (side u before.core) g last (Some end) (cycles + 1) q
        × (p.bound ≡ Some 0 → ReceivesOne (cycles + 1) p q))
    served-ended budget cycles {access} {fetch} {g} {u} {last} ending p end kept keeps coupled progressed live served ends =
        let mid = history_after came (view e) (side t before.core) after p in
        let now = served-cycle budget cycles p (Some end) kept progressed live served ends in
        let here = subst (λ (k : ℕ). IsServedAt view times (side t k) f after (Some end) (cycles + 1) mid) (sym (cycle-core cycle)) now in
        let q = last_history after.open_access access (view f) mid in
        let goes = live-after result (cycles + 1) budget (view f) progressed ∙ ap goes_on (sym ends) in
        let closed = λ (dead : goes_on (Some end) ≡ false).
        stopped-closed (view f) (side t after.core) after coupled (dead-stops result (view f) progressed) (goes ∙ dead) in (
          q,
          (
            subst (λ (k : ℕ). IsServedAt view times (side u k) g last (Some end) (cycles + 1) q) (cycle-core cycle)
                (served-ending ending end mid keeps closed here),
            λ once. subst (λ (h : ServiceHistory). ReceivesOne (cycles + 1) p h)
                (sym (last-same (view f) mid after.open_access access (now.at_once once).0.access)) (received-cycle cycles p served.clocks),
          ),
        )

    stepped : is_some came.step ≡ (is_unmet (view e).access came.reply || is_unmet (view e).fetch came.fetched)
    stepped = let P : Lane → Type 0 = λ l. is_some came.step ≡ (l.open_access || l.open_fetch) in subst P cycle.lane cycle.step

    -- The calls of a cycle, and of one with the end of its core.
    pub calls-on : (calls : List Call) × (AreOfCycle before.core choice false calls × Lead makes calls s t)
    calls-on = (
      cycle_calls choice (view e) before came ++ [],
      (
        record { engine = view e; lane = before; came = came; ending = []; lane_is = refl; are = refl; step = stepped; ends = refl },
        lead-append makes (cycle_calls choice (view e) before came) [] s t t cycle.calls refl,
      ),
    )

    pub calls-ended : {access fetch : Withdrawal} {g : E} {u : S} {last : Lane}
        → IsEnding view times side makes pays access fetch f g t u after last
        → (calls : List Call) × (AreOfCycle before.core choice true calls × Lead makes calls s u)
    calls-ended {access} {fetch} {g} {u} {last} ending =
        let now = lane_after (view e) before came in
        let withdrawn = subst (λ (l : Lane). Lead makes (end_calls l access fetch) t u) cycle.lane ending.calls in (
          cycle_calls choice (view e) before came ++ end_calls now access fetch,
          (
            record {
              engine = view e;
              lane = before;
              came = came;
              ending = end_calls now access fetch;
              lane_is = refl;
              are = refl;
              step = stepped;
              ends = (access, (fetch, refl));
            },
            lead-append makes (cycle_calls choice (view e) before came) (end_calls now access fetch) s t u cycle.calls withdrawn,
          ),
        )
