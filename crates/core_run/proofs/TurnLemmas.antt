-- What the turn of a core makes of its calls and of the history.
use Rattle.std.proofs.Common.{◌≡◌, ◌≢◌, ℕ, ◌+◌, ◌≤◌, inl, inr, Bool, true, false, Some, None, List, [], ◌∷◌, ◌++◌, length, append-nil, refl}
use Rattle.std.proofs.Common.{ap, sym, ◌∙◌, subst, arith}
use Rattle.std.specs.Prelude.{Option, map, flat_map}
use Rattle.std.specs.List.{AllByRecursion}
use Rattle.std.proofs.lemmas.List.{append_cancel_left, map-append}
use Rattle.std.proofs.lemmas.Grind.{flat_map-append}
use Rattle.std_laws.proofs.ListLaws.{AllByRecursion-append}
use Rattle.access_log.specs.declared.Entry.{Entry}
use Rattle.access_log.specs.declared.Item.{Item}
use Rattle.access_log.specs.declared.request.Request.{Request}
use Rattle.access_log.specs.Items.{entries, own_items}
use Rattle.access_log.specs.Requests.{entry_of}
use Rattle.access_log.specs.Stamps.{Stamp, stamped}
use Rattle.access_log.proofs.ItemLaws.{entries-append, own_items-append}
use Rattle.timetable.specs.declared.End.{End}
use Rattle.mem_port.specs.declared.port.Port.{Port}
use Rattle.mem_port.specs.declared.port.Port.TheVariants.{Access}
use Rattle.mem_port.specs.declared.port.PortState.{PortState}
use Rattle.mem_port.specs.declared.port.PortState.TheVariants.{Free, Asked, Waiting, Answered, Closed}
use Rattle.mem_port.specs.Calls.{Call, Lead}
use Rattle.mem_port.specs.Ports.{IsWaiting, HoldsEntry, taken_of}
use Rattle.mem_port.specs.Memory.{MemoryView, IsLawful, IsAtOnce, committed}
use Rattle.mem_port.specs.Engine.{EngineView}
use Rattle.mem_port.specs.ServiceHistory.{ServiceHistory}
use Rattle.mem_port.specs.Side.{SideView, PortPhase, LeavesOthers, Evolves, port_phase, side_of}
use Rattle.core_run.specs.declared.lane.Lane.{Lane}
use Rattle.core_run.specs.Lanes.{PortHolds, IsCoupled, IsClosed, IsQuiet}
use Rattle.core_run.specs.Running.{IsOn, IsOnOrOver, AreOfCycle, IsServedAt, ReceivesOne}
use Rattle.core_run.specs.Serial.{AddsOwn, IsTurn, Leads, Receives}
use Rattle.core_run.proofs.LeadLaws.{lead-append}
use Rattle.core_run.proofs.OwnLemmas.{entries-own, own-all}
use Rattle.core_run.proofs.DoneLaws.{taken-all}
use Rattle.core_run.proofs.StampLemmas.{entries-stamped}

-- Every answer comes as its request is served, so that nothing waits.
none-waits : (m : MemoryView) → IsLawful m → IsAtOnce m → (q : Port) → IsWaiting (m.port q) → ⊥
none-waits m lawful once q h =
    let near = lawful.near once.told q h in
    let bound = once.bound in
    omega (arith, near.0, near.1, bound)

pub once-along : {old new : MemoryView} → new.tells_distances ≡ old.tells_distances → new.bound ≡ old.bound → IsAtOnce old → IsAtOnce new
once-along told bound once = record { told = told ∙ once.told; bound = bound ∙ once.bound }

-- So a port that another core's turn leaves is as it was.
port-same : (m : MemoryView) → IsLawful m → IsAtOnce m → (q : Port) (state : PortState) → Evolves (m.port q) state → state ≡ m.port q
port-same m lawful once q state (inl same) = same
port-same m lawful once q state (inr h) =
    let P : PortState → Type 0 = λ s. IsWaiting s in
    absurd (none-waits m lawful once q (subst P (sym h.1.1.0) tt))

-- A core that took nothing, and whose port is as it was, has made no access.
same-own : (port : PortState) (core : ℕ) (own more : List Entry) → HoldsEntry core own port → HoldsEntry core (own ++ more) port
    → taken_of port (own ++ more) ≡ taken_of port own → own ++ more ≡ own
same-own Free core own more was is taken = taken
same-own (Asked r) core own more was is taken = taken
same-own (Waiting r) core own more was is taken = taken
same-own (Answered r word) core own more was is taken = is ∙ (ap (λ t. t ++ entry_of core r word ∷ []) taken ∙ sym was)
same-own Closed core own more was is taken = taken

-- What a core took in its turn is what was added.
module _ (core : ℕ) (old new : MemoryView) (was : IsLawful old) (is : IsLawful new) (once : IsAtOnce old) (left : LeavesOthers core old new)
  where
    abbrev added : List Item
    added = left.history.0

    own-added : (any : ℕ) → own_items new.history any ≡ own_items old.history any ++ own_items added any
    own-added any = ap (λ t. own_items t any) left.history.1 ∙ own_items-append old.history added any

    none-other : (other : ℕ) → other ≢ core → own_items added other ≡ []
    none-other other ne =
        let own = own_items old.history other in
        let same = port-same old was once (Access other) (new.port (Access other)) (left.ports (Access other) ne) in
        let H : PortState → Type 0 = λ s. HoldsEntry other (own ++ own_items added other) s in
        let T : PortState → Type 0 = λ s. taken_of s (own ++ own_items added other) ≡ taken_of (old.port (Access other)) own in
        let holds = subst (λ (t : List Entry). HoldsEntry other t (new.port (Access other))) (own-added other) (is.served other) in
        let taken = subst (λ (t : List Entry). taken_of (new.port (Access other)) t ≡ committed old other) (own-added other)
        (left.taken other ne) in
        append_cancel_left own (own_items added other) []
        (same-own (old.port (Access other)) other own (own_items added other) (was.served other) (subst H same holds) (subst T same taken)
        ∙ sym (append-nil own))

    pub adds-own : (more : List Entry) → IsQuiet (port_phase (old.port (Access core))) → IsQuiet (port_phase (new.port (Access core)))
        → committed new core ≡ committed old core ++ more → length more ≤ 1 → AddsOwn core more old.history new.history
    adds-own more quiet still taken one = record {
      added = ap entries left.history.1
          ∙ (entries-append old.history added ∙ ap (λ t. entries old.history ++ t) (entries-own added core none-other ∙ own));
      own = subst (λ (t : List Entry). AllByRecursion (λ (e : Entry). e.core ≡ core) t) own (own-all added core);
      one = one;
    }
      where
        own : own_items added core ≡ more
        own =
            let before = taken-all (old.port (Access core)) (own_items old.history core) quiet in
            let after = taken-all (new.port (Access core)) (own_items new.history core) still in
            append_cancel_left (own_items old.history core) (own_items added core) more
            (sym (own-added core) ∙ (sym after ∙ (taken ∙ ap (λ t. t ++ more) before)))

-- The calls of a turn.

pub one-turn : {M : Type 0} (makes : Call → M → M → Type 0) (core : ℕ) (is_last : Bool) (calls : List Call) (old new : M)
    → AreOfCycle core 0 is_last calls → Lead makes calls old new → Leads makes old new
one-turn makes core is_last calls old new are lead =
    (calls ∷ [], (lead-append makes calls [] old new new lead refl, ((core, (is_last, are)), tt)))

pub leads-twice : {M : Type 0} (makes : Call → M → M → Type 0) (old mid new : M) → Leads makes old mid → Leads makes mid new
    → Leads makes old new
leads-twice {M} makes old mid new h k =
    let all = λ (turns : List (List Call)). flat_map (λ turn. turn) turns in
    let L : List Call → Type 0 = λ calls. Lead makes calls old new in (
      h.0 ++ k.0,
      (
        subst L (sym (flat_map-append (λ turn. turn) h.0 k.0)) (lead-append makes (all h.0) (all k.0) old mid new h.1.0 k.1.0),
        AllByRecursion-append IsTurn h.0 k.0 h.1.1 k.1.1,
      ),
    )

pub leads-none : {M : Type 0} (makes : Call → M → M → Type 0) (m : M) → Leads makes m m
leads-none makes m = ([], (refl, tt))

quiet-port_phase : (is_open : Bool) (port : PortPhase) (want : Option Request) → is_open ≡ false → PortHolds is_open port want
    → IsQuiet port
quiet-port_phase false port want closed unasked = rw unasked tt
quiet-port_phase true port want closed h = cc

-- Where nothing is open, no request is on the port for accesses.
pub quiet-closed : (e : EngineView) (s : SideView) (lane : Lane) → IsCoupled e s lane → IsClosed lane
    → IsQuiet (port_phase (s.port (Access lane.core)))
quiet-closed e s lane coupled closed =
    quiet-port_phase lane.open_access (port_phase (s.port (Access lane.core))) e.access closed.access coupled.access

quiet-after : (end : Option End) (budget : ℕ) (s : SideView) (e : EngineView) (lane : Lane) (cycles : ℕ)
    → IsOnOrOver end budget s e lane cycles → IsClosed lane → IsQuiet (port_phase (s.port (Access lane.core)))
quiet-after None budget s e lane cycles h closed = quiet-closed e s lane h.coupled closed
quiet-after (Some end) budget s e lane cycles h closed = h.finished.access

-- What a core receives in its turn is what is added to the history.
module _ {E : Type 0} (view : E → EngineView) (times : ServiceHistory → E → Type 0) (budget cycles : ℕ) (old new : MemoryView)
    (e f : E) (before after : Lane) (end : Option End) (p q : ServiceHistory) where
  pub receives : IsLawful old → IsLawful new → IsAtOnce old → LeavesOthers before.core old new → after.core ≡ before.core
      → IsOn budget (side_of old before.core) (view e) before cycles
      → IsOnOrOver end budget (side_of new before.core) (view f) after (cycles + 1)
      → IsServedAt view times (side_of old before.core) e before None cycles p
      → IsServedAt view times (side_of new before.core) f after end (cycles + 1) q
      → ReceivesOne (cycles + 1) p q → Receives before.core (cycles + 1) old.history new.history p q
  receives was is once left same on behind served now one =
      let entry_in = λ (stamp : Stamp). stamp.entry in
      let first = served.at_once (served.bound ∙ rw (once.told, once.bound) refl) in
      let last = now.at_once (now.bound ∙ rw (left.kept.tells_distances, left.kept.bound, once.told, once.bound) refl) in
      let Q : ℕ → Type 0 = λ k. IsQuiet (port_phase (new.port (Access k))) in
      let taken : committed new before.core ≡ committed old before.core ++ one.more =
      sym now.accesses ∙ (ap (map entry_in) one.received ∙ (map-append _ p.service.accesses (stamped (cycles + 1) one.more)
      ∙ (ap (λ t. t ++ map entry_in (stamped (cycles + 1) one.more)) served.accesses
      ∙ ap (λ t. committed old before.core ++ t) (entries-stamped (cycles + 1) one.more)))) in
      record {
        more = one.more;
        adds = adds-own before.core old new was is once left one.more
            (quiet-closed (view e) (side_of old before.core) before on.coupled first.0)
            (subst Q same (quiet-after end budget (side_of new before.core) (view f) after (cycles + 1) behind last.0)) taken one.one;
        received = one.received;
      }
