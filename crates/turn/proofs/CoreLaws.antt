-- What a call does to a core's side, as it was seen before the call and after it.
use Rattle.std.proofs.Common.{◌≡◌, ◌≢◌, ℕ, ◌+◌, ◌-◌, ◌<◌, ◌≤◌, ◌⊎◌, inl, inr, ⊎_elim, true, IsTrue, List, [], ◌++◌, refl, sym, ap, ◌∙◌}
use Rattle.std.proofs.Common.{subst, arith}
use Rattle.std.proofs.Common.{rules, Option, Some, None, eq-eqb}
use Rattle.std.specs.Prelude.{◌==◌, ◌&&◌, if◌then◌else◌}
use Rattle.image_file.specs.Value.{ImageValue}
use Rattle.access_log.specs.declared.request.Request.{Request}
use Rattle.access_log.specs.declared.Entry.{Entry}
use Rattle.mem_port.specs.declared.port.Port.{Port}
use Rattle.mem_port.specs.declared.port.Port.TheVariants.{Fetch, Access}
use Rattle.mem_port.specs.declared.port.PortState.{PortState}
use Rattle.mem_port.specs.declared.port.PortState.TheVariants.{Free, Asked, Waiting, Answered, Closed}
use Rattle.mem_port.specs.declared.port.Moved.{Moved}
use Rattle.mem_port.specs.declared.port.Moved.TheVariants as moved
use Rattle.mem_port.specs.declared.port.Withdrawal.{Withdrawal}
use Rattle.mem_port.specs.declared.port.Withdrawal.TheVariants as withdrawal
use Rattle.mem_port.specs.Ports.{core_of, MayAsk, IsWaiting, IsServed, IsOpen, entries_of}
use Rattle.mem_port.specs.Memory.{MemoryView, IsLawful, Keeps, Asks, Serves, Steps, Takes, Withdraws, committed}
use Rattle.mem_port.specs.Side.{PortPhase, Served, port_phase, Holds, Evolves, KeepsSide, LeavesPort, SideAsks, SideServes, SideSteps}
use Rattle.mem_port.specs.Side.{SideLeaves, SideWaits, SideTakes, SideWithdraws, IsAnswer, side_of, remaining_wait_of}
use Rattle.mem_port.proofs.SideLaws.{port_phase-evolves, port_phase-served, port_phase-open, waiting_along, still_waiting, still_unanswered}
use Rattle.mem_port.proofs.SideLaws.{evolves-twice, remaining_wait-falls, remaining_wait-within, asks-side, serves-side, steps-side}
use Rattle.mem_port.proofs.SideLaws.{takes-side, withdraws-side}
use Rattle.turn.specs.declared.views.PortView.{PortView}
use Rattle.turn.specs.declared.views.CoreView.{CoreView}
use Rattle.turn.specs.Numbers.{with_ask, with_serve, with_step, waits, IsHelped}
use Rattle.turn.specs.Views.{CountedView, PortFits, CoreFits, port_in, port_view, core_view, side_in}
use Rattle.turn.proofs.NumberLaws.{waits-waiting, waits-cases, port-other}

-- What was seen of a port of the core is so.
pub fits-port : (x : CountedView) (p : CoreView) (q : Port) → core_of q ≡ p.core → CoreFits x p → PortFits x q (port_in p q)
fits-port x p (Fetch c) e f = let P : ℕ → Type 0 = λ z. PortFits x (Fetch z) p.fetch in subst P (sym e) f.fetch
fits-port x p (Access c) e f = let P : ℕ → Type 0 = λ z. PortFits x (Access z) p.access in subst P (sym e) f.access

pub port-view : (y : CountedView) (c : ℕ) (q : Port) → core_of q ≡ c → port_in (core_view y c) q ≡ port_view y q
port-view y c (Fetch k) e = ap (λ z. port_view y (Fetch z)) (sym e)
port-view y c (Access k) e = ap (λ z. port_view y (Access z)) (sym e)

-- How long a request still waits, by the steps that helped it.

waiting-is : (s : PortState) → IsWaiting s → (r : Request) × (s ≡ Waiting r)
waiting-is Free h = absurd h
waiting-is (Asked r) h = absurd h
waiting-is (Waiting r) h = (r, refl)
waiting-is (Answered r word) h = absurd h
waiting-is Closed h = absurd h

-- What a memory x has for a call, by what was seen of the core; k has what no call changes.
module _ (k : MemoryView) (x : CountedView) (p : CoreView) (f : CoreFits x p) (const : Keeps k x.memory) where
  port_phase-now : (port : Port) (r : Request) → core_of port ≡ p.core → port_phase (port_in p port).state ≡ Served r
      → port_phase (x.memory.port port) ≡ Served r
  port_phase-now port r e is = port_phase-evolves (port_in p port).state (x.memory.port port) (fits-port x p port e f).state ∙ is

  pub holds-now : (port : Port) (r : Request) → core_of port ≡ p.core → Holds (port_phase (port_in p port).state) r
      → Holds (port_phase (x.memory.port port)) r
  holds-now port r e is = let P : PortPhase → Type 0 =
      λ z. Holds z r in subst P (sym (port_phase-evolves (port_in p port).state (x.memory.port port) (fits-port x p port e f).state)) is

  pub within-now : (port : Port) → core_of port ≡ p.core → core_of port < x.memory.cores
  within-now port e = subst (λ (z : ℕ). z < x.memory.cores) (sym e) f.within

  pub left-now : (port : Port) → core_of port ≡ p.core → 1 ≤ (port_in p port).asks_left → 1 ≤ x.memory.asks_left port
  left-now port e h = subst (λ (z : ℕ). 1 ≤ z) (fits-port x p port e f).asks_left h

  pub proper-now : (port : Port) (r : Request) → MayAsk k.image port r → MayAsk x.memory.image port r
  proper-now port r h = subst (λ (i : ImageValue). MayAsk i port r) (sym const.image) h

  pub free-now : (port : Port) → core_of port ≡ p.core → (port_in p port).state ≡ Free → x.memory.port port ≡ Free
  free-now port e is = let m = (fits-port x p port e f).state in search rules

  pub asked-now : (port : Port) (r : Request) → core_of port ≡ p.core → (port_in p port).state ≡ Asked r → x.memory.port port ≡ Asked r
  asked-now port r e is = let m = (fits-port x p port e f).state in search rules

  pub served-now : (port : Port) (r : Request) → core_of port ≡ p.core → port_phase (port_in p port).state ≡ Served r
      → IsServed (x.memory.port port)
  served-now port r e is = port_phase-served (x.memory.port port) r (port_phase-now port r e is)

  pub open-now : (port : Port) (r : Request) → core_of port ≡ p.core → Holds (port_phase (port_in p port).state) r
      → IsOpen (x.memory.port port)
  open-now port r e is = port_phase-open (x.memory.port port) r (holds-now port r e is)

-- k has what no call changes, x is the memory before the call and y after it, and p is what was seen before.
module _ (k : MemoryView) (x y : CountedView) (p : CoreView) (f : CoreFits x p) (const : Keeps k x.memory) where
  same-side : KeepsSide (side_in k p) (side_in k (core_view y p.core))
  same-side = record { image = refl; cores = refl; tells_distances = refl; bound = refl }

  evolves : (port : Port) → core_of port ≡ p.core → Evolves (x.memory.port port) (y.memory.port port)
      → Evolves (port_in p port).state (port_in (core_view y p.core) port).state
  evolves port e h =
      let P : PortView → Type 0 = λ z. Evolves (port_in p port).state z.state in
      subst P (sym (port-view y p.core port e)) (evolves-twice (fits-port x p port e f).state h)

  state-is : (port : Port) → core_of port ≡ p.core → (port_in (core_view y p.core) port).state ≡ y.memory.port port
  state-is port e = ap (λ z. z.state) (port-view y p.core port e)

  asks-same : (port : Port) → core_of port ≡ p.core → y.memory.asks_left port ≡ x.memory.asks_left port
      → (port_in (core_view y p.core) port).asks_left ≡ (port_in p port).asks_left
  asks-same port e h = ap (λ z. z.asks_left) (port-view y p.core port e) ∙ (h ∙ sym (fits-port x p port e f).asks_left)

  asks-less : (port : Port) → core_of port ≡ p.core → y.memory.asks_left port + 1 ≡ x.memory.asks_left port
      → (port_in (core_view y p.core) port).asks_left + 1 ≡ (port_in p port).asks_left
  asks-less port e h = ap (λ z. z.asks_left + 1) (port-view y p.core port e) ∙ (h ∙ sym (fits-port x p port e f).asks_left)

  taken-more : (c : ℕ) (es : List Entry) → c ≡ p.core → committed y.memory c ≡ committed x.memory c ++ es
      → (core_view y p.core).entries ≡ p.entries ++ es
  taken-more c es e h =
      let P : ℕ → Type 0 = λ z. committed y.memory z ≡ committed x.memory z ++ es in
      subst P e h ∙ ap (λ t. t ++ es) (sym f.entries)

  taken-same : (c : ℕ) → c ≡ p.core → committed y.memory c ≡ committed x.memory c → (core_view y p.core).entries ≡ p.entries
  taken-same c e h =
      let P : ℕ → Type 0 = λ z. committed y.memory z ≡ committed x.memory z in
      subst P e h ∙ sym f.entries

  falls : (port : Port) → core_of port ≡ p.core → Evolves (x.memory.port port) (y.memory.port port)
      → (IsWaiting (y.memory.port port) → x.numbers.helping port ≤ y.numbers.helping port)
      → remaining_wait_of (port_in (core_view y p.core) port).state (k.bound - (port_in (core_view y p.core) port).helping)
      ≤ remaining_wait_of (port_in p port).state (k.bound - (port_in p port).helping)
  falls port e m h =
      let P : PortView → Type 0 = λ z. remaining_wait_of z.state (k.bound - z.helping)
      ≤ remaining_wait_of (port_in p port).state (k.bound - (port_in p port).helping) in
      let same = (fits-port x p port e f).helping in
      subst P (sym (port-view y p.core port e))
      (let falls = remaining_wait-falls (port_in p port).state (y.memory.port port) (k.bound - (port_in p port).helping)
      (k.bound - y.numbers.helping port) 0 (evolves-twice (fits-port x p port e f).state m)
      (λ w. let less = h w in omega (arith, less, same))
      in omega (arith, falls))

  view-other : (port : Port) → core_of port ≡ p.core → LeavesPort port (side_of x.memory (core_of port)) (side_of y.memory (core_of port))
      → ((r : Port) → r ≢ port → y.numbers.helping r ≡ x.numbers.helping r)
      → LeavesPort port (side_in k p) (side_in k (core_view y p.core))
  view-other port e h helping = record {
    port = λ r ne c. evolves r (c ∙ e) (h.port r ne c);
    asks = λ r ne c. asks-same r (c ∙ e) (h.asks r ne c);
    remaining_wait = λ t r ne c. falls r (c ∙ e) (h.port r ne c) (λ w. let i = helping r ne in omega (arith, i));
  }

  pub asks-view : (port : Port) (r : Request) → core_of port ≡ p.core → (port_in p port).state ≡ Free → Asks port r x.memory y.memory
      → y.numbers ≡ with_ask port x.numbers
      → SideAsks port r (side_in k p) (side_in k (core_view y p.core))
  asks-view port r e free h n =
      let m = fits-port x p port e f in
      let was : x.memory.port port ≡ Free = search rules in
      let s = asks-side port r x.memory y.memory was h in
      record {
        kept = same-side;
        other = view-other port e s.other (λ q ne. ap (λ z. z.helping q) n);
        port = state-is port e ∙ s.port;
        asks = asks-less port e s.asks;
        taken = taken-same (core_of port) e s.taken;
      }

  pub serves-view : (port : Port) (r : Request) → core_of port ≡ p.core → IsLawful y.memory → (port_in p port).state ≡ Asked r
      → Serves port r x.memory y.memory → y.numbers ≡ with_serve port x.numbers
      → SideServes port r (side_in k p) (side_in k (core_view y p.core))
  serves-view port r e lawful is h n =
      let m = fits-port x p port e f in
      let was : x.memory.port port ≡ Asked r = search rules in
      let s = serves-side port r x.memory y.memory lawful was h in
      let helping : (q : Port) → q ≢ port → y.numbers.helping q ≡ x.numbers.helping q =
      λ q ne. (ap (λ z. z.helping q) n ∙ (let o = port-other port q ne in rw o refl)) in
      record {
        kept = same-side;
        other = view-other port e s.other helping;
        port = ap port_phase (state-is port e) ∙ s.port;
        asks = asks-same port e s.asks;
        taken = taken-same (core_of port) e s.taken;
        remaining_wait = λ t. let helping = (port_in (core_view y p.core) port).helping in
            let within = remaining_wait-within (port_in (core_view y p.core) port).state (k.bound - helping) in omega (arith, within);
      }

  -- A step helps each request of its core that waits, and no other.
  helped-by : (port : Port) → core_of port ≡ p.core → y.numbers ≡ with_step moved.Moved p.core x.memory x.numbers
      → y.numbers.helping port ≡ (if waits (x.memory.port port) then x.numbers.helping port + 1 else x.numbers.helping port)
  helped-by port e n =
      let own : (p.core == core_of port) ≡ true = eq-eqb _ _ (sym e) in
      let all : y.numbers.helping port
      ≡ (if (p.core == core_of port) && waits (x.memory.port port) then x.numbers.helping port + 1 else x.numbers.helping port) =
      ap (λ z. z.helping port) n in
      rw own at all

  helped-once : (port : Port) → core_of port ≡ p.core → IsWaiting (x.memory.port port)
      → y.numbers ≡ with_step moved.Moved p.core x.memory x.numbers → y.numbers.helping port ≡ x.numbers.helping port + 1
  helped-once port e w n = let on = waits-waiting (x.memory.port port) w in rw on at (helped-by port e n)

  -- What a step helps waited, as it was seen, and is helped by one step.
  pub helped-view : (result : Moved) (port : Port) → core_of port ≡ p.core → y.numbers ≡ with_step result p.core x.memory x.numbers
      → ((port_in (core_view y p.core) port).helping ≡ (port_in p port).helping)
      ⊎ (IsWaiting (port_in p port).state × ((port_in (core_view y p.core) port).helping ≡ (port_in p port).helping + 1))
  helped-view moved.Moved port e n =
      let now = ap (λ z. z.helping) (port-view y p.core port e) in
      let was = (fits-port x p port e f).helping in
      ⊎_elim (λ off. inl (now ∙ ((rw off at (helped-by port e n)) ∙ sym was)))
      (λ w. inr (
        still_waiting (fits-port x p port e f).state w,
        now ∙ (helped-once port e w n ∙ ap (λ k. k + 1) (sym was)),
      ))
      (waits-cases (x.memory.port port))
  helped-view moved.Idle port e n =
      inl (ap (λ z. z.helping) (port-view y p.core port e) ∙ (ap (λ z. z.helping port) n ∙ sym (fits-port x p port e f).helping))

  step-remaining_wait : (result : Moved) (port : Port) → core_of port ≡ p.core
      → SideSteps result p.core (side_of x.memory p.core) (side_of y.memory p.core) → y.numbers ≡ with_step result p.core x.memory x.numbers
      → remaining_wait_of (port_in (core_view y p.core) port).state (k.bound - (port_in (core_view y p.core) port).helping)
      ≤ remaining_wait_of (port_in p port).state (k.bound - (port_in p port).helping) - 1
  step-remaining_wait moved.Moved port e s n =
      let P : PortView → Type 0 = λ z. remaining_wait_of z.state (k.bound - z.helping)
      ≤ remaining_wait_of (port_in p port).state (k.bound - (port_in p port).helping) - 1 in
      let same = (fits-port x p port e f).helping in
      let m = s.stays.ports port e in
      subst P (sym (port-view y p.core port e))
      (remaining_wait-falls (port_in p port).state (y.memory.port port) (k.bound - (port_in p port).helping)
      (k.bound - y.numbers.helping port) 1 (evolves-twice (fits-port x p port e f).state m)
      (λ w. let less = helped-once port e (still_waiting m w) n in omega (arith, less, same)))
  step-remaining_wait moved.Idle port e s n =
      let P : PortView → Type 0 = λ z. remaining_wait_of z.state (k.bound - z.helping)
      ≤ remaining_wait_of (port_in p port).state (k.bound - (port_in p port).helping) - 1 in
      subst P (sym (port-view y p.core port e))
      (remaining_wait-falls (port_in p port).state (y.memory.port port) (k.bound - (port_in p port).helping)
      (k.bound - y.numbers.helping port) 1 (evolves-twice (fits-port x p port e f).state (s.stays.ports port e))
      (λ w. absurd (s.idle refl port e w)))

  -- A request that a step didn't help doesn't wait behind it.
  pub unhelped-view : (result : Moved) (port : Port) → core_of port ≡ p.core
      → SideSteps result p.core (side_of x.memory p.core) (side_of y.memory p.core) → y.numbers ≡ with_step result p.core x.memory x.numbers
      → (port_in (core_view y p.core) port).helping ≡ (port_in p port).helping → IsWaiting (port_in (core_view y p.core) port).state → ⊥
  unhelped-view moved.Moved port e s n same w =
      let here = waiting_along {a = y.memory.port port} (state-is port e) w in
      let more = helped-once port e (still_waiting (s.stays.ports port e) here) n in
      let now = ap (λ z. z.helping) (port-view y p.core port e) in
      let was = (fits-port x p port e f).helping in
      omega (arith, more, now, was, same)
  unhelped-view moved.Idle port e s n same w = s.idle refl port e (waiting_along (state-is port e) w)

  pub steps-view : (result : Moved) → IsLawful x.memory → Steps result x.memory y.memory
      → y.numbers ≡ with_step result p.core x.memory x.numbers
      → SideSteps result p.core (side_in k p) (side_in k (core_view y p.core))
  steps-view result lawful h n =
      let s = steps-side result p.core x.memory y.memory lawful h in
      record {
        stays = record {
          kept = same-side;
          ports = λ port e. evolves port e (s.stays.ports port e);
          asks = λ port e. asks-same port e (s.stays.asks port e);
          taken = taken-same p.core refl s.stays.taken;
        };
        idle = λ is port e w. s.idle is port e (waiting_along (state-is port e) w);
        remaining_wait = λ t port e. step-remaining_wait result port e s n;
      }

  same-helping : y.numbers ≡ x.numbers → (q : Port) → y.numbers.helping q ≡ x.numbers.helping q
  same-helping n q = ap (λ z. z.helping q) n

  view-leaves : (port : Port) (to : PortState) (more : List Entry) → core_of port ≡ p.core
      → SideLeaves port to more (side_of x.memory (core_of port)) (side_of y.memory (core_of port)) → y.numbers ≡ x.numbers
      → SideLeaves port to more (side_in k p) (side_in k (core_view y p.core))
  view-leaves port to more e s n = record {
    kept = same-side;
    other = view-other port e s.other (λ q ne. same-helping n q);
    port = state-is port e ∙ s.port;
    asks = asks-same port e s.asks;
    taken = taken-more (core_of port) more e s.taken;
  }

  view-answer : (port : Port) (r : Request) (w : ℕ) → IsAnswer x.memory.image port r w → IsAnswer k.image port r w
  view-answer port r w h = let P : ImageValue → Type 0 = λ i. IsAnswer i port r w in subst P const.image h

  -- A request that waits was helped by fewer steps than the bound.
  some-remaining_wait : (s : PortState) (port : Port) (helping : ℕ) → IsLawful x.memory → IsHelped x.memory x.numbers
      → helping ≡ x.numbers.helping port → Evolves s (x.memory.port port) → IsWaiting (x.memory.port port) → IsTrue k.tells_distances
      → 1 ≤ remaining_wait_of s (k.bound - helping)
  some-remaining_wait s port helping lawful helped same m w told =
      let t = const.tells_distances ∙ told in
      let near = (lawful.near t port w).0 in
      let within = helped t port w in
      let bound = const.bound in
      let is = waiting-is s (still_waiting m w) in
      let P : PortState → Type 0 = λ z. 1 ≤ remaining_wait_of z (k.bound - helping) in
      subst P (sym is.1) (omega (arith, near, within, bound, same))

  view-waits : (port : Port) (r : Request) → core_of port ≡ p.core → IsLawful x.memory → IsHelped x.memory x.numbers
      → IsWaiting (x.memory.port port) → SideWaits port r (side_of x.memory (core_of port)) (side_of y.memory (core_of port))
      → y.numbers ≡ x.numbers
      → SideWaits port r (side_in k p) (side_in k (core_view y p.core))
  view-waits port r e lawful helped w s n =
      let m = fits-port x p port e f in
      record {
        stays = record {
          kept = same-side;
          ports = λ q c. evolves q (c ∙ e) (s.stays.ports q c);
          asks = λ q c. asks-same q (c ∙ e) (s.stays.asks q c);
          taken = taken-same (core_of port) e s.stays.taken;
        };
        port = state-is port e ∙ s.port;
        some_left = λ t. some-remaining_wait (port_in p port).state port (port_in p port).helping lawful helped m.helping m.state w t;
        remaining_wait = λ t q c. falls q (c ∙ e) (s.stays.ports q c) (λ w. let i = same-helping n q in omega (arith, i));
      }

  pub takes-view : (result : Option ℕ) (port : Port) (r : Request) → core_of port ≡ p.core → IsLawful x.memory → IsHelped x.memory x.numbers
      → port_phase (port_in p port).state ≡ Served r → Takes result port x.memory y.memory → y.numbers ≡ x.numbers
      → SideTakes result port r (side_in k p) (side_in k (core_view y p.core))
  takes-view None port r e lawful helped is h n =
      view-waits port r e lawful helped h.0 (takes-side None port r x.memory y.memory lawful (port_phase-now k x p f const port r e is) h) n
  takes-view (Some w) port r e lawful helped is h n =
      let s = takes-side (Some w) port r x.memory y.memory lawful (port_phase-now k x p f const port r e is) h in (
        view-answer port r w s.0,
        (
          view-leaves port Free (entries_of port r w) e s.1.0 n,
          evolves-twice (fits-port x p port e f).state s.1.1,
        ),
      )

  pub withdraws-view : (result : Withdrawal) (port : Port) (r : Request) → core_of port ≡ p.core → IsLawful x.memory
      → Holds (port_phase (port_in p port).state) r → Withdraws result port x.memory y.memory → y.numbers ≡ x.numbers
      → SideWithdraws result port r (side_in k p) (side_in k (core_view y p.core))
  withdraws-view withdrawal.Withdrawn port r e lawful is h n =
      let s = withdraws-side withdrawal.Withdrawn port r x.memory y.memory lawful (holds-now k x p f const port r e is) h in
      (view-leaves port Closed [] e s.0 n, still_unanswered (fits-port x p port e f).state s.1)
  withdraws-view (withdrawal.Answered w) port r e lawful is h n =
      let s = withdraws-side (withdrawal.Answered w) port r x.memory y.memory lawful (holds-now k x p f const port r e is) h in
      (view-leaves port Closed (entries_of port r w) e s.0 n, evolves-twice (fits-port x p port e f).state s.1)
