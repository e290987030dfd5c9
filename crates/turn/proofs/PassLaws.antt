-- What a call that a pass made does to its core's side.
use Rattle.std.proofs.Common.{◌≡◌, ◌⊎◌, ◌+◌, ℕ, Option, sym, ap, ◌∙◌, subst}
use Rattle.access_log.specs.declared.request.Request.{Request}
use Rattle.mem_port.specs.declared.memory.MemoryCore.{Ghosts}
use Rattle.mem_port.specs.declared.port.Port.{Port}
use Rattle.mem_port.specs.declared.port.PortState.TheVariants.{Free, Asked, Answered}
use Rattle.mem_port.specs.declared.port.Moved.{Moved}
use Rattle.mem_port.specs.declared.port.Withdrawal.{Withdrawal}
use Rattle.mem_port.specs.Calls.{Ask, Serve, Step, Take, Withdraw}
use Rattle.mem_port.specs.Ports.{core_of, IsWaiting}
use Rattle.mem_port.specs.Memory.{Asks, Serves, Steps, Takes, Withdraws}
use Rattle.mem_port.specs.Side.{port_phase, Served, Holds, SideAsks, SideServes, SideSteps, SideTakes, SideWithdraws}
use Rattle.mem_port.proofs.SideLaws.{port_phase-evolves, port_phase-answered, steps-side}
use Rattle.turn.specs.declared.views.CoreView.{CoreView}
use Rattle.turn.specs.declared.counted.Counted.{Counted}
use Rattle.turn.specs.declared.pass.Turn.{Turn}
use Rattle.turn.specs.declared.pass.Pass.{Pass}
use Rattle.turn.specs.Numbers.{with_step}
use Rattle.turn.specs.Views.{core_view, port_in, side_in}
use Rattle.turn.specs.Counting.{seen}
use Rattle.turn.specs.Passes.{first_view, own, port_of, side, HasMade}
use Rattle.turn.proofs.CoreLaws.{asks-view, serves-view, steps-view, helped-view, unhelped-view, takes-view, withdraws-view}

module _ {M : Type 0} {g : Ghosts M} (turn : Turn M g) (old new : Pass M g) where
  shown : (left : Counted M g) → own new ≡ core_view (seen left) old.core → own new ≡ core_view (seen left) (own old).core
  shown left e = e ∙ ap (λ (c : ℕ). core_view (seen left) c) (sym old.named)

  pub asks-made : (p : Port) (r : Request) (h : HasMade turn (Ask p r) old new) → core_of p ≡ old.core → (port_of old p).state ≡ Free
      → Asks p r (seen h.taken).memory (seen h.left).memory → SideAsks p r (side turn old) (side turn new)
  asks-made p r h e free a =
      let P : CoreView → Type 0 = λ v. SideAsks p r (side turn old) (side_in (first_view turn) v) in
      subst P (sym (shown h.left h.shows))
      (asks-view (first_view turn) (seen h.taken) (seen h.left) (own old) h.fits h.kept p r (e ∙ sym old.named) free a h.made.numbers)

  pub serves-made : (p : Port) (r : Request) (h : HasMade turn (Serve p) old new) → core_of p ≡ old.core → (port_of old p).state ≡ Asked r
      → Serves p r (seen h.taken).memory (seen h.left).memory → SideServes p r (side turn old) (side turn new)
  serves-made p r h e is a =
      let P : CoreView → Type 0 = λ v. SideServes p r (side turn old) (side_in (first_view turn) v) in
      subst P (sym (shown h.left h.shows))
      (serves-view (first_view turn) (seen h.taken) (seen h.left) (own old) h.fits h.kept p r (e ∙ sym old.named) h.left.lawful is a
      h.made.numbers)

  pub steps-made : (choice : ℕ) (result : Moved) (h : HasMade turn (Step choice result) old new)
      → Steps result (seen h.taken).memory (seen h.left).memory → SideSteps result old.core (side turn old) (side turn new)
  steps-made choice result h a =
      let P : CoreView → Type 0 = λ v. SideSteps result (own old).core (side turn old) (side_in (first_view turn) v) in
      let Q : ℕ → Type 0 = λ c. (seen h.left).numbers ≡ with_step result c (seen h.taken).memory (seen h.taken).numbers in
      let R : ℕ → Type 0 = λ c. SideSteps result c (side turn old) (side turn new) in
      subst R old.named
      (subst P (sym (shown h.left h.shows))
      (steps-view (first_view turn) (seen h.taken) (seen h.left) (own old) h.fits h.kept result h.taken.lawful a
      (subst Q (sym old.named) h.made.numbers)))

  pub helped-made : (choice : ℕ) (result : Moved) (h : HasMade turn (Step choice result) old new) → (q : Port) → core_of q ≡ old.core
      → ((port_of new q).helping ≡ (port_of old q).helping)
      ⊎ (IsWaiting (port_of old q).state × ((port_of new q).helping ≡ (port_of old q).helping + 1))
  helped-made choice result h q e =
      let Q : ℕ → Type 0 = λ c. (seen h.left).numbers ≡ with_step result c (seen h.taken).memory (seen h.taken).numbers in
      let P : CoreView → Type 0 = λ v. ((port_in v q).helping ≡ (port_of old q).helping)
      ⊎ (IsWaiting (port_of old q).state × ((port_in v q).helping ≡ (port_of old q).helping + 1)) in
      subst P (sym (shown h.left h.shows))
      (helped-view (first_view turn) (seen h.taken) (seen h.left) (own old) h.fits h.kept result q (e ∙ sym old.named)
      (subst Q (sym old.named) h.made.numbers))

  pub unhelped-made : (choice : ℕ) (result : Moved) (h : HasMade turn (Step choice result) old new)
      → Steps result (seen h.taken).memory (seen h.left).memory → (q : Port) (r : Request) → core_of q ≡ old.core
      → port_phase (port_of old q).state ≡ Served r → (port_of new q).helping ≡ (port_of old q).helping → (word : ℕ)
      × ((port_of new q).state ≡ Answered r word)
  unhelped-made choice result h a q r e is same =
      let Q : ℕ → Type 0 = λ c. (seen h.left).numbers ≡ with_step result c (seen h.taken).memory (seen h.taken).numbers in
      let P : CoreView → Type 0 = λ v. (port_in v q).helping ≡ (port_of old q).helping → IsWaiting (port_in v q).state → ⊥ in
      let evolves = (steps-made choice result h a).stays.ports q e in
      port_phase-answered (port_of new q).state r (port_phase-evolves (port_of old q).state (port_of new q).state evolves ∙ is)
      (subst P (sym (shown h.left h.shows))
      (unhelped-view (first_view turn) (seen h.taken) (seen h.left) (own old) h.fits h.kept result q (e ∙ sym old.named)
      (steps-side result (own old).core (seen h.taken).memory (seen h.left).memory h.taken.lawful a)
      (subst Q (sym old.named) h.made.numbers)) same)

  pub takes-made : (result : Option ℕ) (p : Port) (r : Request) (h : HasMade turn (Take p result) old new) → core_of p ≡ old.core
      → port_phase (port_of old p).state ≡ Served r → Takes result p (seen h.taken).memory (seen h.left).memory
      → SideTakes result p r (side turn old) (side turn new)
  takes-made result p r h e is a =
      let P : CoreView → Type 0 = λ v. SideTakes result p r (side turn old) (side_in (first_view turn) v) in
      subst P (sym (shown h.left h.shows))
      (takes-view (first_view turn) (seen h.taken) (seen h.left) (own old) h.fits h.kept result p r (e ∙ sym old.named) h.taken.lawful
      h.taken.helped is a h.made.numbers)

  pub withdraws-made : (result : Withdrawal) (p : Port) (r : Request) (h : HasMade turn (Withdraw p result) old new) → core_of p ≡ old.core
      → Holds (port_phase (port_of old p).state) r → Withdraws result p (seen h.taken).memory (seen h.left).memory
      → SideWithdraws result p r (side turn old) (side turn new)
  withdraws-made result p r h e is a =
      let P : CoreView → Type 0 = λ v. SideWithdraws result p r (side turn old) (side_in (first_view turn) v) in
      subst P (sym (shown h.left h.shows))
      (withdraws-view (first_view turn) (seen h.taken) (seen h.left) (own old) h.fits h.kept result p r (e ∙ sym old.named) h.taken.lawful
      is a
      h.made.numbers)
