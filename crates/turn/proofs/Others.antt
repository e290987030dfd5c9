-- What was seen of other cores is still so after a call for one.
use Rattle.std.proofs.Common.{◌≡◌, ◌≢◌, ℕ, ◌+◌, ◌<◌, List, [], ◌∷◌, refl, sym, ◌∙◌, subst, arith, eq-eqb}
use mathlib.Core.Logic.{dite}
use native.Mathlib.Decide.{ℕ_discrete}
use Rattle.mem_port.specs.declared.port.Port.{Port}
use Rattle.mem_port.specs.declared.port.Port.TheVariants.{Fetch, Access}
use Rattle.mem_port.specs.Ports.{core_of}
use Rattle.mem_port.proofs.SideLaws.{evolves-twice}
use Rattle.turn.specs.declared.views.PortView.{PortView}
use Rattle.turn.specs.declared.views.CoreView.{CoreView}
use Rattle.turn.specs.Views.{CountedView, PortFits, CoreFits, CoresFit, LeavesCores}
use Rattle.turn.specs.Rule.{times}

port_keeps : (c : ℕ) (x y : CountedView) (q : Port) (s : PortView) → LeavesCores c x y → core_of q ≢ c → PortFits x q s → PortFits y q s
port_keeps c x y q s a ne f = record {
  state = evolves-twice f.state (a.memory.ports q ne);
  asks_left = f.asks_left ∙ sym (a.memory.asks q ne);
  asked = f.asked ∙ sym (a.asked q ne);
  helping = f.helping ∙ sym (a.helping q ne);
}

pub core_keeps : (c : ℕ) (x y : CountedView) (p : CoreView) → LeavesCores c x y → p.core ≢ c → CoreFits x p → CoreFits y p
core_keeps c x y p a ne f = record {
  within = subst (λ (n : ℕ). p.core < n) (sym a.memory.kept.cores) f.within;
  fetch = port_keeps c x y (Fetch p.core) p.fetch a ne f.fetch;
  access = port_keeps c x y (Access p.core) p.access a ne f.access;
  moved = f.moved ∙ sym (a.moved p.core ne);
  entries = f.entries ∙ sym (a.memory.taken p.core ne);
}

pub times_head : (c : ℕ) (p : CoreView) (ps : List CoreView) → p.core ≡ c → times c (p ∷ ps) ≡ 1 + times c ps
times_head c p ps e = rw (eq-eqb p.core c e) refl

pub cores_keep : (c : ℕ) (x y : CountedView) (ps : List CoreView) → LeavesCores c x y → times c ps ≡ 0 → CoresFit x ps → CoresFit y ps
cores_keep c x y [] a none f = tt
cores_keep c x y (p ∷ ps) a none f =
    dite (ℕ_discrete p.core c) (λ e. absurd (omega (arith, times_head c p ps e)))
    (λ ne. (core_keeps c x y p a ne f.0, cores_keep c x y ps a (omega arith) f.1))
