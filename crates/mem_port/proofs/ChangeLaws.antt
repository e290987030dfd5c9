-- A memory in which one port changes, and maybe the history, keeps the law.
use Rattle.std.proofs.Common.{◌≡◌, ◌≢◌, ℕ, ◌<◌, ◌≤◌, inl, inr, IsTrue, List, refl, ap, sym, ◌∙◌, arith, subst}
use Rattle.image_file.specs.Value.{code_lines, start_memory}
use Rattle.access_log.specs.Items.{IsLegal, own_items}
use Rattle.access_log.specs.declared.Entry.{Entry}
use Rattle.letters.specs.Fold.{Follows}
use Rattle.mem_port.specs.declared.port.Port.{Port}
use Rattle.mem_port.specs.declared.port.Port.TheVariants.{Fetch, Access}
use Rattle.mem_port.specs.declared.port.PortState.{PortState}
use Rattle.mem_port.specs.declared.port.PortState.TheVariants.{Free}
use Rattle.mem_port.specs.Ports.{core_of, IsWaiting, HoldsProper, HoldsCode, HoldsEntry}
use Rattle.mem_port.specs.Memory.{MemoryView, AreOnLines, IsLawful, Keeps}
use Rattle.mem_port.proofs.PortLaws.{cases_port}

-- What the port and the items have to be, so that the law is kept.
pub record IsChange (p : Port) (state : PortState) (old new : MemoryView) : Type 0 where
  pub kept : Keeps old new
  pub below : core_of p < old.cores
  pub is : new.port p ≡ state
  pub ports : (q : Port) → q ≢ p → new.port q ≡ old.port q
  pub legal : IsLegal (start_memory old.image) new.history
  pub follows : Follows old.caches old.cores (code_lines old.image) new.history
  pub lines : AreOnLines old.image new.history
  pub others : (core : ℕ) → Access core ≢ p → own_items new.history core ≡ own_items old.history core
  pub proper : HoldsProper old.image p state
  pub code : (core : ℕ) → Fetch core ≡ p → HoldsCode old.image state
  pub entry : (core : ℕ) → Access core ≡ p → HoldsEntry core (own_items new.history core) state
  pub waiting : (q : Port) → IsWaiting (new.port q) → IsTrue new.is_busy
  pub near : IsTrue new.tells_distances → (q : Port) → IsWaiting (new.port q) → (1 ≤ new.distance q) × (new.distance q ≤ new.bound)
  pub unloaded : IsTrue new.tells_load → ((q : Port) → new.port q ≡ Free) → new.load ≡ 0

-- What holds of what is on the port, and held of all others, holds of each.
each-port : (p : Port) (state : PortState) (old new : Port → PortState) → new p ≡ state → ((q : Port) → q ≢ p → new q ≡ old q)
    → (Q : Port → PortState → Type 0) → Q p state → ((q : Port) → q ≢ p → Q q (old q)) → (q : Port) → Q q (new q)
each-port p state old new is others Q here there q =
    elim (cases_port p q) as (λ _. Q q (new q)) [
      | inl e ↦ let R : Port → Type 0 = λ r. Q r (new r) in subst R (sym e) (subst (λ (s : PortState). Q p s) (sym is) here)
      | inr ne ↦ subst (λ (s : PortState). Q q s) (sym (others q ne)) (there q ne)
    ]

pub change-lawful : (p : Port) (state : PortState) (old new : MemoryView) → IsLawful old → IsChange p state old new → IsLawful new
change-lawful p state old new law h = rw (h.kept.image, h.kept.cores, h.kept.caches) (record {
  good = law.good;
  legal = h.legal;
  follows = h.follows;
  lines = h.lines;
  within = λ core le. h.others core (λ e. (let f : core ≡ core_of p = ap core_of e in let below = h.below in absurd (omega arith)))
      ∙ law.within core le;
  proper = each-port p state old.port new.port h.is h.ports (λ q s. HoldsProper old.image q s) h.proper (λ q ne. law.proper q);
  fetched = λ core. each-port p state old.port new.port h.is h.ports (λ q s. (k : ℕ) → Fetch k ≡ q → HoldsCode old.image s) h.code
      (λ q ne k e. (let C : Port → Type 0 = λ r. HoldsCode old.image (old.port r) in subst C e (law.fetched k))) (Fetch core) core refl;
  served = λ core. each-port p state old.port new.port h.is h.ports
      (λ q s. (k : ℕ) → Access k ≡ q → HoldsEntry k (own_items new.history k) s) h.entry
      (λ q ne k e. (
      let own = h.others k (λ same. ne (sym e ∙ same)) in
      let E : List Entry → Type 0 = λ es. HoldsEntry k es (old.port (Access k)) in
      let A : Port → Type 0 = λ r. HoldsEntry k (own_items new.history k) (old.port r) in
      subst A e (subst E (sym own) (law.served k)))) (Access core) core refl;
  waiting = h.waiting;
  near = h.near;
  unloaded = h.unloaded;
})
