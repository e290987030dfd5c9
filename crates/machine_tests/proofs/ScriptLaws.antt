-- What a test's script knows of a memory stays so in its calls.
use Rattle.std.proofs.Common.{◌≡◌, ◌≢◌, ℕ, zero, suc, ◌-◌, ◌*◌, ◌<◌, ◌≤◌, inl, inr, Option, List, [], ◌∷◌, length, get_or, get_or-set_same}
use Rattle.std.proofs.Common.{get_or-set_other, refl, ap, sym, ◌∙◌, subst, arith}
use Rattle.std.specs.Prelude.{slice_set}
use Rattle.std.proofs.lemmas.Bool.{cases_eq}
use Rattle.image_file.specs.Value.{ImageValue, memory_bytes}
use Rattle.letters.specs.Caches.{Caches}
use Rattle.access_log.specs.declared.request.Request.{Request}
use Rattle.mem_port.specs.declared.port.Port.{Port}
use Rattle.mem_port.specs.declared.port.Port.TheVariants.{Fetch, Access}
use Rattle.mem_port.specs.declared.port.PortState.{PortState}
use Rattle.mem_port.specs.declared.port.PortState.TheVariants.{Free, Waiting, Closed}
use Rattle.mem_port.specs.declared.port.Withdrawal.{Withdrawal}
use Rattle.mem_port.specs.declared.port.Withdrawal.TheVariants as withdrawal
use Rattle.mem_port.specs.Ports.{core_of}
use Rattle.mem_port.specs.Memory.{MemoryView, IsLawful, IsFresh, Keeps, Asks, Serves, Leaves, Withdraws}
use Rattle.mem_port.specs.Side.{port_phase}
use Rattle.mem_port.proofs.SideLaws.{kept_twice, serves-side}
use Rattle.machine_tests.specs.Script.{Fits}

module _ (made : List PortState) (left : ℕ) (m : MemoryView) (fits : Fits made left m) where
  -- A call on the access port of one core.
  fits-after : (less core : ℕ) (state : PortState) (n : MemoryView) → length made ≡ 2 → core < 2 → Keeps m n → IsLawful n
      → ((q : Port) → q ≢ Access core → n.port q ≡ m.port q) → ((q : Port) → q ≢ Access core → n.asks_left q ≡ m.asks_left q)
      → port_phase (n.port (Access core)) ≡ port_phase state → less ≤ left → less ≤ n.asks_left (Access core)
      → Fits (slice_set made core state) less n
  fits-after less core state n two below kept law ports asks is fewer some = record {
    lawful = law;
    cores = kept.cores ∙ fits.cores;
    code_ends = rw kept.image fits.code_ends;
    memory_ends = rw kept.image fits.memory_ends;
    fetches = λ k lt. ap port_phase (ports (Fetch k) (λ e. cc)) ∙ fits.fetches k lt;
    accesses = λ k lt. elim (cases_eq k core) as
        (λ _. port_phase (n.port (Access k)) ≡ port_phase (get_or (slice_set made core state) k Free)) [
          | inl e ↦ (let P : ℕ → Type 0 = λ c. port_phase (n.port (Access c)) ≡ port_phase (get_or (slice_set made core state) c Free)
              in subst P (sym e) (is ∙ ap port_phase (sym (get_or-set_same made core state Free (omega arith)))))
          | inr ne ↦ ap port_phase (ports (Access k) (λ e. ne (ap core_of e)))
              ∙ (fits.accesses k lt ∙ ap port_phase (sym (get_or-set_other made core k state Free ne)))
        ];
    asks = λ k lt. elim (cases_eq k core) as (λ _. less ≤ n.asks_left (Access k)) [
      | inl e ↦ (let P : ℕ → Type 0 = λ c. less ≤ n.asks_left (Access c) in subst P (sym e) some)
      | inr ne ↦ omega (arith, asks (Access k) (λ e. ne (ap core_of e)), fits.asks k lt)
    ];
  }

  pub fits-sends : (core : ℕ) (r : Request) (n k : MemoryView) → length made ≡ 2 → core < 2 → 0 < left → IsLawful k
      → Asks (Access core) r m n → Serves (Access core) r n k → Fits (slice_set made core (Waiting r)) (left - 1) k
  fits-sends core r n k two below some law asks serves =
      let is = (serves-side (Access core) r n k law asks.port serves).port in
      fits-after (left - 1) core (Waiting r) k two below (kept_twice asks.kept serves.kept) law
      (λ q ne. serves.others.ports q ne ∙ asks.others.ports q ne) (λ q ne. serves.others.asks q ne ∙ asks.others.asks q ne) is
      (omega arith) (omega (arith, serves.asks, asks.asks, fits.asks core below))

  fits-leaves : (core : ℕ) (state : PortState) (n : MemoryView) → length made ≡ 2 → core < 2 → IsLawful n → Leaves (Access core) state m n
      → Fits (slice_set made core state) left n
  fits-leaves core state n two below law leaves =
      fits-after left core state n two below leaves.kept law leaves.others.ports leaves.others.asks (ap port_phase leaves.port)
      (omega arith) (omega (arith, leaves.asks, fits.asks core below))

  pub fits-withdraws : (core : ℕ) (result : Withdrawal) (n : MemoryView) → length made ≡ 2 → core < 2 → IsLawful n
      → Withdraws result (Access core) m n → Fits (slice_set made core Closed) left n
  fits-withdraws core withdrawal.Withdrawn n two below law withdraws = fits-leaves core Closed n two below law withdraws.1
  fits-withdraws core (withdrawal.Answered word) n two below law withdraws = fits-leaves core Closed n two below law withdraws.1

free-all : (core : ℕ) → get_or (Free ∷ Free ∷ []) core Free ≡ Free
free-all zero = refl
free-all (suc zero) = refl
free-all (suc (suc core)) = refl

-- At first nothing was made of a port.
pub fits-fresh : (image : ImageValue) (left : ℕ) (caches : Option Caches) (m : MemoryView) → IsFresh image 2 left caches m
    → 4 * length image.code ≤ 256 → 256 < memory_bytes image → Fits (Free ∷ Free ∷ []) left m
fits-fresh image left caches m fresh code memory = record {
  lawful = fresh.lawful;
  cores = fresh.cores_are;
  code_ends = rw fresh.image_is code;
  memory_ends = rw fresh.image_is memory;
  fetches = λ core below. ap port_phase (fresh.ports (Fetch core));
  accesses = λ core below. ap port_phase (fresh.ports (Access core) ∙ sym (free-all core));
  asks = λ core below. omega (arith, fresh.asks_left (Access core) below);
}
