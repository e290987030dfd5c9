-- Indexes in a queue, and sums over ports.
use Rattle.std.proofs.Common.{◌≡◌, ◌≢◌, ℕ, zero, suc, ◌+◌, ◌*◌, ◌<◌, ◌≤◌, inl, inr, Bool, true, false, Option, Some, None, option_map, List}
use Rattle.std.proofs.Common.{[], ◌∷◌, ◌++◌, length, refl, ap, sym, ◌∙◌, subst, arith}
use Rattle.std.specs.Prelude.{if◌then◌else◌, slice_get}
use Rattle.std.specs.List.{remove, position}
use Rattle.std.proofs.lemmas.Bool.{cases_eq}
use Rattle.std.proofs.lemmas.Bool.Decides.{nat_tests}
use Rattle.std_laws.proofs.OptionLaws.{option_map_parts, option_map_none, option_len-map}
use Rattle.std.specs.Option.{option_len}
use Rattle.mem_port.specs.declared.port.Port.{Port}
use Rattle.mem_port.specs.declared.port.Port.TheVariants.{Fetch, Access}
use Rattle.mem_port.specs.Ports.{core_of}
use Rattle.mem_port.proofs.PortLaws.{cases_port}
use Rattle.queued_memory.specs.Queue.{same_port, index_of, over_ports, AreDistinct}

same_port-self : (p : Port) → same_port p p ≡ true
same_port-self (Fetch core) = grind arith
same_port-self (Access core) = grind arith

same_port-other : (p q : Port) → q ≢ p → same_port p q ≡ false
same_port-other (Fetch c) (Fetch k) ne = let other : k ≢ c = λ e. ne (ap Fetch e) in grind arith
same_port-other (Fetch c) (Access k) ne = refl
same_port-other (Access c) (Fetch k) ne = refl
same_port-other (Access c) (Access k) ne = let other : k ≢ c = λ e. ne (ap Access e) in grind arith

index_of-first : (p : Port) (ports : List Port) → index_of (p ∷ ports) p ≡ Some 0
index_of-first p ports = rw (same_port-self p) refl

index_of-later : (p q : Port) (ports : List Port) → q ≢ p → index_of (p ∷ ports) q ≡ option_map suc (index_of ports q)
index_of-later p q ports ne = rw (same_port-other p q ne) refl

-- It is the first index at which the port stands.
pub index_of-position : (ports : List Port) (q : Port) → index_of ports q ≡ position (λ p. same_port p q) ports
index_of-position [] q = refl
index_of-position (p ∷ ports) q = grind (arith, nat_tests, index_of-position ports q)

-- A port that joins stands last.
pub index_of-push_self : (ports : List Port) (p : Port) → index_of ports p ≡ None → index_of (ports ++ p ∷ []) p ≡ Some (length ports)
index_of-push_self [] p none = index_of-first p []
index_of-push_self (x ∷ ports) p none = grind (arith, index_of-push_self ports p)

-- And all others where they stood.
pub index_of-push_other : (ports : List Port) (p q : Port) → q ≢ p → index_of (ports ++ p ∷ []) q ≡ index_of ports q
index_of-push_other [] p q ne = index_of-later p q [] ne
index_of-push_other (x ∷ ports) p q ne = rw (index_of-push_other ports p q ne) refl

-- An index is within the queue.
pub index_of-within : (ports : List Port) (q : Port) (index : ℕ) → index_of ports q ≡ Some index → index < length ports
index_of-within [] q index is = cc
index_of-within (p ∷ ports) q index is = grind (arith, index_of-within ports q)

-- The port at the first index is the first one.
at-zero : (p q : Port) (ports : List Port) → index_of (p ∷ ports) q ≡ Some 0 → q ≡ p
at-zero p q ports is =
    elim (cases_port p q) as (λ _. q ≡ p) [
      | inl e ↦ e
      | inr ne ↦
          (let later = option_map_parts suc (index_of ports q) 0 (sym (index_of-later p q ports ne) ∙ is) in
          absurd (omega (arith, later.2)))
    ]

-- A port at a later index, or at none, is another one.
at-other : (p q : Port) (ports : List Port) (at : Option ℕ) → at ≢ Some 0 → index_of (p ∷ ports) q ≡ at → q ≢ p
at-other p q ports at later is e =
    let P : Port → Type 0 = λ r. index_of (p ∷ ports) r ≡ at in
    later (sym (subst P e is) ∙ index_of-first p ports)

at-suc : (p q : Port) (ports : List Port) (index : ℕ) → index_of (p ∷ ports) q ≡ Some (suc index) → (q ≢ p)
    × (index_of ports q ≡ Some index)
at-suc p q ports index is =
    let ne = at-other p q ports (Some (suc index)) (λ e. cc) is in
    let later = option_map_parts suc (index_of ports q) (suc index) (sym (index_of-later p q ports ne) ∙ is) in
    let same : later.0 ≡ index = omega (arith, later.2) in
    (ne, later.1 ∙ ap Some same)

at-none : (p q : Port) (ports : List Port) → index_of (p ∷ ports) q ≡ None → (q ≢ p) × (index_of ports q ≡ None)
at-none p q ports is =
    let ne = at-other p q ports None (λ e. cc) is in (ne, option_map_none suc (index_of ports q) (sym (index_of-later p q ports ne) ∙ is))

-- A port stands where it is found, in a queue in which none stands twice.
pub index_of-slice_get : (ports : List Port) (p : Port) (index : ℕ) → AreDistinct ports → slice_get ports index ≡ Some p
    → index_of ports p ≡ Some index
index_of-slice_get [] p index distinct is = cc
index_of-slice_get (x ∷ ports) p zero distinct is = let e : x ≡ p = cc in let P : Port → Type 0 =
    λ r. index_of (r ∷ ports) p ≡ Some 0 in subst P (sym e) (index_of-first p ports)
index_of-slice_get (x ∷ ports) p (suc index) distinct is =
    let at = index_of-slice_get ports p index distinct.1 is in
    let P : Port → Type 0 = λ r. index_of ports r ≡ None in
    index_of-later x p ports (λ e. (let f : None ≡ Some index = sym (subst P (sym e) distinct.0) ∙ at in cc))
    ∙ ap (λ t. option_map suc t) at

pub distinct-push : (ports : List Port) (p : Port) → AreDistinct ports → index_of ports p ≡ None → AreDistinct (ports ++ p ∷ [])
distinct-push [] p distinct none = (refl, tt)
distinct-push (x ∷ ports) p distinct none =
    let other = at-none x p ports none
    in (index_of-push_other ports p x (λ e. other.0 (sym e)) ∙ distinct.0, distinct-push ports p distinct.1 other.1)

-- A port that goes stands no more in the queue.
pub index_of-removed_self : (ports : List Port) (p : Port) (index : ℕ) → AreDistinct ports → index_of ports p ≡ Some index
    → index_of (remove ports index) p ≡ None
index_of-removed_self [] p index distinct is = cc
index_of-removed_self (x ∷ ports) p zero distinct is = let P : Port → Type 0 =
    λ r. index_of ports r ≡ None in subst P (sym (at-zero x p ports is)) distinct.0
index_of-removed_self (x ∷ ports) p (suc index) distinct is =
    let later = at-suc x p ports index is in
    index_of-later x p (remove ports index) later.0 ∙ ap (λ t. option_map suc t) (index_of-removed_self ports p index distinct.1 later.1)

-- The index of a port before the one at an index went.
abbrev pub index_before : ℕ → ℕ → ℕ
index_before zero index = suc index
index_before (suc gone) zero = zero
index_before (suc gone) (suc index) = suc (index_before gone index)

pub index_before-later : (gone index : ℕ) → index ≤ index_before gone index
index_before-later zero index = omega arith
index_before-later (suc gone) zero = omega arith
index_before-later (suc gone) (suc index) = omega (arith, index_before-later gone index)

index_before-suc : (gone : ℕ) (index : Option ℕ)
    → option_map suc (option_map (index_before gone) index) ≡ option_map (index_before (suc gone)) (option_map suc index)
index_before-suc gone None = refl
index_before-suc gone (Some index) = refl

index_before-cons : (gone : ℕ) (is_first : Bool) (old new : Option ℕ) → old ≡ option_map (index_before gone) new
    → (if is_first then Some 0 else option_map suc old)
    ≡ option_map (index_before (suc gone)) (if is_first then Some 0 else option_map suc new)
index_before-cons gone true old new is = refl
index_before-cons gone false old new is = ap (λ t. option_map suc t) is ∙ index_before-suc gone new

pub index_of-removed_other : (ports : List Port) (p q : Port) (index : ℕ) → q ≢ p → index_of ports p ≡ Some index
    → index_of ports q ≡ option_map (index_before index) (index_of (remove ports index) q)
index_of-removed_other [] p q index ne is = cc
index_of-removed_other (x ∷ ports) p q zero ne is = index_of-later x q ports (λ e. ne (e ∙ sym (at-zero x p ports is)))
index_of-removed_other (x ∷ ports) p q (suc index) ne is =
    index_before-cons index (same_port x q) (index_of ports q) (index_of (remove ports index) q)
    (index_of-removed_other ports p q index ne (at-suc x p ports index is).1)

-- A port that stood nowhere doesn't stand anywhere then.
index_before-none : (gone : ℕ) (old new : Option ℕ) → old ≡ option_map (index_before gone) new → old ≡ None → new ≡ None
index_before-none gone old None is none = refl
index_before-none gone old (Some index) is none = cc

pub distinct-removed : (ports : List Port) (p : Port) (index : ℕ) → AreDistinct ports → index_of ports p ≡ Some index
    → AreDistinct (remove ports index)
distinct-removed [] p index distinct is = cc
distinct-removed (x ∷ ports) p zero distinct is = distinct.1
distinct-removed (x ∷ ports) p (suc index) distinct is =
    let later = at-suc x p ports index is in (
      index_before-none index _ _ (index_of-removed_other ports p x index (λ e. later.0 (sym e)) later.1) distinct.0,
      distinct-removed ports p index distinct.1 later.1,
    )

-- Two sums over ports are the same, where they are of each port.
over-same : (f g : Port → ℕ) (n : ℕ) → ((q : Port) → core_of q < n → f q ≡ g q) → over_ports f n ≡ over_ports g n
over-same f g zero same = refl
over-same f g (suc n) same =
    omega (arith, same (Fetch n) (omega arith), same (Access n) (omega arith), over-same f g n (λ q below. same q (omega arith)))

-- One port has another number, and all others have the same.
pub over-change : (f g : Port → ℕ) (p : Port) (n : ℕ) → core_of p < n → ((q : Port) → q ≢ p → f q ≡ g q)
    → over_ports f n + g p ≡ over_ports g n + f p
over-change f g p zero below same = absurd (omega arith)
over-change f g p (suc n) below same =
    elim (cases_eq (core_of p) n) as (λ _. over_ports f (suc n) + g p ≡ over_ports g (suc n) + f p) [
      | inl e ↦ here p e same (over-same f g n
          (λ q lower. same q (λ t. (let u : core_of q ≡ core_of p = ap core_of t in absurd (omega arith)))))
      | inr ne ↦ omega (
        arith,
        same (Fetch n) (λ t. ne (sym (ap core_of t))),
        same (Access n) (λ t. ne (sym (ap core_of t))),
        over-change f g p n (omega arith) same,
      )
    ]
  where
    here : (p : Port) → core_of p ≡ n → ((q : Port) → q ≢ p → f q ≡ g q) → over_ports f n ≡ over_ports g n
        → over_ports f (suc n) + g p ≡ over_ports g (suc n) + f p
    here (Fetch core) e same rest = omega (arith, same (Access n) (λ t. cc), rest, ap (λ c. f (Fetch c)) e, ap (λ c. g (Fetch c)) e)
    here (Access core) e same rest = omega (arith, same (Fetch n) (λ t. cc), rest, ap (λ c. f (Access c)) e, ap (λ c. g (Access c)) e)

pub over-mono : (f g : Port → ℕ) (n : ℕ) → ((q : Port) → f q ≤ g q) → over_ports f n ≤ over_ports g n
over-mono f g zero below = omega arith
over-mono f g (suc n) below = omega (arith, below (Fetch n), below (Access n), over-mono f g n below)

pub over-zero : (f : Port → ℕ) (n : ℕ) → ((q : Port) → f q ≡ 0) → over_ports f n ≡ 0
over-zero f zero none = refl
over-zero f (suc n) none = omega (arith, none (Fetch n), none (Access n), over-zero f n none)

-- Two ports are a core's.
pub over-two : (f : Port → ℕ) (n : ℕ) → ((q : Port) → f q ≤ 1) → over_ports f n ≤ 2 * n
over-two f zero below = omega arith
over-two f (suc n) below = omega (arith, below (Fetch n), below (Access n), over-two f n below)

-- A queue is as long as ports stand in it.
pub length-index_of : (ports : List Port) (n : ℕ) → AreDistinct ports
    → ((q : Port) (index : ℕ) → index_of ports q ≡ Some index → core_of q < n)
    → length ports ≡ over_ports (λ q. option_len (index_of ports q)) n
length-index_of [] n distinct within = sym (over-zero (λ q. 0) n (λ q. refl))
length-index_of (p ∷ ports) n distinct within =
    let rest = length-index_of ports n distinct.1 (λ q index is. elim (cases_port p q) as (λ _. core_of q < n) [
      | inl e ↦ (let P : Port → Type 0 = λ r. core_of r < n in subst P (sym e) (within p 0 (index_of-first p ports)))
      | inr ne ↦ within q (suc index) (index_of-later p q ports ne ∙ ap (λ t. option_map suc t) is)
    ]) in
    omega (
      arith,
      rest,
      ap option_len distinct.0,
      ap option_len (index_of-first p ports),
      over-change (λ q. option_len (index_of (p ∷ ports) q)) (λ q. option_len (index_of ports q)) p n (within p 0 (index_of-first p ports))
          (λ q ne. ap option_len (index_of-later p q ports ne) ∙ option_len-map suc (index_of ports q)),
    )
