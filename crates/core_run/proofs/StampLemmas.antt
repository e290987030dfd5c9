-- Stamps in turns: those of one core, and what a turn and a round make of them.
use Rattle.std.proofs.Common.{◌≡◌, ◌≢◌, ℕ, ◌+◌, ◌≤◌, inl, inr, List, [], ◌∷◌, ◌++◌, length, append-nil, refl, ap, sym, ◌∙◌, arith}
use Rattle.std.specs.Prelude.{map}
use Rattle.std.specs.List.{AllByRecursion}
use Rattle.std.proofs.lemmas.Bool.{eq-eqb, ne_eqb}
use Rattle.std.proofs.lemmas.List.Elements.{filter-append}
use Rattle.std_laws.proofs.ListLaws.{AllByRecursion-append, AllByRecursion-weaker}
use Rattle.access_log.specs.declared.Entry.{Entry}
use Rattle.access_log.specs.Stamps.{Stamp, stamped, own_stamps, Precedes, IsRising}
use Rattle.access_log.proofs.StampLaws.{IsRising-append}
use Rattle.core_run.specs.Serial.{IsEarlier, AreInRounds}

-- Those of one cycle, where all entries are of one core.

stamped-own : (cycle core : ℕ) (more : List Entry) → AllByRecursion (λ (e : Entry). e.core ≡ core) more
    → own_stamps (stamped cycle more) core ≡ stamped cycle more
stamped-own cycle core [] own = refl
stamped-own cycle core (entry ∷ more) own =
    rw (eq-eqb entry.core core own.0) (ap (λ t. record { entry = entry; cycle = cycle } ∷ t) (stamped-own cycle core more own.1))

stamped-other : (cycle core other : ℕ) (more : List Entry) → other ≢ core → AllByRecursion (λ (e : Entry). e.core ≡ core) more
    → own_stamps (stamped cycle more) other ≡ []
stamped-other cycle core other [] ne own = refl
stamped-other cycle core other (entry ∷ more) ne own =
    rw (ne_eqb entry.core other (λ e. ne (sym e ∙ own.0))) (stamped-other cycle core other more ne own.1)

pub own-turn : (cycle core : ℕ) (stamps : List Stamp) (more : List Entry) → AllByRecursion (λ (e : Entry). e.core ≡ core) more
    → own_stamps (stamps ++ stamped cycle more) core ≡ own_stamps stamps core ++ stamped cycle more
own-turn cycle core stamps more own =
    filter-append _ stamps (stamped cycle more) ∙ ap (λ t. own_stamps stamps core ++ t) (stamped-own cycle core more own)

pub own-other : (cycle core other : ℕ) (stamps : List Stamp) (more : List Entry) → other ≢ core
    → AllByRecursion (λ (e : Entry). e.core ≡ core) more
    → own_stamps (stamps ++ stamped cycle more) other ≡ own_stamps stamps other
own-other cycle core other stamps more ne own =
    filter-append _ stamps (stamped cycle more)
    ∙ (ap (λ t. own_stamps stamps other ++ t) (stamped-other cycle core other more ne own) ∙ append-nil (own_stamps stamps other))

pub entries-stamped : (cycle : ℕ) (more : List Entry) → map (λ (stamp : Stamp). stamp.entry) (stamped cycle more) ≡ more
entries-stamped cycle [] = refl
entries-stamped cycle (entry ∷ more) = ap (λ t. entry ∷ t) (entries-stamped cycle more)

-- At the start there is none.
pub in-rounds-start : AreInRounds 0 0 []
in-rounds-start = record { rising = tt; earlier = tt }

-- A turn adds at most one, behind those of the turns before.

earlier-precedes : (rounds turn : ℕ) (entry : Entry) (s : Stamp) → entry.core ≡ turn → IsEarlier rounds turn s
    → Precedes s (record { entry = entry; cycle = rounds + 1 })
earlier-precedes rounds turn entry s is (inl before) = inl (omega arith)
earlier-precedes rounds turn entry s is (inr here) = inr (here.0, omega (arith, is, here.1))

rising-turn : (rounds turn : ℕ) (stamps : List Stamp) (more : List Entry) → length more ≤ 1
    → AllByRecursion (λ (e : Entry). e.core ≡ turn) more
    → IsRising stamps → AllByRecursion (IsEarlier rounds turn) stamps → IsRising (stamps ++ stamped (rounds + 1) more)
rising-turn rounds turn stamps [] one own rising earlier = rw (append-nil stamps) rising
rising-turn rounds turn stamps (entry ∷ []) one own rising earlier =
    IsRising-append stamps (record { entry = entry; cycle = rounds + 1 }) rising
    (AllByRecursion-weaker (IsEarlier rounds turn) (λ s. Precedes s (record { entry = entry; cycle = rounds + 1 }))
    (λ s. earlier-precedes rounds turn entry s own.0) stamps earlier)
rising-turn rounds turn stamps (a ∷ b ∷ more) one own rising earlier = absurd (omega (arith, one))

earlier-more : (rounds turn : ℕ) (s : Stamp) → IsEarlier rounds turn s → IsEarlier rounds (turn + 1) s
earlier-more rounds turn s (inl before) = inl before
earlier-more rounds turn s (inr here) = let less = here.1 in inr (here.0, omega (arith, less))

earlier-turn : (rounds turn : ℕ) (more : List Entry) → AllByRecursion (λ (e : Entry). e.core ≡ turn) more
    → AllByRecursion (IsEarlier rounds (turn + 1)) (stamped (rounds + 1) more)
earlier-turn rounds turn [] own = tt
earlier-turn rounds turn (entry ∷ more) own = (let is = own.0 in inr (refl, omega (arith, is)), earlier-turn rounds turn more own.1)

pub after-turn : (rounds turn : ℕ) (stamps : List Stamp) (more : List Entry) → length more ≤ 1
    → AllByRecursion (λ (e : Entry). e.core ≡ turn) more → AreInRounds rounds turn stamps
    → AreInRounds rounds (turn + 1) (stamps ++ stamped (rounds + 1) more)
after-turn rounds turn stamps more one own h = record {
  rising = rising-turn rounds turn stamps more one own h.rising h.earlier;
  earlier = AllByRecursion-append (IsEarlier rounds (turn + 1)) stamps (stamped (rounds + 1) more)
      (AllByRecursion-weaker (IsEarlier rounds turn) (IsEarlier rounds (turn + 1)) (earlier-more rounds turn) stamps h.earlier)
      (earlier-turn rounds turn more own);
}

earlier-round : (rounds turn : ℕ) (s : Stamp) → IsEarlier rounds turn s → IsEarlier (rounds + 1) 0 s
earlier-round rounds turn s (inl before) = inl (omega arith)
earlier-round rounds turn s (inr here) = let is = here.0 in inl (omega (arith, is))

-- A round is behind when all turns are.
pub after-round : (rounds turn : ℕ) (stamps : List Stamp) → AreInRounds rounds turn stamps → AreInRounds (rounds + 1) 0 stamps
after-round rounds turn stamps h = record {
  rising = h.rising;
  earlier = AllByRecursion-weaker (IsEarlier rounds turn) (IsEarlier (rounds + 1) 0) (earlier-round rounds turn) stamps h.earlier;
}
