-- Appends one after another, and reads one after another.
use Rattle.std.proofs.Common.{◌≡◌, ℕ, suc, ◌+◌, ◌<◌, List, ◌++◌, length, get_or, take, drop, sym, ◌∙◌, ap, append_assoc, arith}
use Rattle.std.specs.List.{flat_map}
use Rattle.std.specs.Prelude.{Option, Result, Ok, Err}
use Rattle.std.proofs.Math.Seq.{split_at}
use Rattle.std.specs.Io.KnownBytes.{append_known, prepend_known}
use Rattle.std_laws.proofs.ListLaws.{flat_map_around, flat_map-take_more}
use Rattle.std_laws.proofs.OptionLaws.{append_known-append, prepend_known-prepend}
use Rattle.kmp_base.specs.Streams.{Took, Writes}

-- more was taken
pub took_more : (old mid new : Option (List ℕ)) (a b : List ℕ) → Took old mid a → Took mid new b → Took old new (a ++ b)
took_more old mid new a b first second = first ∙ ap (prepend_known a) second ∙ prepend_known-prepend new a b

-- Calls that append one after another.

-- a text that was written whole, and then another one
pub writes_then : {K T U E : Type 0} {held : K → Option (List ℕ)} {faults : K → ℕ} {old mid new : K} {value : T} {result : Result U E}
    {a b : List ℕ} → Writes {E = E} held faults old mid (Ok value) a → Writes held faults mid new result b
    → Writes held faults old new result (a ++ b)
writes_then {held} {old} {new} {result = Ok v} {a} {b} first second = record {
  whole = second.whole ∙ ap (λ known. append_known known b) first.whole ∙ append_known-append (held old) a b;
  no_fault = second.no_fault ∙ first.no_fault;
  part = tt;
  cause = tt;
  later = omega (arith, first.later, second.later);
}
writes_then {held} {old} {new} {result = Err e} {a} {b} first second =
    let some = second.part in record {
      whole = tt;
      no_fault = tt;
      part = (
        a ++ some.0,
        some.1,
        ap (λ rest. a ++ rest) some.2 ∙ sym (append_assoc a some.0 some.1),
        some.3
            ∙ ap (λ known. append_known known some.0) first.whole ∙ append_known-append (held old) a some.0,
      );
      cause = omega (arith, first.no_fault, second.cause);
      later = omega (arith, first.later, second.later);
    }

-- a text that wasn't written whole, before any further text
pub writes_stop : {K U E : Type 0} {held : K → Option (List ℕ)} {faults : K → ℕ} {old new : K} {fault : E} {a : List ℕ} (b : List ℕ)
    → Writes {T = U} held faults old new (Err fault) a → Writes {T = U} held faults old new (Err fault) (a ++ b)
writes_stop {a} b stopped =
    let some = stopped.part in record {
      whole = tt;
      no_fault = tt;
      part = (some.0, some.1 ++ b, ap (λ text. text ++ b) some.2 ∙ append_assoc some.0 some.1 b, some.3);
      cause = stopped.cause;
      later = stopped.later;
    }

-- A loop that appends a text for each item.

-- one turn
pub writes_next : {K T U E X : Type 0} {held : K → Option (List ℕ)} {faults : K → ℕ} {old mid new : K} {value : T} {next : U}
    {piece : List ℕ} (f : X → List ℕ) (xs : List X) (i : ℕ) (d : X) → i < length xs → piece ≡ f (get_or xs i d)
    → Writes {E = E} held faults old mid (Ok value) (flat_map f (take i xs)) → Writes {E = E} held faults mid new (Ok next) piece
    → Writes {E = E} held faults old new (Ok next) (flat_map f (take (i + 1) xs))
writes_next f xs i d below is before turn =
    rw (flat_map-take_more f xs i d below, ← is) (writes_then before turn)

-- the turn that fails
pub writes_cut : {K T U E X : Type 0} {held : K → Option (List ℕ)} {faults : K → ℕ} {old mid new : K} {value : T} {fault : E}
    {piece : List ℕ} (f : X → List ℕ) (xs : List X) (i : ℕ) (d : X) → i < length xs → piece ≡ f (get_or xs i d)
    → Writes {E = E} held faults old mid (Ok value) (flat_map f (take i xs)) → Writes {T = U} held faults mid new (Err fault) piece
    → Writes {T = U} held faults old new (Err fault) (flat_map f xs)
writes_cut f xs i d below is before turn =
    let whole = ap (flat_map f) (split_at xs i d below) ∙ flat_map_around f (take i xs) (get_or xs i d) (drop (suc i) xs) in
    rw (whole, ← is) (writes_stop (flat_map f (drop (suc i) xs)) (writes_then before turn))

-- the same text in another form
pub writes_as : {K T E : Type 0} {held : K → Option (List ℕ)} {faults : K → ℕ} {old new : K} {result : Result T E} {a b : List ℕ} → a ≡ b
    → Writes held faults old new result a → Writes held faults old new result b
writes_as is written = rw (← is) written
