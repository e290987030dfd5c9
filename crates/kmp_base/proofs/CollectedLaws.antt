-- What was written over a sink that collects, and then put beneath by its `finish`, was written beneath.
use Rattle.std.proofs.Common.{◌≡◌, ℕ, List, [], ◌++◌, sym, ◌∙◌, ap, append_assoc, append-nil, arith}
use Rattle.std.specs.Prelude.{Option, Some, None, Result, Ok, Err}
use Rattle.std.specs.Io.KnownBytes.{append_known}
use Rattle.kmp_base.specs.Bind.{◌>>=◌}
use Rattle.std_laws.proofs.OptionLaws.{append_known-append}
use Rattle.kmp_base.specs.Streams.{AppendedPart, HoldsNothing, Writes}
use Rattle.kmp_base.specs.Collected.{with_waiting, faults_beneath}
use Rattle.kmp_base.specs.declared.collected.Collected.{Collected}

-- a front of a text is a front of a longer one
part_more : (old new : Option (List ℕ)) (text more : List ℕ) → AppendedPart old new text → AppendedPart old new (text ++ more)
part_more old new text more some =
    (some.0, some.1 ++ more, ap (λ t. t ++ more) some.2 ∙ append_assoc some.0 some.1 more, some.3)

-- Where nothing was held at first, a front of what waited ends a front of the text.
front : (old mid new : Option (List ℕ)) (text left : List ℕ) → HoldsNothing old → append_known mid left ≡ append_known old text
    → AppendedPart mid new left → AppendedPart old new text
front None None new text left nothing is some = (text, [], sym (append-nil text), some.3)
front None (Some xs) new text left nothing is some = absurd (cc)
front (Some ys) None new text left nothing is some = absurd (cc)
front (Some ys) (Some xs) new text left nothing is some =
    let whole : xs ++ left ≡ text = (let same : xs ++ left ≡ ys ++ text = cc in same ∙ ap (λ front. front ++ text) nothing) in (
      xs ++ some.0,
      some.1,
      sym whole ∙ ap (λ t. xs ++ t) some.2 ∙ sym (append_assoc xs some.0 some.1),
      some.3 ∙ ap (λ front. Some (front ++ (xs ++ some.0))) (sym nothing),
    )

-- where no byte waits, what is appended is appended to what is held beneath
append_known-empty : (held : Option (List ℕ)) (waiting text : List ℕ) → waiting ≡ []
    → append_known (append_known held waiting) text ≡ append_known held text
append_known-empty held waiting text empty = append_known-append held waiting text ∙ ap (λ front. append_known held (front ++ text)) empty

-- A call over the sink that collects, and `finish` behind it.
pub writes_beneath : {K T U E : Type 0} (held : K → Option (List ℕ)) (faults : K → ℕ) (old new : Collected K) (sink : K)
    (called : Result T E) (finished : Result U E) (text : List ℕ) → HoldsNothing (held old.sink) → old.waiting.items ≡ []
    → Writes (with_waiting held) (faults_beneath faults) old new called text → Writes held faults new.sink sink finished new.waiting.items
    → Writes held faults old.sink sink (called >>= (λ _. finished)) text
writes_beneath held faults old new sink (Ok _) (Ok _) text nothing empty first second = record {
  whole = second.whole ∙ first.whole ∙ append_known-empty (held old.sink) old.waiting.items text empty;
  no_fault = second.no_fault ∙ first.no_fault;
  part = tt;
  cause = tt;
  later = omega (arith, first.later, second.later);
}
writes_beneath held faults old new sink (Ok _) (Err _) text nothing empty first second = record {
  whole = tt;
  no_fault = tt;
  part = front (held old.sink) (held new.sink) (held sink) text new.waiting.items nothing
      (first.whole ∙ append_known-empty (held old.sink) old.waiting.items text empty) second.part;
  cause = omega (arith, first.no_fault, second.cause);
  later = omega (arith, first.later, second.later);
}
writes_beneath held faults old new sink (Err _) (Ok _) text nothing empty first second =
    let some = first.part in record {
      whole = tt;
      no_fault = tt;
      part = (some.0, some.1, some.2, second.whole ∙ some.3 ∙ append_known-empty (held old.sink) old.waiting.items some.0 empty);
      cause = omega (arith, first.cause, second.later);
      later = omega (arith, first.later, second.later);
    }
writes_beneath held faults old new sink (Err _) (Err _) text nothing empty first second =
    let some = first.part in record {
      whole = tt;
      no_fault = tt;
      part = rw some.2 (part_more (held old.sink) (held sink) some.0 some.1
          (front (held old.sink) (held new.sink) (held sink) some.0 new.waiting.items nothing
          (some.3 ∙ append_known-empty (held old.sink) old.waiting.items some.0 empty) second.part));
      cause = omega (arith, first.cause, second.later);
      later = omega (arith, first.later, second.later);
    }
