-- What a set holds stays sound.
use Rattle.std.proofs.Common.{◌≡◌, ℕ, ◌<◌, ◌%◌, true, List, length, length-set, get_or-set_same, get_or-set_other}
use Rattle.std.proofs.Common.{subst, sym, inl, inr, arith}
use Rattle.std.specs.Prelude.{Option, Some, None, slice_set}
use Rattle.std.proofs.lemmas.Bool.{cases_eq}
use Rattle.moesi_master.specs.Moesi.{is_held}
use Rattle.cache_ram.specs.declared.line.Line.{Line}
use Rattle.cache_ram.specs.Lines.{slot, IsSoundSlot, IsSound}

-- A line is put into its set.
pub sound-put : (slots : List (Option Line)) (set : ℕ) (held : Line) → IsSound slots → set < length slots → held.line % length slots ≡ set
    → is_held held.letter ≡ true → IsSound (slice_set slots set (Some held))
sound-put slots set held old within here letter =
    let same : length (slice_set slots set (Some held)) ≡ length slots = length-set slots set (Some held) in
    record {
      some = (let some = old.some in omega arith);
      sound = λ other. rw same (elim (cases_eq other set) [
        | inl is ↦
            (let P : ℕ → Type 0 = λ n. IsSoundSlot (length slots) n (slot (slice_set slots set (Some held)) n) in
            subst P (sym is) (rw (get_or-set_same slots set (Some held) None within) (here, letter)))
        | inr ne ↦ rw (get_or-set_other slots set other (Some held) None ne) (old.sound other)
      ]);
    }
