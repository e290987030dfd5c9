-- An entry in which no field differs is the one that is due.
use Rattle.std.proofs.Common.{◌≡◌, ℕ, List, ap, refl, sym, ◌∙◌}
use Rattle.std.specs.Prelude.{Bool, true, false, not, ◌==◌, Some, None}
use Rattle.std.proofs.lemmas.Option.{none-some}
use Rattle.std.proofs.lemmas.Bool.{not-false, eqb-true, eq-eqb}
use Rattle.std_laws.proofs.OptionLaws.{cond_none_parts}
use Rattle.access_log.specs.declared.Entry.{Entry}
use Rattle.mips_isa.specs.declared.Access.{Access}
use Rattle.access_log.specs.declared.Core.{Core}
use Rattle.access_log.specs.Memory.{due, is_same, kind_number, is_same_word}
use Rattle.access_log.proofs.EntryLaws.{same_kind, same_word, same_fields, is_same-true, is_same-same, is_same_word-same}
use Rattle.access_log.specs.declared.field.Field.{Field}
use Rattle.access_log.specs.declared.field.Found.{Found}
use Rattle.seq_machine.specs.Differences.{first_difference}

same_unless_told : (entry due : Entry) → entry.core ≡ due.core → entry.nth ≡ due.nth → first_difference entry due ≡ None → entry ≡ due
unfolding first_difference
same_unless_told entry due core nth h =
    let kind = cond_none_parts (not (kind_number entry.kind == kind_number due.kind)) _ _ h in
    let addr = cond_none_parts (not (entry.addr == due.addr)) _ _ kind.1 in
    let old = cond_none_parts (not (entry.old == due.old)) _ _ addr.1 in
    let new = cond_none_parts (not (is_same_word entry.new due.new)) _ _ old.1 in
    same_fields entry due core nth
    (same_kind entry.kind due.kind (eqb-true (kind_number entry.kind) (kind_number due.kind) (not-false _ kind.0)))
    (eqb-true entry.addr due.addr (not-false _ addr.0)) (eqb-true entry.old due.old (not-false _ old.0))
    (same_word entry.new due.new (not-false _ new.0))

-- nothing is told of an entry that is due
first_difference-same : (entry : Entry) → first_difference entry entry ≡ None
unfolding first_difference
first_difference-same entry =
    rw (
      eq-eqb (kind_number entry.kind) (kind_number entry.kind) refl,
      eq-eqb entry.addr entry.addr refl,
      eq-eqb entry.old entry.old refl,
      is_same_word-same entry.new,
    ) refl

pub told_not_same : (entry due : Entry) (told : Field × Found) → first_difference entry due ≡ Some told → is_same entry due ≡ false
told_not_same entry due told h =
    by_test (is_same entry due) refl
  where
    by_test : (b : Bool) → is_same entry due ≡ b → b ≡ false
    by_test false e = refl
    by_test true e =
        let same : entry ≡ due = is_same-true entry due e in
        absurd (none-some told (sym (first_difference-same due) ∙ (rw same at h)))

-- an entry of a core that has caught up to it, where it is the one that is due
pub record IsDue (memory : List ℕ) (entry : Entry) (core : Core) (access : Access) : Type 0 where
  pub same : is_same entry (due memory entry.core core.executed access) ≡ true
  pub addr : entry.addr ≡ access.addr
  pub kind : entry.kind ≡ access.kind

is_due : (memory : List ℕ) (entry : Entry) (core : Core) (access : Access) → entry ≡ due memory entry.core core.executed access
    → IsDue memory entry core access
unfolding due
is_due memory entry core access is = record {
  same = rw (← is) (is_same-same entry);
  addr = ap (λ (e : Entry). e.addr) is;
  kind = ap (λ (e : Entry). e.kind) is;
}

-- an entry of which nothing is told is due
pub entry_is_due : (memory : List ℕ) (entry : Entry) (core : Core) (access : Access) (found : Entry) → core.executed ≡ entry.nth
    → found ≡ due memory entry.core core.executed access → first_difference entry found ≡ None → IsDue memory entry core access
unfolding due
entry_is_due memory entry core access found nth is h =
    is_due memory entry core access (same_unless_told entry found (rw is refl) (rw (is, nth) refl) h ∙ is)
