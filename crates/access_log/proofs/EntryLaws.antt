-- The test of two entries tells whether they are one.
use Rattle.std.proofs.Common.{◌≡◌, ℕ, ap, refl, sym, ◌∙◌}
use Rattle.std.specs.Prelude.{true, ◌&&◌, ◌==◌, if◌then◌else◌, Option, Some, None}
use Rattle.std.proofs.lemmas.Bool.{eqb-true, eq-eqb, and_parts, false≢true}
use Rattle.mips_isa.specs.declared.Kind.{Kind}
use Rattle.mips_isa.specs.declared.Kind.TheVariants.{Fetch, Lw, Sw, Cas}
use Rattle.access_log.specs.declared.Entry.{Entry}
use Rattle.access_log.specs.Memory.{is_same, kind_number, is_same_word}

-- the kind of a number
abbrev kind_of_number : ℕ → Kind
kind_of_number n = if n == 0 then Fetch else (if n == 1 then Lw else (if n == 2 then Sw else Cas))

kind_of_number-kind_number : (kind : Kind) → kind_of_number (kind_number kind) ≡ kind
kind_of_number-kind_number Fetch = refl
kind_of_number-kind_number Lw = refl
kind_of_number-kind_number Sw = refl
kind_of_number-kind_number Cas = refl

pub same_kind : (a b : Kind) → kind_number a ≡ kind_number b → a ≡ b
same_kind a b e = sym (kind_of_number-kind_number a) ∙ (ap kind_of_number e ∙ kind_of_number-kind_number b)

pub same_word : (a b : Option ℕ) → is_same_word a b ≡ true → a ≡ b
same_word None None h = refl
same_word None (Some b) h = absurd (false≢true h)
same_word (Some a) None h = absurd (false≢true h)
same_word (Some a) (Some b) h = ap Some (eqb-true a b h)

pub is_same_word-same : (a : Option ℕ) → is_same_word a a ≡ true
is_same_word-same None = refl
is_same_word-same (Some a) = eq-eqb a a refl

-- an entry by its fields
make : ℕ → ℕ → Kind → ℕ → ℕ → Option ℕ → Entry
make core nth kind addr old new = record { core = core; nth = nth; kind = kind; addr = addr; old = old; new = new }

same_make : (a b : Entry) → a.core ≡ b.core → a.nth ≡ b.nth → a.kind ≡ b.kind → a.addr ≡ b.addr → a.old ≡ b.old → a.new ≡ b.new
    → make a.core a.nth a.kind a.addr a.old a.new ≡ make b.core b.nth b.kind b.addr b.old b.new
same_make a b core nth kind addr old new = cc

-- entries with the same fields are one
pub same_fields : (a b : Entry) → a.core ≡ b.core → a.nth ≡ b.nth → a.kind ≡ b.kind → a.addr ≡ b.addr → a.old ≡ b.old → a.new ≡ b.new
    → a ≡ b
unfolding make
same_fields a b core nth kind addr old new = same_make a b core nth kind addr old new

pub is_same-true : (a b : Entry) → is_same a b ≡ true → a ≡ b
unfolding is_same
is_same-true a b h =
    let one = and_parts (a.core == b.core)
    ((a.nth == b.nth) && ((kind_number a.kind == kind_number b.kind)
    && ((a.addr == b.addr) && ((a.old == b.old) && is_same_word a.new b.new)))) h in
    let two = and_parts (a.nth == b.nth)
    ((kind_number a.kind == kind_number b.kind) && ((a.addr == b.addr) && ((a.old == b.old) && is_same_word a.new b.new))) one.1 in
    let three = and_parts (kind_number a.kind == kind_number b.kind) ((a.addr == b.addr) && ((a.old == b.old) && is_same_word a.new b.new))
    two.1 in
    let four = and_parts (a.addr == b.addr) ((a.old == b.old) && is_same_word a.new b.new) three.1 in
    let five = and_parts (a.old == b.old) (is_same_word a.new b.new) four.1 in
    same_fields a b (eqb-true a.core b.core one.0) (eqb-true a.nth b.nth two.0)
    (same_kind a.kind b.kind (eqb-true (kind_number a.kind) (kind_number b.kind) three.0))
    (eqb-true a.addr b.addr four.0) (eqb-true a.old b.old five.0) (same_word a.new b.new five.1)

pub is_same-same : (a : Entry) → is_same a a ≡ true
unfolding is_same
is_same-same a =
    rw (
      eq-eqb a.core a.core refl,
      eq-eqb a.nth a.nth refl,
      eq-eqb (kind_number a.kind) (kind_number a.kind) refl,
      eq-eqb a.addr a.addr refl,
      eq-eqb a.old a.old refl,
      is_same_word-same a.new,
    ) refl
