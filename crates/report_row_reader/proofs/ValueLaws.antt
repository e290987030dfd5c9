-- What is read of one part of a row is what it spells.
use Rattle.std.proofs.Common.{◌≡◌, ◌≢◌, ℕ, zero, suc, ◌+◌, ◌-◌, ◌*◌, ◌/◌, ◌%◌, ◌⊎◌, inl, inr, subst, ◌^◌, ◌<◌, ◌≤◌, ◌==◌, Bool, true, false}
use Rattle.std.proofs.Common.{cond, List, [], ◌∷◌, decimal, Option, Some, None, refl, sym, ap, ◌∙◌, arith}
use Rattle.std.specs.Prelude.{nat_le}
use Rattle.std.specs.Int.{◌∣◌}
use Rattle.std.specs.Str.{bytes_eq}
use Rattle.std.specs.Option.{option_map}
use Rattle.std.specs.Int.{w16, to_be_bytes, from_be_bytes}
use Rattle.std.proofs.lemmas.Bool.{and_from, and_parts, leb-true, le-leb, eqb-true, eq-eqb, ltb-true, lt-ltb}
use Rattle.std.proofs.lemmas.Slice.Eq.{bytes_eq-Decides}
use Rattle.std.proofs.Math.Nat.{div-add-mod, mul-mod_left, mul-mod_right, mul_assoc, mul_left_comm, dvd-mul_right, eq-one_of_dvd-one}
use Rattle.std.proofs.Math.Nat.{pow-succ'}
use Rattle.std.proofs.lemmas.Nat.{pow-add, pow_below, pow_pos, mul-mod, be_bytes_2, from_be_bytes-to_be_bytes_2}
use Rattle.hex.specs.Hex.{encode_lower}
use Rattle.kmp_base.specs.Text.{hex8, hex4}
use Rattle.kmp_base.specs.declared.setup.Policy.{Policy}
use Rattle.kmp_base.specs.declared.setup.Policy.TheVariants as policies
use Rattle.kmp_base.specs.declared.setup.Turns.{Turns}
use Rattle.kmp_base.specs.declared.setup.Turns.TheVariants as turns
use Rattle.mips_isa.specs.declared.Kind.{Kind}
use Rattle.mips_isa.specs.declared.Kind.TheVariants as kinds
use Rattle.mips_isa.specs.declared.Stop.TheVariants as stops
use Rattle.timetable.specs.declared.End.{End}
use Rattle.timetable.specs.declared.End.TheVariants as ends
use Rattle.row_reader.specs.Numbers.{AreBytes, number_of, word_of, bytes_of}
use Rattle.row_reader.proofs.FieldLaws.{IsField, some_is}
use Rattle.row_reader.proofs.NumberLaws.{number_field, word_field, tested_field, each_byte, bytes_found, bytes_again}
use Rattle.kmp_base.specs.Names.{named, with_names, machine_name, policy_name, turns_name, every_policy, every_turns}
use Rattle.kmp_base.specs.declared.setup.MachineKind.{MachineKind}
use Rattle.kmp_base.specs.declared.setup.MachineKind.TheVariants as machines
use Rattle.access_log.specs.declared.Letter.{Letter}
use Rattle.access_log.specs.declared.Letter.TheVariants as letters
use Rattle.access_log.specs.Names.{letter_name}
use Rattle.mips_isa.specs.Names.{kind_name}
use Rattle.timetable.specs.Names.{end_name}
use Rattle.report_rows.specs.Bounds.{IsWord, IsAddress}
use Rattle.report_rows.specs.Names.{bit_name}
use Rattle.report_row_reader.specs.Reading.{every_machine, every_access, every_end, machine_of, policy_of, turns_of, kind_of, end_of}
use Rattle.report_row_reader.specs.Reading.{number_from, sets_of, is_address, every_bit, bit_of, every_letter, letter_of, halfword_of}
use Rattle.report_row_reader.specs.Reading.{address_of, address_from, some_word_of}

-- the same field in other words
pub field_as : {X : Type 0} (Fits Fits' : X → Type 0) (spell : X → List ℕ) (one : List ℕ → Option X)
    → ((x : X) → Fits x → Fits' x) → ((x : X) → Fits' x → Fits x) → IsField Fits spell one → IsField Fits' spell one
field_as Fits Fits' spell one to from law = record {
  found = λ text x e. let f = law.found text x e in (to x f.0, f.1);
  again = λ x fits. law.again x (from x fits);
}

-- ---- names

named_here : {X : Type 0} (name : X → List ℕ) (text : List ℕ) (value x : X) (b : Bool) (more : Option X)
    → bytes_eq (name value) text ≡ b → (more ≡ Some x → text ≡ name x) → cond b (Some value) more ≡ Some x → text ≡ name x
named_here name text value x true more is others e = sym ((bytes_eq-Decides (name value) text).0 is) ∙ ap name (some_is value x e)
named_here name text value x false more is others e = others e

-- a text that names a value is its name
named_found : {X : Type 0} (name : X → List ℕ) (values : List X) (text : List ℕ) (x : X) → named (with_names name values) text ≡ Some x
    → text ≡ name x
named_found name [] text x e = absurd cc
named_found name (value ∷ values) text x e =
    named_here name text value x (bytes_eq (name value) text) (named (with_names name values) text) refl (named_found name values text x) e

machine_again : (machine : MachineKind) → machine_of (machine_name machine) ≡ Some machine
unfolding machine_of
machine_again machines.Plain = refl
machine_again machines.Pipe = refl
machine_again machines.Full = refl

pub machine_field : IsField (λ (machine : MachineKind). Unit {0}) machine_name machine_of
unfolding machine_of
machine_field = record {
  found = λ text machine e. (tt, named_found machine_name every_machine text machine e);
  again = λ machine fits. machine_again machine;
}

policy_again : (policy : Policy) → policy_of (policy_name policy) ≡ Some policy
unfolding policy_of
policy_again policies.Fifo = refl
policy_again policies.Fixed = refl
policy_again policies.Round = refl
policy_again policies.Seeded = refl

pub policy_field : IsField (λ (policy : Policy). Unit {0}) policy_name policy_of
unfolding policy_of
policy_field = record {
  found = λ text policy e. (tt, named_found policy_name every_policy text policy e);
  again = λ policy fits. policy_again policy;
}

turns_again : (order : Turns) → turns_of (turns_name order) ≡ Some order
unfolding turns_of
turns_again turns.Round = refl
turns_again turns.Seeded = refl
turns_again turns.Threads = refl

pub turns_field : IsField (λ (order : Turns). Unit {0}) turns_name turns_of
unfolding turns_of
turns_field = record {
  found = λ text order e. (tt, named_found turns_name every_turns text order e);
  again = λ order fits. turns_again order;
}

kind_again : (kind : Kind) → kind ≢ kinds.Fetch → kind_of (kind_name kind) ≡ Some kind
unfolding kind_of
kind_again kinds.Fetch fits = absurd (fits refl)
kind_again kinds.Lw fits = refl
kind_again kinds.Sw fits = refl
kind_again kinds.Cas fits = refl

kind_found : (text : List ℕ) (kind : Kind) → kind_of text ≡ Some kind → (kind ≢ kinds.Fetch) × (text ≡ kind_name kind)
unfolding kind_of
kind_found text kind e =
    let is = named_found kind_name every_access text kind e in
    (λ fetch. absurd (let none : None ≡ Some kind = ap (λ k. kind_of (kind_name k)) (sym fetch) ∙ ap kind_of (sym is) ∙ e in cc), is)

pub kind_field : IsField (λ kind. kind ≢ kinds.Fetch) kind_name kind_of
kind_field = record {
  found = kind_found;
  again = kind_again;
}

bit_again : (bit : Bool) → bit_of (bit_name bit) ≡ Some bit
unfolding bit_of
bit_again true = refl
bit_again false = refl

pub bit_field : IsField (λ (bit : Bool). Unit {0}) bit_name bit_of
unfolding bit_of
bit_field = record {
  found = λ text bit e. (tt, named_found bit_name every_bit text bit e);
  again = λ bit fits. bit_again bit;
}

letter_again : (letter : Letter) → letter_of (letter_name letter) ≡ Some letter
unfolding letter_of
letter_again letters.M = refl
letter_again letters.O = refl
letter_again letters.E = refl
letter_again letters.S = refl
letter_again letters.I = refl

pub letter_field : IsField (λ (letter : Letter). Unit {0}) letter_name letter_of
unfolding letter_of
letter_field = record {
  found = λ text letter e. (tt, named_found letter_name every_letter text letter e);
  again = λ letter fits. letter_again letter;
}

end_again : (end : End) → end_of (end_name end) ≡ Some end
unfolding end_of
end_again (ends.Stopped stops.OffCode) = refl
end_again (ends.Stopped stops.Halt) = refl
end_again (ends.Stopped stops.Misaligned) = refl
end_again (ends.Stopped stops.Outside) = refl
end_again (ends.Stopped stops.CodeWrite) = refl
end_again ends.Spent = refl

pub end_field : IsField (λ (end : End). Unit {0}) end_name end_of
unfolding end_of
end_field = record {
  found = λ text end e. (tt, named_found end_name every_end text end e);
  again = λ end fits. end_again end;
}

-- ---- numbers

pub from_field : (least most : ℕ) → most < 2 ^ 64 → IsField (λ n. (least ≤ n) × (n ≤ most)) decimal (number_from least most)
unfolding number_from
from_field least most small =
    field_as (λ n. (n ≤ most) × (nat_le least n ≡ true)) (λ n. (least ≤ n) × (n ≤ most)) decimal (number_from least most)
    (λ n h. (leb-true least n h.1, h.0)) (λ n h. (h.1, le-leb least n h.0))
    (tested_field (λ n. n ≤ most) decimal (number_of most) (λ n. nat_le least n) (number_field most small))

-- ---- 16 bits

abbrev IsHalfword : ℕ → Type 0
IsHalfword n = n < 2 ^ 16

halfword_is_two : (bytes : List ℕ) → AreBytes 2 bytes → IsHalfword (from_be_bytes w16 bytes)
halfword_is_two bytes are =
    let each = each_byte bytes are.1 in
    let b0 = each 0 in
    let b1 = each 1 in
    omega (arith, b0, b1)

halfword_found' : (text : List ℕ) (o : Option (List ℕ)) (n : ℕ) → bytes_of 2 text ≡ o → option_map (from_be_bytes w16) o ≡ Some n
    → IsHalfword n × (text ≡ hex4 n)
halfword_found' text (Some bytes) n is e =
    let f = bytes_found 2 text bytes is in
    let value = some_is (from_be_bytes w16 bytes) n e in (
      subst IsHalfword value (halfword_is_two bytes f.0),
      f.1 ∙ ap encode_lower (sym (be_bytes_2 bytes n f.0.0 (each_byte bytes f.0.1) (sym value))),
    )
halfword_found' text None n is e = absurd cc

halfword_found : (text : List ℕ) (n : ℕ) → halfword_of text ≡ Some n → IsHalfword n × (text ≡ hex4 n)
unfolding halfword_of
halfword_found text n e = halfword_found' text (bytes_of 2 text) n refl e

halfword_bytes : (n : ℕ) → AreBytes 2 (to_be_bytes w16 n)
halfword_bytes n = (refl, (omega arith, (omega arith, tt)))

halfword_again : (n : ℕ) → IsHalfword n → halfword_of (hex4 n) ≡ Some n
unfolding halfword_of
halfword_again n small =
    ap (option_map (from_be_bytes w16)) (bytes_again 2 (to_be_bytes w16 n) (halfword_bytes n))
    ∙ ap (λ x. Some x) (from_be_bytes-to_be_bytes_2 n small)

pub halfword_field : IsField (λ n. n < 2 ^ 16) hex4 halfword_of
halfword_field = record { found = halfword_found; again = halfword_again }

-- ---- the divisors of a power of two are powers of two

one_even : (a b : ℕ) → a < 2 → b < 2 → (a * b) % 2 ≡ 0 → (a ≡ 0) ⊎ (b ≡ 0)
one_even zero b a_small b_small e = inl refl
one_even (suc zero) zero a_small b_small e = inr refl
one_even (suc zero) (suc zero) a_small b_small e = absurd (omega (arith, e))
one_even (suc zero) (suc (suc b)) a_small b_small e = absurd (omega arith)
one_even (suc (suc a)) b a_small b_small e = absurd (omega arith)

-- one of two numbers whose product is even is even
half_of_product : (d q n : ℕ) → d * q ≡ 2 * n → ((d ≡ 2 * (d / 2)) × (d / 2 * q ≡ n)) ⊎ (d * (q / 2) ≡ n)
half_of_product d q n e = elim
    (one_even (d % 2) (q % 2) (omega arith) (omega arith) (sym (mul-mod d q 2) ∙ ap (λ x. x % 2) e ∙ mul-mod_right 2 n)) [
      | inl even ↦
          let twice : d ≡ 2 * (d / 2) = omega (arith, even) in
          let product : d * q ≡ 2 * (d / 2 * q) = ap (λ x. x * q) twice ∙ mul_assoc 2 (d / 2) q in
          inl (twice, omega (arith, product, e))
      | inr even ↦
          let twice : q ≡ 2 * (q / 2) = omega (arith, even) in
          let product : d * q ≡ 2 * (d * (q / 2)) = ap (λ x. d * x) twice ∙ mul_left_comm d 2 (q / 2) in
          inr (omega (arith, product, e))
    ]

divisor_is_power : (k d q : ℕ) → d * q ≡ 2 ^ k → (j : ℕ) × (d ≡ 2 ^ j)
divisor_is_power zero d q e = (0, eq-one_of_dvd-one (subst (λ n. d ∣ n) e (dvd-mul_right d q)))
divisor_is_power (suc k) d q e = elim (half_of_product d q (2 ^ k) (e ∙ pow-succ' 2 k)) [
  | inl h ↦ let j = divisor_is_power k (d / 2) q h.1 in (suc j.0, h.0 ∙ ap (λ x. 2 * x) j.1 ∙ sym (pow-succ' 2 j.0))
  | inr h ↦ divisor_is_power k d (q / 2) h
]

sets_are : (n : ℕ) → 1 ≤ n → 256 % n ≡ 0 → (k : ℕ) × (n ≡ 2 ^ k)
sets_are n some e = divisor_is_power 8 n (256 / n) (let d = div-add-mod 256 n in omega (arith, d, e))

power_divides : (k : ℕ) → 2 ^ k ≤ 256 → 256 % 2 ^ k ≡ 0
power_divides k e =
    let few : k ≤ 8 = grind (arith, pow_below 8 k) in
    let sum : 8 ≡ 8 - k + k = omega arith in
    let product : 256 ≡ 2 ^ (8 - k) * 2 ^ k = ap (λ j. 2 ^ j) sum ∙ pow-add 2 (8 - k) k in
    ap (λ n. n % 2 ^ k) product ∙ mul-mod_left (2 ^ (8 - k)) (2 ^ k)

sets_divide : (n : ℕ) → ((k : ℕ) × (n ≡ 2 ^ k)) × (n ≤ 256) → 256 % n ≡ 0
sets_divide n h = ap (λ m. 256 % m) h.0.1 ∙ power_divides h.0.0 (subst (λ m. m ≤ 256) h.0.1 h.1)

sets_some : (n : ℕ) → (k : ℕ) × (n ≡ 2 ^ k) → 1 ≤ n
sets_some n power = let some = pow_pos power.0 in omega (arith, some, power.1)

pub sets_field : IsField (λ n. ((k : ℕ) × (n ≡ 2 ^ k)) × (n ≤ 256)) decimal sets_of
unfolding sets_of
sets_field =
    field_as (λ n. ((1 ≤ n) × (n ≤ 256)) × ((256 % n == 0) ≡ true)) (λ n. ((k : ℕ) × (n ≡ 2 ^ k)) × (n ≤ 256)) decimal sets_of
    (λ n h. (sets_are n h.0.0 (eqb-true (256 % n) 0 h.1), h.0.1)) (λ n h. ((sets_some n h.0, h.1), eq-eqb (256 % n) 0 (sets_divide n h)))
    (tested_field (λ n. (1 ≤ n) × (n ≤ 256)) decimal (number_from 1 256) (λ n. 256 % n == 0) (from_field 1 256 (omega arith)))

-- ---- addresses and words

address_passes : (bytes addr : ℕ) → is_address bytes addr ≡ true → IsAddress bytes addr
address_passes bytes addr e =
    let both = and_parts _ _ e in
    record { aligned = eqb-true (addr % 4) 0 both.0; inside = ltb-true addr bytes both.1 }

passes_address : (bytes addr : ℕ) → IsAddress bytes addr → is_address bytes addr ≡ true
passes_address bytes addr h = and_from _ _ (eq-eqb (addr % 4) 0 h.aligned) (lt-ltb addr bytes h.inside)

pub address_field : (bytes : ℕ) → bytes ≤ 2 ^ 32 → IsField (IsAddress bytes) hex8 (address_of bytes)
unfolding address_of
address_field bytes fits =
    field_as (λ n. IsWord n × (is_address bytes n ≡ true)) (IsAddress bytes) hex8 (address_of bytes)
    (λ n h. address_passes bytes n h.1) (λ n h. (omega (arith, h.inside), passes_address bytes n h))
    (tested_field IsWord hex8 word_of (is_address bytes) word_field)

pub address_from_field : (bytes low : ℕ) → bytes ≤ 2 ^ 32 → IsField (λ n. IsAddress bytes n × (low ≤ n)) hex8 (address_from bytes low)
unfolding address_from
address_from_field bytes low fits =
    field_as (λ n. IsAddress bytes n × (nat_le low n ≡ true)) (λ n. IsAddress bytes n × (low ≤ n)) hex8 (address_from bytes low)
    (λ n h. (h.0, leb-true low n h.1)) (λ n h. (h.0, le-leb low n h.1))
    (tested_field (IsAddress bytes) hex8 (address_of bytes) (λ n. nat_le low n) (address_field bytes fits))

pub some_word_field : IsField (λ n. IsWord n × (1 ≤ n)) hex8 some_word_of
unfolding some_word_of
some_word_field =
    field_as (λ n. IsWord n × (nat_le 1 n ≡ true)) (λ n. IsWord n × (1 ≤ n)) hex8 some_word_of
    (λ n h. (h.0, leb-true 1 n h.1)) (λ n h. (h.0, le-leb 1 n h.1))
    (tested_field IsWord hex8 word_of (λ n. nat_le 1 n) word_field)
