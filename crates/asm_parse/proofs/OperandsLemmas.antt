-- Operands that are written are read.
use Rattle.std.proofs.Common.{◌≡◌, ℕ, ◌*◌, ◌%◌, ◌^◌, ◌<◌, ◌≤◌, Bool, true, false, ◌==◌, List, [], ◌∷◌, Option, Some, None, Ok, refl, ap}
use Rattle.std.proofs.Common.{arith}
use Rattle.std.specs.Prelude.{nat_lt}
use Rattle.std.specs.Fmt.{decimal, digits}
use Rattle.std.proofs.lemmas.Bool.{agree_below, agree_below_at, eqb-true}
use Rattle.std.proofs.lemmas.Bool.Decides.{nat_tests}
use Rattle.asm_token.specs.declared.number.Number.{Number}
use Rattle.asm_token.specs.declared.token.Token.{Token}
use Rattle.asm_token.specs.declared.token.Token.TheVariants as tokens
use Rattle.asm_token.specs.Numbers.{word_of}
use Rattle.asm_parse.specs.declared.bounds.Bounds.{Bounds}
use Rattle.asm_parse.specs.declared.forms.Slot.{Slot}
use Rattle.asm_parse.specs.declared.forms.Kind.{Kind}
use Rattle.asm_parse.specs.declared.forms.Kind.TheVariants as kinds
use Rattle.asm_parse.specs.declared.operands.Operand.{Operand}
use Rattle.asm_parse.specs.declared.operands.Operand.TheVariants as said
use Rattle.asm_parse.specs.declared.statement.Value.TheVariants as values
use Rattle.asm_parse.specs.Bounds.{is_within}
use Rattle.asm_parse.specs.Forms as forms
use Rattle.asm_parse.specs.Forms.{signed, unsigned, word, amount, target, space}
use Rattle.asm_parse.specs.Operands.{address_in, link_in, operand_in, with_operand, more_operands_in, no_operands, operands_in}
use Rattle.asm_parse.specs.Registers.{register_of}
use Rattle.asm_parse.specs.Statements.{lower_half}
use Rattle.asm_parse.specs.Printing.{register, signed_of, address}

-- Registers.

abbrev is_found : ℕ → Option ℕ → Bool
is_found r None = false
is_found r (Some k) = k == r

found : (r : ℕ) (k : Option ℕ) → is_found r k ≡ true → k ≡ Some r
found r None is = absurd cc
found r (Some k) is = ap Some (eqb-true k r is)

all_found : agree_below (λ r. is_found r (register_of (decimal r))) (λ r. true) 32 ≡ true
unfolding register_of digits
all_found = refl

register_back : (r : ℕ) → r < 32 → register_of (decimal r) ≡ Some r
register_back r lt = found r (register_of (decimal r))
    (agree_below_at (λ k. is_found k (register_of (decimal k))) (λ k. true) 32 r all_found lt)

pub register_read : (slot : Slot) (r : ℕ) (rest : List Token) → r < 32
    → operand_in (kinds.Register slot) (register r ∷ rest) ≡ Ok (said.Register slot r, rest)
unfolding operand_in
register_read slot r rest lt = rw (register_back r lt) refl

pub link_read : (rd rs : ℕ) → rd < 32 → rs < 32
    → operand_in kinds.Link (register rd ∷ tokens.Comma ∷ register rs ∷ []) ≡ Ok (said.Link rd rs, [])
unfolding operand_in link_in
link_read rd rs first second = rw (register_back rd first, register_back rs second) refl

pub lone_link_read : (rs : ℕ) → rs < 32 → operand_in kinds.Link (register rs ∷ []) ≡ Ok (said.Link 31 rs, [])
unfolding operand_in link_in
lone_link_read rs lt = rw (register_back rs lt) refl

-- Numbers.

pub number_read : (bounds : Bounds) (n : Number) (rest : List Token) → is_within bounds n ≡ true
    → operand_in (kinds.Number bounds) (tokens.Number n ∷ rest) ≡ Ok (said.Value (values.Number (word_of n)), rest)
unfolding operand_in
number_read bounds n rest within = rw within refl

pub place_read : (bounds : Bounds) (n : Number) (rest : List Token) → is_within bounds n ≡ true
    → operand_in (kinds.Place bounds) (tokens.Number n ∷ rest) ≡ Ok (said.Value (values.Number (word_of n)), rest)
unfolding operand_in
place_read bounds n rest within = rw within refl

pub label_read : (bounds : Bounds) (label : List ℕ) (rest : List Token)
    → operand_in (kinds.Place bounds) (tokens.Name label ∷ rest) ≡ Ok (said.Value (values.Of label), rest)
unfolding operand_in
label_read bounds label rest = refl

pub is_amount : (n : ℕ) → n < 32 → is_within amount (record { negative = false; magnitude = n }) ≡ true
is_amount n lt = grind (arith, nat_tests)

pub is_unsigned : (n : ℕ) → n < 2 ^ 16 → is_within unsigned (record { negative = false; magnitude = n }) ≡ true
is_unsigned n lt = grind (arith, nat_tests)

pub is_word : (n : ℕ) → n < 2 ^ 32 → is_within word (record { negative = false; magnitude = n }) ≡ true
is_word n lt = grind (arith, nat_tests)

pub is_target : (index : ℕ) → index < 2 ^ 26 → is_within target (record { negative = false; magnitude = 4 * index }) ≡ true
is_target index lt = grind (arith, nat_tests)

pub is_address : (n : ℕ) → n < 2 ^ 32 → n % 4 ≡ 0 → is_within forms.address (record { negative = false; magnitude = n }) ≡ true
is_address n lt at = grind (arith, nat_tests)

pub is_space : (n : ℕ) → n ≤ 2 ^ 24 → n % 4 ≡ 0 → is_within space (record { negative = false; magnitude = n }) ≡ true
is_space n few at = grind (arith, nat_tests)

-- sixteen bits are within the bounds of a signed number, and are the lower half of its word
signed_by : (imm : ℕ) (low : Bool) → nat_lt imm 32768 ≡ low → imm < 2 ^ 16 → (is_within signed (signed_of imm) ≡ true)
    × (lower_half (word_of (signed_of imm)) ≡ imm)
signed_by imm true is lt = rw is (grind (arith, nat_tests), omega arith)
signed_by imm false is lt = rw is (grind (arith, nat_tests), grind (arith, nat_tests))

pub is_signed : (imm : ℕ) → imm < 2 ^ 16 → is_within signed (signed_of imm) ≡ true
is_signed imm lt = (signed_by imm (nat_lt imm 32768) refl lt).0

pub signed_back : (imm : ℕ) → imm < 2 ^ 16 → lower_half (word_of (signed_of imm)) ≡ imm
signed_back imm lt = (signed_by imm (nat_lt imm 32768) refl lt).1

-- `offset(rs)`
pub address_read : (imm rs : ℕ) → imm < 2 ^ 16 → rs < 32
    → operand_in kinds.Address (address imm rs) ≡ Ok (said.Address (word_of (signed_of imm)) rs, [])
unfolding operand_in address_in
address_read imm rs lt below = rw (is_signed imm lt, register_back rs below) refl

-- `(rs)`
pub lone_address_read : (rs : ℕ) → rs < 32
    → operand_in kinds.Address (tokens.Open ∷ register rs ∷ tokens.Close ∷ []) ≡ Ok (said.Address 0 rs, [])
unfolding operand_in address_in
lone_address_read rs below = rw (register_back rs below) refl

-- Operands, a comma between each two.

pub one_read : (k : Kind) (ts : List Token) (o : Operand) → operand_in k ts ≡ Ok (o, [])
    → operands_in (k ∷ []) ts ≡ Ok (with_operand o no_operands)
unfolding operands_in more_operands_in
one_read k ts o first = rw first refl

pub two_read : (k l : Kind) (ts us : List Token) (o p : Operand) → operand_in k ts ≡ Ok (o, tokens.Comma ∷ us)
    → operand_in l us ≡ Ok (p, [])
    → operands_in (k ∷ l ∷ []) ts ≡ Ok (with_operand p (with_operand o no_operands))
unfolding operands_in more_operands_in
two_read k l ts us o p first second = rw (first, second) refl

pub three_read : (k l m : Kind) (ts us vs : List Token) (o p q : Operand) → operand_in k ts ≡ Ok (o, tokens.Comma ∷ us)
    → operand_in l us ≡ Ok (p, tokens.Comma ∷ vs)
    → operand_in m vs ≡ Ok (q, []) → operands_in (k ∷ l ∷ m ∷ []) ts ≡ Ok (with_operand q (with_operand p (with_operand o no_operands)))
unfolding operands_in more_operands_in
three_read k l m ts us vs o p q first second third = rw (first, second, third) refl
