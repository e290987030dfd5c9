-- Fields that are put together by shifts and `|` are a sum.
use Rattle.std.proofs.Common.{◌≡◌, ℕ, ◌+◌, ◌-◌, ◌*◌, ◌/◌, ◌%◌, ◌^◌, ◌<◌, bit_or, bit_and, arith, ap, refl, ◌∙◌}
use Rattle.std.proofs.lemmas.Nat.{or_shifted, or_comm, pow-add, pow_pos, shr_below}
use Rattle.std.proofs.lemmas.Nat.Bits.{and_high, ones_shr}
use Rattle.std_laws.proofs.NumberLaws.{or_multiple, multiple_sub_one}
use Rattle.mips_isa.specs.Words.{register_form, immediate_form}

-- The fields opcode, rs and rt stand above sixteen bits.
pub immediate_bits : (o s t i : ℕ) → o < 64 → s < 32 → t < 32 → i < 2 ^ 16
    → bit_or (bit_or (bit_or (o * 67108864 % 4294967296) (s * 2097152 % 4294967296)) (t * 65536 % 4294967296)) i ≡ immediate_form o s t i
immediate_bits o s t i fo fs ft fi =
    let eo : o * 67108864 % 4294967296 ≡ o * 67108864 = omega arith in
    let es : s * 2097152 % 4294967296 ≡ s * 2097152 = omega arith in
    let et : t * 65536 % 4294967296 ≡ t * 65536 = omega arith in
    let one : bit_or (o * 67108864) (s * 2097152) ≡ o * 67108864 + s * 2097152 =
    or_multiple (o * 67108864) (s * 2097152) o 26 (omega arith) (omega arith) in
    let two : bit_or (o * 67108864 + s * 2097152) (t * 65536) ≡ o * 67108864 + s * 2097152 + t * 65536 =
    or_multiple (o * 67108864 + s * 2097152) (t * 65536) (o * 32 + s) 21 (omega arith) (omega arith) in
    let three : bit_or (o * 67108864 + s * 2097152 + t * 65536) i ≡ o * 67108864 + s * 2097152 + t * 65536 + i =
    or_multiple (o * 67108864 + s * 2097152 + t * 65536) i (o * 1024 + s * 32 + t) 16 (omega arith) (omega arith) in
    rw (eo, es, et, one, two, three) (omega arith)

-- The sixteen bits are rd, sa and function.
pub register_bits : (o s t d a f : ℕ) → o < 64 → s < 32 → t < 32 → d < 32 → a < 32 → f < 64
    → bit_or (bit_or (bit_or (bit_or (bit_or (o * 67108864 % 4294967296) (s * 2097152 % 4294967296)) (t * 65536 % 4294967296))
    (d * 2048 % 4294967296)) (a * 64 % 4294967296)) f ≡ register_form o s t d a f
register_bits o s t d a f fo fs ft fd fa ff =
    let ed : d * 2048 % 4294967296 ≡ d * 2048 = omega arith in
    let ea : a * 64 % 4294967296 ≡ a * 64 = omega arith in
    let zero_below : bit_or (bit_or (bit_or (o * 67108864 % 4294967296) (s * 2097152 % 4294967296)) (t * 65536 % 4294967296)) (d * 2048)
    ≡ immediate_form o s t (d * 2048) =
    immediate_bits o s t (d * 2048) fo fs ft (omega arith) in
    let one : bit_or (immediate_form o s t (d * 2048)) (a * 64) ≡ immediate_form o s t (d * 2048) + a * 64 =
    or_multiple (immediate_form o s t (d * 2048)) (a * 64) (o * 32768 + s * 1024 + t * 32 + d) 11 (omega arith) (omega arith) in
    let two : bit_or (immediate_form o s t (d * 2048) + a * 64) f ≡ immediate_form o s t (d * 2048) + a * 64 + f =
    or_multiple (immediate_form o s t (d * 2048) + a * 64) f (o * 1048576 + s * 32768 + t * 1024 + d * 32 + a) 6 (omega arith) (omega arith)
    in
    rw (ed, ea, zero_below, one, two) (omega arith)

-- The top four bits of pc stand above the index and two zeros.
pub jump_bits : (pc index : ℕ) → pc < 2 ^ 32 → index < 2 ^ 26
    → bit_or (bit_and pc 4026531840) (index * 4 % 4294967296) ≡ pc / 2 ^ 28 * 2 ^ 28 + index * 4
jump_bits pc index fp fi =
    let top : bit_and pc 4026531840 ≡ pc / 2 ^ 28 % 2 ^ 4 * 2 ^ 28 = and_high pc 4 28 in
    let high : pc / 2 ^ 28 % 2 ^ 4 ≡ pc / 2 ^ 28 = omega arith in
    let low : index * 4 % 4294967296 ≡ index * 4 = omega arith in
    rw (top, high, low) (or_multiple (pc / 2 ^ 28 * 2 ^ 28) (index * 4) (pc / 2 ^ 28) 28 refl (omega arith))

-- Copies of the sign stand above a word that is shifted down.
pub sign_bits : (word k : ℕ) → word < 2 ^ 32 → k < 32
    → bit_or (word / 2 ^ k) (4294967295 - 4294967295 / 2 ^ k) ≡ word / 2 ^ k + (2 ^ 32 - 2 ^ (32 - k))
sign_bits word k fw fk =
    let ones : 4294967295 / 2 ^ k ≡ 2 ^ (32 - k) - 1 = ones_shr 32 k (omega arith) in
    let whole : 2 ^ 32 ≡ 2 ^ k * 2 ^ (32 - k) =
    (let e : 32 ≡ k + (32 - k) = omega arith in ap (λ (n : ℕ). 2 ^ n) e ∙ pow-add 2 k (32 - k)) in
    let some : 0 < 2 ^ (32 - k) = pow_pos (32 - k) in
    let one_less : (2 ^ k - 1) + 1 ≡ 2 ^ k = (let p : 0 < 2 ^ k = pow_pos k in omega arith) in
    let same : 2 ^ 32 - 2 ^ (32 - k) ≡ (2 ^ k - 1) * 2 ^ (32 - k) =
    multiple_sub_one (2 ^ 32) (2 ^ k - 1) (2 ^ (32 - k)) (rw one_less whole) in
    let fill : 4294967295 - (2 ^ (32 - k) - 1) ≡ (2 ^ k - 1) * 2 ^ (32 - k) =
    (let e : 4294967295 - (2 ^ (32 - k) - 1) ≡ 4294967296 - 2 ^ (32 - k) = omega arith in e ∙ same) in
    let small : word / 2 ^ k < 2 ^ (32 - k) =
    shr_below word (32 - k) k (let e : (32 - k) + k ≡ 32 = omega arith in rw e fw) in
    rw (ones, fill, same, or_comm (word / 2 ^ k) ((2 ^ k - 1) * 2 ^ (32 - k)), or_shifted (2 ^ k - 1) (32 - k) (word / 2 ^ k) small)
    (omega arith)
