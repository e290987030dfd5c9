use Rattle.std.proofs.Common.{◌≡◌, ◌≤◌, ◌*◌, ◌/◌, ◌%◌, ◌^◌, arith, bit_and}
use Rattle.std.proofs.lemmas.Bool.{le-ltb}
use Rattle.std.proofs.lemmas.Nat.Bits.{and_pow}
use Rattle.mips_isa.proofs.Forms.{sign_bits}
use Rattle.mips_isa.proofs.effects.sign_filled.Goals as goal

pub returns-else-word-eq0 : goal.returns-else-word-eq0
returns-else-word-eq0 c =
    let bit : bit_and c.args.word 2147483648 ≡ c.args.word / 2 ^ 31 % 2 * 2 ^ 31 = and_pow c.args.word 31 in
    let high : 2 ^ 31 ≤ c.args.word = omega arith in
    record { value = rw (le-ltb c.args.word (2 ^ 31) high) (sign_bits c.args.word c.args.amount (omega arith) c.requires.in_word) }
