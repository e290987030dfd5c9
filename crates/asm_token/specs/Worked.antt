-- Lines whose tokens are worked by hand: the bytes of each kind, the bounds of numbers, and faults.
use Rattle.std.specs.Prelude.{◌≡◌, ◌-◌, ◌^◌, true, false, [], ◌∷◌, Ok, Err, codes}
use Rattle.asm_token.specs.declared.fault.AsmCause.TheVariants.{BadByte, Range}
use Rattle.asm_token.specs.declared.token.Token.TheVariants.{Name, Register, Number, Comma, Colon, Open, Close}
use Rattle.asm_token.specs.Tokens.{tokens_of}

pub record WorkedTokensAreRead : Type 0 where
  pub nothing : tokens_of (codes " \t\r# ;") ≡ Ok []
  pub names : tokens_of (codes "_A.z9 .Z_0") ≡ Ok (Name (codes "_A.z9") ∷ Name (codes ".Z_0") ∷ [])
  pub registers : tokens_of (codes "$t0$31") ≡ Ok (Register (codes "t0") ∷ Register (codes "31") ∷ [])
  pub marks : tokens_of (codes ",:()") ≡ Ok (Comma ∷ Colon ∷ Open ∷ Close ∷ [])
  pub hexadecimal : tokens_of (codes "0xaF 0x0")
      ≡ Ok (Number (record { negative = false; magnitude = 175 }) ∷ Number (record { negative = false; magnitude = 0 }) ∷ [])
  pub leading_zeros : tokens_of (codes "010") ≡ Ok (Number (record { negative = false; magnitude = 10 }) ∷ [])
  pub greatest : tokens_of (codes "4294967295") ≡ Ok (Number (record { negative = false; magnitude = 2 ^ 32 - 1 }) ∷ [])
  pub too_great : tokens_of (codes "4294967296") ≡ Err Range
  pub least : tokens_of (codes "-2147483648") ≡ Ok (Number (record { negative = true; magnitude = 2 ^ 31 }) ∷ [])
  pub too_small : tokens_of (codes "-0x80000001") ≡ Err Range
  pub no_digit : tokens_of (codes "0x") ≡ Err BadByte
  pub letter_behind : tokens_of (codes "09a") ≡ Err BadByte
  pub minus_behind : tokens_of (codes "1-2") ≡ Err BadByte
  pub register_behind : tokens_of (codes "1$2") ≡ Err BadByte
  pub no_register : tokens_of (codes "$ 1") ≡ Err BadByte
  pub no_token : tokens_of (codes "a ; b") ≡ Err BadByte
