-- A flag as a byte: a C caller may hand in any bit pattern, and a byte has a meaning for each (include/harsolvek.h).
use Rattle.std.specs.Prelude.{ℕ, zero, suc, ◌≤◌, Bool, true, false, ◌≡◌, refl, eqb}
use Rattle.std.proofs.Common.{arith}

abbrev pub byte_of : Bool → ℕ
byte_of false = 0
byte_of true = 1

pub byte_flag : (b : Bool) → eqb (byte_of b) 1 ≡ b
byte_flag true = refl
byte_flag false = refl

pub flag_byte : (n : ℕ) → n ≤ 1 → byte_of (eqb n 1) ≡ n
flag_byte zero h = refl
flag_byte (suc zero) h = refl
flag_byte (suc (suc n)) h = absurd (omega arith)

pub byte_small : (b : Bool) → byte_of b ≤ 1
byte_small true = omega arith
byte_small false = omega arith
