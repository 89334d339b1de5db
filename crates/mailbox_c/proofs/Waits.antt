-- Bits that are read as flags are packed again as they were, and flags as bits; and no bit above the count is a flag above it.
use Prim.Native.Nat.{ℕ, zero, suc, ◌+◌, ◌*◌, ◌/◌, ◌%◌, ◌≤◌, ◌<◌, ◌^◌}
use mathlib.Core.Bool.{Bool, false}
use mathlib.Core.List.{List, [], ◌∷◌}
use mathlib.Core.Path.{◌≡◌, refl, sym, ◌∙◌, ap}
use native.Mathlib.Omega.{arith}
use native.Mathlib.Numerals.{unary_clauses}
use lib.Dec.{eqb}
use lib.ListN.{length, get_or}
use lib.Pow.{pow_pos, pow_mono}
use native.Mathlib.Nat.{lt_of_lt_of_le, div-div-eq-div-mul}
use Rattle.basis.specs.Lists.{spell, spelled_all}
use Rattle.basis.specs.Flag.{byte_of, byte_flag, flag_byte, byte_small}
use Rattle.mailbox_c.specs.Waiting.{flags_of, bits_of}

flag_bit : (n : ℕ) → byte_of (eqb (n % 2) 1) ≡ n % 2
flag_bit n = flag_byte (n % 2) (omega arith)

module _ (n : ℕ) (h : n < 256) where
  pub bits_back : bits_of (flags_of n) ≡ n
  unfolding bits_of flags_of
  bits_back =
      let from_128 : n / 128 % 2 + 2 * 0 ≡ n / 128 = omega arith in
      let from_64 : n / 64 % 2 + 2 * (n / 128) ≡ n / 64 = omega arith in
      let from_32 : n / 32 % 2 + 2 * (n / 64) ≡ n / 32 = omega arith in
      let from_16 : n / 16 % 2 + 2 * (n / 32) ≡ n / 16 = omega arith in
      let from_8 : n / 8 % 2 + 2 * (n / 16) ≡ n / 8 = omega arith in
      let from_4 : n / 4 % 2 + 2 * (n / 8) ≡ n / 4 = omega arith in
      let from_2 : n / 2 % 2 + 2 * (n / 4) ≡ n / 2 = omega arith in
      let from_1 : n % 2 + 2 * (n / 2) ≡ n = omega arith in
      rw (
        flag_bit n,
        flag_bit (n / 2),
        flag_bit (n / 4),
        flag_bit (n / 8),
        flag_bit (n / 16),
        flag_bit (n / 32),
        flag_bit (n / 64),
        flag_bit (n / 128),
        from_128,
        from_64,
        from_32,
        from_16,
        from_8,
        from_4,
        from_2,
        from_1,
      )

-- The first flag is the lowest bit, and the others are the bits above it.
module _ (b : Bool) (rest : ℕ) where
  lowest : eqb ((byte_of b + 2 * rest) % 2) 1 ≡ b
  lowest = let few = byte_small b in let same : (byte_of b + 2 * rest) % 2 ≡ byte_of b = omega arith in rw same (byte_flag b)

  above : (byte_of b + 2 * rest) / 2 ≡ rest
  above = let few = byte_small b in omega arith

module _ (a b c d e f g h : Bool) where
  abbrev from_8 : ℕ
  from_8 = byte_of h + 2 * 0

  abbrev from_7 : ℕ
  from_7 = byte_of g + 2 * from_8

  abbrev from_6 : ℕ
  from_6 = byte_of f + 2 * from_7

  abbrev from_5 : ℕ
  from_5 = byte_of e + 2 * from_6

  abbrev from_4 : ℕ
  from_4 = byte_of d + 2 * from_5

  abbrev from_3 : ℕ
  from_3 = byte_of c + 2 * from_4

  abbrev from_2 : ℕ
  from_2 = byte_of b + 2 * from_3

  abbrev all : ℕ
  all = byte_of a + 2 * from_2

  eight_back : flags_of (bits_of (a ∷ b ∷ c ∷ d ∷ e ∷ f ∷ g ∷ h ∷ [])) ≡ a ∷ b ∷ c ∷ d ∷ e ∷ f ∷ g ∷ h ∷ []
  unfolding flags_of bits_of
  eight_back =
      let halved : (n k m : ℕ) → n / k ≡ m → n / k / 2 ≡ m / 2 = λ n k m p. ap (λ (x : ℕ). x / 2) p in
      let at-2 : all / 2 ≡ from_2 = above a from_2 in
      let at-3 : all / 4 ≡ from_3 = sym (div-div-eq-div-mul all 2 2) ∙ halved all 2 from_2 at-2 ∙ above b from_3 in
      let at-4 : all / 8 ≡ from_4 = sym (div-div-eq-div-mul all 4 2) ∙ halved all 4 from_3 at-3 ∙ above c from_4 in
      let at_5 : all / 16 ≡ from_5 = sym (div-div-eq-div-mul all 8 2) ∙ halved all 8 from_4 at-4 ∙ above d from_5 in
      let at-6 : all / 32 ≡ from_6 = sym (div-div-eq-div-mul all 16 2) ∙ halved all 16 from_5 at_5 ∙ above e from_6 in
      let at_7 : all / 64 ≡ from_7 = sym (div-div-eq-div-mul all 32 2) ∙ halved all 32 from_6 at-6 ∙ above f from_7 in
      let at_8 : all / 128 ≡ from_8 = sym (div-div-eq-div-mul all 64 2) ∙ halved all 64 from_7 at_7 ∙ above g from_8 in
      rw (at-2, at-3, at-4, at_5, at-6, at_7, at_8, lowest a from_2, lowest b from_3, lowest c from_4, lowest d from_5, lowest e from_6, lowest f from_7, lowest g from_8, lowest h 0)

pub flags_back : (l : List Bool) → length l ≡ 8 → flags_of (bits_of l) ≡ l
unfolding spell
flags_back l eight =
    let at : ℕ → Bool = λ i. get_or l i false in
    let same = spelled_all false 8 l eight in
    ap (λ (x : List Bool). flags_of (bits_of x)) same ∙ eight_back (at 0) (at 1) (at 2) (at 3) (at 4) (at 5) (at 6) (at 7) ∙ sym same

-- No flag above the count: no bit above it.
pub bits_within : (l : List Bool) (count : ℕ) → ((j : ℕ) → count ≤ j → get_or l j false ≡ false) → bits_of l < 2 ^ count
unfolding bits_of
bits_within [] count none = pow_pos count
bits_within (b ∷ l) zero none =
    let rest : bits_of l < 1 = bits_within l zero (λ j _. none (suc j) (omega arith)) in
    let first : byte_of b ≡ 0 = ap byte_of (none zero (omega arith)) in
    omega arith
bits_within (b ∷ l) (suc count) none =
    let rest = bits_within l count (λ j h. none (suc j) (omega arith)) in
    let few = byte_small b in
    let twice : 2 ^ suc count ≡ 2 ^ count * 2 = simp unary_clauses in
    rw twice (omega arith)

-- No bit above the count: no flag above it.
module _ (n count : ℕ) (h : n < 2 ^ count) where
  reach : (j : ℕ) → count ≤ j → n < 2 ^ j
  reach j high = lt_of_lt_of_le h (pow_mono high)

  unset : (m : ℕ) → m ≡ 0 → eqb (m % 2) 1 ≡ false
  unset m e = rw e

  pub flags_within : (j : ℕ) → count ≤ j → get_or (flags_of n) j false ≡ false
  unfolding flags_of
  flags_within zero high = let few : n < 1 = reach 0 high in unset n (omega arith)
  flags_within (suc zero) high = let few : n < 2 = reach 1 high in unset (n / 2) (omega arith)
  flags_within (suc (suc zero)) high = let few : n < 4 = reach 2 high in unset (n / 4) (omega arith)
  flags_within (suc (suc (suc zero))) high = let few : n < 8 = reach 3 high in unset (n / 8) (omega arith)
  flags_within (suc (suc (suc (suc zero)))) high = let few : n < 16 = reach 4 high in unset (n / 16) (omega arith)
  flags_within (suc (suc (suc (suc (suc zero))))) high = let few : n < 32 = reach 5 high in unset (n / 32) (omega arith)
  flags_within (suc (suc (suc (suc (suc (suc zero)))))) high = let few : n < 64 = reach 6 high in unset (n / 64) (omega arith)
  flags_within (suc (suc (suc (suc (suc (suc (suc zero))))))) high = let few : n < 128 = reach 7 high in unset (n / 128) (omega arith)
  flags_within (suc (suc (suc (suc (suc (suc (suc (suc j)))))))) high = refl
