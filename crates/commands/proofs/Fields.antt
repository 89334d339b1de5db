-- The fields of CONTROL in the bytes that hold them, and each field by its bytes (000 T3-3, T4-5, T4-7, T4-9).
use Prim.Native.Nat.{ℕ, ◌+◌, ◌*◌, ◌/◌, ◌%◌, ◌<◌}
use mathlib.Core.Bool.{Bool}
use mathlib.Core.List.{List, ◌∷◌}
use mathlib.Core.Logic.{◌⊎◌, inl, inr}
use mathlib.Core.Path.{◌≡◌, refl, ◌∙◌, sym, ap}
use native.Mathlib.Nat.{add-zero}
use native.Mathlib.Omega.{arith}
use lib.Dec.{eqb}
use lib.ListN.{length}
use Rattle.basis.specs.Pick.{pick_yes, pick_no, pick_all, eq_differ, ne_differ}
use Rattle.commands.specs.Control.{field, is_set, fields_of, control_of}
use Rattle.commands.specs.declared.control.Control.{Control}
use Rattle.commands.specs.declared.control.WrongLength.{WrongLength}
use Rattle.std.specs.Prelude.{Result, Ok, Err}

abbrev control : ℕ → ℕ → ℕ → ℕ → Bool → Bool → Control
control code connector type mask change completed =
    record { code = code; connector = connector; reset_type = type; mask = mask; change = change; completed = completed }

alike : {a b d e a' b' d' e' : ℕ} {f f' g : Bool} → a ≡ a' → b ≡ b' → d ≡ d' → e ≡ e' → f ≡ f' → control a b d e f g ≡ control a' b' d' e' f' g
alike p q r s t = cc

abbrev pub in_bytes : ℕ → ℕ → ℕ → Control
in_bytes code low high = control code (low % 128) (low / 128) (low + high * 256) (eqb (low % 2) 1) (eqb (low / 2 % 2) 1)

-- The bits of a byte, one by one, and what is above them.
module _ (n t : ℕ) (h : n < 256) where
  from_128 : n / 128 % 2 + 2 * t ≡ n / 128 + 2 * t
  from_128 = omega arith

  from_64 : n / 64 % 2 + 2 * (n / 128 + 2 * t) ≡ n / 64 + 4 * t
  from_64 = omega arith

  from_32 : n / 32 % 2 + 2 * (n / 64 + 4 * t) ≡ n / 32 + 8 * t
  from_32 = omega arith

  from_16 : n / 16 % 2 + 2 * (n / 32 + 8 * t) ≡ n / 16 + 16 * t
  from_16 = omega arith

  from_8 : n / 8 % 2 + 2 * (n / 16 + 16 * t) ≡ n / 8 + 32 * t
  from_8 = omega arith

  from_4 : n / 4 % 2 + 2 * (n / 8 + 32 * t) ≡ n / 4 + 64 * t
  from_4 = omega arith

  from_2 : n / 2 % 2 + 2 * (n / 4 + 64 * t) ≡ n / 2 + 128 * t
  from_2 = omega arith

  from_1 : n / 1 % 2 + 2 * (n / 2 + 128 * t) ≡ n + 256 * t
  from_1 = omega arith

  byte : n / 1 % 2 + 2 * (n / 2 % 2 + 2 * (n / 4 % 2 + 2 * (n / 8 % 2 + 2 * (n / 16 % 2 + 2 * (n / 32 % 2 + 2 * (n / 64 % 2 + 2 * (n / 128 % 2 + 2 * t))))))) ≡ n + 256 * t
  byte = simp (from_128, from_64, from_32, from_16, from_8, from_4, from_2, from_1)

-- The lowest seven of them.
module _ (n : ℕ) where
  two_at_32 : n / 32 % 2 + 2 * (n / 64 % 2) ≡ n / 32 % 4
  two_at_32 = omega arith

  three_at_16 : n / 16 % 2 + 2 * (n / 32 % 4) ≡ n / 16 % 8
  three_at_16 = omega arith

  four_at_8 : n / 8 % 2 + 2 * (n / 16 % 8) ≡ n / 8 % 16
  four_at_8 = omega arith

  five_at_4 : n / 4 % 2 + 2 * (n / 8 % 16) ≡ n / 4 % 32
  five_at_4 = omega arith

  six_at_2 : n / 2 % 2 + 2 * (n / 4 % 32) ≡ n / 2 % 64
  six_at_2 = omega arith

  seven_at_1 : n / 1 % 2 + 2 * (n / 2 % 64) ≡ n % 128
  seven_at_1 = omega arith

  none_above : n / 64 % 2 + 0 ≡ n / 64 % 2
  none_above = omega arith

  seven : n / 1 % 2 + 2 * (n / 2 % 2 + 2 * (n / 4 % 2 + 2 * (n / 8 % 2 + 2 * (n / 16 % 2 + 2 * (n / 32 % 2 + 2 * (n / 64 % 2 + 0)))))) ≡ n % 128
  seven = simp (none_above, two_at_32, three_at_16, four_at_8, five_at_4, six_at_2, seven_at_1)

lowest : (n : ℕ) → n / 1 % 2 ≡ n % 2
lowest n = omega arith

highest : (n : ℕ) → n < 256 → n / 128 % 2 + 0 ≡ n / 128
highest n h = omega arith

-- Whatever the second byte and those behind the fourth are: Data Length and reserved bits are not looked at.
pub in_bytes_lem : (code any low high : ℕ) (rest : List ℕ) → code < 256 → low < 256 → high < 256 → in_bytes code low high ≡ fields_of (code ∷ any ∷ low ∷ high ∷ rest)
unfolding fields_of
in_bytes_lem code any low high rest hc hl hh =
    let b = code ∷ any ∷ low ∷ high ∷ rest in
    let above : field b 24 8 ≡ high = byte high 0 hh ∙ add-zero high in
    let p : code ≡ field b 0 8 = sym (byte code 0 hc ∙ add-zero code) in
    let q : low % 128 ≡ field b 16 7 = sym (seven low) in
    let r : low / 128 ≡ field b 23 1 = sym (highest low hl) in
    let m : low + high * 256 ≡ low + 256 * high = omega arith in
    let s : low + high * 256 ≡ field b 16 16 = m ∙ sym (byte low (field b 24 8) hl ∙ ap (λ (t : ℕ). low + 256 * t) above) in
    let u : eqb (low % 2) 1 ≡ is_set b 16 = ap (λ (n : ℕ). eqb n 1) (sym (lowest low)) in
    alike p q r s u

-- Every CONTROL of 8 bytes is taken apart, and no other.
pub eight_read : (b : List ℕ) → length b ≡ 8 → control_of b ≡ Ok (fields_of b)
unfolding control_of
eight_read b e = pick_no _ _ _ (eq_differ (length b) 8 e)

pub others_not : (b : List ℕ) → (length b ≡ 8 → ⊥) → control_of b ≡ Err (record {})
unfolding control_of
others_not b h = pick_yes _ _ _ (ne_differ (length b) 8 h)

pub eight_or_not : (b : List ℕ) → (control_of b ≡ Ok (fields_of b)) ⊎ (control_of b ≡ Err (record {}))
unfolding control_of
eight_or_not b = pick_all (λ (p : Result Control WrongLength). (p ≡ Ok (fields_of b)) ⊎ (p ≡ Err (record {}))) _ _ _ (λ y. inr refl) (λ n. inl refl)
