-- The reason meets the mask outside bit 0 (01, The mailbox), said by the bits.
use Prim.Native.Nat.{ℕ, zero, suc, ◌+◌, ◌*◌, ◌/◌, ◌%◌, ◌^◌, ◌≤◌, ◌<◌, min}
use mathlib.Core.Bool.{true}
use mathlib.Core.Path.{◌≡◌, refl, sym, ◌∙◌, ap}
use native.Mathlib.Nat.{min-le_left, min-le_right, div-eq_of_lt, div-div-eq-div-mul, div-one, pow-zero, pow-suc, pow-succ', le_refl}
use native.Mathlib.Omega.{arith}
use borrow.Author.Tests.{lt-ltb, ltb-true}
use lib.Bits.{bit_and, and_step, and_shr}
use lib.Pow.{pow_pos}
use Rattle.mailbox_rules.specs.Change.{meets_of}

abbrev pub bit : ℕ → ℕ → ℕ
bit n i = n / 2 ^ i % 2

low_odd : (c h m : ℕ) → c ≡ h * 2 + m → m < 2 → c % 2 ≡ m
low_odd c h m e l = omega arith

lowest : (a b : ℕ) → bit_and a b % 2 ≡ min (a % 2) (b % 2)
lowest a b =
    let l = min-le_left (a % 2) (b % 2) in
    low_odd (bit_and a b) (bit_and (a / 2) (b / 2)) (min (a % 2) (b % 2)) (and_step a b) (omega (arith, l))

-- A bit of what both have is a bit of both.
both : (a b i : ℕ) → bit (bit_and a b) i ≡ min (bit a i) (bit b i)
both a b i = ap (λ (n : ℕ). n % 2) (and_shr a b i) ∙ lowest (a / 2 ^ i) (b / 2 ^ i)

-- A number below 2 has no bit but bit 0.
two_at : (k : ℕ) → 2 ≤ 2 ^ suc k
two_at k =
    let p = pow_pos k in
    let e = pow-suc 2 k in
    omega (arith, p, e)

none_above : (n k : ℕ) → n < 2 → bit n (suc k) ≡ 0
none_above n k h =
    let t = two_at k in
    ap (λ (m : ℕ). m % 2) (div-eq_of_lt {n = n} {m = 2 ^ suc k} (omega (arith, t, h)))

above_one : (n k : ℕ) → bit n (suc k) ≡ 1 → 1 < n
above_one zero k e = absurd (let z = none_above 0 k (omega arith) in omega (arith, e, z))
above_one (suc zero) k e = absurd (let z = none_above 1 k (omega arith) in omega (arith, e, z))
above_one (suc (suc n)) k e = omega arith

-- A common bit above bit 0 is enough,
pub meets_shared : (reason mask k : ℕ) → bit reason (suc k) ≡ 1 → bit mask (suc k) ≡ 1 → meets_of reason mask ≡ true
unfolding meets_of
meets_shared reason mask k r m =
    let n = bit_and reason mask in
    let big = above_one n k (both reason mask (suc k) ∙ ap (λ (x : ℕ). min x (bit mask (suc k))) r ∙ ap (λ (x : ℕ). min 1 x) m) in
    lt-ltb _ n (omega (arith, big))

-- and is needed.
pub record Shared (reason mask : ℕ) : Type 0 where
  pub place : ℕ
  pub of_reason : bit reason (suc place) ≡ 1
  pub of_mask : bit mask (suc place) ≡ 1

record Bit (n : ℕ) : Type 0 where
  place : ℕ
  is : bit n place ≡ 1

halved : (n i : ℕ) → bit (n / 2) i ≡ bit n (suc i)
halved n i = ap (λ (m : ℕ). m % 2) (div-div-eq-div-mul n 2 (2 ^ i) ∙ ap (λ (m : ℕ). n / m) (sym (pow-succ' 2 i)))

odd_or_even : (n m : ℕ) → n % 2 ≡ m → (m ≡ 0 → Bit (n / 2)) → Bit n
odd_or_even n zero e b = record { place = suc (b refl).place; is = sym (halved n (b refl).place) ∙ (b refl).is }
odd_or_even n (suc zero) e b = record { place = 0; is = ap (λ (m : ℕ). n / m % 2) (pow-zero 2) ∙ ap (λ (m : ℕ). m % 2) (div-one n) ∙ e }
odd_or_even n (suc (suc m)) e b = absurd (omega arith)

some_bit : (fuel n : ℕ) → n ≤ fuel → 0 < n → Bit n
some_bit zero n h p = absurd (omega arith)
some_bit (suc fuel) n h p = odd_or_even n (n % 2) refl (λ e. some_bit fuel (n / 2) (omega arith) (omega arith))

one_of_min : (a b : ℕ) → min a b ≡ 1 → a < 2 → b < 2 → (a ≡ 1) × (b ≡ 1)
one_of_min a b e ha hb =
    let l = min-le_left a b in
    let r = min-le_right a b in
    (omega (arith, l, e, ha), omega (arith, r, e, hb))

pub meets_shares : (reason mask : ℕ) → meets_of reason mask ≡ true → Shared reason mask
unfolding meets_of
meets_shares reason mask e =
    let n = bit_and reason mask in
    let big = ltb-true 1 n e in
    let b = some_bit (n / 2) (n / 2) (le_refl (n / 2)) (omega (arith, big)) in
    let t = sym (both reason mask (suc b.place)) ∙ sym (halved n b.place) ∙ b.is in
    let p = one_of_min (bit reason (suc b.place)) (bit mask (suc b.place)) t (omega arith) (omega arith) in
    record { place = b.place; of_reason = p.0; of_mask = p.1 }
