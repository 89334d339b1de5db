-- Eight bits side by side, and a byte for each: either way in a few steps on one number.
use Prim.Native.Nat.{ℕ, zero, suc, ◌≤◌, ◌+◌, ◌*◌, ◌/◌, ◌%◌, ◌<◌, ◌^◌}
use mathlib.Core.Bool.{Bool, true, false}
use mathlib.Core.Logic.{inl, inr}
use mathlib.Core.Path.{◌≡◌, refl, ◌∙◌, ap}
use native.Mathlib.Nat.{eq-or-lt_of_le}
use native.Mathlib.Omega.{arith}
use borrow.Author.Tests.{eqb-true}
use lib.Dec.{eqb}
use Rattle.basis.specs.Flag.{byte_of}
use Rattle.basis.specs.Pick.{pick, pick_both}

-- Seven bits spread to their bytes: seen to be right for each of the 128 that there are.
every_below : (ℕ → Bool) → ℕ → Bool
every_below test zero = true
every_below test (suc n) = pick (test n) (every_below test n) false

each_below : (test : ℕ → Bool) (m : ℕ) → every_below test m ≡ true → (n : ℕ) → n < m → test n ≡ true
unfolding every_below
each_below test zero e n h = absurd (omega arith)
each_below test (suc m) e n h =
    let both = pick_both (test m) (every_below test m) e in
    let within : n ≤ m = omega arith in
    elim (eq-or-lt_of_le within) [ inl same ↦ ap test same ∙ both.0 | inr low ↦ each_below test m both.1 n low ]

abbrev spread_bit : ℕ → ℕ → ℕ → Bool
spread_bit n from place = eqb (n * 0x040810204081 / from % 256 % 2) (n / place % 2)

spread_right : ℕ → Bool
spread_right n =
    pick (eqb (n * 0x040810204081 % 256 % 2) (n % 2))
    (pick (spread_bit n 0x100 2)
    (pick (spread_bit n 0x10000 4)
    (pick (spread_bit n 0x1000000 8)
    (pick (spread_bit n 0x100000000 16) (pick (spread_bit n 0x10000000000 32) (spread_bit n 0x1000000000000 64) false) false)
    false)
    false)
    false)
    false

all_spread : every_below spread_right 128 ≡ true
unfolding every_below spread_right pick
all_spread = refl

module _ (bits : ℕ) where
  abbrev low : ℕ
  low = bits % 128

  -- The flags of any bits, by the lowest seven.
  pub record Spread : Type 0 where
    pub flag_0 : low * 0x040810204081 % 256 % 2 ≡ bits % 2
    pub flag_1 : low * 0x040810204081 / 0x100 % 256 % 2 ≡ bits / 2 % 2
    pub flag_2 : low * 0x040810204081 / 0x10000 % 256 % 2 ≡ bits / 4 % 2
    pub flag_3 : low * 0x040810204081 / 0x1000000 % 256 % 2 ≡ bits / 8 % 2
    pub flag_4 : low * 0x040810204081 / 0x100000000 % 256 % 2 ≡ bits / 16 % 2
    pub flag_5 : low * 0x040810204081 / 0x10000000000 % 256 % 2 ≡ bits / 32 % 2
    pub flag_6 : low * 0x040810204081 / 0x1000000000000 % 256 % 2 ≡ bits / 64 % 2

  pub spreads : Spread
  unfolding spread_right
  spreads =
      let a = pick_both _ _ (each_below spread_right 128 all_spread low (omega arith)) in
      let b = pick_both _ _ a.1 in
      let c = pick_both _ _ b.1 in
      let d = pick_both _ _ c.1 in
      let e = pick_both _ _ d.1 in
      let f = pick_both _ _ e.1 in
      record {
        flag_0 = eqb-true _ _ a.0 ∙ omega arith;
        flag_1 = eqb-true _ _ b.0 ∙ omega arith;
        flag_2 = eqb-true _ _ c.0 ∙ omega arith;
        flag_3 = eqb-true _ _ d.0 ∙ omega arith;
        flag_4 = eqb-true _ _ e.0 ∙ omega arith;
        flag_5 = eqb-true _ _ f.0 ∙ omega arith;
        flag_6 = eqb-true _ _ f.1 ∙ omega arith;
      }

-- Flags gathered from their bytes: seen to be right for each of the 256 that there are.
every : (Bool → Bool) → Bool
every test = pick (test true) (test false) false

each : (test : Bool → Bool) → every test ≡ true → (b : Bool) → test b ≡ true
unfolding every
each test e true = (pick_both (test true) (test false) e).0
each test e false = (pick_both (test true) (test false) e).1

module _ (a b c d e f g h : Bool) where
  -- A byte for each.
  abbrev spread : ℕ
  spread =
      byte_of a + byte_of b * 256 + byte_of c * 65536 + byte_of d * 16777216 + byte_of e * 4294967296 + byte_of f * 1099511627776
      + byte_of g * 281474976710656
      + byte_of h * 72057594037927936

  abbrev gathered : ℕ
  gathered = spread * 0x0102040810204080 % 2 ^ 64 / 2 ^ 56

  abbrev together : ℕ
  together = byte_of a + 2 * (byte_of b + 2 * (byte_of c + 2 * (byte_of d + 2 * (byte_of e + 2 * (byte_of f + 2 * (byte_of g + 2 * (byte_of h + 2 * 0)))))))

all_right : every (λ a. every (λ b. every (λ c. every (λ d. every (λ e. every (λ f. every (λ g. every (λ h. eqb (gathered a b c d e f g h) (together a b c d e f g h)))))))))
    ≡ true
unfolding every pick
all_right = refl

pub gathers : (a b c d e f g h : Bool) → gathered a b c d e f g h ≡ together a b c d e f g h
gathers a b c d e f g h =
    eqb-true (gathered a b c d e f g h) (together a b c d e f g h) (each _ (each _ (each _ (each _ (each _ (each _ (each _ (each _ all_right a) b) c) d) e) f) g) h)
