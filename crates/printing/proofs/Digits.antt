-- What digits are, and what they read back as (01, Replay program).
use Prim.Native.Nat.{ℕ, zero, suc, ◌+◌, ◌*◌, ◌-◌, ◌/◌, ◌%◌, ◌^◌, ◌<◌, ◌≤◌}
use mathlib.Core.Logic.{◌⊎◌, inl, inr}
use mathlib.Core.List.{List, [], ◌∷◌}
use mathlib.Core.Path.{◌≡◌, sym, ◌∙◌, ap}
use native.Mathlib.Nat.{div-one, div-div-eq-div-mul, div-eq_of_lt, pow-suc}
use native.Mathlib.Omega.{arith}
use borrow.Author.Tests.{lt-ltb, le-ltb, ltb-true, ltb-false}
use lib.Dec.{ltb}
use Rattle.basis.specs.Pick.{pick_yes, pick_no, pick_all}
use Rattle.printing.specs.Digits.{figure, digit_of, hex_of, decimal_of, digit_in, digits_behind, number_in}

-- Eight digits written out one by one, as the code makes them, are the definition's.
pub hex_eight : (x : ℕ) → hex_of 8 x ≡
    digit_of (x / 0x10000000 % 16) ∷ digit_of (x / 0x1000000 % 16) ∷ digit_of (x / 0x100000 % 16) ∷ digit_of (x / 0x10000 % 16)
    ∷ digit_of (x / 0x1000 % 16) ∷ digit_of (x / 0x100 % 16) ∷ digit_of (x / 0x10 % 16) ∷ digit_of (x % 16) ∷ []
hex_eight x = rw (div-one x)

-- Each is a character 0 to 9 or a capital A to F.
pub capital : (n : ℕ) → n < 16 → ((0x30 ≤ digit_of n) × (digit_of n ≤ 0x39)) ⊎ ((0x41 ≤ digit_of n) × (digit_of n ≤ 0x46))
unfolding digit_of
capital n h = pick_all (λ (c : ℕ). ((0x30 ≤ c) × (c ≤ 0x39)) ⊎ ((0x41 ≤ c) × (c ≤ 0x46))) (ltb n 10) _ _
    (λ t. let k = ltb-true n 10 t in inl (omega arith, omega arith))
    (λ t. let k = ltb-false n 10 t in inr (omega arith, omega arith))

abbrev pub Capitals : List ℕ → Type 0
Capitals [] = Unit
Capitals (c ∷ cs) = (((0x30 ≤ c) × (c ≤ 0x39)) ⊎ ((0x41 ≤ c) × (c ≤ 0x46))) × Capitals cs

pub hex_capitals : (k x : ℕ) → Capitals (hex_of k x)
hex_capitals zero x = tt
hex_capitals (suc k) x = (capital (x / 16 ^ k % 16) (omega arith), hex_capitals k x)

pub digit_read : (n : ℕ) → n < 16 → digit_in (digit_of n) ≡ n
unfolding digit_of digit_in
digit_read n h = pick_all (λ (c : ℕ). digit_in c ≡ n) (ltb n 10) _ _
    (λ t. let k = ltb-true n 10 t in pick_yes _ _ _ (lt-ltb (figure n) 0x41 (omega arith)) ∙ omega arith)
    (λ t. let k = ltb-false n 10 t in pick_no _ _ _ (le-ltb (0x41 + (n - 10)) 0x41 (omega arith)) ∙ omega arith)

-- A number's upper digits, and then its lower ones, are the number.
read_on : (k x : ℕ) → digits_behind 16 (x / 16 ^ k) (hex_of k x) ≡ x
read_on zero x = div-one x
read_on (suc k) x =
    let q = x / 16 ^ k in
    let up : x / 16 ^ suc k ≡ q / 16 = ap (λ (d : ℕ). x / d) (pow-suc 16 k) ∙ sym (div-div-eq-div-mul x (16 ^ k) 16) in
    let low : digit_in (digit_of (q % 16)) ≡ q % 16 = digit_read (q % 16) (omega arith) in
    let e : 16 * (x / 16 ^ suc k) + digit_in (digit_of (q % 16)) ≡ q = rw (up, low) (omega arith) in
    ap (λ (r : ℕ). digits_behind 16 r (hex_of k x)) e ∙ read_on k x

pub hex_read : (k x : ℕ) → x < 16 ^ k → number_in 16 (hex_of k x) ≡ x
hex_read k x h = ap (λ (r : ℕ). digits_behind 16 r (hex_of k x)) (sym (div-eq_of_lt h)) ∙ read_on k x

pub figure_read : (n : ℕ) → n < 10 → digit_in (figure n) ≡ n
unfolding digit_in
figure_read n h = pick_yes _ _ _ (lt-ltb (figure n) 0x41 (omega arith)) ∙ omega arith

pub decimal_read : (n : ℕ) → n < 1000 → number_in 10 (decimal_of n) ≡ n
unfolding decimal_of
decimal_read n h = pick_all (λ (t : List ℕ). number_in 10 t ≡ n) (ltb n 10) _ _
    (λ t. let k = ltb-true n 10 t in rw (figure_read n k) (omega arith))
    (λ _. pick_all (λ (t : List ℕ). number_in 10 t ≡ n) (ltb n 100) _ _
    (λ t. let k = ltb-true n 100 t in rw (figure_read (n / 10) (omega arith), figure_read (n % 10) (omega arith)) (omega arith))
    (λ t. rw (figure_read (n / 100) (omega arith), figure_read (n / 10 % 10) (omega arith), figure_read (n % 10) (omega arith)) (omega arith)))

-- Decimal digits are the characters 0 to 9 alone.
abbrev pub Figures : List ℕ → Type 0
Figures [] = Unit
Figures (c ∷ cs) = ((0x30 ≤ c) × (c ≤ 0x39)) × Figures cs

pub decimal_figures : (n : ℕ) → n < 1000 → Figures (decimal_of n)
unfolding decimal_of
decimal_figures n h =
    pick_all Figures (ltb n 10) _ _
    (λ t. let k = ltb-true n 10 t in ((omega arith, omega arith), tt))
    (λ _. pick_all Figures (ltb n 100) _ _
    (λ t. let k = ltb-true n 100 t in ((omega arith, omega arith), ((omega arith, omega arith), tt)))
    (λ _. ((omega arith, omega arith), ((omega arith, omega arith), ((omega arith, omega arith), tt)))))
