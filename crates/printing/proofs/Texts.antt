-- What a line is, and what it reads back as (01, Replay program).
use Prim.Native.Nat.{ℕ, ◌-◌, ◌/◌, ◌%◌, ◌^◌, ◌<◌, ◌≤◌}
use mathlib.Core.List.{List, [], ◌∷◌, ◌++◌}
use mathlib.Core.Path.{◌≡◌, refl, ◌∙◌, ap}
use native.Mathlib.Omega.{arith}
use lib.Dec.{ltb}
use lib.ListN.{length, get_or, take, drop, length-append}
use lib.Seq.{take_at, get_or_at}
use borrow.Author.Tests.{ltb-false, lt-ltb, le-ltb}
use Rattle.basis.specs.Lists.{spell}
use Rattle.basis.specs.Pick.{pick_yes, pick_no, pick_all}
use Rattle.printing.specs.Digits.{figure, hex_of, decimal_of}
use Rattle.printing.specs.Line.{space, newline, tail_of, text_of, cci_in, answer_in}
use Rattle.printing.proofs.Digits.{hex_read, decimal_read}

pub decimal_short : (n : ℕ) → (1 ≤ length (decimal_of n)) × (length (decimal_of n) ≤ 3)
unfolding decimal_of
decimal_short n = pick_all (λ (t : List ℕ). (1 ≤ length t) × (length t ≤ 3)) (ltb n 10) _ _ (λ _. (omega arith, omega arith))
    (λ _. pick_all (λ (t : List ℕ). (1 ≤ length t) × (length t ≤ 3)) (ltb n 100) _ _ (λ _. (omega arith, omega arith)) (λ _. (omega arith, omega arith)))

-- A number of one figure, of two and of three, each figure a remainder of 10 as the code has it.
decimal_one : (n : ℕ) → n < 10 → decimal_of n ≡ figure (n % 10) ∷ []
unfolding decimal_of
decimal_one n h = let e : n ≡ n % 10 = omega arith in pick_yes _ _ _ (lt-ltb n 10 h) ∙ ap (λ (k : ℕ). figure k ∷ []) e

decimal_two : (n : ℕ) → 10 ≤ n → n < 100 → decimal_of n ≡ figure (n / 10 % 10) ∷ figure (n % 10) ∷ []
unfolding decimal_of
decimal_two n h k =
    let e : n / 10 ≡ n / 10 % 10 = omega arith in
    pick_no _ _ _ (le-ltb n 10 h) ∙ pick_yes _ _ _ (lt-ltb n 100 k) ∙ ap (λ (t : ℕ). figure t ∷ figure (n % 10) ∷ []) e

decimal_three : (n : ℕ) → 100 ≤ n → decimal_of n ≡ figure (n / 100) ∷ figure (n / 10 % 10) ∷ figure (n % 10) ∷ []
unfolding decimal_of
decimal_three n h = pick_no _ _ _ (le-ltb n 10 (omega arith)) ∙ pick_no _ _ _ (le-ltb n 100 h)

-- The digits of CCI one by one, and then the number.
module _ (cci n : ℕ) (digits : List ℕ) (eight : digits ≡ hex_of 8 cci) where
  line_of_figures : (figures : List ℕ) → decimal_of n ≡ figures → spell 0 digits 0 8 (space ∷ figures ++ newline ∷ []) ≡ text_of cci n
  unfolding spell tail_of
  line_of_figures figures e = rw (eight, e) refl

  pub line_of_one : n < 10 → spell 0 digits 0 8 (space ∷ figure (n % 10) ∷ newline ∷ []) ≡ text_of cci n
  line_of_one h = line_of_figures (figure (n % 10) ∷ []) (decimal_one n h)

  pub line_of_two : 10 ≤ n → n < 100 → spell 0 digits 0 8 (space ∷ figure (n / 10 % 10) ∷ figure (n % 10) ∷ newline ∷ []) ≡ text_of cci n
  line_of_two h k = line_of_figures (figure (n / 10 % 10) ∷ figure (n % 10) ∷ []) (decimal_two n h k)

  pub line_of_three : 100 ≤ n → spell 0 digits 0 8 (space ∷ figure (n / 100) ∷ figure (n / 10 % 10) ∷ figure (n % 10) ∷ newline ∷ []) ≡ text_of cci n
  line_of_three h = line_of_figures (figure (n / 100) ∷ figure (n / 10 % 10) ∷ figure (n % 10) ∷ []) (decimal_three n h)

-- Reading a line gives the CCI and the number that it was made from.
pub record Says (cci number : ℕ) (text : List ℕ) : Type 0 where
  pub cci_is : cci_in text ≡ cci
  pub spaced : get_or text 8 0 ≡ space
  pub answer_is : answer_in text ≡ number
  pub ended : get_or text (length text - 1) 0 ≡ newline

between : (cci n : ℕ) → take (length (text_of cci n) - 10) (drop 9 (text_of cci n)) ≡ decimal_of n
unfolding tail_of
between cci n = take_at (decimal_of n) (newline ∷ []) (length (text_of cci n) - 10) (simp length-append (omega arith))

-- After the answer's digits there is the newline alone.
last : (s : List ℕ) → get_or (s ++ newline ∷ []) (length (s ++ newline ∷ []) - 1) 0 ≡ newline
last s = get_or_at s newline [] 0 _ (simp length-append (omega arith))

pub line_says : (cci number : ℕ) → cci < 2 ^ 32 → number < 256 → Says cci number (text_of cci number)
unfolding tail_of
line_says cci number h k =
    record {
      cci_is = hex_read 8 cci h;
      spaced = refl;
      answer_is = rw (between cci number) (decimal_read number (omega arith));
      ended = last (hex_of 8 cci ++ space ∷ decimal_of number);
    }

-- A line has 11 to 13 bytes.
pub line_sized : (cci number : ℕ) → (11 ≤ length (text_of cci number)) × (length (text_of cci number) ≤ 13)
unfolding tail_of
line_sized cci number = let s = decimal_short number in (simp length-append (omega arith), simp length-append (omega arith))

-- Where there are two digits or three, the first is not 0.
pub no_zero_in_front : (n : ℕ) → n < 1000 → 1 < length (decimal_of n) → figure 0 < get_or (decimal_of n) 0 0
unfolding decimal_of
no_zero_in_front n h =
    pick_all (λ (t : List ℕ). 1 < length t → figure 0 < get_or t 0 0) (ltb n 10) _ _
    (λ _ k. absurd (omega arith))
    (λ t _. let j = ltb-false n 10 t in
    pick_all (λ (t : List ℕ). figure 0 < get_or t 0 0) (ltb n 100) _ _
    (λ _. omega arith)
    (λ u. let i = ltb-false n 100 u in omega arith))
