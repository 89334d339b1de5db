-- A turn of the loop that spells a number from its last digit on, and its end.
use Prim.Native.Nat.{ℕ, zero, suc, ◌+◌, ◌*◌, ◌/◌, ◌%◌, ◌^◌, ◌<◌}
use mathlib.Core.List.{List, ◌∷◌}
use mathlib.Core.Path.{◌≡◌, refl, sym, subst, ◌∙◌, ap}
use native.Mathlib.Nat.{pow-suc, div-lt_iff_lt-mul}
use native.Mathlib.Numerals.{add-one}
use native.Mathlib.Omega.{arith}
use borrow.Author.Tests.{eq-eqb, ne_eqb}
use lib.Dec.{eqb}
use lib.ListN.{length, set, take, drop}
use lib.Seq.{set_split, drop_at, length-take-le}
use Rattle.basis.specs.Pick.{pick_yes, pick_no}
use Rattle.printing.specs.Digits.{figure}
use Rattle.saying.specs.Decimal.{front_of}

pub drop_set : (out : List ℕ) (at d : ℕ) → at < length out → drop at (set out at d) ≡ d ∷ drop (suc at) out
drop_set out at d h =
    let short = length-take-le at out (omega arith) in
    ap (drop at) (set_split out at d h) ∙ drop_at (take at out) (d ∷ drop (suc at) out) at (omega arith)

-- A number that has digits left needs room for them.
pub some_room : (from rest : ℕ) → rest < 10 ^ from → (rest ≡ 0 → ⊥) → 0 < from
some_room zero rest h some = absurd (some (omega arith))
some_room (suc k) rest h some = omega arith

module _ (at from rest : ℕ) (next : from ≡ at + 1) where
  pub less_left : rest < 10 ^ from → rest / 10 < 10 ^ at
  less_left h =
      let e : 10 ^ from ≡ 10 ^ at * 10 = ap (λ (k : ℕ). 10 ^ k) (next ∙ add-one at) ∙ pow-suc 10 at in
      (div-lt_iff_lt-mul {k = 10} {x = rest} {y = 10 ^ at} (omega arith)).1 (subst (λ (p : ℕ). rest < p) e h)

  pub digit_more : (out : List ℕ) → at < length out → (rest ≡ 0 → ⊥)
      → front_of at (rest / 10) (drop at (set out at (figure (rest % 10)))) ≡ front_of from rest (drop from out)
  unfolding front_of
  digit_more out h some =
      ap (front_of at (rest / 10)) (drop_set out at (figure (rest % 10)) h)
      ∙ sym (pick_no (eqb rest 0) (drop (suc at) out) (front_of at (rest / 10) (figure (rest % 10) ∷ drop (suc at) out)) (ne_eqb rest 0 some))
      ∙ ap (λ (k : ℕ). front_of k rest (drop k out)) (sym (next ∙ add-one at))

pub digits_all : (from rest : ℕ) (behind : List ℕ) → rest ≡ 0 → front_of from rest behind ≡ behind
unfolding front_of
digits_all zero rest behind e = refl
digits_all (suc k) rest behind e = pick_yes (eqb rest 0) behind _ (eq-eqb rest 0 e)
