-- 1 is good, 2 bad, 3 later with its wait; any other code is out of range and gets 26, whatever the readiness is.
use Prim.Native.Nat.{ℕ}
use mathlib.Core.Bool.{Bool, true}
use mathlib.Core.Path.{◌≡◌, refl}
use borrow.Author.Tests.{ne_eqb}
use lib.Dec.{ltb}
use Rattle.basis.specs.Pick.{pick, pick_all, tests}
use Rattle.receiver_state.specs.declared.verdict.Verdict.TheVariants.{Good, Bad, Later}
use Rattle.receiver_rules.specs.Range.{wait_most, later_outside, verdict_outside, out_of_range}
use Rattle.receiver_c.specs.Verdict.{verdict_of}

pub said : (later : ℕ) → (verdict_of 1 later ≡ Good) × (verdict_of 2 later ≡ Bad) × (verdict_of 3 later ≡ Later later)
unfolding verdict_of pick
said later = (refl, refl, refl)

pub unknown_26 : (code later readiness : ℕ) → (code ≡ 1 → ⊥) → (code ≡ 2 → ⊥) → (code ≡ 3 → ⊥) → out_of_range readiness (verdict_of code later) ≡ true
unfolding verdict_of out_of_range verdict_outside later_outside
unknown_26 code later readiness one two three =
    pick_all (λ (b : Bool). b ≡ true) (ltb wait_most readiness) _ _ (λ _. refl)
    (λ _. rw (ne_eqb code 1 one, ne_eqb code 2 two, ne_eqb code 3 three) (search tests))
