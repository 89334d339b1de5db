-- 26 in the paper's own numbers: a readiness wait 0 to 254, a later-wait of 1 to 254 (01, The receiver's phases).
use Prim.Native.Nat.{ℕ, ◌≤◌}
use mathlib.Core.Bool.{Bool, false}
use mathlib.Core.Path.{◌≡◌, refl}
use native.Mathlib.Omega.{arith}
use borrow.Author.Tests.{le-ltb, ltb-true, ltb-false, eqb-true, eqb-false}
use lib.Dec.{ltb, eqb}
use Rattle.basis.specs.Pick.{pick_all}
use Rattle.receiver_rules.specs.Range.{wait_most, later_outside, verdict_outside, out_of_range, Timely}
use Rattle.receiver_state.specs.declared.verdict.Verdict.{Verdict}
use Rattle.receiver_state.specs.declared.verdict.Verdict.TheVariants.{Good, Bad, Later}

later_in : (wait : ℕ) → 1 ≤ wait → wait ≤ 254 → later_outside wait ≡ false
unfolding later_outside
later_in wait low high =
    pick_all (λ (b : Bool). b ≡ false) (eqb wait 0) _ _
    (λ t. let z = eqb-true wait 0 t in absurd (omega arith))
    (λ _. le-ltb wait_most wait (omega arith))

later_in_only : (wait : ℕ) → later_outside wait ≡ false → (1 ≤ wait) × (wait ≤ 254)
unfolding later_outside
later_in_only wait =
    pick_all (λ (b : Bool). b ≡ false → (1 ≤ wait) × (wait ≤ 254)) (eqb wait 0) _ _
    (λ _ e. let z : ◌≡◌ {A = ℕ} 0 1 = cc in absurd (omega arith))
    (λ t e. let some = eqb-false wait 0 t in let high = ltb-false wait_most wait e in (omega arith, omega arith))

verdict_in : (verdict : Verdict) → Timely verdict → verdict_outside verdict ≡ false
unfolding verdict_outside
verdict_in Good h = refl
verdict_in Bad h = refl
verdict_in (Later wait) h = later_in wait h.0 h.1

verdict_in_only : (verdict : Verdict) → verdict_outside verdict ≡ false → Timely verdict
unfolding verdict_outside
verdict_in_only Good e = tt
verdict_in_only Bad e = tt
verdict_in_only (Later wait) e = later_in_only wait e

pub in_range_lem : (readiness : ℕ) (verdict : Verdict) → readiness ≤ 254 → Timely verdict → out_of_range readiness verdict ≡ false
unfolding out_of_range
in_range_lem readiness verdict low timely =
    pick_all (λ (b : Bool). b ≡ false) (ltb wait_most readiness) _ _
    (λ t. let high = ltb-true wait_most readiness t in absurd (omega arith))
    (λ _. verdict_in verdict timely)

pub in_range_only : (readiness : ℕ) (verdict : Verdict) → out_of_range readiness verdict ≡ false → (readiness ≤ 254) × Timely verdict
unfolding out_of_range
in_range_only readiness verdict =
    pick_all (λ (b : Bool). b ≡ false → (readiness ≤ 254) × Timely verdict) (ltb wait_most readiness) _ _
    (λ _ e. let z : ◌≡◌ {A = ℕ} 0 1 = cc in absurd (omega arith))
    (λ t e. let low = ltb-false wait_most readiness t in (omega arith, verdict_in_only verdict e))
