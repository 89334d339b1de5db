-- Which blocks pass a capacity; one that does not ends within it, and its number is at most 4,095.
use Prim.Native.Nat.{ℕ, ◌+◌, ◌*◌, ◌<◌, ◌≤◌}
use mathlib.Core.Bool.{Bool, true, false, true≢false}
use mathlib.Core.Path.{◌≡◌, refl}
use native.Mathlib.Omega.{arith}
use borrow.Author.Tests.{lt-ltb, le-ltb, ltb-true, ltb-false}
use lib.Dec.{ltb}
use Rattle.basis.specs.Pick.{pick_all}
use Rattle.image.specs.Blocks.{block_passes_of}
use Rattle.receiver_rules.specs.Decide.{last_number, passes_capacity}

pub within : (number size capacity : ℕ) → passes_capacity number size capacity ≡ false → (number ≤ last_number) × (256 * number + size ≤ capacity)
unfolding passes_capacity block_passes_of
within number size capacity =
    pick_all (λ (t : Bool). t ≡ false → (number ≤ last_number) × (256 * number + size ≤ capacity)) (ltb last_number number) _ _
    (λ _ e. absurd (true≢false e))
    (λ t e. (ltb-false last_number number t, ltb-false capacity (256 * number + size) e))

module _ (number size capacity : ℕ) where
  pub number_passes : 4095 < number → passes_capacity number size capacity ≡ true
  unfolding passes_capacity
  number_passes h =
      pick_all (λ (t : Bool). t ≡ true) (ltb last_number number) _ _ (λ _. refl)
      (λ t. let low = ltb-false last_number number t in absurd (omega arith))

  pub end_passes : capacity < 256 * number + size → passes_capacity number size capacity ≡ true
  unfolding passes_capacity block_passes_of
  end_passes h = pick_all (λ (t : Bool). t ≡ true) (ltb last_number number) _ _ (λ _. refl) (λ _. lt-ltb capacity (256 * number + size) h)

  pub none_passes : number ≤ 4095 → 256 * number + size ≤ capacity → passes_capacity number size capacity ≡ false
  unfolding passes_capacity block_passes_of
  none_passes low fits =
      pick_all (λ (t : Bool). t ≡ false) (ltb last_number number) _ _
      (λ t. let high = ltb-true last_number number t in absurd (omega arith))
      (λ _. le-ltb capacity (256 * number + size) fits)
