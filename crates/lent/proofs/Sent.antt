-- What a call wrote is one message, and where it wrote nothing, none was sent.
use Prim.Native.Nat.{ℕ, ◌≤◌}
use mathlib.Core.Path.{◌≡◌, refl}
use mathlib.Core.List.{List, ◌∷◌}
use native.Mathlib.Omega.{arith}
use borrow.Author.Tests.{ne_eqb}
use lib.ListN.{take}
use Rattle.basis.specs.Pick.{pick}
use Rattle.lent.specs.Sent.{with_sent}

module _ (out : List ℕ) (sent : List (List ℕ)) where
  pub sent_nothing : with_sent 0 out sent ≡ sent
  unfolding pick
  sent_nothing = refl

  pub sent_one : (written : ℕ) → 1 ≤ written → with_sent written out sent ≡ take written out ∷ sent
  unfolding pick
  sent_one written some = rw (ne_eqb written 0 (λ e. omega arith))
