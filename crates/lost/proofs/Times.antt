-- So many times the same milliseconds, and messages that are a millisecond older.
use Prim.Native.Nat.{ℕ, zero, suc, ◌+◌, ◌*◌, ◌≤◌, ◌<◌}
use mathlib.Core.Path.{◌≡◌, refl, ap}
use mathlib.Core.List.{List, [], ◌∷◌, ◌++◌}
use native.Mathlib.Nat.{mul-le-mul_right}
use native.Mathlib.Omega.{arith}
use Rattle.lost.specs.Lost.{Going, going, older, Younger}

unfoldable pub times : ℕ → ℕ → ℕ
times k x = k * x

pub times_none : (x : ℕ) → times 0 x ≡ 0
unfolding times
times_none x = omega arith

pub times_next : (j k x : ℕ) → k ≡ j + 1 → times k x ≡ times j x + x
unfolding times
times_next j k x e = rw e (omega arith)

pub times_most : (j k x : ℕ) → j ≤ k → times j x ≤ times k x
unfolding times
times_most j k x h = mul-le-mul_right x h

pub times_whole : (x k : ℕ) → x * (k + 1) ≡ times k x + x
unfolding times
times_whole x k = omega arith

-- Bounds that a single limit does not keep leave a resend.
pub has_resend : (limit resends : ℕ) → limit < limit * (resends + 1) → 0 < resends
has_resend limit zero h = absurd (omega arith)
has_resend limit (suc k) h = omega arith

pub older_last : (on : List Going) (m : List ℕ) (age : ℕ) → older (on ++ going m age ∷ []) ≡ older on ++ going m (age + 1) ∷ []
older_last [] m age = refl
older_last (g ∷ on) m age = ap (λ (l : List Going). going g.message (g.age + 1) ∷ l) (older_last on m age)

pub last_younger : (most : ℕ) (on : List Going) (m : List ℕ) (age : ℕ) → Younger most (on ++ going m age ∷ []) → age < most
last_younger most [] m age h = h.0
last_younger most (g ∷ on) m age h = last_younger most on m age h.1
