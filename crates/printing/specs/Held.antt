-- A line's text says what its array and its length are.
use Prim.Native.Nat.{ℕ, ◌+◌, ◌-◌, ◌≤◌}
use mathlib.Core.List.{List}
use mathlib.Core.Path.{◌≡◌, sym, ◌∙◌, ap}
use native.Mathlib.Omega.{arith}
use lib.ListN.{length, take, replicate, length-append, length-replicate}
use lib.Seq.{length-take-le}
use Rattle.printing.specs.Line.{line_longest, padded, IsLine}

module _ {A : Type 0} (made : List ℕ → ℕ → A) (bytes : List ℕ) (len : ℕ) (h : IsLine bytes len) where
  abbrev text : List ℕ
  text = take len bytes

  long : line_longest ≤ length bytes
  long =
      let zeros = replicate {A = ℕ} (line_longest - length text) 0 in
      let l : length bytes ≡ length text + (line_longest - length text) = ap length h.zeros ∙ length-append text zeros ∙ ap (λ (n : ℕ). length text + n) (length-replicate (line_longest - length text) 0) in
      omega (arith, l)

  size : length text ≡ len
  size = let l = long in length-take-le len bytes (omega (arith, h.fits))

  pub held : made (padded line_longest text) (length text) ≡ made bytes len
  held = ap (λ (b : List ℕ). made b (length text)) (sym h.zeros) ∙ ap (made bytes) size
