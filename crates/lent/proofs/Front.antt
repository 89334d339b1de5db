-- A message written into the first bytes of a buffer, which were lent as an array of their own: the whole buffer begins with it, and its rest is
-- as it was.
use Rattle.std.specs.Prelude.{ℕ, ◌≤◌, ◌≡◌, List, ◌++◌, length, take, drop}
use Rattle.std.proofs.Common.{arith, ap, sym, ◌∙◌}
use Rattle.std.proofs.lemmas.List.{append_assoc, drop-append-le, take-append-drop, length-take-le}
use Rattle.lent.specs.Written.{written_into}

pub front_written : (s d : List ℕ) (n : ℕ) → length s ≤ n → n ≤ length d → written_into s (take n d) ++ drop n d ≡ written_into s d
front_written s d n p q =
    let long = length-take-le n d q in
    append_assoc s (drop (length s) (take n d)) (drop n d)
    ∙ ap (λ z. s ++ z) (sym (drop-append-le (length s) (take n d) (drop n d) (omega (arith, long, p))) ∙ ap (λ z. drop (length s) z) (take-append-drop n d))
