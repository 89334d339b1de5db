-- A turn of the loop that adds the bytes up.
use Rattle.std.proofs.Common.{◌≡◌, ℕ, zero, suc, ◌+◌, ◌%◌, ◌<◌, List, [], ◌∷◌, length, get_or, take, add-one, arith}
use Rattle.image.specs.Sum.{total, sum_of}

total_suc : (l : List ℕ) (i : ℕ) → i < length l → total (take (suc i) l) ≡ total (take i l) + get_or l i 0
unfolding total
total_suc [] i h = omega arith
total_suc (x ∷ l) zero h = omega arith
total_suc (x ∷ l) (suc i) h = let r = total_suc l i (omega arith) in omega arith

pub sum_none : (l : List ℕ) → 0 ≡ sum_of (take 0 l)
unfolding sum_of total
sum_none l = omega arith

pub sum_more : (l : List ℕ) (i s : ℕ) → i < length l → s ≡ sum_of (take i l) → (s + get_or l i 0) % 65536 ≡ sum_of (take (i + 1) l)
unfolding sum_of
sum_more l i s h e = rw add-one (let r = total_suc l i h in omega arith)
