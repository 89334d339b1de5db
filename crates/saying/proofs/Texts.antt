-- What is printed: pieces in their order, and numbers that read back as the number they were made of.
use Prim.Native.Nat.{ℕ, zero, suc, ◌+◌, ◌/◌, ◌%◌, ◌^◌, ◌<◌, ◌≤◌}
use mathlib.Core.List.{List, [], ◌∷◌, ◌++◌}
use mathlib.Core.Path.{◌≡◌, refl, subst, sym, ◌∙◌, ap}
use native.Mathlib.Omega.{arith}
use borrow.Author.Tests.{le-ltb, ne_eqb, eqb-true, eqb-false}
use lib.Dec.{eqb, ltb}
use lib.ListN.{length}
use Rattle.basis.specs.Bytes.{byte_at}
use Rattle.basis.specs.Pick.{pick, pick_no, pick_all}
use Rattle.lent.proofs.Laws.{pasted_there}
use Rattle.lent.specs.Put.{pasted}
use Rattle.printing.specs.Digits.{figure, digits_behind, number_in}
use Rattle.printing.proofs.Digits.{figure_read}
use Rattle.saying.specs.Said.{said, said_text_of, appended_of}
use Rattle.saying.specs.Decimal.{front_of, decimal_text_of}
use Rattle.saying.specs.declared.said.Said.{Said}
use Rattle.saying.proofs.Decimals.{less_left, digits_all}

pub text_behind : (t : Said) (s : List ℕ) → t.len + length s ≤ length t.bytes → said_text_of (appended_of t s) ≡ said_text_of t ++ s
unfolding appended_of
text_behind t s room =
    ap said_text_of (pick_no (ltb (length t.bytes) (t.len + length s)) t (said (t.len + length s) (pasted t.bytes t.len s)) (le-ltb (length t.bytes) (t.len + length s) room))
    ∙ pasted_there t.bytes t.len s (omega arith)

last_read : (n : ℕ) (cs : List ℕ) → digits_behind 10 (n / 10) (figure (n % 10) ∷ cs) ≡ digits_behind 10 n cs
last_read n cs =
    let low = figure_read (n % 10) (omega arith) in
    ap (λ (r : ℕ). digits_behind 10 r cs) (omega arith)

front_read : (k n : ℕ) (cs : List ℕ) → n < 10 ^ k → digits_behind 10 0 (front_of k n cs) ≡ digits_behind 10 n cs
unfolding front_of
front_read zero n cs h = ap (λ (r : ℕ). digits_behind 10 r cs) (omega arith)
front_read (suc k) n cs h = pick_all (λ (l : List ℕ). digits_behind 10 0 l ≡ digits_behind 10 n cs) (eqb n 0) _ _
    (λ t. ap (λ (r : ℕ). digits_behind 10 r cs) (sym (eqb-true n 0 t)))
    (λ _. front_read k (n / 10) (figure (n % 10) ∷ cs) (less_left k (suc k) n (omega arith) h) ∙ last_read n cs)

-- Of every number of 64 bits; only 0 itself begins with a zero.
pub decimal_read : (n : ℕ) → n < 2 ^ 64 → number_in 10 (decimal_text_of n) ≡ n
decimal_read n h = front_read 19 (n / 10) (figure (n % 10) ∷ []) (omega arith) ∙ last_read n []

first_figure : (k n : ℕ) (cs : List ℕ) → 0 < n → n < 10 ^ k → 0x30 < byte_at (front_of k n cs) 0
unfolding front_of
first_figure zero n cs some h = omega arith
first_figure (suc k) n cs some h = pick_all (λ (l : List ℕ). 0x30 < byte_at l 0) (eqb n 0) _ _
    (λ t. let e = eqb-true n 0 t in omega arith)
    (λ _. pick_all (λ (l : List ℕ). 0x30 < byte_at (front_of k (n / 10) (figure (n % 10) ∷ cs)) 0) (eqb (n / 10) 0) cs cs
    (λ t. let none = eqb-true (n / 10) 0 t in subst (λ (l : List ℕ). 0x30 < byte_at l 0) (sym (digits_all k (n / 10) (figure (n % 10) ∷ cs) none)) (omega arith))
    (λ t. let more = eqb-false (n / 10) 0 t in first_figure k (n / 10) (figure (n % 10) ∷ cs) (omega arith) (less_left k (suc k) n (omega arith) h)))

pub no_zero_in_front : (n : ℕ) → 0 < n → n < 2 ^ 64 → 0x30 < byte_at (decimal_text_of n) 0
unfolding front_of
no_zero_in_front n some h =
    subst (λ (l : List ℕ). 0x30 < byte_at l 0) (pick_no (eqb n 0) [] (decimal_text_of n) (ne_eqb n 0 (λ e. omega arith))) (first_figure 20 n [] some (omega arith))

pub zero_is : decimal_text_of 0 ≡ 0x30 ∷ []
unfolding front_of pick
zero_is = refl
