-- Where the first word ends, what follows it, and that a word lies within its line.
use Prim.Native.Nat.{ℕ, ◌+◌, ◌-◌, ◌<◌, ◌≤◌}
use mathlib.Core.Path.{◌≡◌, refl, sym, ◌∙◌, ap}
use mathlib.Core.List.{List, [], ◌∷◌}
use native.Mathlib.Omega.{arith}
use lib.ListN.{length, take, drop, length-take, length-drop}
use lib.Seq.{length-take-le}
use Rattle.basis.specs.Lists.{tail_all, take_own}
use Rattle.std.specs.Prelude.{Option, MatchOption, unwrap_or}
use Rattle.std.specs.List.{AllWithin, HoldsAt}
use native.Mathlib.Numerals.{add-one}
use borrow.Author.Tests.{eq-eqb, ne_eqb}
use Rattle.std.proofs.lemmas.Iterator.{index_from_first}
use Rattle.basis.specs.Pick.{pick_yes, pick_no}
use Rattle.script.specs.Words.{space, index_of, first_word_of, after_first_word_of, script_word_at}

space_here : (c : ℕ) (s : List ℕ) → c ≡ space → index_of space (c ∷ s) ≡ 0
unfolding index_of
space_here c s e = pick_yes _ _ _ (eq-eqb c space e)

space_behind : (c : ℕ) (s : List ℕ) → (c ≡ space → ⊥) → index_of space (c ∷ s) ≡ index_of space s + 1
unfolding index_of
space_behind c s h = pick_no _ _ _ (ne_eqb c space h) ∙ sym (add-one (index_of space s))

no_space : index_of space [] ≡ 0
unfolding index_of
no_space = refl

-- The place of the first space among the bytes, and their number where there is none.
pub space_first : (s : List ℕ) (r : Option ℕ) → MatchOption r (AllWithin (λ c. c ≡ space → ⊥) s 0 (length s)) (λ i. (i < length s) × HoldsAt (λ c. c ≡ space) s i × AllWithin (λ c. c ≡ space → ⊥) s 0 i) → unwrap_or r (length s) ≡ index_of space s
space_first s r h = sym (index_from_first (index_of space) (λ c. c ≡ space) (λ c. c ≡ space → ⊥) no_space space_here space_behind s r h)

module _ (s : List ℕ) (end : ℕ) where
  pub end_is : end ≡ index_of space s → end ≤ length s → end ≡ length (first_word_of s)
  unfolding first_word_of
  end_is e h = e ∙ sym (length-take-le (index_of space s) s (omega arith))

  pub first_is : end ≡ length (first_word_of s) → take end s ≡ first_word_of s
  unfolding first_word_of
  first_is e = ap (λ (n : ℕ). take n s) e ∙ take_own (index_of space s) s

  pub rest_is : end ≡ length (first_word_of s) → take (length s - end) (drop end s) ≡ after_first_word_of s
  unfolding after_first_word_of
  rest_is e = tail_all end s ∙ ap (λ (n : ℕ). drop n s) e

pub rest_short : (s : List ℕ) → length (after_first_word_of s) ≤ length s
unfolding after_first_word_of
rest_short s = simp length-drop (omega arith)

module _ (words : List ℕ) (at : ℕ) where
  pub word_within : at < length words → at + 1 + length (script_word_at words at) ≤ length words
  unfolding script_word_at first_word_of
  word_within h = simp (length-take, length-drop) (omega arith)

-- The first of the words, and those behind it, as the code takes them behind the first space.
module _ (words : List ℕ) where
  pub word_here : (word : List ℕ) → word ≡ first_word_of (take (length words - 1) (drop 1 words)) → word ≡ script_word_at words 0
  unfolding script_word_at
  word_here word e = e ∙ ap first_word_of (tail_all 1 words)

  pub rest_here : (rest : List ℕ) → rest ≡ after_first_word_of (take (length words - 1) (drop 1 words)) → rest ≡ after_first_word_of (drop 1 words)
  rest_here rest e = e ∙ ap after_first_word_of (tail_all 1 words)

  pub rest_less : (rest : List ℕ) → rest ≡ after_first_word_of (take (length words - 1) (drop 1 words)) → 0 < length words → length rest < length words
  rest_less rest e h =
      let short = rest_short (drop 1 words) in
      let less = length-drop 1 words in
      rw (rest_here rest e) (omega arith)
