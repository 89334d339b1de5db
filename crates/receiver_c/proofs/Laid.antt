-- What a call lays into the words changes the six words of the phase, the silence and the resends, and no other.
use Prim.Native.Nat.{ℕ, ◌≤◌}
use mathlib.Core.Path.{◌≡◌, ◌∙◌}
use mathlib.Core.List.{List}
use native.Mathlib.Omega.{arith}
use lib.ListN.{set}
use lib.Seq.{get_or-set_other}
use Rattle.receiver_state.specs.Phase.{accepted_of}
use Rattle.receiver_state.specs.declared.phase.Phase.{Phase}
use Rattle.width.specs.Words.{word_at}
use Rattle.receiver_c.specs.Words.{receiver_phase_code, receiver_short_of, identity_at, laid_numbers, laid_phase}

six_others : (w : List ℕ) (a₃ a₄ a₅ a₆ a₇ a₈ i : ℕ) → ((k : ℕ) → 3 ≤ k → k ≤ 8 → i ≡ k → ⊥)
    → word_at (set (set (laid_numbers w a₃ a₄ a₅ a₆) 7 a₇) 8 a₈) i ≡ word_at w i
six_others w a₃ a₄ a₅ a₆ a₇ a₈ i off =
    let w₃ = set w 3 a₃ in
    let w₄ = set w₃ 4 a₄ in
    let w₅ = set w₄ 5 a₅ in
    let w₆ = set w₅ 6 a₆ in
    get_or-set_other (set w₆ 7 a₇) 8 i a₈ 0 (off 8 (omega arith) (omega arith)) ∙ get_or-set_other w₆ 7 i a₇ 0 (off 7 (omega arith) (omega arith))
    ∙ get_or-set_other w₅ 6 i a₆ 0 (off 6 (omega arith) (omega arith)) ∙ get_or-set_other w₄ 5 i a₅ 0 (off 5 (omega arith) (omega arith))
    ∙ get_or-set_other w₃ 4 i a₄ 0 (off 4 (omega arith) (omega arith)) ∙ get_or-set_other w 3 i a₃ 0 (off 3 (omega arith) (omega arith))

module _ (w : List ℕ) (phase : Phase) (silence resends : ℕ) where
  laid_other : (i : ℕ) → ((k : ℕ) → 3 ≤ k → k ≤ 8 → i ≡ k → ⊥) → word_at (laid_phase w phase silence resends) i ≡ word_at w i
  unfolding laid_phase
  laid_other i off = six_others w (receiver_phase_code phase) (accepted_of phase).blocks (accepted_of phase).bytes (receiver_short_of phase) silence resends i off

  pub laid_before : (i : ℕ) → i ≤ 2 → word_at (laid_phase w phase silence resends) i ≡ word_at w i
  laid_before i h = laid_other i (λ k low high e. absurd (omega arith))

  pub laid_behind : (i : ℕ) → 9 ≤ i → word_at (laid_phase w phase silence resends) i ≡ word_at w i
  laid_behind i h = laid_other i (λ k low high e. absurd (omega arith))

  pub laid_identity : identity_at (laid_phase w phase silence resends) ≡ identity_at w
  unfolding identity_at
  laid_identity =
      rw (laid_behind 9 (omega arith), laid_behind 10 (omega arith), laid_behind 11 (omega arith), laid_behind 12 (omega arith), laid_behind 13 (omega arith))
