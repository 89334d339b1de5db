-- The time calls that only count silence.
use Rattle.std.specs.Prelude.{ℕ, ◌+◌, Bool, false, List, eqb, ltb}
use Rattle.basis.specs.Pick.{pick, differ}
use Rattle.wire.specs.Codes.{longest}
use Rattle.width.specs.Words.{word_at}
use Rattle.indoor_c.specs.Words.{phase_words_at}

-- Neither 28 nor 27, a phase in which silence grows, no wait, and the limit is not reached.
unfoldable pub only_counts : List ℕ → ℕ → ℕ → ℕ → Bool
only_counts w length elapsed room =
    pick (differ length (word_at w 2)) false
    (pick (ltb room longest) false
    (pick (ltb 3 (phase_words_at w).phase) false
    (pick (eqb (phase_words_at w).wait 0) (ltb (word_at w 7 + elapsed) (word_at w 0))
    false)))
