-- What a call of either end answered and sent.
use Rattle.std.specs.Prelude.{ℕ, ltb}
use Rattle.luck.specs.Way.{pushed_of}
use Rattle.luck.specs.declared.way.Way.{Way}
use Rattle.luck.specs.declared.called.Answered.{Answered}

abbrev pub answered_of : ℕ → Way → ℕ → Answered
answered_of number w written = record { number = number; sent = ltb 0 written; pushed = pushed_of w written }
