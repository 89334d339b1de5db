-- What a call returns that writes into a lent buffer.
use Rattle.std.specs.Prelude.{ℕ}
use Rattle.lent.specs.declared.outcome.Outcome.{Outcome}

abbrev pub returns : {S A : Type 0} → S → A → ℕ → Outcome S A
returns session answer written = record { session = session; answer = answer; written = written }

abbrev pub unwritten : {S A : Type 0} → S → A → Outcome S A
unwritten session answer = returns session answer 0
