-- The number of a result, where its refusals have theirs (01, Numbers we answer: 0 is for what succeeded).
use Rattle.std.specs.Prelude.{ℕ, Result, Ok, Err}

abbrev pub number_in : {A R : Type 0} → (R → ℕ) → Result A R → ℕ
number_in number_of (Ok made) = 0
number_in number_of (Err refusal) = number_of refusal
