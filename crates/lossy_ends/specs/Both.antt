-- An answer with the two buffers that were lent for it: requests go up to the roof, responses down.
use Rattle.std.specs.Prelude.{ℕ, List}

pub record Both (A : Type 0) : Type 0 where
  pub answer : A
  pub up : List ℕ
  pub down : List ℕ

abbrev pub both : {A : Type 0} → A → List ℕ → List ℕ → Both A
both a up down = record { answer = a; up = up; down = down }
