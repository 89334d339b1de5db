-- What a call leaves behind: its answer and the memory that was lent to it, as one value, so that a contract is one equation.
use Rattle.std.specs.Prelude.{◌≡◌, List, ℕ}
use Rattle.std.proofs.Common.{ap}

pub record Left (A : Type 0) : Type 0 where
  pub answer : A
  pub memory : List ℕ

abbrev pub left : {A : Type 0} → A → List ℕ → Left A
left a m = record { answer = a; memory = m }

pub answers : {A : Type 0} {a : A} {m : List ℕ} {x : Left A} → left a m ≡ x → a ≡ x.answer
answers e = ap (λ x. x.answer) e

pub leaves : {A : Type 0} {a : A} {m : List ℕ} {x : Left A} → left a m ≡ x → m ≡ x.memory
leaves e = ap (λ x. x.memory) e
