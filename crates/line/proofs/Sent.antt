-- What is among the messages sent, once a call may have sent one more.
use Prim.Native.Nat.{ℕ, ◌+◌}
use mathlib.Core.Bool.{Bool, true, false}
use mathlib.Core.Logic.{◌⊎◌, inl, inr}
use mathlib.Core.Path.{◌≡◌, ap}
use mathlib.Core.List.{List, [], ◌∷◌, ◌++◌, Memᴰ}
use native.Mathlib.Omega.{arith}
use lib.Dec.{eqb}
use lib.ListN.{length, take}
use Rattle.basis.specs.Pick.{pick, pick_all}
use Rattle.lent.specs.Sent.{with_sent}

pub none_sent : (m : List ℕ) (sent : List (List ℕ)) → sent ≡ [] → Memᴰ m sent → ⊥
none_sent m [] e h = elim h [ ]
none_sent m (x ∷ sent) e h = let some = ap length e in omega arith

first_or_other : (x m : List ℕ) (sent : List (List ℕ)) → Memᴰ m (x ∷ sent) → (m ≡ x) ⊎ Memᴰ m sent
first_or_other x m sent (Memᴰ.head e) = inl e
first_or_other x m sent (Memᴰ.tail h) = inr h

-- It was sent before, or it is what the call wrote.
pub sent_or_new : (written : ℕ) (out : List ℕ) (sent : List (List ℕ)) (m : List ℕ) → Memᴰ m (with_sent written out sent)
    → (m ≡ take written out) ⊎ Memᴰ m sent
sent_or_new written out sent m =
    pick_all (λ (l : List (List ℕ)). Memᴰ m l → (m ≡ take written out) ⊎ Memᴰ m sent) (eqb written 0) sent (take written out ∷ sent)
    (λ _ h. inr h)
    (λ _. first_or_other (take written out) m sent)

appended_or : (l more : List (List ℕ)) (m : List ℕ) → Memᴰ m (l ++ more) → Memᴰ m l ⊎ Memᴰ m more
appended_or [] more m h = inr h
appended_or (x ∷ l) more m (Memᴰ.head e) = inl (Memᴰ.head e)
appended_or (x ∷ l) more m (Memᴰ.tail h) = later_or (appended_or l more m h)
  where
    later_or : Memᴰ m l ⊎ Memᴰ m more → Memᴰ m (x ∷ l) ⊎ Memᴰ m more
    later_or (inl a) = inl (Memᴰ.tail a)
    later_or (inr b) = inr b

new_sent : (t : Bool) (x m : List ℕ) (sent : List (List ℕ)) → Memᴰ m (pick t [] (x ∷ [])) → Memᴰ m (pick t sent (x ∷ sent))
unfolding pick
new_sent false x m sent (Memᴰ.head e) = Memᴰ.head e
new_sent false x m sent (Memᴰ.tail h) = elim h [ ]
new_sent true x m sent h = elim h [ ]

-- A message stays among those sent.
still_sent : (written : ℕ) (out : List ℕ) (sent : List (List ℕ)) (m : List ℕ) → Memᴰ m sent → Memᴰ m (with_sent written out sent)
still_sent written out sent m h =
    pick_all (Memᴰ m) (eqb written 0) sent (take written out ∷ sent) (λ _. h) (λ _. Memᴰ.tail h)

either_sent : (written : ℕ) (out : List ℕ) (going sent : List (List ℕ)) (m : List ℕ) → ((m : List ℕ) → Memᴰ m going → Memᴰ m sent)
    → Memᴰ m going ⊎ Memᴰ m (with_sent written out []) → Memᴰ m (with_sent written out sent)
either_sent written out going sent m all (inl h) = still_sent written out sent m (all m h)
either_sent written out going sent m all (inr h) = new_sent (eqb written 0) (take written out) m sent h

-- What is on its way was sent, also what a call has just written.
pub going_sent : (written : ℕ) (out : List ℕ) (going sent : List (List ℕ)) → ((m : List ℕ) → Memᴰ m going → Memᴰ m sent)
    → (m : List ℕ) → Memᴰ m (going ++ with_sent written out []) → Memᴰ m (with_sent written out sent)
going_sent written out going sent all m h = either_sent written out going sent m all (appended_or going (with_sent written out []) m h)

-- What is sent is one message more, or none.
pub sent_length : (t : Bool) (x : List ℕ) (sent : List (List ℕ)) → length (pick t sent (x ∷ sent)) ≡ length sent + length (pick t [] (x ∷ []))
unfolding pick
sent_length true x sent = omega arith
sent_length false x sent = omega arith
