-- What holds of a part with no record at its start, of one whose first line does not fit, and of one whose first record is played where it
-- holds of the rest, holds of every part.
use Prim.Native.Nat.{ℕ, zero, suc, ◌-◌, ◌<◌, ◌≤◌}
use mathlib.Core.Path.{◌≡◌, refl, sym, ◌∙◌, ap, subst}
use mathlib.Core.List.{List, []}
use native.Mathlib.Nat.{le_refl}
use native.Mathlib.Omega.{arith}
use borrow.Author.Tests.{ltb-true, ltb-false}
use lib.Dec.{ltb}
use lib.ListN.{length, drop, length-drop}
use Rattle.basis.specs.Pick.{pick_all}
use Rattle.recording.specs.Reading.{found, next_record_of}
use Rattle.recording.specs.Writing.{record_bytes_of}
use Rattle.recording.specs.Apart.{Apart, onward, apart_of}
use Rattle.recording.proofs.Cases.{Past, next_past}
use Rattle.recording.proofs.TakenApart.{apart_step}
use Rattle.recording.proofs.ByKind.{nothing_there}
use Rattle.recording.specs.declared.record.Record.{Record}
use Rattle.recording.specs.declared.reader.Ending.{Ending}
use Rattle.mailbox_state.specs.declared.mailbox.Mailbox.{Mailbox}
use Rattle.playing.specs.Turn.{outcome_of, printed}
use Rattle.playing.specs.Part.{Plays, plays, after, plays_of, part_of}
use Rattle.playing.specs.declared.part.Stop.{Stop}
use Rattle.std.specs.Prelude.{Result, Ok, Err}
use Rattle.recording.specs.declared.reader.Found.{Found}

module _ (P : Mailbox → ℕ → List ℕ → Plays → Type 0)
    (ended : (m : Mailbox) (room : ℕ) (part : List ℕ) (ending : Ending) → next_record_of part 0 ≡ Err ending → P m room part (plays m 0 [] (Stop.Ended ending)))
    (full : (m : Mailbox) (room : ℕ) (part : List ℕ) (r : Record) (next : ℕ) → next_record_of part 0 ≡ found r next
    → room < length (printed (outcome_of m r)) → P m room part (plays m 0 [] Stop.Full))
    (goes : (m : Mailbox) (room : ℕ) (part : List ℕ) (r : Record) (next : ℕ) (rest : Plays) → next_record_of part 0 ≡ found r next
    → length (printed (outcome_of m r)) ≤ room → P (outcome_of m r).mailbox (room - length (printed (outcome_of m r))) (drop next part) rest
    → P m room part (after (length (record_bytes_of r)) (printed (outcome_of m r)) rest)) where
  -- A part whose first record has been read, where the rest is settled.
  reads : (bytes : ℕ) → ((m : Mailbox) (room : ℕ) (rest : List ℕ) → length rest ≤ bytes → P m room rest (part_of m room (apart_of rest)))
      → (m : Mailbox) (room : ℕ) (part : List ℕ) → length part ≤ suc bytes → (x : Result Found Ending) → next_record_of part 0 ≡ x → Past part 0 x
      → P m room part (part_of m room (onward apart_of part x))
  unfolding plays_of
  reads bytes settled m room part h (Err ending) e past = ended m room part ending e
  reads bytes settled m room part h (Ok f) e past =
      let r = f.«record» in
      pick_all (P m room part) (ltb room (length (printed (outcome_of m r)))) _ _
      (λ t. full m room part r f.next e (ltb-true room (length (printed (outcome_of m r))) t))
      (λ t. goes m room part r f.next _ e (ltb-false room (length (printed (outcome_of m r))) t)
      (settled (outcome_of m r).mailbox (room - length (printed (outcome_of m r))) (drop f.next part) (simp length-drop (omega (arith, past)))))

  -- Each record has at least one byte.
  within : (bytes : ℕ) (m : Mailbox) (room : ℕ) (part : List ℕ) → length part ≤ bytes → P m room part (part_of m room (apart_of part))
  unfolding plays_of
  within zero m room part h =
      let e = nothing_there part 0 h in
      subst (λ (a : Apart). P m room part (part_of m room a)) (sym (apart_step part ∙ ap (onward apart_of part) e)) (ended m room part _ e)
  within (suc bytes) m room part h =
      subst (λ (a : Apart). P m room part (part_of m room a)) (sym (apart_step part))
      (reads bytes (within bytes) m room part h (next_record_of part 0) refl (next_past part 0))

  pub part_all : (m : Mailbox) (room : ℕ) (part : List ℕ) → P m room part (part_of m room (apart_of part))
  part_all m room part = within (length part) m room part (le_refl (length part))
