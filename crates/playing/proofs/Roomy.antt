-- A part with room for every line: how much more room there is does not matter, nor where the part is cut.
use Prim.Native.Nat.{ℕ, ◌+◌, ◌*◌, ◌-◌, ◌≤◌}
use mathlib.Core.Path.{◌≡◌, refl, sym, ◌∙◌, ap}
use mathlib.Core.List.{List, [], ◌++◌}
use native.Mathlib.Nat.{zero-add}
use native.Mathlib.Omega.{arith}
use borrow.Author.Tests.{le-ltb}
use lib.ListN.{length, drop, length-drop}
use lib.Seq.{drop-drop, drop-append-le}
use Rattle.basis.specs.Pick.{pick_no}
use Rattle.printing.specs.Line.{line_longest}
use Rattle.recording.specs.Reading.{found, next_record_of}
use Rattle.recording.specs.Writing.{record_bytes_of}
use Rattle.recording.specs.Apart.{onward, apart_of}
use Rattle.recording.proofs.Cases.{found_past}
use Rattle.recording.proofs.TakenApart.{apart_step}
use Rattle.recording.proofs.Moved.{found_stays}
use Rattle.recording.specs.declared.record.Record.{Record}
use Rattle.recording.specs.declared.reader.Ending.{Ending}
use Rattle.mailbox_state.specs.declared.mailbox.Mailbox.{Mailbox}
use Rattle.playing.specs.Turn.{outcome_of, printed}
use Rattle.playing.specs.Part.{plays, after, plays_of, part_of}
use Rattle.playing.specs.Parts.{roomy_of}
use Rattle.playing.proofs.Lines.{printed_sized}
use Rattle.playing.proofs.Mid.{regroup}
use Rattle.playing.proofs.PartAll.{part_all}
use Rattle.playing.specs.declared.part.Stop.TheVariants as Stop
use Rattle.std.specs.Prelude.{Err}

module _ (m : Mailbox) (room : ℕ) (s : List ℕ) where
  -- Where no record is found nothing is played.
  pub part_ended : (ending : Ending) → next_record_of s 0 ≡ Err ending → part_of m room (apart_of s) ≡ plays m 0 [] (Stop.Ended ending)
  unfolding plays_of
  part_ended ending e = ap (part_of m room) (apart_step s ∙ ap (onward apart_of s) e)

  -- The first record is played where its line fits, and then the rest.
  part_found : (r : Record) (next : ℕ) → next_record_of s 0 ≡ found r next → length (printed (outcome_of m r)) ≤ room
      → part_of m room (apart_of s)
      ≡ after (length (record_bytes_of r)) (printed (outcome_of m r)) (part_of (outcome_of m r).mailbox (room - length (printed (outcome_of m r))) (apart_of (drop next s)))
  unfolding plays_of
  part_found r next e h =
      ap (part_of m room) (apart_step s ∙ ap (onward apart_of s) e) ∙ pick_no _ _ _ (le-ltb room (length (printed (outcome_of m r))) h)

pub part_roomy : (m : Mailbox) (room : ℕ) (part : List ℕ) → line_longest * length part ≤ room → part_of m room (apart_of part) ≡ roomy_of m part
part_roomy m room part h =
    part_all (λ m room part q. line_longest * length part ≤ room → (other : ℕ) → line_longest * length part ≤ other → q ≡ part_of m other (apart_of part))
    (λ m room part ending e h other k. sym (part_ended m other part ending e))
    (λ m room part r next e h k.
    let past = found_past part 0 r next e in
    let sized = printed_sized m r in
    absurd (omega (arith, past, sized)))
    (λ m room part r next rest e h ih k other l.
    let past = found_past part 0 r next e in
    let sized = printed_sized m r in
    let size = length-drop next part in
    let line = printed (outcome_of m r) in
    ap (after (length (record_bytes_of r)) line) (ih (omega (arith, past, sized, size)) (other - length line) (omega (arith, past, sized, size)))
    ∙ sym (part_found m other part r next e (omega (arith, past, sized))))
    m room part h (line_longest * length part) (omega arith)

-- What was played of a part, and then the rest of it with what follows, is the two together played.
pub part_on : (m : Mailbox) (room : ℕ) (part more : List ℕ)
    → roomy_of m (part ++ more)
    ≡ after (part_of m room (apart_of part)).taken (part_of m room (apart_of part)).text
    (roomy_of (part_of m room (apart_of part)).mailbox (drop (part_of m room (apart_of part)).taken part ++ more))
part_on m room part more =
    part_all (λ m room part q. roomy_of m (part ++ more) ≡ after q.taken q.text (roomy_of q.mailbox (drop q.taken part ++ more)))
    (λ m room part ending e. nothing m (part ++ more))
    (λ m room part r next e h. nothing m (part ++ more))
    (λ m room part r next rest e h ih.
    let past = found_past part 0 r next e in
    let line = printed (outcome_of m r) in
    let bytes = length (record_bytes_of r) in
    let size : next ≡ bytes = omega (arith, past) in
    roomy_found m (part ++ more) r next (found_stays part more 0 r next e)
    ∙ ap (λ (s : List ℕ). after bytes line (roomy_of (outcome_of m r).mailbox s)) (drop-append-le next part more past.2)
    ∙ ap (after bytes line) (ih ∙ ap (λ (s : List ℕ). after rest.taken rest.text (roomy_of rest.mailbox (s ++ more)))
    (drop-drop rest.taken next part ∙ ap (λ (k : ℕ). drop (k + rest.taken) part) size))
    ∙ regroup bytes rest.taken (bytes + rest.taken) line rest.text (line ++ rest.text) _ refl refl)
    m room part
  where
    nothing : (m : Mailbox) (s : List ℕ) → roomy_of m s ≡ after 0 [] (roomy_of m s)
    nothing m s = sym (rw (zero-add (roomy_of m s).taken))

    roomy_found : (m : Mailbox) (s : List ℕ) (r : Record) (next : ℕ) → next_record_of s 0 ≡ found r next
        → roomy_of m s ≡ after (length (record_bytes_of r)) (printed (outcome_of m r)) (roomy_of (outcome_of m r).mailbox (drop next s))
    roomy_found m s r next e =
        let past = found_past s 0 r next e in
        let sized = printed_sized m r in
        let size = length-drop next s in
        let line = printed (outcome_of m r) in
        part_found m (line_longest * length s) s r next e (omega (arith, past, sized))
        ∙ ap (after (length (record_bytes_of r)) line) (part_roomy (outcome_of m r).mailbox (line_longest * length s - length line) (drop next s) (omega (arith, past, sized, size)))
