-- In the middle of a part: what was played so far, and then the rest played from there, is the whole part played.
use Prim.Native.Nat.{ℕ, ◌+◌, ◌-◌, ◌<◌, ◌≤◌}
use mathlib.Core.Path.{◌≡◌, refl, sym, ◌∙◌, ap}
use mathlib.Core.List.{List, [], ◌++◌, append_assoc, append-nil}
use native.Mathlib.Nat.{add-zero, zero-add, add_assoc, sub-zero}
use native.Mathlib.Omega.{arith}
use borrow.Author.Tests.{lt-ltb, le-ltb}
use lib.ListN.{length, take, drop, take-append-drop}
use lib.Seq.{length-take-le, drop-drop}
use Rattle.basis.specs.Pick.{pick_yes, pick_no}
use Rattle.basis.specs.Left.{Left, left, leaves}
use Rattle.lent.specs.Put.{Placed, pasted, put_of}
use Rattle.lent.proofs.Laws.{put_fits, pasted_there, pasted_behind, pasted_length}
use Rattle.recording.specs.Reading.{found, next_record_of}
use Rattle.recording.specs.Writing.{record_bytes_of}
use Rattle.recording.specs.Apart.{onward, apart_of}
use Rattle.recording.proofs.Cases.{found_past}
use Rattle.recording.proofs.TakenApart.{apart_at}
use Rattle.recording.specs.declared.record.Record.{Record}
use Rattle.recording.specs.declared.reader.Ending.{Ending}
use Rattle.mailbox_state.specs.declared.mailbox.Mailbox.{Mailbox}
use Rattle.playing.specs.Turn.{outcome_of, printed, turn_of}
use Rattle.playing.specs.Part.{Plays, plays, after, plays_of, part_of, leads_of, play_of}
use Rattle.playing.specs.declared.part.Stop.{Stop}
use Rattle.playing.specs.declared.part.Played.{Played}
use Rattle.playing.specs.declared.turn.Turn.{Turn}
use Rattle.std.specs.Prelude.{Err}

pub record Mid (started : Mailbox) (part before : List ℕ) (mailbox : Mailbox) (taken written : ℕ) (out : List ℕ) : Type 0 where
  pub run : part_of started (length before) (apart_of part) ≡ after taken (take written out) (part_of mailbox (length before - written) (apart_of (drop taken part)))
  pub rest : drop written out ≡ drop written before
  pub room : written ≤ length out
  pub size : length out ≡ length before
  pub place : taken ≤ length part

-- Bytes and lines that follow others are joined with them.
pub regroup : (t k n : ℕ) (x y z : List ℕ) (q : Plays) → n ≡ t + k → z ≡ x ++ y → after t x (after k y q) ≡ after n z q
regroup t k n x y z q e f = rw (e, f, add_assoc t k q.taken, append_assoc x y q.text)

pub mid_begins : (started : Mailbox) (part before : List ℕ) → Mid started part before started 0 0 before
mid_begins started part before =
    record { run = rw (sub-zero (length before), zero-add (part_of started (length before) (apart_of part)).taken); rest = refl; room = omega arith; size = refl; place = omega arith }

-- The line that a record prints, as the code has it.
module _ (mailbox : Mailbox) (r : Record) (turn : Turn) (e : turn ≡ turn_of mailbox r) where
  pub line_is : turn.line ≡ printed (outcome_of mailbox r)
  unfolding turn_of
  line_is = ap (λ (t : Turn). t.line) e

  pub turn_mailbox : turn.mailbox ≡ (outcome_of mailbox r).mailbox
  unfolding turn_of
  turn_mailbox = ap (λ (t : Turn). t.mailbox) e

module _ (started : Mailbox) (part before : List ℕ) (mailbox : Mailbox) (taken written : ℕ) (out : List ℕ)
    (mid : Mid started part before mailbox taken written out) where
  -- Where nothing further is played, what was played is all.
  rests : (stop : Stop) → part_of mailbox (length before - written) (apart_of (drop taken part)) ≡ plays mailbox 0 [] stop
      → ◌≡◌ {A = Left Played} (left (record { mailbox = mailbox; taken = taken; written = written; stop = stop }) out) (play_of started part before)
  unfolding leads_of
  rests stop e =
      let l : length (take written out) ≡ written = length-take-le written out mid.room in
      sym (ap (λ (p : Plays). leads_of p before) (mid.run ∙ ap (after taken (take written out)) e)
      ∙ rw (add-zero taken, append-nil (take written out), l, ← mid.rest, take-append-drop written out))

  pub mid_done : (ending : Ending) → next_record_of part taken ≡ Err ending
      → ◌≡◌ {A = Left Played} (left (record { mailbox = mailbox; taken = taken; written = written; stop = Stop.Ended ending }) out) (play_of started part before)
  unfolding plays_of
  mid_done ending e = rests (Stop.Ended ending) (ap (part_of mailbox (length before - written)) (apart_at part taken ∙ ap (onward apart_of part) e))

  pub mid_full : (r : Record) (next : ℕ) → next_record_of part taken ≡ found r next → length out - written < length (printed (outcome_of mailbox r))
      → ◌≡◌ {A = Left Played} (left (record { mailbox = mailbox; taken = taken; written = written; stop = Stop.Full }) out) (play_of started part before)
  unfolding plays_of
  mid_full r next e h = rests Stop.Full (ap (part_of mailbox (length before - written)) (apart_at part taken ∙ ap (onward apart_of part) e) ∙ pick_yes _ _ _ (lt-ltb (length before - written) (length (printed (outcome_of mailbox r))) (omega arith)))

  pub mid_goes : (r : Record) (next : ℕ) (now : List ℕ) → next_record_of part taken ≡ found r next → length (printed (outcome_of mailbox r)) ≤ length out - written
      → now ≡ pasted out written (printed (outcome_of mailbox r))
      → Mid started part before (outcome_of mailbox r).mailbox next (written + length (printed (outcome_of mailbox r))) now
  unfolding plays_of
  mid_goes r next now e h p =
      let text = printed (outcome_of mailbox r) in
      let past = found_past part taken r next e in
      let same : length now ≡ length out = rw p (pasted_length out written text (omega arith)) in
      let there : take (written + length text) now ≡ take written out ++ text = rw p (pasted_there out written text mid.room) in
      let behind : drop (written + length text) now ≡ drop (written + length text) out = rw p (pasted_behind out written text mid.room) in
      let left : length before - written - length text ≡ length before - (written + length text) = omega arith in
      let q = part_of (outcome_of mailbox r).mailbox (length before - (written + length text)) (apart_of (drop next part)) in
      let step : part_of mailbox (length before - written) (apart_of (drop taken part)) ≡ after (length (record_bytes_of r)) text q =
      ap (part_of mailbox (length before - written)) (apart_at part taken ∙ ap (onward apart_of part) e)
      ∙ pick_no _ _ _ (le-ltb (length before - written) (length text) (omega arith)) ∙ rw left in
      record {
        run = mid.run ∙ ap (after taken (take written out)) step ∙ regroup taken (length (record_bytes_of r)) next (take written out) text (take (written + length text) now) q past.0 there;
        rest = behind ∙ sym (drop-drop (length text) written out) ∙ rw mid.rest (drop-drop (length text) written before);
        room = omega arith;
        size = omega arith;
        place = past.2;
      }

  pub mid_turn : (r : Record) (next : ℕ) (turn : Turn) (text now : List ℕ) (p : Placed) → next_record_of part taken ≡ found r next → turn ≡ turn_of mailbox r
      → text ≡ turn.line → length text ≤ length out - written → left p now ≡ put_of out written text
      → Mid started part before turn.mailbox next (written + length text) now
  mid_turn r next turn text now p e f is h put =
      let room = mid.room in
      let line : text ≡ printed (outcome_of mailbox r) = is ∙ line_is mailbox r turn f in
      let there : now ≡ pasted out written text = leaves (put ∙ put_fits out written text (omega (arith, room, h))) in
      rw (turn_mailbox mailbox r turn f, line) (mid_goes r next now e (rw (sym line) h) (there ∙ ap (pasted out written) line))
