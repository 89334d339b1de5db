-- A part of a recording: how far it comes, why it stops, and that playing on from there joins up to the whole (01, Replay program).
use Prim.Native.Nat.{ℕ, ◌+◌, ◌*◌, ◌-◌, ◌<◌, ◌≤◌}
use mathlib.Core.Path.{◌≡◌, refl, sym, ◌∙◌, ap, subst}
use mathlib.Core.List.{List, ◌++◌, map, append_assoc}
use native.Mathlib.Omega.{arith}
use lib.ListN.{length, take, drop, length-drop, length-append}
use lib.Seq.{drop-drop, drop-append-le, take-append_seam, drop-append_seam}
use Rattle.basis.specs.Left.{Left, left}
use Rattle.printing.specs.Line.{line_longest}
use Rattle.recording.specs.Reading.{found, next_record_of}
use Rattle.recording.specs.Writing.{record_bytes_of}
use Rattle.recording.specs.Apart.{onward, apart_of}
use Rattle.recording.proofs.Cases.{found_past, Short, next_short}
use Rattle.recording.proofs.TakenApart.{apart_step}
use Rattle.recording.proofs.Moved.{found_stays}
use Rattle.recording.specs.declared.record.Record.{Record}
use Rattle.recording.specs.declared.reader.Ending.TheVariants.{Whole, Cut, UnknownKind}
use Rattle.mailbox_state.specs.declared.mailbox.Mailbox.{Mailbox}
use Rattle.playing.specs.Turn.{event_in, outcome_of, printed}
use Rattle.playing.specs.Replay.{lines_of, Replayed, replayed, replayed_of, replay_of}
use Rattle.mailbox_rules.specs.History.{history_from}
use Rattle.playing.specs.Part.{part_of, leads_of, play_of}
use Rattle.playing.proofs.Lines.{printed_sized}
use Rattle.playing.proofs.PartAll.{part_all}
use Rattle.playing.specs.declared.part.Played.{Played}
use Rattle.playing.specs.declared.part.Stop.{Stop}
use Rattle.std.specs.Prelude.{Err}

-- No more is taken than there is, and no more is written than there is room.
pub part_within : (m : Mailbox) (room : ℕ) (part : List ℕ) → ((part_of m room (apart_of part)).taken ≤ length part) × (length (part_of m room (apart_of part)).text ≤ room)
part_within =
    part_all (λ m room part q. (q.taken ≤ length part) × (length q.text ≤ room))
    (λ m room part ending e. (omega arith, omega arith))
    (λ m room part r next e h. (omega arith, omega arith))
    (λ m room part r next rest e h ih.
    let past = found_past part 0 r next e in
    let l = length-drop next part in
    (omega (arith, past, ih), simp length-append (omega (arith, ih))))

pub play_within : (m : Mailbox) (part out : List ℕ) (r : Played) (now : List ℕ) → left r now ≡ play_of m part out → (r.taken ≤ length part) × (r.written ≤ length out)
unfolding leads_of
play_within m part out r now e =
    let w = part_within m (length out) part in
    (rw (ap (λ (x : Left Played). x.answer.taken) e) w.0, rw (ap (λ (x : Left Played). x.answer.written) e) w.1)

-- The lines are in the first bytes of the output, and the rest of it is kept.
pub play_writes : (m : Mailbox) (part out : List ℕ) (r : Played) (now : List ℕ) → left r now ≡ play_of m part out
    → (take r.written now ≡ (part_of m (length out) (apart_of part)).text) × (drop r.written now ≡ drop r.written out)
unfolding leads_of
play_writes m part out r now e =
    let text = (part_of m (length out) (apart_of part)).text in
    let n : r.written ≡ length text = ap (λ (x : Left Played). x.answer.written) e in
    let led : now ≡ text ++ drop (length text) out = ap (λ (x : Left Played). x.memory) e in
    (rw (n, led) (take-append_seam text (drop (length text) out)), rw (n, led) (drop-append_seam text (drop (length text) out)))

-- No record waits for room.
abbrev pub NotFull : Stop → Type 0
NotFull (Stop.Ended ending) = Unit
NotFull Stop.Full = ⊥

-- No record waits where there is room for the longest line to every byte of the part, since a record has one byte at least.
pub never_full : (m : Mailbox) (room : ℕ) (part : List ℕ) → line_longest * length part ≤ room → NotFull (part_of m room (apart_of part)).stop
never_full =
    part_all (λ m room part q. line_longest * length part ≤ room → NotFull q.stop)
    (λ m room part ending e h. tt)
    (λ m room part r next e h k.
    let past = found_past part 0 r next e in
    let sized = printed_sized m r in
    absurd (omega (arith, past, sized)))
    (λ m room part r next rest e h ih k.
    let past = found_past part 0 r next e in
    let sized = printed_sized m r in
    let l = length-drop next part in
    ih (omega (arith, past, sized, l)))

-- A recording whose text comes behind these lines.
abbrev pub behind_lines : List ℕ → Replayed → Replayed
behind_lines lines r = replayed (lines ++ r.text) r.mailbox

-- A recording from its first record on.
replay_found : (m : Mailbox) (s : List ℕ) (r : Record) (next : ℕ) → next_record_of s 0 ≡ found r next
    → replay_of m s ≡ behind_lines (printed (outcome_of m r)) (replay_of (outcome_of m r).mailbox (drop next s))
unfolding replayed_of history_from outcome_of printed
replay_found m s r next e =
    let rest = apart_of (drop next s) in
    let after = history_from (outcome_of m r).mailbox (map event_in rest.records) in
    ap (replayed_of m) (apart_step s ∙ ap (onward apart_of s) e)
    ∙ ap (λ (t : List ℕ). replayed t after.mailbox) (append_assoc (printed (outcome_of m r)) (lines_of after.answered) _)

-- Text and mailbox: what was played, and behind it the rest on the mailbox that it left, whatever follows the part.
pub part_joins : (m : Mailbox) (room : ℕ) (part more : List ℕ)
    → replay_of m (part ++ more)
    ≡ behind_lines (part_of m room (apart_of part)).text (replay_of (part_of m room (apart_of part)).mailbox (drop (part_of m room (apart_of part)).taken part ++ more))
part_joins m room part more =
    part_all (λ m room part q. replay_of m (part ++ more) ≡ behind_lines q.text (replay_of q.mailbox (drop q.taken part ++ more)))
    (λ m room part ending e. refl)
    (λ m room part r next e h. refl)
    (λ m room part r next rest e h ih.
    let past = found_past part 0 r next e in
    let size : next ≡ length (record_bytes_of r) = omega (arith, past) in
    let line = printed (outcome_of m r) in
    replay_found m (part ++ more) r next (found_stays part more 0 r next e)
    ∙ ap (λ (s : List ℕ). behind_lines line (replay_of (outcome_of m r).mailbox s)) (drop-append-le next part more past.2)
    ∙ ap (behind_lines line)
    (ih ∙ ap (λ (s : List ℕ). behind_lines rest.text (replay_of rest.mailbox (s ++ more))) (drop-drop rest.taken next part ∙ ap (λ (k : ℕ). drop (k + rest.taken) part) size))
    ∙ (let last = replay_of rest.mailbox (drop (length (record_bytes_of r) + rest.taken) part ++ more) in
    ap (λ (t : List ℕ). replayed t last.mailbox) (sym (append_assoc line rest.text last.text))))
    m room part

-- Where it stops: with the part's end behind the last record, within a record, before an unknown kind, or before a record whose line is longer
-- than the room that is left.
pub record Waits (m : Mailbox) (room : ℕ) (rest : List ℕ) : Type 0 where
  pub waiting : Record
  pub next : ℕ
  pub found : next_record_of rest 0 ≡ found waiting next
  pub long : room < length (printed (outcome_of m waiting))

abbrev pub Because : Mailbox → ℕ → List ℕ → Stop → Type 0
Because m room rest (Stop.Ended ending) = next_record_of rest 0 ≡ Err ending
Because m room rest Stop.Full = Waits m room rest

pub part_stops : (m : Mailbox) (room : ℕ) (part : List ℕ)
    → Because (part_of m room (apart_of part)).mailbox (room - length (part_of m room (apart_of part)).text) (drop (part_of m room (apart_of part)).taken part) (part_of m room (apart_of part)).stop
part_stops =
    part_all (λ m room part q. Because q.mailbox (room - length q.text) (drop q.taken part) q.stop)
    (λ m room part ending e. e)
    (λ m room part r next e h. record { waiting = r; next = next; found = e; long = omega arith })
    (λ m room part r next rest e h ih.
    let past = found_past part 0 r next e in
    let size : next ≡ length (record_bytes_of r) = omega (arith, past) in
    let left : room - length (printed (outcome_of m r)) - length rest.text ≡ room - length (printed (outcome_of m r) ++ rest.text) = simp length-append (omega arith) in
    let place : drop rest.taken (drop next part) ≡ drop (length (record_bytes_of r) + rest.taken) part = drop-drop rest.taken next part ∙ ap (λ (k : ℕ). drop (k + rest.taken) part) size in
    subst (λ (k : ℕ). Because rest.mailbox k (drop (length (record_bytes_of r) + rest.taken) part) rest.stop) left
    (subst (λ (s : List ℕ). Because rest.mailbox (room - length (printed (outcome_of m r)) - length rest.text) s rest.stop) place ih))

-- Behind the last record played, nothing or the begun part of one record.
abbrev pub Leaves : ℕ → Stop → Type 0
Leaves bytes (Stop.Ended Whole) = bytes ≤ 0
Leaves bytes (Stop.Ended Cut) = bytes ≤ 8
Leaves bytes (Stop.Ended UnknownKind) = Unit
Leaves bytes Stop.Full = Unit

leaving : (m : Mailbox) (room : ℕ) (part : List ℕ) (taken : ℕ) (stop : Stop) → Because m room (drop taken part) stop → Leaves (length part - taken) stop
leaving m room part taken (Stop.Ended Whole) e = let l = length-drop taken part in let h = subst (Short (drop taken part) 0) e (next_short (drop taken part) 0) in omega arith
leaving m room part taken (Stop.Ended Cut) e = let l = length-drop taken part in let h = subst (Short (drop taken part) 0) e (next_short (drop taken part) 0) in omega arith
leaving m room part taken (Stop.Ended UnknownKind) e = tt
leaving m room part taken Stop.Full e = tt

pub part_leaves : (m : Mailbox) (room : ℕ) (part : List ℕ) → Leaves (length part - (part_of m room (apart_of part)).taken) (part_of m room (apart_of part)).stop
part_leaves m room part =
    let q = part_of m room (apart_of part) in
    leaving q.mailbox (room - length q.text) part q.taken q.stop (part_stops m room part)

-- The same of what `play` returns.
module _ (m : Mailbox) (part out : List ℕ) (r : Played) (now : List ℕ) (e : left r now ≡ play_of m part out) where
  pub play_mailbox : r.mailbox ≡ (part_of m (length out) (apart_of part)).mailbox
  unfolding leads_of
  play_mailbox = ap (λ (x : Left Played). x.answer.mailbox) e

  pub play_taken : r.taken ≡ (part_of m (length out) (apart_of part)).taken
  unfolding leads_of
  play_taken = ap (λ (x : Left Played). x.answer.taken) e

  pub play_stop : r.stop ≡ (part_of m (length out) (apart_of part)).stop
  unfolding leads_of
  play_stop = ap (λ (x : Left Played). x.answer.stop) e

  -- Playing on from where it stopped joins up to the whole, whatever follows.
  pub play_joins : (more : List ℕ) → replay_of m (part ++ more) ≡ behind_lines (take r.written now) (replay_of r.mailbox (drop r.taken part ++ more))
  play_joins more = rw ((play_writes m part out r now e).0, play_mailbox, play_taken) (part_joins m (length out) part more)

  pub play_stops : Because r.mailbox (length out - r.written) (drop r.taken part) r.stop
  unfolding leads_of
  play_stops = rw (play_mailbox, play_taken, play_stop, ap (λ (x : Left Played). x.answer.written) e) (part_stops m (length out) part)
