-- Parts of a recording, one after the other: wherever it is cut, they come to what the whole comes to (01, Replay program).
use Prim.Native.Nat.{ℕ, ◌*◌, ◌-◌, ◌≤◌}
use mathlib.Core.Bool.{true, false, true≢false}
use mathlib.Core.Path.{◌≡◌, refl, sym, ◌∙◌, ap}
use mathlib.Core.List.{List, [], ◌∷◌, ◌++◌, append_assoc, append-nil}
use native.Mathlib.Nat.{le_refl}
use native.Mathlib.Omega.{arith}
use lib.ListN.{length, drop, length-drop}
use lib.Seq.{drop-drop, drop-append-le}
use Rattle.basis.specs.Pick.{pick, pick_all}
use Rattle.printing.specs.Line.{line_longest}
use Rattle.recording.specs.Reading.{next_record_of}
use Rattle.recording.proofs.ByKind.{nothing_there}
use Rattle.recording.proofs.Moved.{unknown_stays}
use Rattle.recording.specs.declared.reader.Ending.TheVariants.{Whole, Cut, UnknownKind}
use Rattle.mailbox_state.specs.declared.mailbox.Mailbox.{Mailbox}
use Rattle.playing.specs.Replay.{begun, Replayed, replayed, replay_of, printed_of}
use Rattle.playing.specs.Part.{ending_text}
use Rattle.playing.specs.Parts.{ReplayState, replay_state, replay_begins, roomy_of, rested_of, further_of, parts_of, joined, closed_of, unknown_of, reads_of, until_nothing}
use Rattle.playing.proofs.Endings.{replay_ended}
use Rattle.playing.proofs.PartLaws.{part_within, NotFull, never_full, behind_lines, part_joins, Because, part_stops, Leaves, part_leaves}
use Rattle.playing.proofs.Roomy.{part_ended, part_on}
use Rattle.playing.specs.declared.part.Stop.{Stop}
use Rattle.std.specs.Prelude.{Err}

-- No record is found at the start of the bytes that wait, for the reason that is given.
abbrev pub Waiting : List ℕ → Stop → Type 0
Waiting held (Stop.Ended ending) = next_record_of held 0 ≡ Err ending
Waiting held Stop.Full = ⊥

pub first_waits : (m : Mailbox) → Waiting (replay_begins m).held (replay_begins m).stop
first_waits m = nothing_there [] 0 (le_refl 0)

pub further_waits : (r : ReplayState) (part : List ℕ) → Waiting (further_of r part).held (further_of r part).stop
unfolding further_of
further_waits r part =
    let bytes = r.held ++ part in
    let p = roomy_of r.mailbox bytes in
    ended p.mailbox (line_longest * length bytes - length p.text) (drop p.taken bytes) p.stop (part_stops r.mailbox (line_longest * length bytes) bytes) (never_full r.mailbox (line_longest * length bytes) bytes (le_refl (line_longest * length bytes)))
  where
    ended : (m : Mailbox) (room : ℕ) (held : List ℕ) (stop : Stop) → Because m room held stop → NotFull stop → Waiting held stop
    ended m room held (Stop.Ended ending) e n = e
    ended m room held Stop.Full e n = n

-- Less than a record waits, unless its kind is unknown.
pub further_few : (r : ReplayState) (part : List ℕ) → unknown_of (further_of r part).stop ≡ false → length (further_of r part).held ≤ 8
unfolding further_of
further_few r part u =
    let bytes = r.held ++ part in
    let p = roomy_of r.mailbox bytes in
    let l = length-drop p.taken bytes in
    let few = leaves (length bytes - p.taken) p.stop (part_leaves r.mailbox (line_longest * length bytes) bytes) (never_full r.mailbox (line_longest * length bytes) bytes (le_refl (line_longest * length bytes))) u in
    omega (arith, few, l)
  where
    leaves : (bytes : ℕ) (stop : Stop) → Leaves bytes stop → NotFull stop → unknown_of stop ≡ false → bytes ≤ 8
    leaves bytes (Stop.Ended Whole) l n u = omega arith
    leaves bytes (Stop.Ended Cut) l n u = l
    leaves bytes (Stop.Ended UnknownKind) l n u = absurd (true≢false u)
    leaves bytes Stop.Full l n u = absurd n

-- One part and then another are the two joined.
pub further_on : (r : ReplayState) (part more : List ℕ) → further_of (further_of r part) more ≡ further_of r (part ++ more)
unfolding further_of
further_on r part more =
    let m = r.mailbox in
    let bytes = r.held ++ part in
    let p = roomy_of m bytes in
    let rest = drop p.taken bytes ++ more in
    let q = roomy_of p.mailbox rest in
    let within = part_within m (line_longest * length bytes) bytes in
    sym (ap (λ (s : List ℕ). rested_of r.text s (roomy_of m s)) (sym (append_assoc r.held part more))
    ∙ ap (rested_of r.text (bytes ++ more)) (part_on m (line_longest * length bytes) bytes more)
    ∙ ap (λ (held : List ℕ). replay_state q.mailbox held q.stop (r.text ++ (p.text ++ q.text)))
    (sym (drop-drop q.taken p.taken (bytes ++ more)) ∙ ap (drop q.taken) (drop-append-le p.taken bytes more within.0))
    ∙ ap (replay_state q.mailbox (drop q.taken rest) q.stop) (sym (append_assoc r.text p.text q.text)))

-- A part of no bytes changes nothing.
pub further_nothing : (r : ReplayState) → Waiting r.held r.stop → further_of r [] ≡ r
unfolding further_of
further_nothing r w = waits r.stop w
  where
    waits : (stop : Stop) → Waiting r.held stop → rested_of r.text (r.held ++ []) (roomy_of r.mailbox (r.held ++ [])) ≡ replay_state r.mailbox r.held stop r.text
    waits (Stop.Ended ending) e =
        ap (λ (s : List ℕ). rested_of r.text s (roomy_of r.mailbox s)) (append-nil r.held)
        ∙ ap (rested_of r.text r.held) (part_ended r.mailbox (line_longest * length r.held) r.held ending e)
        ∙ ap (replay_state r.mailbox r.held (Stop.Ended ending)) (append-nil r.text)
    waits Stop.Full e = absurd e

-- However a recording is cut, its parts one after the other come to what they come to at once.
pub parts_at_once : (r : ReplayState) (parts : List (List ℕ)) → Waiting r.held r.stop → parts_of r parts ≡ further_of r (joined parts)
unfolding parts_of
parts_at_once r [] w = sym (further_nothing r w)
parts_at_once r (part ∷ parts) w = parts_at_once (further_of r part) parts (further_waits r part) ∙ further_on r part (joined parts)

-- What waits is what is behind the records that were played: no byte that has come is lost.
pub parts_hold : (m : Mailbox) (parts : List (List ℕ)) → (parts_of (replay_begins m) parts).held ≡ drop (roomy_of m (joined parts)).taken (joined parts)
unfolding further_of
parts_hold m parts = ap (λ (r : ReplayState). r.held) (parts_at_once (replay_begins m) parts (first_waits m))

-- A recording that ends where bytes wait.
waiting_ends : (m : Mailbox) (held : List ℕ) (stop : Stop) → Waiting held stop → replay_of m held ≡ replayed (ending_text stop) m
waiting_ends m held (Stop.Ended ending) e = replay_ended m held ending e
waiting_ends m held Stop.Full e = absurd e

-- A recording that ends behind a part.
further_closed : (r : ReplayState) (part : List ℕ) → closed_of (further_of r part) ≡ behind_lines r.text (replay_of r.mailbox (r.held ++ part))
unfolding further_of
further_closed r part =
    let m = r.mailbox in
    let bytes = r.held ++ part in
    let p = roomy_of m bytes in
    let rest = drop p.taken bytes in
    let all : replay_of m bytes ≡ behind_lines p.text (replayed (ending_text p.stop) p.mailbox) =
    ap (replay_of m) (sym (append-nil bytes)) ∙ part_joins m (line_longest * length bytes) bytes []
    ∙ ap (λ (s : List ℕ). behind_lines p.text (replay_of p.mailbox s)) (append-nil rest)
    ∙ ap (behind_lines p.text) (waiting_ends p.mailbox rest p.stop (further_waits r part)) in
    ap (λ (text : List ℕ). replayed text p.mailbox) (append_assoc r.text p.text (ending_text p.stop)) ∙ sym (ap (behind_lines r.text) all)

-- The text and the mailbox are those of the whole recording, parts of no bytes among them or not.
pub parts_whole : (m : Mailbox) (parts : List (List ℕ)) → closed_of (parts_of (replay_begins m) parts) ≡ replay_of m (joined parts)
parts_whole m parts = ap closed_of (parts_at_once (replay_begins m) parts (first_waits m)) ∙ further_closed (replay_begins m) (joined parts)

pub parts_one_more : (r : ReplayState) (parts : List (List ℕ)) (part : List ℕ) → parts_of r (parts ++ part ∷ []) ≡ further_of (parts_of r parts) part
unfolding parts_of
parts_one_more r [] part = refl
parts_one_more r (first ∷ parts) part = parts_one_more (further_of r first) parts part

-- Behind an unknown kind nothing is looked at: what follows changes neither text nor mailbox.
pub unknown_closed : (r : ReplayState) (part : List ℕ) → Waiting r.held r.stop → unknown_of r.stop ≡ true → closed_of (further_of r part) ≡ closed_of r
unknown_closed r part w u = further_closed r part ∙ behind r.stop w u
  where
    behind : (stop : Stop) → Waiting r.held stop → unknown_of stop ≡ true → behind_lines r.text (replay_of r.mailbox (r.held ++ part)) ≡ replayed (r.text ++ ending_text stop) r.mailbox
    behind (Stop.Ended UnknownKind) e u = ap (behind_lines r.text) (replay_ended r.mailbox (r.held ++ part) UnknownKind (unknown_stays r.held part 0 e))
    behind (Stop.Ended Whole) e u = absurd (true≢false (sym u))
    behind (Stop.Ended Cut) e u = absurd (true≢false (sym u))
    behind Stop.Full e u = absurd e

-- Reads stop at one of no bytes and behind an unknown kind, and leave nothing out by it.
reads_parts : (r : ReplayState) (parts : List (List ℕ)) → Waiting r.held r.stop → closed_of (reads_of r parts) ≡ closed_of (parts_of r (until_nothing parts))
unfolding reads_of parts_of pick
reads_parts r [] w = refl
reads_parts r ([] ∷ parts) w = refl
reads_parts r ((byte ∷ bytes) ∷ parts) w =
    let next = further_of r (byte ∷ bytes) in
    let waits = further_waits r (byte ∷ bytes) in
    pick_all (λ (x : ReplayState). closed_of x ≡ closed_of (parts_of next (until_nothing parts))) (unknown_of next.stop) next (reads_of next parts)
    (λ u. sym (ap closed_of (parts_at_once next (until_nothing parts) waits) ∙ unknown_closed next (joined (until_nothing parts)) waits u))
    (λ u. reads_parts next parts waits)

pub reads_whole : (m : Mailbox) (parts : List (List ℕ)) → closed_of (reads_of (replay_begins m) parts) ≡ replay_of m (joined (until_nothing parts))
reads_whole m parts = reads_parts (replay_begins m) parts (first_waits m) ∙ parts_whole m (until_nothing parts)

-- What the replay program prints, however many reads the recording comes in.
pub reads_printed : (parts : List (List ℕ)) → (closed_of (reads_of (replay_begins begun) parts)).text ≡ printed_of (joined (until_nothing parts))
reads_printed parts = ap (λ (r : Replayed). r.text) (reads_whole begun parts)
