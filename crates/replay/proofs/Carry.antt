-- A part that was played, its rest brought to the buffer's front.
use Prim.Native.Nat.{ℕ, zero, suc, ◌+◌, ◌*◌, ◌-◌, ◌<◌, ◌≤◌}
use mathlib.Core.Bool.{Bool, true, false, true≢false}
use mathlib.Core.List.{List, [], ◌∷◌}
use mathlib.Core.Logic.{◌⊎◌, inl, inr}
use mathlib.Core.Path.{◌≡◌, refl, sym, ◌∙◌, ap, subst}
use native.Mathlib.Nat.{zero-add, sub-zero, zero-sub, suc-sub-suc}
use native.Mathlib.Omega.{arith}
use lib.ListN.{length, take, drop, length-drop}
use lib.Seq.{paste, take-add, length-take-le, take_at, take-nil}
use Rattle.basis.specs.Pick.{pick_yes, pick_no}
use Rattle.basis.specs.Left.{Left, left}
use Rattle.lent.specs.Written.{written_into}
use Rattle.printing.specs.Line.{line_longest}
use Rattle.recording.specs.Apart.{apart_of}
use Rattle.playing.specs.Part.{Plays, part_of, leads_of, play_of}
use Rattle.playing.specs.Parts.{ReplayState, replay_state, roomy_of, rested_of, further_of, unknown_of, read_of, last_of}
use Rattle.playing.proofs.PartLaws.{play_mailbox, play_taken, play_stop, play_writes, play_within}
use Rattle.playing.proofs.Roomy.{part_roomy}
use Rattle.playing.proofs.Parts.{further_few}
use Rattle.playing.specs.declared.part.Played.{Played}
use Rattle.std.specs.Prelude.{Option, Some, None}
use Rattle.replay.specs.declared.end.End.{End}
use Rattle.replay.specs.declared.end.End.TheVariants.{Closed, WriteFailed}
use Rattle.replay.specs.declared.progress.Progress.{Progress}
use Rattle.replay.specs.Turns.{held_most, replay_state_at, turn_from, over_of, course_of, Took, Goes}

-- Room for the longest line to every byte, by the lengths of the two arrays: the output has that much or more.
pub roomy : {lines : ℕ} → 851968 ≤ lines → (before out : List ℕ) → length before ≡ 65536 → length out ≡ lines → line_longest * length before ≤ length out
roomy room before out b o = omega (arith, room, b, o)

-- The length of the output, as the array has it.
pub sized : {lines : ℕ} → 851968 ≤ lines → (out : List ℕ) → length out ≡ lines → length out ≡ lines
sized room out o = o

-- Bytes that come to the front of their own buffer, as they are.
pub to_front : (before : List ℕ) (from to : ℕ) → from ≤ to → to ≤ length before → paste before 0 (drop from before) (to - from) ≡ written_into (take (to - from) (drop from before)) before
to_front before from to low high =
    let s = drop from before in
    let long : length s ≡ length before - from = length-drop from before in
    let l : length (take (to - from) s) ≡ to - from = length-take-le (to - from) s (omega arith) in
    rw (zero-add (to - from), l) refl

-- What is behind the first t of the first f elements.
drop_of_take : (t f : ℕ) (l : List ℕ) → drop t (take f l) ≡ take (f - t) (drop t l)
drop_of_take zero f l = ap (λ (k : ℕ). take k l) (sym (sub-zero f))
drop_of_take (suc t) zero l = ap (λ (k : ℕ). take k (drop (suc t) l)) (sym (zero-sub (suc t)))
drop_of_take (suc t) (suc f) [] = sym (take-nil (suc f - suc t))
drop_of_take (suc t) (suc f) (x ∷ l) = drop_of_take t f l ∙ ap (λ (k : ℕ). take k (drop t l)) (sym (suc-sub-suc f t))

-- A run that is over does not go on.
abbrev is_over : Option End → Bool
is_over None = false
is_over (Some end) = true

pub over_stops : (course : Option End) (end : End) → course ≡ Some end → course ≡ None → ⊥
over_stops course end over runs = true≢false (sym (ap is_over over) ∙ ap is_over runs)

pub closed_stops : (self x : Progress) → (x ≡ over_of self WriteFailed) ⊎ (x ≡ over_of self (Closed self.stop)) → x.end ≡ None → ⊥
closed_stops self x (inl e) = over_stops x.end WriteFailed (ap (λ (p : Progress). p.end) e)
closed_stops self x (inr e) = over_stops x.end (Closed self.stop) (ap (λ (p : Progress). p.end) e)

-- Where something has come, it is played.
some_read : (r : ReplayState) (come : List ℕ) → 0 < length come → (read_of r come ≡ further_of r come) × (last_of r come ≡ unknown_of (further_of r come).stop)
some_read r [] h = absurd (omega arith)
some_read r (byte ∷ bytes) h = (refl, refl)

-- Where nothing has come, the recording ends here.
pub nothing_took : (self x : Progress) (buffer out : List ℕ) → (x ≡ over_of self WriteFailed) ⊎ (x ≡ over_of self (Closed self.stop)) → Goes (turn_from self buffer) [] out x buffer out
nothing_took self x buffer out (inl e) = inl (ap (λ (p : Progress). p.end) e)
nothing_took self x buffer out (inr e) =
    inr (subst (λ (p : Progress). Took (turn_from self buffer) [] out p buffer out) (sym e) (record { end = sym (pick_yes true _ _ refl); state = refl; led = refl }))

-- The part that was played is the bytes that waited and the fresh ones.
module _ (self : Progress) (before out : List ℕ) (fresh : ℕ) (some : 0 < fresh) (there : self.held + fresh ≤ length before) (room : line_longest * length before ≤ length out)
    (r : Played) (now : List ℕ) (e : left r now ≡ play_of self.mailbox (take (self.held + fresh) before) out) where
  abbrev part : List ℕ
  part = take (self.held + fresh) before

  abbrev come : List ℕ
  come = take fresh (drop self.held before)

  abbrev from : ReplayState
  from = turn_from self before

  part_long : length part ≡ self.held + fresh
  part_long = length-take-le (self.held + fresh) before there

  come_some : 0 < length come
  come_some =
      let l = length-drop self.held before in
      let k : length come ≡ fresh = length-take-le fresh (drop self.held before) (omega arith) in
      omega arith

  is_roomy : part_of self.mailbox (length out) (apart_of part) ≡ roomy_of self.mailbox part
  is_roomy = let l = part_long in part_roomy self.mailbox (length out) part (omega arith)

  pub within : (r.taken ≤ self.held + fresh) × (r.written ≤ length out)
  within =
      let w = play_within self.mailbox part out r now e in
      let l = part_long in
      (omega (arith, w), w.1)

  pub lines_due : take r.written now ≡ (roomy_of self.mailbox part).text
  lines_due = (play_writes self.mailbox part out r now e).0 ∙ ap (λ (p : Plays). p.text) is_roomy

  lines_lead : now ≡ written_into (roomy_of self.mailbox part).text out
  unfolding leads_of
  lines_lead = ap (λ (x : Left Played). x.memory) e ∙ ap (λ (p : Plays). written_into p.text out) is_roomy

  -- The definition's step on what has come, as the program has it.
  stepped : read_of from come ≡ replay_state r.mailbox (drop r.taken part) r.stop (roomy_of self.mailbox part).text
  unfolding further_of
  stepped =
      (some_read from come come_some).0
      ∙ ap (λ (s : List ℕ). rested_of [] s (roomy_of self.mailbox s)) (sym (take-add self.held fresh before))
      ∙ sym (rw (
        play_mailbox self.mailbox part out r now e ∙ ap (λ (p : Plays). p.mailbox) is_roomy,
        play_taken self.mailbox part out r now e ∙ ap (λ (p : Plays). p.taken) is_roomy,
        play_stop self.mailbox part out r now e ∙ ap (λ (p : Plays). p.stop) is_roomy,
      ))

  is_last : last_of from come ≡ unknown_of r.stop
  is_last = (some_read from come come_some).1 ∙ ap (λ (x : ReplayState). unknown_of x.stop) (sym (some_read from come come_some).0 ∙ stepped)

  pub held_few : unknown_of r.stop ≡ false → self.held + fresh - r.taken ≤ held_most
  held_few u =
      let l = part_long in
      let d = length-drop r.taken part in
      let same : (further_of from come).held ≡ drop r.taken part = ap (λ (x : ReplayState). x.held) (sym (some_read from come come_some).0 ∙ stepped) in
      let few = further_few from come (sym (some_read from come come_some).1 ∙ is_last ∙ u) in
      let size = ap length same in
      omega (arith, few, size, d, l)

  -- Its rest comes to the front.
  module _ (after : List ℕ) (copied : after ≡ paste before 0 (drop r.taken before) (self.held + fresh - r.taken)) where
    a : after ≡ written_into (take (self.held + fresh - r.taken) (drop r.taken before)) before
    a = copied ∙ to_front before r.taken (self.held + fresh) within.0 there

    abbrev next : Option End → Progress
    next course = record { mailbox = r.mailbox; held = self.held + fresh - r.taken; stop = r.stop; end = course }

    front : take (self.held + fresh - r.taken) after ≡ drop r.taken part
    front =
        let s = take (self.held + fresh - r.taken) (drop r.taken before) in
        let l : length s ≡ self.held + fresh - r.taken = length-take-le (self.held + fresh - r.taken) (drop r.taken before) (simp length-drop (omega arith)) in
        ap (take (self.held + fresh - r.taken)) a ∙ take_at s (drop (length s) before) (self.held + fresh - r.taken) l ∙ sym (drop_of_take r.taken (self.held + fresh) before)

    took : (course : Option End) → course ≡ course_of from come → Took from come out (next course) after now
    took course c =
        record {
          end = c;
          state = subst (λ (x : ReplayState). replay_state_at (next course) after x.text ≡ x) (sym stepped) (ap (λ (held : List ℕ). replay_state r.mailbox held r.stop (roomy_of self.mailbox part).text) front);
          led = lines_lead ∙ ap (λ (x : ReplayState). written_into x.text out) (sym stepped);
        }

    pub goes_on : unknown_of r.stop ≡ false → Goes from come out (next None) after now
    goes_on u = inr (took None (sym (pick_no _ _ _ (is_last ∙ u))))

    closes : (x : Progress) → unknown_of r.stop ≡ true → (x ≡ over_of (next None) WriteFailed) ⊎ (x ≡ over_of (next None) (Closed r.stop)) → Goes from come out x after now
    closes x u (inl f) = inl (ap (λ (p : Progress). p.end) f)
    closes x u (inr f) =
        inr (subst (λ (p : Progress). Took from come out p after now) (sym f)
        (took (Some (Closed r.stop)) (sym (pick_yes _ _ _ (is_last ∙ u) ∙ ap (λ (y : ReplayState). Some (Closed y.stop)) stepped))))

    pub goes_no_further : (x : Progress) → unknown_of r.stop ≡ true → (x ≡ over_of (next None) WriteFailed) ⊎ (x ≡ over_of (next None) (Closed r.stop))
        → (x.end ≡ None → x.held ≤ held_most) × Goes from come out x after now
    goes_no_further x u f = (λ runs. absurd (closed_stops (next None) x f runs), closes x u f)
