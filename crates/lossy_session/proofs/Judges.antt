-- `judge` is right about the image, and by demand 3 done is reported only where the receiver has marked the file good and holds it.
use Prim.Native.Nat.{ℕ}
use mathlib.Core.Bool.{true, false, true≢false}
use mathlib.Core.Path.{◌≡◌, refl, sym, ◌∙◌}
use mathlib.Core.List.{List}
use borrow.Author.Tests.{eq-eqb, eqb-true}
use lib.Dec.{eqb}
use lib.ListN.{length, take}
use Rattle.std.specs.Str.{bytes_eq}
use Rattle.std.proofs.lemmas.Slice.Eq.{bytes_eq-Decides}
use Rattle.basis.specs.Pick.{pick_yes, pick_both}
use Rattle.receiver_state.specs.Phase.{accepted_of}
use Rattle.indoor_state.specs.declared.phase.Phase.{Phase}
use Rattle.indoor_state.specs.declared.phase.Phase.TheVariants.{Identify, Initiate, Transfer, Validate, Done, Failed}
use Rattle.lossy_ends.specs.declared.ends.Ends.{Ends}
use Rattle.lossy_session.specs.Judge.{reports_done, same_of, session_judged_of}
use Rattle.lossy_ends.specs.Over.{Over, Same, Delivered}
use Rattle.lossy_ends.proofs.Stays.{done_delivered, delivered_same}

abbrev pub Sames : ℕ → List ℕ → List ℕ → Type 0
Sames accepted image file = (accepted ≡ length file) × (take (length file) image ≡ file)

pub same_true : (accepted : ℕ) (image file : List ℕ) → same_of accepted image file ≡ true → Sames accepted image file
unfolding same_of
same_true accepted image file e =
    let both = pick_both (eqb accepted (length file)) (bytes_eq file (take (length file) image)) e in
    (eqb-true accepted (length file) both.0, sym ((bytes_eq-Decides file (take (length file) image)).0 both.1))

pub true_same : (accepted : ℕ) (image file : List ℕ) → Sames accepted image file → same_of accepted image file ≡ true
unfolding same_of
true_same accepted image file s =
    pick_yes (eqb accepted (length file)) (bytes_eq file (take (length file) image)) false (eq-eqb accepted (length file) s.0)
    ∙ (bytes_eq-Decides file (take (length file) image)).1 (sym s.1)

reports : (phase : Phase) → reports_done phase ≡ true → phase ≡ Done
reports Identify e = absurd (true≢false (sym e))
reports (Initiate wait) e = absurd (true≢false (sym e))
reports (Transfer p) e = absurd (true≢false (sym e))
reports (Validate wait) e = absurd (true≢false (sym e))
reports Done e = refl
reports (Failed reason) e = absurd (true≢false (sym e))

module _ (file : List ℕ) (e : Ends) (image : List ℕ) where
  pub judge_same : (session_judged_of e file image).same ≡ true → Same file e image
  judge_same = same_true (accepted_of e.receiver.phase).bytes image file

  pub same_judge : Same file e image → (session_judged_of e file image).same ≡ true
  same_judge = true_same (accepted_of e.receiver.phase).bytes image file

  -- Done is told of a file that is delivered, and of no other image.
  pub judge_done : (e.indoor.state.phase ≡ Done → Delivered file e.receiver image) → (session_judged_of e file image).done ≡ true → Delivered file e.receiver image
  judge_done delivered done = delivered (reports e.indoor.state.phase done)

  pub judge_over : (up down : List ℕ) → Over file e image up down → (session_judged_of e file image).done ≡ true → (session_judged_of e file image).same ≡ true
  judge_over up down o done = same_judge (delivered_same file e image (judge_done (done_delivered file e image up down o) done))
