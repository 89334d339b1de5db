-- The same time passes at both ends, and whatever time it is, both stay those of a session over a line.
use Prim.Native.Nat.{ℕ}
use mathlib.Core.Logic.{inl}
use mathlib.Core.Path.{◌≡◌, refl, sym, subst}
use mathlib.Core.List.{List}
use Rattle.receiver_rules.specs.Time.{receiver_time_of}
use Rattle.receiver_rules.proofs.Written as receiver
use Rattle.indoor_rules.specs.Time.{indoor_time_of}
use Rattle.indoor_rules.proofs.Written as indoor
use Rattle.line.specs.Line.{at_receiver, at_indoor}
use Rattle.lossy_session.specs.Clock.{roof_passes, indoor_passes}
use Rattle.lossy_ends.specs.Both.{Both, both}
use Rattle.lossy_ends.specs.Ends.{roof_ends, indoor_ends}
use Rattle.lossy_ends.specs.Over.{Over}
use Rattle.lossy_ends.specs.declared.ends.Ends.{Ends}
use Rattle.lossy_ends.proofs.Stays.{above_goes, below_goes}
use Rattle.lossy_session.specs.Pass.{both_pass_of}
use Rattle.lossy_session.specs.declared.pass_call.Passed.{Passed}

-- The same time passes at both ends: each is left as its own time rule leaves it.
pub pass_both : (e : Ends) (elapsed : ℕ) (file up down : List ℕ) → let after = (both_pass_of e elapsed file up down).answer.ends in
    (after.receiver ≡ (receiver_time_of e.receiver elapsed down).answer.session) × (after.indoor ≡ (indoor_time_of e.indoor file elapsed up).answer.session)
unfolding both_pass_of roof_passes indoor_passes
pass_both e elapsed file up down = (refl, refl)

module _ (file : List ℕ) (e : Ends) (image up down : List ℕ) (o : Over file e image up down) where
  roof_over : (elapsed : ℕ)
      → Over file (roof_ends e e.up (roof_passes e.receiver elapsed e.down down).answer) image up (roof_passes e.receiver elapsed e.down down).memory
  unfolding roof_passes
  roof_over elapsed =
      let x = receiver_time_of e.receiver elapsed down in
      above_goes file e image up down o e.up o.rising x.answer image x.memory (receiver.time_leads e.receiver elapsed down) (at_receiver o.reached elapsed down)

  indoors_over : (elapsed : ℕ)
      → Over file (indoor_ends e e.down (indoor_passes e.indoor elapsed e.up file up).answer) image (indoor_passes e.indoor elapsed e.up file up).memory down
  unfolding indoor_passes
  indoors_over elapsed =
      let x = indoor_time_of e.indoor file elapsed up in
      below_goes file e image up down o e.down o.falling x (indoor.time_leads e.indoor file elapsed up) (at_indoor o.reached file (inl refl) elapsed up)

pub pass_over : (file : List ℕ) (e : Ends) (image up down : List ℕ) → Over file e image up down
    → (elapsed : ℕ) (r : Passed) (up' down' : List ℕ) → both r up' down' ≡ both_pass_of e elapsed file up down → Over file r.ends image up' down'
unfolding both_pass_of
pass_over file e image up down o elapsed r up' down' did =
    let x = roof_passes e.receiver elapsed e.down down in
    subst (λ (b : Both Passed). Over file b.answer.ends image b.up b.down) (sym did)
    (indoors_over file (roof_ends e e.up x.answer) image up x.memory (roof_over file e image up down o elapsed) elapsed)
