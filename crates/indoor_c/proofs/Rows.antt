-- The words of include/harsolvek.h, each at its place and in its own numbers, and what a refused start leaves.
use Prim.Native.Nat.{ℕ, ◌+◌, ◌*◌}
use mathlib.Core.Bool.{true, false}
use mathlib.Core.Path.{◌≡◌, refl}
use mathlib.Core.List.{List, [], ◌∷◌, ◌++◌, map}
use Rattle.indoor_state.specs.Phase.{reason_number, indoor_state}
use Rattle.indoor_state.specs.declared.phase.Reason.{Reason}
use Rattle.indoor_state.specs.declared.phase.Phase.{Phase}
use Rattle.indoor_state.specs.declared.phase.Phase.TheVariants.{Identify, Initiate, Transfer, Validate, Done, Failed}
use Rattle.indoor_state.specs.declared.plan.Plan.{Plan}
use Rattle.indoor_rules.specs.Session.{indoor}
use Rattle.indoor_c.specs.PhaseWords.{phase_words_of}
use Rattle.indoor_c.specs.Words.{words_of, no_words}
use Rattle.indoor_c.specs.Calls.{release_of}

module _ (plan : Plan) (silence resends : ℕ) where
  -- Phase, block asked for, wait, empty block sent, silence, resends, reason; what a phase does not have is 0.
  abbrev row : List ℕ → List ℕ
  row state =
      (plan.settings.limit ∷ plan.settings.resends ∷ plan.length ∷ [])
      ++ state
      ++ ((plan.release.vendor + 65536 * plan.release.product)
      ∷ (plan.release.versions.first + 65536 * plan.release.versions.second)
      ∷ (plan.release.versions.third + 65536 * plan.release.versions.fourth)
      ∷ [])

  abbrev said : Phase → List ℕ
  said phase = words_of (indoor plan (indoor_state phase silence resends))

  pub phase_rows : (asked wait : ℕ) (reason : Reason)
      → map said (
      Identify
      ∷ Initiate wait
      ∷ Transfer (record { asked = asked; wait = wait; emptied = false })
      ∷ Transfer (record { asked = asked; wait = wait; emptied = true })
      ∷ Validate wait
      ∷ Done
      ∷ Failed reason
      ∷ []
      )
      ≡ row (0 ∷ 0 ∷ 0 ∷ 0 ∷ silence ∷ resends ∷ 0 ∷ [])
      ∷ row (1 ∷ 0 ∷ wait ∷ 0 ∷ silence ∷ resends ∷ 0 ∷ [])
      ∷ row (2 ∷ asked ∷ wait ∷ 0 ∷ silence ∷ resends ∷ 0 ∷ [])
      ∷ row (2 ∷ asked ∷ wait ∷ 1 ∷ silence ∷ resends ∷ 0 ∷ [])
      ∷ row (3 ∷ 0 ∷ wait ∷ 0 ∷ silence ∷ resends ∷ 0 ∷ [])
      ∷ row (4 ∷ 0 ∷ 0 ∷ 0 ∷ silence ∷ resends ∷ 0 ∷ [])
      ∷ row (5 ∷ 0 ∷ 0 ∷ 0 ∷ silence ∷ resends ∷ reason_number reason ∷ [])
      ∷ []
  unfolding phase_words_of
  phase_rows asked wait reason = refl

-- What a start is lent: vendor, product and the four versions, in this order.
pub release_row : (vendor product first second third fourth : ℕ)
    → release_of (vendor ∷ product ∷ first ∷ second ∷ third ∷ fourth ∷ [])
    ≡ record { vendor = vendor; product = product; versions = record { first = first; second = second; third = third; fourth = fourth } }
release_row vendor product first second third fourth = refl

pub none_zeros : no_words ≡ 0 ∷ 0 ∷ 0 ∷ 0 ∷ 0 ∷ 0 ∷ 0 ∷ 0 ∷ 0 ∷ 0 ∷ 0 ∷ 0 ∷ 0 ∷ []
none_zeros = refl
