-- Steps that several rules share: an accepted response, a failure, and a block that goes out (01, The indoor end's phases).
use Rattle.std.specs.Prelude.{ℕ, Bool, true, eqb}
use Rattle.basis.specs.Pick.{pick}
use Rattle.image.specs.Blocks.{blocks_of}
use Rattle.indoor_state.specs.Phase.{indoor_progress, indoor_state}
use Rattle.indoor_state.specs.Step.{indoor_step}
use Rattle.indoor_state.specs.declared.plan.Plan.{Plan}
use Rattle.indoor_state.specs.declared.phase.Reason.{Reason}
use Rattle.indoor_state.specs.declared.phase.Phase.{Phase}
use Rattle.indoor_state.specs.declared.phase.Phase.TheVariants.{Transfer, Failed}
use Rattle.indoor_state.specs.declared.answer.Answer.{Answer}
use Rattle.indoor_state.specs.declared.answer.Answer.TheVariants as Ans
use Rattle.indoor_state.specs.declared.step.Step.{Step}

-- An accepted response sets silence and resends to zero; so does a failure.
abbrev pub goes : Phase → Answer → Step
goes phase answer = indoor_step (indoor_state phase 0 0) answer

-- Failed keeps nothing but its reason.
abbrev pub fails : Reason → Step
fails reason = goes (Failed reason) (Ans.Failed reason)

-- n: the blocks of the file, and the number of the empty one.
abbrev pub empty_number : Plan → ℕ
empty_number plan = blocks_of plan.length

-- Whether the empty block has been sent, once this block has gone out; `emptied` says whether it had been sent before.
unfoldable pub emptied_by : Plan → ℕ → Bool → Bool
emptied_by plan number emptied = pick emptied true (eqb number (empty_number plan))

-- The phase once this block has gone out: it is the one last asked for, and there is no wait.
abbrev pub block_sent : Plan → ℕ → Bool → Phase
block_sent plan number emptied = Transfer (indoor_progress number 0 (emptied_by plan number emptied))
