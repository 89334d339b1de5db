-- Which words are a session's, in the paper's own numbers (include/harsolvek.h; 01, Sizes and numbers; 01, The indoor end's phases).
use Rattle.std.specs.Prelude.{ℕ, ◌≤◌, ◌≡◌, List}
use Rattle.wire.specs.Codes.{image_size_most}
use Rattle.silence.specs.Within.{Within}
use Rattle.indoor_state.specs.declared.phase.State.{State}
use Rattle.indoor_state.specs.declared.plan.Plan.{Plan}
use Rattle.width.specs.Words.{word_at}
use Rattle.indoor_c.specs.PhaseWords.{phase_words_of}
use Rattle.indoor_c.specs.Words.{phase_words_at}
use Rattle.indoor_c.specs.declared.phase_words.PhaseWords.{PhaseWords}

-- The codes are Identify 0, Initiate 1, Transfer 2, Validate 3, Done 4, Failed 5. Only Transfer has a block asked for and the flag of the
-- empty block, only Initiate, Transfer and Validate have a wait, and only Failed has a reason, 40 to 45. A block's number and a wait have 16
-- bits.
pub record IndoorPhaseValid (p : PhaseWords) : Type 0 where
  pub phases : p.phase ≤ 5
  pub flag : p.emptied ≤ 1
  pub blocks : p.asked ≤ 65535
  pub waits : p.wait ≤ 65535
  pub transfer_alone : (p.phase ≡ 2 → ⊥) → (p.emptied ≡ 0) × (p.asked ≡ 0)
  pub wait_alone : (p.phase ≡ 1 → ⊥) → (p.phase ≡ 2 → ⊥) → (p.phase ≡ 3 → ⊥) → p.wait ≡ 0
  pub failed_alone : (p.phase ≡ 5 → ⊥) → p.reason ≡ 0
  pub reasons : p.phase ≡ 5 → (40 ≤ p.reason) × (p.reason ≤ 45)

pub record IndoorSessionValid (w : List ℕ) : Type 0 where
  pub within : Within (word_at w 0) (word_at w 1)
  pub some : 1 ≤ word_at w 2
  pub most : word_at w 2 ≤ image_size_most
  pub silent : word_at w 7 ≤ 65535
  pub resent : word_at w 8 ≤ 255
  pub in_phase : IndoorPhaseValid (phase_words_at w)

-- A state within the widths of its words ..
pub record IndoorStateFits (state : State) : Type 0 where
  pub blocks : (phase_words_of state.phase).asked ≤ 65535
  pub waits : (phase_words_of state.phase).wait ≤ 65535
  pub silent : state.silence ≤ 65535
  pub resent : state.resends ≤ 255

-- .. and what a session was started with.
pub record IndoorPlanFits (plan : Plan) : Type 0 where
  pub limit : plan.settings.limit ≤ 65535
  pub resends : plan.settings.resends ≤ 255
  pub vendor : plan.release.vendor ≤ 65535
  pub product : plan.release.product ≤ 65535
  pub first : plan.release.versions.first ≤ 65535
  pub second : plan.release.versions.second ≤ 65535
  pub third : plan.release.versions.third ≤ 65535
  pub fourth : plan.release.versions.fourth ≤ 65535
