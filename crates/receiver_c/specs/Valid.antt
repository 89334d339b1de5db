-- Which words are a session's, in the paper's own numbers (include/harsolvek.h; 01, Sizes and numbers; 01, The receiver's phases).
use Rattle.std.specs.Prelude.{ℕ, ◌≤◌, ◌<◌, ◌≡◌, List}
use Rattle.silence.specs.Within.{Within}
use Rattle.receiver_state.specs.Phase.{accepted_of}
use Rattle.receiver_state.specs.declared.session.Receiver.{Receiver}
use Rattle.width.specs.Words.{word_at}

-- The codes are Idle 0, Transfer 1, Await 2, Good 3. The short flag is 1 in Transfer alone, and in Idle nothing is accepted.
pub record ReceiverPhaseValid (phase blocks bytes short : ℕ) : Type 0 where
  pub phases : phase ≤ 3
  pub flag : short ≤ 1
  pub transfer_alone : (phase ≡ 1 → ⊥) → short ≡ 0
  pub idle_empty : phase ≡ 0 → (blocks ≡ 0) × (bytes ≡ 0)

pub record ReceiverSessionValid (w : List ℕ) : Type 0 where
  pub within : Within (word_at w 0) (word_at w 1)
  pub room : word_at w 2 ≤ 1048575
  pub in_phase : ReceiverPhaseValid (word_at w 3) (word_at w 4) (word_at w 5) (word_at w 6)
  pub few_blocks : word_at w 4 ≤ 65535
  pub short_silence : word_at w 7 ≤ 65535
  pub few_resends : word_at w 8 ≤ 255
  pub three_flags : word_at w 13 ≤ 16777215

-- A session whose numbers fit their fields, as every session of the library does.
pub record ReceiverFits (r : Receiver) : Type 0 where
  pub limit : r.settings.limit < 65536
  pub resends_allowed : r.settings.resends < 256
  pub blocks : (accepted_of r.phase).blocks < 65536
  pub silence : r.silence < 65536
  pub resends : r.resends < 256
  pub vendor : r.identity.vendor < 65536
  pub product : r.identity.product < 65536
  pub hardware : r.identity.hardware < 256
  pub silicon : r.identity.silicon < 256
  pub first : r.identity.versions.first < 65536
  pub second : r.identity.versions.second < 65536
  pub third : r.identity.versions.third < 65536
  pub fourth : r.identity.versions.fourth < 65536
  pub bank : r.identity.bank < 256
  pub flags1 : r.identity.flags1 < 256
  pub flags2 : r.identity.flags2 < 256
  pub flags3 : r.identity.flags3 < 256
  pub flags4 : r.identity.flags4 < 256
