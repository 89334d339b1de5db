-- A session of the receiver as the fourteen words of include/harsolvek.h, and back.
use Rattle.std.specs.Prelude.{ℕ, ◌+◌, ◌*◌, ◌/◌, ◌%◌, Bool, false, not, List, [], ◌∷◌, eqb, leb, ltb, set, replicate}
use Rattle.basis.specs.Flag.{byte_of}
use Rattle.basis.specs.Pick.{pick}
use Rattle.width.specs.Words.{word_at}
use Rattle.silence.specs.Settings.{limit_least, limit_most, resends_most}
use Rattle.wire.specs.Codes.{image_size_most}
use Rattle.wire.specs.declared.response.Identity.{Identity}
use Rattle.receiver_state.specs.Phase.{accepted_counts, accepted_of}
use Rattle.receiver_state.specs.declared.phase.Accepted.{Accepted}
use Rattle.receiver_state.specs.declared.phase.Phase.{Phase}
use Rattle.receiver_state.specs.declared.phase.Phase.TheVariants.{Idle, Transfer, Await, Good}
use Rattle.receiver_state.specs.declared.session.Receiver.{Receiver}

abbrev pub receiver_words : ℕ
receiver_words = 14

abbrev pub receiver_phase_code : Phase → ℕ
receiver_phase_code Idle = 0
receiver_phase_code (Transfer p) = 1
receiver_phase_code (Await a) = 2
receiver_phase_code (Good a) = 3

-- Transfer alone says whether the last block was short.
abbrev pub receiver_short_of : Phase → ℕ
receiver_short_of Idle = 0
receiver_short_of (Transfer p) = byte_of p.short
receiver_short_of (Await a) = 0
receiver_short_of (Good a) = 0

-- The phase of a code; a code that is no phase's is read as Idle.
unfoldable pub receiver_phase_of : ℕ → Accepted → ℕ → Phase
receiver_phase_of code accepted short =
    pick (eqb code 1) (Transfer (record { accepted = accepted; short = eqb short 1 }))
    (pick (eqb code 2) (Await accepted)
    (pick (eqb code 3) (Good accepted)
    Idle))

unfoldable pub phase_at : List ℕ → Phase
phase_at w = receiver_phase_of (word_at w 3) (accepted_counts (word_at w 4 % 65536) (word_at w 5)) (word_at w 6)

unfoldable pub identity_at : List ℕ → Identity
identity_at w = record {
  vendor = word_at w 9 % 65536;
  product = word_at w 9 / 65536 % 65536;
  hardware = word_at w 10 % 256;
  silicon = word_at w 10 / 256 % 256;
  versions = record {
    first = word_at w 10 / 65536 % 65536;
    second = word_at w 11 % 65536;
    third = word_at w 11 / 65536 % 65536;
    fourth = word_at w 12 % 65536;
  };
  bank = word_at w 12 / 65536 % 256;
  flags1 = word_at w 12 / 16777216 % 256;
  flags2 = word_at w 13 % 256;
  flags3 = word_at w 13 / 256 % 256;
  flags4 = word_at w 13 / 65536 % 256;
}

-- The session that the words say. Of a number that does not fit its field the low bits are taken.
unfoldable pub session_at : List ℕ → Receiver
session_at w = record {
  settings = record { limit = word_at w 0 % 65536; resends = word_at w 1 % 256 };
  identity = identity_at w;
  capacity = word_at w 2;
  phase = phase_at w;
  silence = word_at w 7 % 65536;
  resends = word_at w 8 % 256;
}

unfoldable pub words_of : Receiver → List ℕ
words_of r =
    r.settings.limit
    ∷ r.settings.resends
    ∷ r.capacity
    ∷ receiver_phase_code r.phase
    ∷ (accepted_of r.phase).blocks
    ∷ (accepted_of r.phase).bytes
    ∷ receiver_short_of r.phase
    ∷ r.silence
    ∷ r.resends
    ∷ (r.identity.vendor + 65536 * r.identity.product)
    ∷ (r.identity.hardware + 256 * r.identity.silicon + 65536 * r.identity.versions.first)
    ∷ (r.identity.versions.second + 65536 * r.identity.versions.third)
    ∷ (r.identity.versions.fourth + 65536 * r.identity.bank + 16777216 * r.identity.flags1)
    ∷ (r.identity.flags2 + 256 * r.identity.flags3 + 65536 * r.identity.flags4)
    ∷ []

-- What a refused start leaves.
abbrev pub zero_words : List ℕ
zero_words = replicate receiver_words 0

-- The words with other numbers of a phase: its code, the counts and the short flag.
abbrev pub laid_numbers : List ℕ → ℕ → ℕ → ℕ → ℕ → List ℕ
laid_numbers w code blocks bytes short = set (set (set (set w 3 code) 4 blocks) 5 bytes) 6 short

-- The words with another phase, silence and count of resends: what a call may change.
unfoldable pub laid_phase : List ℕ → Phase → ℕ → ℕ → List ℕ
laid_phase w phase silence resends =
    set (set (laid_numbers w (receiver_phase_code phase) (accepted_of phase).blocks (accepted_of phase).bytes (receiver_short_of phase)) 7 silence) 8 resends

abbrev pub laid : List ℕ → Receiver → List ℕ
laid w r = laid_phase w r.phase r.silence r.resends

-- A start takes them (01, Sizes and numbers).
unfoldable pub are_settings : ℕ → ℕ → ℕ → Bool
are_settings limit resends capacity =
    pick (ltb image_size_most capacity) false
    (pick (ltb limit limit_least) false
    (pick (ltb limit_most limit) false
    (leb resends resends_most)))

-- Each number fits its field: blocks, silence, resends, and the word of the last flags.
unfoldable pub fit_fields : ℕ → ℕ → ℕ → ℕ → Bool
fit_fields blocks silence resends flags =
    pick (ltb 65535 blocks) false
    (pick (ltb 65535 silence) false
    (pick (ltb 255 resends) false
    (leb flags 16777215)))

-- The short flag is 0 or 1 in Transfer and 0 elsewhere, and in Idle the counts are 0.
unfoldable pub is_receiver_phase : ℕ → ℕ → ℕ → ℕ → Bool
is_receiver_phase code blocks bytes short =
    pick (eqb code 1) (leb short 1)
    (pick (eqb short 0)
    (pick (eqb code 0) (pick (eqb blocks 0) (eqb bytes 0) false) (leb code 3))
    false)

unfoldable pub is_receiver_session : List ℕ → Bool
is_receiver_session w =
    pick (not (are_settings (word_at w 0) (word_at w 1) (word_at w 2))) false
    (pick (not (fit_fields (word_at w 4) (word_at w 7) (word_at w 8) (word_at w 13))) false
    (is_receiver_phase (word_at w 3) (word_at w 4) (word_at w 5) (word_at w 6)))
