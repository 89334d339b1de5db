-- A phase of the indoor end as words of include/harsolvek.h, and back.
use Rattle.std.specs.Prelude.{ℕ, ◌%◌, Bool, false, eqb, ltb, leb}
use Rattle.basis.specs.Flag.{byte_of}
use Rattle.basis.specs.Pick.{pick}
use Rattle.indoor_state.specs.Phase.{reason_number, indoor_progress}
use Rattle.indoor_state.specs.declared.phase.Reason.{Reason}
use Rattle.indoor_state.specs.declared.phase.Reason.TheVariants as Why
use Rattle.indoor_state.specs.declared.phase.Phase.{Phase}
use Rattle.indoor_state.specs.declared.phase.Phase.TheVariants.{Identify, Initiate, Transfer, Validate, Done, Failed}
use Rattle.indoor_c.specs.declared.phase_words.PhaseWords.{PhaseWords}

abbrev pub phase_words : ℕ → ℕ → ℕ → ℕ → ℕ → PhaseWords
phase_words phase asked wait emptied reason = record { phase = phase; asked = asked; wait = wait; emptied = emptied; reason = reason }

-- A number that the phase does not have is 0; a reason is document 01's number.
unfoldable pub phase_words_of : Phase → PhaseWords
phase_words_of Identify = phase_words 0 0 0 0 0
phase_words_of (Initiate wait) = phase_words 1 0 wait 0 0
phase_words_of (Transfer p) = phase_words 2 p.asked p.wait (byte_of p.emptied) 0
phase_words_of (Validate wait) = phase_words 3 0 wait 0 0
phase_words_of Done = phase_words 4 0 0 0 0
phase_words_of (Failed reason) = phase_words 5 0 0 0 (reason_number reason)

unfoldable pub indoor_reason_of : ℕ → Reason
indoor_reason_of number =
    pick (eqb number 40) Why.Silence
    (pick (eqb number 41) Why.Refused
    (pick (eqb number 42) Why.NotNewer
    (pick (eqb number 43) Why.TooLarge
    (pick (eqb number 44) Why.WrongNumber
    Why.NotValid))))

-- The phase of a code; a code that is no phase's is read as Identify, and what is wider than its field is cut.
unfoldable pub indoor_phase_of : PhaseWords → Phase
indoor_phase_of p =
    pick (eqb p.phase 1) (Initiate (p.wait % 65536))
    (pick (eqb p.phase 2) (Transfer (indoor_progress (p.asked % 65536) (p.wait % 65536) (eqb p.emptied 1)))
    (pick (eqb p.phase 3) (Validate (p.wait % 65536))
    (pick (eqb p.phase 4) Done
    (pick (eqb p.phase 5) (Failed (indoor_reason_of p.reason))
    Identify))))

-- Transfer has a block asked for, a wait and the flag of the empty block.
unfoldable pub is_transfer_phase : PhaseWords → Bool
is_transfer_phase p =
    pick (ltb 65535 p.asked) false
    (pick (ltb 65535 p.wait) false
    (pick (eqb p.reason 0) (leb p.emptied 1)
    false))

-- Failed keeps nothing but its reason, 40 to 45.
unfoldable pub is_failed_phase : PhaseWords → Bool
is_failed_phase p =
    pick (eqb p.asked 0)
    (pick (eqb p.wait 0)
    (pick (eqb p.emptied 0)
    (pick (ltb p.reason 40) false (leb p.reason 45))
    false)
    false)
    false

-- Initiate and Validate have a wait; Identify and Done have nothing.
unfoldable pub is_plain_phase : PhaseWords → Bool
is_plain_phase p =
    pick (eqb p.asked 0)
    (pick (eqb p.emptied 0)
    (pick (eqb p.reason 0)
    (pick (eqb p.phase 1) (leb p.wait 65535)
    (pick (eqb p.phase 3) (leb p.wait 65535)
    (pick (eqb p.wait 0) (leb p.phase 4) false)))
    false)
    false)
    false

-- Whether the words are those of a phase.
unfoldable pub is_indoor_phase : PhaseWords → Bool
is_indoor_phase p =
    pick (eqb p.phase 2) (is_transfer_phase p)
    (pick (eqb p.phase 5) (is_failed_phase p)
    (is_plain_phase p))
