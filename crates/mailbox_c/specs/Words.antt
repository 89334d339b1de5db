-- A mailbox as the ten words of include/harsolvek.h: connectors, shown, waiting, notifications, mask, status, length, and the command's code,
-- connector and reset type.
use Rattle.std.specs.Prelude.{ℕ, ◌/◌, ◌%◌, ◌^◌, Bool, false, List, [], ◌∷◌, eqb, leb, ltb, set}
use Rattle.basis.specs.Pick.{pick}
use Rattle.width.specs.Words.{word_at}
use Rattle.mailbox_state.specs.Connectors.{connectors_least, connectors_most}
use Rattle.mailbox_state.specs.State.{changes, mailbox_state}
use Rattle.mailbox_state.specs.declared.mailbox.Mailbox.{Mailbox}
use Rattle.mailbox_state.specs.declared.state.State.{State}
use Rattle.mailbox_state.specs.declared.status.Command.{Command}
use Rattle.mailbox_rules.specs.Mailbox.{mailbox}
use Rattle.mailbox_c.specs.Waiting.{flags_of, bits_of}
use Rattle.mailbox_c.specs.Notifying.{on_of, mask_of, notifications_of, notifies_of}
use Rattle.mailbox_c.specs.Running.{may_run_of}
use Rattle.mailbox_c.specs.Status.{status_code_of, data_length_of, running_of, status_of}

-- What the words say. One that is too wide for its field is cut.
abbrev pub command_at : List ℕ → Command
command_at w = record { code = word_at w 7 % 256; connector = word_at w 8 % 256; reset_type = word_at w 9 % 256 }

unfoldable pub state_at : List ℕ → State
state_at w =
    mailbox_state (word_at w 0 % 256)
    (notifications_of (word_at w 3) (word_at w 4 % 65536))
    (status_of (word_at w 5) (word_at w 6 % 256) (command_at w))
    (changes (word_at w 1 % 256) (flags_of (word_at w 2)))

abbrev pub mailbox_at : List ℕ → List ℕ → Mailbox
mailbox_at w message = mailbox (state_at w) message

unfoldable pub words_of : State → List ℕ
words_of s =
    s.connectors ∷ s.changes.shown ∷ bits_of s.changes.waiting ∷ on_of s.notifications ∷ mask_of s.notifications ∷ status_code_of s.status
    ∷ data_length_of s.status
    ∷ (running_of s.status).code
    ∷ (running_of s.status).connector
    ∷ (running_of s.status).reset_type
    ∷ []

abbrev status_laid : List ℕ → ℕ → ℕ → Command → List ℕ
status_laid w code length command =
    set (set (set (set (set w 5 code) 6 length) 7 command.code) 8 command.connector) 9 command.reset_type

-- The words with another state's. The connectors never change.
unfoldable pub laid : List ℕ → State → List ℕ
laid w s =
    status_laid
    (set (set (set (set w 1 s.changes.shown) 2 (bits_of s.changes.waiting)) 3 (on_of s.notifications)) 4 (mask_of s.notifications))
    (status_code_of s.status)
    (data_length_of s.status)
    (running_of s.status)

unfoldable pub is_idle : List ℕ → Bool
is_idle w = pick (eqb (word_at w 7) 0) (pick (eqb (word_at w 8) 0) (eqb (word_at w 9) 0) false) false

unfoldable pub is_rest : ℕ → ℕ → Bool
is_rest code length = pick (eqb code 3) (leb length 255) (pick (eqb length 0) (leb code 7) false)

-- A command runs only while notifications are on.
unfoldable pub is_busy : List ℕ → Bool
is_busy w =
    pick (eqb (word_at w 6) 0)
    (pick (eqb (word_at w 3) 1) (pick (ltb 255 (word_at w 9)) false (may_run_of (word_at w 7) (word_at w 8) (word_at w 0))) false)
    false

-- A command in Busy alone, one that runs, and a length in Completed alone.
unfoldable pub is_status : List ℕ → Bool
is_status w = pick (eqb (word_at w 5) 2) (is_busy w) (pick (is_idle w) (is_rest (word_at w 5) (word_at w 6)) false)

-- The connector shown and those that wait are among so many.
unfoldable pub changes_within : ℕ → ℕ → ℕ → Bool
changes_within shown waiting count = pick (ltb count shown) false (eqb (waiting / 2 ^ count) 0)

-- The words of a mailbox: a count that it may have, connectors among them, a mask only while notifications are on, and a status.
unfoldable pub is_mailbox : List ℕ → Bool
is_mailbox w =
    pick (ltb (word_at w 0) connectors_least) false
    (pick (ltb connectors_most (word_at w 0)) false
    (pick (changes_within (word_at w 1) (word_at w 2) (word_at w 0)) (pick (notifies_of (word_at w 3) (word_at w 4)) (is_status w) false) false))
