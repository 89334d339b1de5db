-- Document 01's sentences on the mailbox, of every mailbox that a history leads to (01, The mailbox; 01, Numbers we answer). This file is the
-- whole statement, and `sentences` in proofs/Sentences.antt is its proof.
use Rattle.std.specs.Prelude.{ℕ, ◌-◌, ◌/◌, ◌%◌, ◌^◌, ◌≤◌, ◌<◌, Bool, true, false, List, [], ◌∷◌, ◌++◌, ◌⊎◌, ◌≡◌, length, get_or, replicate, IfOk, IsErr}
use Rattle.commands.specs.Control.{fields_of}
use Rattle.mailbox_state.specs.Answer.{mailbox_number_of}
use Rattle.mailbox_state.specs.State.{off_of}
use Rattle.mailbox_state.specs.Status.{runs_of, due_of}
use Rattle.mailbox_state.specs.declared.state.Notifications.TheVariants.{Off, On}
use Rattle.mailbox_state.specs.declared.status.Command as port
use Rattle.mailbox_state.specs.declared.status.CommandStatus.TheVariants.{Busy}
use Rattle.mailbox_state.specs.declared.mailbox.Mailbox.{Mailbox}
use Rattle.mailbox_rules.specs.Says.{Says}
use Rattle.mailbox_rules.specs.Change.{meets_of}
use Rattle.mailbox_rules.specs.Mailbox.{mailbox_fresh_of, start_number_of, message_in_of, mailbox_cci_of}
use Rattle.mailbox_rules.specs.Events.{Event, writes, succeeds, fails, changes, event_of}
use Rattle.mailbox_rules.specs.History.{Reached}
use Rattle.mailbox_rules.specs.Until.{MayEndDue, MayEndRun}
use Rattle.mailbox_rules.specs.WellFormed.{WellFormed, Sizes}

-- The number that an event is answered, and the mailbox after it.
abbrev pub answers : Mailbox → Event → ℕ
answers m e = mailbox_number_of (event_of m e).answer

abbrev pub next : Mailbox → Event → Mailbox
next m e = (event_of m e).mailbox

-- Notifications off, running, acknowledgement due, the connector shown (0 for none), and whether a connector waits.
abbrev pub off : Mailbox → Bool
off m = off_of m.state.notifications

abbrev pub runs : Mailbox → Bool
runs m = runs_of m.state.status

abbrev pub due : Mailbox → Bool
due m = due_of m.state.status

abbrev pub shown : Mailbox → ℕ
shown m = m.state.changes.shown

abbrev pub waits : Mailbox → ℕ → Bool
waits m c = get_or m.state.changes.waiting (c - 1) false

-- No connector is shown, and none waits.
pub record NoChange (m : Mailbox) : Type 0 where
  pub none_shown : shown m ≡ 0
  pub none_waits : (c : ℕ) → waits m c ≡ false

-- A write of 8 bytes with this command code.
pub record Command (code : ℕ) (control : List ℕ) : Type 0 where
  pub eight : length control ≡ 8
  pub coded : (fields_of control).code ≡ code

-- Notifications on, nothing running, no acknowledgement due.
pub record Ready (m : Mailbox) : Type 0 where
  pub on : off m ≡ false
  pub still : runs m ≡ false
  pub acknowledged : due m ≡ false

-- The event is answered 0. Then CCI shows the connector shown, a data length and, of bits 16 to 31, these; and MESSAGE_IN is this.
pub record Gives (m : Mailbox) (e : Event) (size : ℕ) (set message : List ℕ) : Type 0 where
  pub taken : answers m e ≡ 0
  pub cci : Says (mailbox_cci_of (next m e)) (shown (next m e)) size set
  pub message_in : message_in_of (next m e) ≡ message

-- A completion or a cancel gives this and waits for ACK_CC_CI; the connector shown and those that wait stay as they are.
pub record Completes (m : Mailbox) (e : Event) (size : ℕ) (set message : List ℕ) : Type 0 where
  pub gives : Gives m e size set message
  pub waits_for_ack : due (next m e) ≡ true
  pub changes_kept : (next m e).state.changes ≡ m.state.changes

-- The event is answered 0, and this command runs then: CCI is bit 28 alone, and MESSAGE_IN is kept; the connector shown and those that wait
-- stay as they are.
pub record Starts (m : Mailbox) (e : Event) (command : port.Command) : Type 0 where
  pub taken : answers m e ≡ 0
  pub running : (next m e).state.status ≡ Busy command
  pub cci : mailbox_cci_of (next m e) ≡ 2 ^ 28
  pub message_in : message_in_of (next m e) ≡ message_in_of m
  pub changes_kept : (next m e).state.changes ≡ m.state.changes

-- An accepted ACK gives bit 29 and keeps MESSAGE_IN, and no acknowledgement is due then.
pub record Acknowledges (m : Mailbox) (e : Event) : Type 0 where
  pub gives : Gives m e 0 (29 ∷ []) (message_in_of m)
  pub ended : due (next m e) ≡ false

-- Then the lowest waiting one is shown: it waited, and none below it did; 0 if none waited. It waits no more; of all others, those wait
-- that waited before.
pub record ShowsLowest (m after : Mailbox) : Type 0 where
  pub waited : 1 ≤ shown after → waits m (shown after) ≡ true
  pub lowest : (j : ℕ) → 1 ≤ j → j < shown after → waits m j ≡ false
  pub none : shown after ≡ 0 → (j : ℕ) → waits m j ≡ false
  pub waits_no_more : 1 ≤ shown after → waits after (shown after) ≡ false
  pub others : (j : ℕ) → 1 ≤ j → (j ≡ shown after → ⊥) → waits after j ≡ waits m j

abbrev pub zeros : List ℕ
zeros = replicate 256 0

-- CONNECTOR_RESET, GET_CONNECTOR_CAPABILITY and GET_CONNECTOR_STATUS need a connector number.
abbrev pub NeedsConnector : ℕ → Type 0
NeedsConnector code = (code ≡ 0x03) ⊎ ((code ≡ 0x07) ⊎ (code ≡ 0x12))

-- A code that document 01 does not name.
pub record Other (code : ℕ) : Type 0 where
  pub not_1_to_7 : (code ≡ 0) ⊎ (7 < code)
  pub not_0x12 : code ≡ 0x12 → ⊥

-- PPM_RESET and SET_NOTIFICATION_ENABLE may switch notifications off or on, and alter the mask.
abbrev pub MaySwitch : Event → Type 0
MaySwitch (writes control) = Command 0x01 control ⊎ Command 0x05 control
MaySwitch (succeeds bytes) = ⊥
MaySwitch fails = ⊥
MaySwitch (changes c reason) = ⊥

-- There are 1 to 8 connectors; other counts: 29, no mailbox. A fresh mailbox has CCI 0 and notifications off; nothing runs, no acknowledgement
-- is due, and no change is shown or waits.
pub record Start (count : ℕ) : Type 0 where
  pub counts : 1 ≤ count → count ≤ 8 → start_number_of (mailbox_fresh_of count) ≡ 0
  pub others : (count ≡ 0) ⊎ (8 < count) → (start_number_of (mailbox_fresh_of count) ≡ 29) × IsErr (mailbox_fresh_of count)
  pub cci : IfOk (mailbox_fresh_of count) (λ m. mailbox_cci_of m ≡ 0)
  pub off : IfOk (mailbox_fresh_of count) (λ m. off m ≡ true)
  pub message_in : IfOk (mailbox_fresh_of count) (λ m. message_in_of m ≡ zeros)
  pub still : IfOk (mailbox_fresh_of count) (λ m. (runs m ≡ false) × (due m ≡ false))
  pub no_change : IfOk (mailbox_fresh_of count) NoChange

pub record Sentences (count : ℕ) (m : Mailbox) : Type 0 where
  -- 1 to 8 connectors, fixed at the start.
  pub low : 1 ≤ count
  pub high : count ≤ 8
  pub fixed : m.state.connectors ≡ count
  -- The connector shown, those that wait and that of a command which runs are among them, and it runs only while notifications are on. There
  -- are eight flags, a 256-byte MESSAGE_IN, and a data length that bits 8 to 15 hold; CCI is 32 bits.
  pub formed : WellFormed m.state
  pub sizes : Sizes m
  pub cci_size : mailbox_cci_of m < 2 ^ 32
  -- PPM_RESET: accepted always; CCI only bit 27, MESSAGE_IN zero, changes and mask cleared, notifications off, nothing running, no
  -- acknowledgement due.
  pub reset : (control : List ℕ) → Command 0x01 control → Gives m (writes control) 0 (27 ∷ []) zeros
  pub reset_changes : (control : List ℕ) → Command 0x01 control → NoChange (next m (writes control))
  pub reset_off : (control : List ℕ) → Command 0x01 control → (next m (writes control)).state.notifications ≡ Off
  pub reset_still : (control : List ℕ) → Command 0x01 control → (runs (next m (writes control)) ≡ false) × (due (next m (writes control)) ≡ false)
  -- SET_NOTIFICATION_ENABLE: takes the mask, notifications on, completes at once (mask 0 too).
  pub enable : runs m ≡ false → due m ≡ false → (control : List ℕ) → Command 0x05 control → Completes m (writes control) 0 (31 ∷ []) zeros
  pub enable_on : runs m ≡ false → due m ≡ false → (control : List ℕ) → Command 0x05 control
      → (next m (writes control)).state.notifications ≡ On (fields_of control).mask
  -- Nothing else alters the mask, or switches notifications on or off.
  pub notifications_kept : (e : Event) → ((next m e).state.notifications ≡ m.state.notifications) ⊎ MaySwitch e
  -- GET_CAPABILITY, and with a connector number from 1 to the count the three commands that need one, run; else they complete at once with
  -- bits 30 and 31. Other codes complete at once with bits 25 and 31.
  pub capability : Ready m → (control : List ℕ) → Command 0x06 control → Starts m (writes control) (record { code = 0x06; connector = 0; reset_type = 0 })
  pub connector_reset : Ready m → (control : List ℕ) → Command 0x03 control → 1 ≤ (fields_of control).connector → (fields_of control).connector ≤ count
      → Starts m (writes control) (record { code = 0x03; connector = (fields_of control).connector; reset_type = (fields_of control).reset_type })
  pub connector_capability : Ready m → (control : List ℕ) → Command 0x07 control → 1 ≤ (fields_of control).connector → (fields_of control).connector ≤ count
      → Starts m (writes control) (record { code = 0x07; connector = (fields_of control).connector; reset_type = 0 })
  pub connector_status : Ready m → (control : List ℕ) → Command 0x12 control → 1 ≤ (fields_of control).connector → (fields_of control).connector ≤ count
      → Starts m (writes control) (record { code = 0x12; connector = (fields_of control).connector; reset_type = 0 })
  pub no_connector : Ready m → (code : ℕ) → NeedsConnector code → (control : List ℕ) → Command code control
      → ((fields_of control).connector ≡ 0) ⊎ (count < (fields_of control).connector) → Completes m (writes control) 0 (30 ∷ 31 ∷ []) zeros
  pub other_codes : Ready m → (code : ℕ) → Other code → (control : List ℕ) → Command code control → Completes m (writes control) 0 (25 ∷ 31 ∷ []) zeros
  -- Cancel sets bit 26 and what 000 T4-4 prints beside it.
  pub cancel : off m ≡ false → runs m ≡ true → (control : List ℕ) → Command 0x02 control → Completes m (writes control) 0 (26 ∷ 31 ∷ []) zeros
  -- A run lasts until the port reports, but for CANCEL and PPM_RESET. Every completion and cancel waits for ACK_CC_CI with bit 17 set.
  pub runs_until : runs m ≡ true → (e : Event) → ((next m e).state.status ≡ m.state.status) ⊎ MayEndRun e
  pub due_until : due m ≡ true → (e : Event) → (due (next m e) ≡ true) ⊎ MayEndDue e
  -- An accepted ACK gives bit 29; with bit 16 set it also clears the connector shown, and then the lowest waiting one is shown.
  pub acknowledge : off m ≡ false → due m ≡ true → (control : List ℕ) → Command 0x04 control → (fields_of control).change ≡ false
      → (fields_of control).completed ≡ true → Acknowledges m (writes control) × ((next m (writes control)).state.changes ≡ m.state.changes)
  pub acknowledge_change : off m ≡ false → runs m ≡ false → (shown m ≡ 0 → ⊥) → (control : List ℕ) → Command 0x04 control
      → (fields_of control).change ≡ true → (fields_of control).completed ≡ due m → Acknowledges m (writes control) × ShowsLowest m (next m (writes control))
  -- While a command runs, CCI is bit 28 alone. Port success copies its bytes to MESSAGE_IN, zeros after; a failure zeroes it.
  pub running : runs m ≡ true → mailbox_cci_of m ≡ 2 ^ 28
  pub success : runs m ≡ true → (bytes : List ℕ) → length bytes ≤ 255
      → Completes m (succeeds bytes) (length bytes) (31 ∷ []) (bytes ++ replicate (256 - length bytes) 0)
  pub failure : runs m ≡ true → Completes m fails 0 (30 ∷ 31 ∷ []) zeros
  -- A change is recorded if notifications are on and its reason meets the mask outside bit 0; else it is dropped with answer 0. With none
  -- shown it becomes the shown one; else the shown one stays, and the new one waits, once. Of all others, those wait that waited before.
  pub dropped : (c reason : ℕ) → 1 ≤ c → c ≤ count → (mask : ℕ)
      → (m.state.notifications ≡ Off) ⊎ ((m.state.notifications ≡ On mask) × (meets_of reason mask ≡ false))
      → (answers m (changes c reason) ≡ 0) × (next m (changes c reason) ≡ m)
  pub becomes_shown : (c reason : ℕ) → 1 ≤ c → c ≤ count → (mask : ℕ) → m.state.notifications ≡ On mask → meets_of reason mask ≡ true → shown m ≡ 0
      → (answers m (changes c reason) ≡ 0) × (shown (next m (changes c reason)) ≡ c) × ((j : ℕ) → waits (next m (changes c reason)) j ≡ waits m j)
  pub becomes_waiting : (c reason : ℕ) → 1 ≤ c → c ≤ count → (mask : ℕ) → m.state.notifications ≡ On mask → meets_of reason mask ≡ true
      → (shown m ≡ 0 → ⊥)
      → (answers m (changes c reason) ≡ 0) × (shown (next m (changes c reason)) ≡ shown m) × (waits (next m (changes c reason)) c ≡ true)
      × ((j : ℕ) → 1 ≤ j → (j ≡ c → ⊥) → waits (next m (changes c reason)) j ≡ waits m j)
  -- A change alters only bits 1 to 7, and in a run none; what runs or is due, and MESSAGE_IN, stay as they are.
  pub change_high : (c reason : ℕ) → mailbox_cci_of (next m (changes c reason)) / 2 ^ 8 ≡ mailbox_cci_of m / 2 ^ 8
  pub change_low : (c reason : ℕ) → mailbox_cci_of (next m (changes c reason)) % 2 ≡ mailbox_cci_of m % 2
  pub change_in_run : (c reason : ℕ) → runs m ≡ true → mailbox_cci_of (next m (changes c reason)) ≡ mailbox_cci_of m
  pub change_status : (c reason : ℕ) → (next m (changes c reason)).state.status ≡ m.state.status
  pub change_message_in : (c reason : ℕ) → message_in_of (next m (changes c reason)) ≡ message_in_of m
  -- Kept: nothing changes.
  pub kept : (e : Event) → (answers m e ≡ 0 → ⊥) → next m e ≡ m
  -- 1, PPM_RESET, 2, 3, 4, 5, 6; reports 7, 8; changes 9. With notifications off 0x05 alone comes to 3 and 4.
  pub one : (control : List ℕ) → (length control ≡ 8 → ⊥) → answers m (writes control) ≡ 1
  pub two : off m ≡ true → (code : ℕ) → (code ≡ 0x01 → ⊥) → (code ≡ 0x05 → ⊥) → (control : List ℕ) → Command code control → answers m (writes control) ≡ 2
  pub three : runs m ≡ true → (code : ℕ) → (code ≡ 0x01 → ⊥) → (code ≡ 0x02 → ⊥) → (off m ≡ true → code ≡ 0x05) → (control : List ℕ) → Command code control
      → answers m (writes control) ≡ 3
  pub four : due m ≡ true → (code : ℕ) → (code ≡ 0x01 → ⊥) → (off m ≡ true → code ≡ 0x05) → (control : List ℕ) → Command code control
      → (code ≡ 0x04 → (fields_of control).completed ≡ false) → answers m (writes control) ≡ 4
  pub five_neither : Ready m → (control : List ℕ) → Command 0x04 control → (fields_of control).change ≡ false → (fields_of control).completed ≡ false
      → answers m (writes control) ≡ 5
  pub five_nothing_due : Ready m → (control : List ℕ) → Command 0x04 control → (fields_of control).completed ≡ true → answers m (writes control) ≡ 5
  pub five_none_shown : off m ≡ false → runs m ≡ false → shown m ≡ 0 → (control : List ℕ) → Command 0x04 control → (fields_of control).change ≡ true
      → (fields_of control).completed ≡ due m → answers m (writes control) ≡ 5
  pub six : Ready m → (control : List ℕ) → Command 0x02 control → answers m (writes control) ≡ 6
  pub seven : runs m ≡ false → ((bytes : List ℕ) → answers m (succeeds bytes) ≡ 7) × (answers m fails ≡ 7)
  pub eight : runs m ≡ true → (bytes : List ℕ) → 255 < length bytes → answers m (succeeds bytes) ≡ 8
  pub nine : (c reason : ℕ) → (c ≡ 0) ⊎ (count < c) → answers m (changes c reason) ≡ 9

-- Of every count, and of every mailbox that a history of one leads to.
abbrev pub MailboxKeeps : Type 0
MailboxKeeps = (count : ℕ) → Start count × ((m : Mailbox) → Reached count m → Sentences count m)
