-- Words that are a mailbox's are what storing the state that they say gives back, and the words of a well-formed state that fits say that
-- state: on every state that the library hands out, reading and storing are each other's inverse.
use Prim.Native.Nat.{ℕ, zero, suc, ◌%◌, ◌≤◌, ◌<◌}
use mathlib.Core.Bool.{Bool, true, false, true≢false}
use mathlib.Core.List.{List, [], ◌∷◌}
use mathlib.Core.Path.{◌≡◌, refl, sym, ◌∙◌, ap, subst}
use native.Mathlib.Nat.{lt_of_lt_of_le}
use native.Mathlib.Omega.{arith}
use borrow.Author.Tests.{eq-eqb, eqb-true, eqb-false}
use lib.Dec.{eqb}
use lib.ListN.{length}
use lib.Pow.{pow_mono}
use lib.Seq.{set-get_or}
use Rattle.basis.specs.Lists.{spell, spelled_all}
use Rattle.basis.specs.Pick.{pick, pick_yes, pick_all}
use Rattle.commands.specs.declared.table.Class.TheVariants.{Run}
use Rattle.mailbox_state.specs.State.{off_of, changes, mailbox_state}
use Rattle.mailbox_state.specs.Status.{runs_of}
use Rattle.mailbox_state.specs.declared.state.Notifications.{Notifications}
use Rattle.mailbox_state.specs.declared.state.Notifications.TheVariants.{Off, On}
use Rattle.mailbox_state.specs.declared.state.State.{State}
use Rattle.mailbox_state.specs.declared.status.Command.{Command}
use Rattle.mailbox_state.specs.declared.status.CommandStatus.{CommandStatus}
use Rattle.mailbox_state.specs.declared.status.CommandStatus.TheVariants.{Nothing, ResetDone, Busy, Completed, Failed, NotSupported, Cancelled, Acknowledged}
use Rattle.mailbox_rules.specs.Refusal.{is}
use Rattle.mailbox_rules.specs.WellFormed.{MayRun, Running, WellFormed}
use Rattle.mailbox_rules.proofs.WellFormed.{not_busy, busy_same}
use Rattle.width.specs.Words.{word_at}
use Rattle.mailbox_c.specs.Waiting.{flags_of, bits_of}
use Rattle.mailbox_c.specs.Notifying.{on_of, mask_of, notifications_of}
use Rattle.mailbox_c.specs.Running.{code_runs}
use Rattle.mailbox_c.specs.Status.{no_command, status_code_of, data_length_of, running_of, rest_of, status_of}
use Rattle.mailbox_c.specs.Words.{command_at, state_at, words_of, laid, is_mailbox}
use Rattle.mailbox_c.specs.Valid.{StatusValid, MailboxValid}
use Rattle.mailbox_c.specs.Fits.{Fits}
use Rattle.mailbox_c.proofs.Codes.{runs_small}
use Rattle.mailbox_c.proofs.Mailboxes.{mailbox_valid, valid_mailbox}
use Rattle.mailbox_c.proofs.Waits.{bits_back, flags_back, bits_within, flags_within}

byte_same : (n : ℕ) → n ≤ 255 → n % 256 ≡ n
byte_same n h = omega arith

mask_same : (n : ℕ) → n ≤ 65535 → n % 65536 ≡ n
mask_same n h = omega arith

-- From words and back.

on_back : (on mask : ℕ) → on ≤ 1 → (on ≡ 0 → mask ≡ 0) → (on_of (notifications_of on mask) ≡ on) × (mask_of (notifications_of on mask) ≡ mask)
unfolding notifications_of pick
on_back zero mask few none = (refl, rw (none refl))
on_back (suc zero) mask few none = (refl, refl)
on_back (suc (suc on)) mask few none = absurd (omega arith)

pub record Back (code length : ℕ) (command : Command) (t : CommandStatus) : Type 0 where
  pub coded : status_code_of t ≡ code
  pub lasts : data_length_of t ≡ length
  pub runs : running_of t ≡ command

-- A length with Completed alone, and a command with Busy alone.
status_back : (code length : ℕ) (command : Command) → code ≤ 7 → ((code ≡ 3 → ⊥) → length ≡ 0) → ((code ≡ 2 → ⊥) → command ≡ no_command)
    → Back code length command (status_of code length command)
unfolding status_of rest_of pick
status_back zero length command few none idle =
    record { coded = refl; lasts = sym (none (λ e. omega arith)); runs = sym (idle (λ e. omega arith)) }
status_back (suc zero) length command few none idle =
    record { coded = refl; lasts = sym (none (λ e. omega arith)); runs = sym (idle (λ e. omega arith)) }
status_back (suc (suc zero)) length command few none idle = record { coded = refl; lasts = sym (none (λ e. omega arith)); runs = refl }
status_back (suc (suc (suc zero))) length command few none idle = record { coded = refl; lasts = refl; runs = sym (idle (λ e. omega arith)) }
status_back (suc (suc (suc (suc zero)))) length command few none idle =
    record { coded = refl; lasts = sym (none (λ e. omega arith)); runs = sym (idle (λ e. omega arith)) }
status_back (suc (suc (suc (suc (suc zero))))) length command few none idle =
    record { coded = refl; lasts = sym (none (λ e. omega arith)); runs = sym (idle (λ e. omega arith)) }
status_back (suc (suc (suc (suc (suc (suc zero)))))) length command few none idle =
    record { coded = refl; lasts = sym (none (λ e. omega arith)); runs = sym (idle (λ e. omega arith)) }
status_back (suc (suc (suc (suc (suc (suc (suc zero))))))) length command few none idle =
    record { coded = refl; lasts = sym (none (λ e. omega arith)); runs = sym (idle (λ e. omega arith)) }
status_back (suc (suc (suc (suc (suc (suc (suc (suc code)))))))) length command few none idle = absurd (omega arith)

module _ (w : List ℕ) (ok : is_mailbox w ≡ true) where
  valid : MailboxValid w
  valid = mailbox_valid w ok

  status : StatusValid w
  status = valid.status_valid

  -- Every word of a command fits.
  pub record Narrow : Type 0 where
    pub code : word_at w 7 ≤ 255
    pub connector : word_at w 8 ≤ 255
    pub type : word_at w 9 ≤ 255

  narrow_by : (busy : Bool) → eqb (word_at w 5) 2 ≡ busy → Narrow
  unfolding code_runs
  narrow_by true t =
      let most = valid.most in
      let c = status.busy_runs (eqb-true (word_at w 5) 2 t) in
      let there = c.there in
      let code = runs_small (word_at w 7) (ap (is Run) c.class) in
      record { code = omega arith; connector = omega arith; type = c.type }
  narrow_by false t =
      let none = status.busy_alone (eqb-false (word_at w 5) 2 t) in
      let code = none.0 in
      let connector = none.1 in
      let type = none.2 in
      record { code = omega arith; connector = omega arith; type = omega arith }

  narrow : Narrow
  narrow = narrow_by (eqb (word_at w 5) 2) refl

  abbrev words_command : Command
  words_command = record { code = word_at w 7; connector = word_at w 8; reset_type = word_at w 9 }

  command_same : command_at w ≡ words_command
  command_same =
      let n = narrow in rw (byte_same (word_at w 7) n.code, byte_same (word_at w 8) n.connector, byte_same (word_at w 9) n.type)

  command_idle : (word_at w 5 ≡ 2 → ⊥) → words_command ≡ no_command
  command_idle not = let none = status.busy_alone not in rw (none.0, none.1, none.2)

  bits_few : word_at w 2 < 256
  bits_few = lt_of_lt_of_le valid.waiting (pow_mono valid.most)

  -- Storing the state that the words say changes nothing.
  pub laid_kept : laid w (state_at w) ≡ w
  unfolding laid state_at
  laid_kept =
      let most = valid.most in
      let few = valid.shown in
      let on = on_back (word_at w 3) (word_at w 4) valid.on valid.off_no_mask in
      let back = status_back (word_at w 5) (word_at w 6) words_command status.codes status.completed_alone command_idle in
      rw (
        byte_same (word_at w 1) (omega arith),
        bits_back (word_at w 2) bits_few,
        mask_same (word_at w 4) valid.mask,
        on.0,
        on.1,
        byte_same (word_at w 6) status.length,
        command_same,
        back.coded,
        back.lasts,
        back.runs,
        set-get_or w 1 0,
        set-get_or w 2 0,
        set-get_or w 3 0,
        set-get_or w 4 0,
        set-get_or w 5 0,
        set-get_or w 6 0,
        set-get_or w 7 0,
        set-get_or w 8 0,
        set-get_or w 9 0,
      )

-- From a state and back.

notifications_back : (n : Notifications) → notifications_of (on_of n) (mask_of n) ≡ n
unfolding notifications_of pick
notifications_back Off = refl
notifications_back (On mask) = refl

status_says : (t : CommandStatus) → status_of (status_code_of t) (data_length_of t) (running_of t) ≡ t
unfolding rest_of status_of pick
status_says Nothing = refl
status_says ResetDone = refl
status_says (Busy command) = refl
status_says (Completed length) = refl
status_says Failed = refl
status_says NotSupported = refl
status_says Cancelled = refl
status_says Acknowledged = refl

-- The command of a well-formed status fits, if its type does.
running_narrow : {count : ℕ} {n : Notifications} (t : CommandStatus) → count ≤ 8 → ((command : Command) → t ≡ Busy command → Running count n command)
    → ((running_of t).code ≤ 255) × ((running_of t).connector ≤ 255)
unfolding code_runs
running_narrow Nothing few runs = (omega arith, omega arith)
running_narrow ResetDone few runs = (omega arith, omega arith)
running_narrow (Busy command) few runs =
    let r = (runs command refl).may_run in
    let small = runs_small command.code (ap (is Run) r.class) in
    let there = r.there in
    (omega arith, omega arith)
running_narrow (Completed length) few runs = (omega arith, omega arith)
running_narrow Failed few runs = (omega arith, omega arith)
running_narrow NotSupported few runs = (omega arith, omega arith)
running_narrow Cancelled few runs = (omega arith, omega arith)
running_narrow Acknowledged few runs = (omega arith, omega arith)

on_one : (n : Notifications) → off_of n ≡ false → on_of n ≡ 1
unfolding off_of
on_one Off e = absurd (true≢false e)
on_one (On mask) e = refl

on_small : (n : Notifications) → on_of n ≤ 1
on_small Off = omega arith
on_small (On mask) = omega arith

off_none : (n : Notifications) → on_of n ≡ 0 → mask_of n ≡ 0
off_none Off e = refl
off_none (On mask) e = absurd (omega arith)

module _ (s : State) (formed : WellFormed s) (fits : Fits s) where
  -- The words of a state say that state,
  pub words_say : state_at (words_of s) ≡ s
  unfolding state_at words_of
  words_say =
      let high = formed.high in
      let shown = formed.within.shown in
      let narrow = running_narrow s.status high formed.runs_well in
      rw (
        byte_same s.connectors (omega arith),
        byte_same s.changes.shown (omega arith),
        flags_back s.changes.waiting fits.eight,
        mask_same (mask_of s.notifications) fits.mask,
        notifications_back s.notifications,
        byte_same (data_length_of s.status) fits.data_length,
        byte_same (running_of s.status).code narrow.0,
        byte_same (running_of s.status).connector narrow.1,
        byte_same (running_of s.status).reset_type fits.type,
        status_says s.status,
      )

-- The words of a status: a command with Busy alone, and a length with Completed alone.
module _ (count shown bits mask : ℕ) (n : Notifications) where
  abbrev row : ℕ → ℕ → Command → List ℕ
  row code length command =
      count ∷ shown ∷ bits ∷ on_of n ∷ mask ∷ code ∷ length ∷ command.code ∷ command.connector ∷ command.reset_type ∷ []

  bare_valid : (code length : ℕ) → code ≤ 7 → (code ≡ 2 → ⊥) → ((code ≡ 3 → ⊥) → length ≡ 0) → length ≤ 255 → StatusValid (row code length no_command)
  bare_valid code length few not none wide =
      record {
        codes = few;
        busy_alone = λ _. (refl, refl, refl);
        busy_on = λ e. absurd (not e);
        busy_runs = λ e. absurd (not e);
        completed_alone = none;
        length = wide;
      }

  busy_valid : (command : Command) → Running count n command → command.reset_type ≤ 255 → StatusValid (row 2 0 command)
  busy_valid command r wide =
      record {
        codes = omega arith;
        busy_alone = λ not. absurd (not refl);
        busy_on = λ _. on_one n r.on;
        busy_runs = λ _. record { class = r.may_run.class; there = r.may_run.there; type = wide };
        completed_alone = λ _. refl;
        length = omega arith;
      }

  status_words : (t : CommandStatus) → ((command : Command) → t ≡ Busy command → Running count n command) → data_length_of t ≤ 255
      → (running_of t).reset_type ≤ 255 → StatusValid (row (status_code_of t) (data_length_of t) (running_of t))
  status_words Nothing runs few wide = bare_valid _ 0 (omega arith) (λ e. omega arith) (λ _. refl) few
  status_words ResetDone runs few wide = bare_valid _ 0 (omega arith) (λ e. omega arith) (λ _. refl) few
  status_words (Busy command) runs few wide = busy_valid command (runs command refl) wide
  status_words (Completed length) runs few wide = bare_valid _ length (omega arith) (λ e. omega arith) (λ not. absurd (not refl)) few
  status_words Failed runs few wide = bare_valid _ 0 (omega arith) (λ e. omega arith) (λ _. refl) few
  status_words NotSupported runs few wide = bare_valid _ 0 (omega arith) (λ e. omega arith) (λ _. refl) few
  status_words Cancelled runs few wide = bare_valid _ 0 (omega arith) (λ e. omega arith) (λ _. refl) few
  status_words Acknowledged runs few wide = bare_valid _ 0 (omega arith) (λ e. omega arith) (λ _. refl) few

module _ (s : State) (formed : WellFormed s) (fits : Fits s) where
  -- and they are a mailbox's.
  pub words_mailbox : is_mailbox (words_of s) ≡ true
  unfolding words_of
  words_mailbox =
      valid_mailbox (words_of s)
      (record {
        least = formed.low;
        most = formed.high;
        shown = formed.within.shown;
        waiting = bits_within s.changes.waiting s.connectors formed.within.waiting;
        on = on_small s.notifications;
        mask = fits.mask;
        off_no_mask = off_none s.notifications;
        status_valid =
            status_words s.connectors s.changes.shown (bits_of s.changes.waiting) (mask_of s.notifications) s.notifications s.status
            formed.runs_well fits.data_length fits.type;
      })

  -- Ten words with a state's are that state's, if they have its connectors.
  pub laid_words : (w : List ℕ) → length w ≡ 10 → word_at w 0 ≡ s.connectors → laid w s ≡ words_of s
  unfolding laid words_of spell
  laid_words w ten same = ap (λ (x : List ℕ). laid x s) (spelled_all 0 10 w ten) ∙ rw same

-- Words that are a mailbox's say a well-formed state that fits.

rest_still : (code : ℕ) → runs_of (rest_of code) ≡ false
unfolding rest_of runs_of
rest_still code =
    let P : CommandStatus → Type 0 = λ t. runs_of t ≡ false in
    pick_all P _ _ _ (λ _. refl)
    (λ _. pick_all P _ _ _ (λ _. refl)
    (λ _. pick_all P _ _ _ (λ _. refl) (λ _. pick_all P _ _ _ (λ _. refl) (λ _. pick_all P _ _ _ (λ _. refl) (λ _. refl)))))

-- The status that the numbers say runs only where they say Busy.
busy_only : (code length : ℕ) (c command : Command) → status_of code length c ≡ Busy command → (code ≡ 2) × (c ≡ command)
unfolding status_of runs_of
busy_only code length c command =
    let P : CommandStatus → Type 0 = λ t. t ≡ Busy command → (code ≡ 2) × (c ≡ command) in
    pick_all P _ _ _ (λ two e. (eqb-true code 2 two, busy_same c command e))
    (λ _. pick_all P _ _ _ (λ _ e. absurd (not_busy (Completed length) command refl e)) (λ _ e. absurd (not_busy (rest_of code) command (rest_still code) e)))

on_is : (on mask : ℕ) → on ≡ 1 → off_of (notifications_of on mask) ≡ false
unfolding off_of notifications_of
on_is on mask one = ap off_of (pick_yes _ _ _ (eq-eqb on 1 one))

module _ (w : List ℕ) (ok : is_mailbox w ≡ true) where
  abbrev said : State
  said =
      mailbox_state (word_at w 0) (notifications_of (word_at w 3) (word_at w 4)) (status_of (word_at w 5) (word_at w 6) (words_command w ok))
      (changes (word_at w 1) (flags_of (word_at w 2)))

  said_same : said ≡ state_at w
  unfolding state_at
  said_same =
      let most = (valid w ok).most in
      let few = (valid w ok).shown in
      rw (
        byte_same (word_at w 0) (omega arith),
        byte_same (word_at w 1) (omega arith),
        mask_same (word_at w 4) (valid w ok).mask,
        byte_same (word_at w 6) (status w ok).length,
        command_same w ok,
      )

  said_formed : WellFormed said
  said_formed =
      let v = valid w ok in
      record {
        low = v.least;
        high = v.most;
        within = record { shown = v.shown; waiting = flags_within (word_at w 2) (word_at w 0) v.waiting };
        runs_well =
            λ command busy.
            let b = busy_only (word_at w 5) (word_at w 6) (words_command w ok) command busy in
            let runs = (status w ok).busy_runs b.0 in
            record {
              on = on_is (word_at w 3) (word_at w 4) ((status w ok).busy_on b.0);
              may_run = subst (MayRun (word_at w 0)) b.1 (record { class = runs.class; there = runs.there });
            };
      }

  said_fits : Fits said
  unfolding flags_of
  said_fits =
      let v = valid w ok in
      let on = on_back (word_at w 3) (word_at w 4) v.on v.off_no_mask in
      let back = status_back (word_at w 5) (word_at w 6) (words_command w ok) (status w ok).codes (status w ok).completed_alone (command_idle w ok) in
      record {
        mask = rw on.1 v.mask;
        eight = refl;
        data_length = rw back.lasts (status w ok).length;
        type = rw back.runs (narrow w ok).type;
      }

  pub mailbox_formed : WellFormed (state_at w)
  mailbox_formed = subst WellFormed said_same said_formed

  pub mailbox_fits : Fits (state_at w)
  mailbox_fits = subst Fits said_same said_fits

  pub mailbox_connectors : word_at w 0 ≡ (state_at w).connectors
  mailbox_connectors = ap (λ (s : State). s.connectors) said_same
