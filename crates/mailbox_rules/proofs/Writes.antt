-- Document 01's sentences on a write of CONTROL (01, The mailbox; 01, Numbers we answer).
use Prim.Native.Nat.{ℕ, ◌-◌, ◌≤◌, ◌<◌}
use mathlib.Core.Bool.{Bool, true, false}
use mathlib.Core.List.{List, [], ◌∷◌}
use mathlib.Core.Logic.{◌⊎◌, inl, inr}
use mathlib.Core.Path.{◌≡◌, refl, sym, ◌∙◌, ap, subst}
use native.Mathlib.Omega.{arith}
use lib.ListN.{length, get_or}
use Rattle.std.specs.Prelude.{Ok}
use Rattle.commands.specs.Control.{fields_of}
use Rattle.commands.specs.Table.{entry, entry_of}
use Rattle.commands.proofs.Rows.{rows, others, Named, named}
use Rattle.commands.specs.declared.control.Control.{Control}
use Rattle.commands.specs.declared.table.Class.TheVariants as class
use Rattle.mailbox_state.specs.Answer.{mailbox_number_of}
use Rattle.mailbox_state.specs.State.{mailbox_state}
use Rattle.mailbox_state.specs.Status.{runs_of, due_of}
use Rattle.mailbox_state.specs.Step.{mailbox_step, refused}
use Rattle.mailbox_state.specs.declared.answer.Refusal.TheVariants.{NothingToClear}
use Rattle.mailbox_state.specs.declared.mailbox.Mailbox.{Mailbox}
use Rattle.mailbox_state.specs.declared.state.Changes.{Changes}
use Rattle.mailbox_state.specs.declared.state.State.{State}
use Rattle.mailbox_state.specs.declared.status.Command as port
use Rattle.mailbox_state.specs.declared.status.CommandStatus.TheVariants.{Busy, Failed, Acknowledged}
use Rattle.mailbox_state.specs.declared.step.MessageEffect.TheVariants.{Kept, ZeroedAtCompletion}
use Rattle.mailbox_state.specs.declared.step.Step.{Step}
use Rattle.mailbox_rules.specs.Changes.{next_shown_of}
use Rattle.mailbox_rules.specs.Events.{writes, event_step_of}
use Rattle.mailbox_rules.specs.History.{Reached}
use Rattle.mailbox_rules.specs.MessageIn.{zero_message_in, settled_of}
use Rattle.mailbox_rules.specs.Refusal.{situation_of, refusal_of}
use Rattle.mailbox_rules.specs.Sentences.{answers, next, off, runs, due, shown, Command, Ready, Gives, Completes, Starts, Acknowledges, ShowsLowest, zeros, NeedsConnector, Other}
use Rattle.mailbox_rules.specs.Write.{with_status, resets, enables, control_step_of}
use Rattle.mailbox_rules.proofs.Answers.{running_3, due_4, free}
use Rattle.mailbox_rules.proofs.Bits.{reset_done_says, completed_says, failed_says, not_supported_says, cancelled_says, acknowledged_says}
use Rattle.mailbox_rules.proofs.ByCode as code
use Rattle.mailbox_rules.proofs.ByCode.{absent_zero, absent_above, other_row}
use Rattle.mailbox_rules.proofs.Laws.{cci_in_run}
use Rattle.mailbox_rules.proofs.Lowest.{First, lowest_first, lowest_waits, lowest_least, lowest_none}
use Rattle.mailbox_rules.proofs.Next.{next_shows, next_waits_no_more, next_others}
use Rattle.mailbox_rules.proofs.Pending.{due_still}
use Rattle.mailbox_rules.proofs.Reached.{reached_next, reached_formed, reached_count}
use Rattle.mailbox_rules.proofs.ByClass.{off_number, run_number, due_number}
use Rattle.mailbox_rules.proofs.Taken.{write_row, numbered, refuses, ready_state, gives, completes}

-- The entries of the codes that need a connector, and of those that document 01 does not name.
needs_entry : (code : ℕ) → NeedsConnector code → entry_of code ≡ entry class.Run true
needs_entry code (inl e) = ap entry_of e ∙ rows.connector_reset
needs_entry code (inr (inl e)) = ap entry_of e ∙ rows.connector_capability
needs_entry code (inr (inr e)) = ap entry_of e ∙ rows.connector_status

other_entry : (code : ℕ) → Other code → entry_of code ≡ entry class.NotSupported false
other_entry code o = outside o.not_1_to_7
  where
    apart : (c : ℕ) → 1 ≤ c → c ≤ 7 → (code ≡ 0) ⊎ (7 < code) → code ≡ c → ⊥
    apart c low high (inl z) e = omega arith
    apart c low high (inr h) e = omega arith

    outside : (code ≡ 0) ⊎ (7 < code) → entry_of code ≡ entry class.NotSupported false
    outside h =
        others code (apart 1 (omega arith) (omega arith) h) (apart 2 (omega arith) (omega arith) h) (apart 3 (omega arith) (omega arith) h)
        (apart 4 (omega arith) (omega arith) h) (apart 5 (omega arith) (omega arith) h) (apart 6 (omega arith) (omega arith) h)
        (apart 7 (omega arith) (omega arith) h) o.not_0x12

module _ {count : ℕ} {m : Mailbox} (r : Reached count m) where
  abbrev state : State
  state = m.state

  module _ (control : List ℕ) where
    abbrev fields : Control
    fields = fields_of control

    abbrev after : Mailbox
    after = next m (writes control)

    starts : (command : port.Command) → length control ≡ 8 → control_step_of state fields ≡ mailbox_step (with_status state (Busy command)) (Ok tt) Kept
        → Starts m (writes control) command
    unfolding settled_of runs_of
    starts command eight begun =
        let row = write_row m control eight _ begun in
        let running = ap (λ (s : Step). s.state.status) row in
        record {
          taken = numbered m (writes control) _ row;
          running = running;
          cci = cci_in_run after (ap runs_of running);
          message_in = ap (λ (s : Step). settled_of m.message s.effect []) row;
          changes_kept = ap (λ (s : Step). s.state.changes) row;
        }

    module _ (c : Command 0x01 control) where
      pub reset_step : event_step_of state (writes control) ≡ resets state
      reset_step = write_row m control c.eight _ (code.reset_row state fields c.coded)

      pub reset_gives : Gives m (writes control) 0 (27 ∷ []) zeros
      unfolding settled_of zero_message_in
      reset_gives = gives r (writes control) _ _ reset_step (reset_done_says 0)

      pub reset_still_lem : (runs after ≡ false) × (due after ≡ false)
      unfolding runs_of due_of
      reset_still_lem = (ap (λ (s : Step). runs_of s.state.status) reset_step, ap (λ (s : Step). due_of s.state.status) reset_step)

    module _ (still : runs m ≡ false) (none : due m ≡ false) (c : Command 0x05 control) where
      pub enable_step : event_step_of state (writes control) ≡ enables state fields.mask
      enable_step = write_row m control c.eight _ (code.enable_row state fields c.coded still none)

      pub enable_completes : Completes m (writes control) 0 (31 ∷ []) zeros
      unfolding settled_of zero_message_in due_of
      enable_completes = completes r (writes control) _ _ enable_step refl refl (completed_says _ 0 (omega arith))

    pub cancel_completes : off m ≡ false → runs m ≡ true → Command 0x02 control → Completes m (writes control) 0 (26 ∷ 31 ∷ []) zeros
    unfolding settled_of zero_message_in due_of
    cancel_completes on running c =
        completes r (writes control) _ _ (write_row m control c.eight _ (code.cancel_row state fields c.coded on running)) refl refl
        (cancelled_says _)

    module _ (ready : Ready m) where
      pub capability_starts : Command 0x06 control → Starts m (writes control) (record { code = 0x06; connector = 0; reset_type = 0 })
      capability_starts c = starts _ c.eight (code.capability_row state fields (ready_state m ready) c.coded)

      module _ (low : 1 ≤ fields.connector) (high : fields.connector ≤ count) where
        there : fields.connector ≤ state.connectors
        there = omega (arith, reached_count r)

        pub connector_reset_starts : Command 0x03 control
            → Starts m (writes control) (record { code = 0x03; connector = fields.connector; reset_type = fields.reset_type })
        connector_reset_starts c = starts _ c.eight (code.connector_reset_row state fields (ready_state m ready) low there c.coded)

        pub connector_capability_starts : Command 0x07 control
            → Starts m (writes control) (record { code = 0x07; connector = fields.connector; reset_type = 0 })
        connector_capability_starts c =
            starts _ c.eight (code.connector_capability_row state fields (ready_state m ready) low there c.coded)

        pub connector_status_starts : Command 0x12 control
            → Starts m (writes control) (record { code = 0x12; connector = fields.connector; reset_type = 0 })
        connector_status_starts c = starts _ c.eight (code.connector_status_row state fields (ready_state m ready) low there c.coded)

      pub absent_completes : (code : ℕ) → NeedsConnector code → Command code control → (fields.connector ≡ 0) ⊎ (count < fields.connector)
          → Completes m (writes control) 0 (30 ∷ 31 ∷ []) zeros
      unfolding settled_of zero_message_in due_of
      absent_completes code n c h = completes r (writes control) _ _ (write_row m control c.eight _ (row h)) refl refl (failed_says _)
        where
          found : entry_of fields.code ≡ entry class.Run true
          found = ap entry_of c.coded ∙ needs_entry code n

          row : (fields.connector ≡ 0) ⊎ (count < fields.connector)
              → control_step_of state fields ≡ mailbox_step (with_status state Failed) (Ok tt) ZeroedAtCompletion
          row (inl z) = absent_zero state fields (ready_state m ready) found z
          row (inr above) = absent_above state fields (ready_state m ready) found (omega (arith, reached_count r))

      pub other_completes : (code : ℕ) → Other code → Command code control → Completes m (writes control) 0 (25 ∷ 31 ∷ []) zeros
      unfolding settled_of zero_message_in due_of
      other_completes code o c =
          completes r (writes control) _ _
          (write_row m control c.eight _ (other_row state fields (ready_state m ready) (ap entry_of c.coded ∙ other_entry code o)))
          refl refl (not_supported_says _)

      pub six : Command 0x02 control → answers m (writes control) ≡ 6
      six c =
          let none = (free (situation_of state fields) ready.still ready.acknowledged).cancel ready.on in
          refuses m control c.eight 5 (rw (ap entry_of c.coded ∙ rows.cancel) (ap mailbox_number_of none))

    -- ACK_CC_CI: taken, or 5.
    acknowledges : (now : Changes)
        → event_step_of state (writes control) ≡ mailbox_step (mailbox_state state.connectors state.notifications Acknowledged now) (Ok tt) Kept
        → Acknowledges m (writes control)
    unfolding settled_of due_of
    acknowledges now row =
        record { gives = gives r (writes control) _ _ row (acknowledged_says _); ended = ap (λ (s : Step). due_of s.state.status) row }

    module _ (c : Command 0x04 control) (on : off m ≡ false) where
      pub completion_acked : due m ≡ true → fields.change ≡ false → fields.completed ≡ true
          → Acknowledges m (writes control) × (after.state.changes ≡ state.changes)
      completion_acked d b k =
          let row = write_row m control c.eight _ (code.completed_acked state fields c.coded on (due_still state.status d) d b k) in
          (acknowledges _ row, ap (λ (s : Step). s.state.changes) row)

      module _ (still : runs m ≡ false) (b : fields.change ≡ true) (k : fields.completed ≡ due m) where
        abbrev acked : State
        acked = mailbox_state state.connectors state.notifications Acknowledged (next_shown_of state.changes)

        change_row : (shown m ≡ 0 → ⊥) → (d : Bool) → due m ≡ d → control_step_of state fields ≡ mailbox_step acked (Ok tt) Kept
        change_row h true d = code.both_acked state fields c.coded on still h d b (k ∙ d)
        change_row h false d = code.change_acked state fields c.coded on still h d b (k ∙ d)

        next_is : (shown m ≡ 0 → ⊥) → after.state.changes ≡ next_shown_of state.changes
        next_is h = ap (λ (s : Step). s.state.changes) (write_row m control c.eight _ (change_row h (due m) refl))

        shows_lowest : (shown m ≡ 0 → ⊥) → ShowsLowest m after
        shows_lowest h =
            let formed = reached_formed (reached_next count m (writes control) r) in
            let within = formed.within.shown in
            let few = formed.high in
            let e = ap (λ (now : Changes). now.shown) (next_is h) ∙ next_shows state.changes in
            let first = subst (First 1 state.changes.waiting) (sym e) (lowest_first 1 state.changes.waiting) in
            record {
              waited = lowest_waits first;
              lowest = lowest_least first;
              none = lowest_none first;
              waits_no_more =
                  λ low.
                  ap (λ (now : Changes). get_or now.waiting (shown after - 1) false) (next_is h)
                  ∙ ap (λ (n : ℕ). get_or (next_shown_of state.changes).waiting (n - 1) false) e
                  ∙ next_waits_no_more state.changes (omega (arith, low, e)) (omega (arith, within, few, e));
              others =
                  λ j low other.
                  ap (λ (now : Changes). get_or now.waiting (j - 1) false) (next_is h)
                  ∙ next_others state.changes j low (λ t. other (t ∙ sym e));
            }

        pub change_acked : (shown m ≡ 0 → ⊥) → Acknowledges m (writes control) × ShowsLowest m after
        change_acked h = (acknowledges _ (write_row m control c.eight _ (change_row h (due m) refl)), shows_lowest h)

        none_shown_row : shown m ≡ 0 → (d : Bool) → due m ≡ d → control_step_of state fields ≡ refused state NothingToClear
        none_shown_row z true d = code.none_shown_due_5 state fields c.coded on still z d b (k ∙ d)
        none_shown_row z false d = code.none_shown_5 state fields c.coded on still z d b (k ∙ d)

        pub none_shown_number : shown m ≡ 0 → answers m (writes control) ≡ 5
        none_shown_number z = numbered m (writes control) _ (write_row m control c.eight _ (none_shown_row z (due m) refl))

    module _ (ready : Ready m) (c : Command 0x04 control) where
      pub neither_number : fields.change ≡ false → fields.completed ≡ false → answers m (writes control) ≡ 5
      neither_number b k =
          numbered m (writes control) _
          (write_row m control c.eight _ (code.neither_5 state fields c.coded ready.on ready.still ready.acknowledged b k))

      pub nothing_due_number : fields.completed ≡ true → answers m (writes control) ≡ 5
      nothing_due_number k =
          numbered m (writes control) _
          (write_row m control c.eight _ (code.nothing_due_5 state fields c.coded ready.on ready.still ready.acknowledged k))

    -- Any command but PPM_RESET, where 2, 3 or 4 refuses it.
    module _ (code : ℕ) (c : Command code control) (not-reset : code ≡ 0x01 → ⊥) where
      class_named : Named code (entry_of fields.code).class
      class_named = subst (λ (n : ℕ). Named n (entry_of fields.code).class) c.coded (named fields.code)

      pub two : off m ≡ true → (code ≡ 0x05 → ⊥) → answers m (writes control) ≡ 2
      two o h = refuses m control c.eight 1 (off_number (situation_of state fields) code not-reset _ o h class_named)

      -- With notifications off 0x05 alone comes to 3 and 4.
      module _ (enabling : off m ≡ true → code ≡ 0x05) where
        enabled : off m ≡ true → entry_of fields.code ≡ entry class.Enable false
        enabled o = ap entry_of (c.coded ∙ enabling o) ∙ rows.enable

        pub three : runs m ≡ true → (code ≡ 0x02 → ⊥) → answers m (writes control) ≡ 3
        three running h = refuses m control c.eight 2 (by (off m) refl)
          where
            by : (o : Bool) → off m ≡ o → mailbox_number_of (refusal_of (entry_of fields.code).class (situation_of state fields)) ≡ 3
            by true o = rw (enabled o) (ap mailbox_number_of (running_3 (situation_of state fields) running).enable)
            by false on = run_number (situation_of state fields) code not-reset on _ running h class_named

        pub four : due m ≡ true → (code ≡ 0x04 → fields.completed ≡ false) → answers m (writes control) ≡ 4
        four d h = refuses m control c.eight 3 (by (off m) refl)
          where
            by : (o : Bool) → off m ≡ o → mailbox_number_of (refusal_of (entry_of fields.code).class (situation_of state fields)) ≡ 4
            by true o = rw (enabled o) (ap mailbox_number_of (due_4 (situation_of state fields) (due_still state.status d) d).enable)
            by false on = due_number (situation_of state fields) code not-reset on _ (due_still state.status d) d h class_named
