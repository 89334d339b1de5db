-- Which refusal a command other than PPM_RESET meets, by the class of its code (01, Numbers we answer).
use Prim.Native.Nat.{ℕ}
use mathlib.Core.Bool.{true, false}
use mathlib.Core.Path.{◌≡◌, ap}
use Rattle.commands.proofs.Rows.{Named}
use Rattle.commands.specs.declared.table.Class.{Class}
use Rattle.commands.specs.declared.table.Class.TheVariants as class
use Rattle.mailbox_state.specs.Answer.{mailbox_number_of}
use Rattle.mailbox_state.specs.declared.situation.Situation.{Situation}
use Rattle.mailbox_rules.specs.Refusal.{refusal_of}
use Rattle.mailbox_rules.proofs.Answers.{off_2, running_3, due_4}

module _ (s : Situation) (code : ℕ) (not-reset : code ≡ 0x01 → ⊥) where
  pub off_number : (class : Class) → s.off ≡ true → (code ≡ 0x05 → ⊥) → Named code class → mailbox_number_of (refusal_of class s) ≡ 2
  off_number class.Reset o h n = absurd (not-reset n)
  off_number class.Cancel o h n = ap mailbox_number_of (off_2 s o).cancel
  off_number class.Acknowledge o h n = ap mailbox_number_of (off_2 s o).acknowledge
  off_number class.Enable o h n = absurd (h n)
  off_number class.Run o h n = ap mailbox_number_of (off_2 s o).run
  off_number class.NotSupported o h n = ap mailbox_number_of (off_2 s o).not_supported

  module _ (on : s.off ≡ false) where
    pub run_number : (class : Class) → s.runs ≡ true → (code ≡ 0x02 → ⊥) → Named code class → mailbox_number_of (refusal_of class s) ≡ 3
    run_number class.Reset r h n = absurd (not-reset n)
    run_number class.Cancel r h n = absurd (h n)
    run_number class.Acknowledge r h n = ap mailbox_number_of ((running_3 s r).acknowledge on)
    run_number class.Enable r h n = ap mailbox_number_of (running_3 s r).enable
    run_number class.Run r h n = ap mailbox_number_of ((running_3 s r).run on)
    run_number class.NotSupported r h n = ap mailbox_number_of ((running_3 s r).not_supported on)

    pub due_number : (class : Class) → s.runs ≡ false → s.due ≡ true → (code ≡ 0x04 → s.completed ≡ false) → Named code class
        → mailbox_number_of (refusal_of class s) ≡ 4
    due_number class.Reset r d h n = absurd (not-reset n)
    due_number class.Cancel r d h n = ap mailbox_number_of ((due_4 s r d).cancel on)
    due_number class.Acknowledge r d h n = ap mailbox_number_of ((due_4 s r d).acknowledge on (h n))
    due_number class.Enable r d h n = ap mailbox_number_of (due_4 s r d).enable
    due_number class.Run r d h n = ap mailbox_number_of ((due_4 s r d).run on)
    due_number class.NotSupported r d h n = ap mailbox_number_of ((due_4 s r d).not_supported on)
