-- The mailboxes that the library hands out: by a start that was taken, and by any call on such a state, whatever is lent to it.
use Rattle.std.specs.Prelude.{ℕ, ◌≡◌, List}
use Rattle.mailbox_c.specs.Calls.{harsolvek_mailbox_fresh, harsolvek_mailbox_write, harsolvek_mailbox_success, harsolvek_mailbox_failure, harsolvek_mailbox_change}

pub data HandedMailbox (count : ℕ) : List ℕ → List ℕ → Type 0 where
  starts : (harsolvek_mailbox_fresh count).number ≡ 0 → HandedMailbox count (harsolvek_mailbox_fresh count).words (harsolvek_mailbox_fresh count).message
  writes : {w m : List ℕ} → HandedMailbox count w m → (control : List ℕ)
      → HandedMailbox count (harsolvek_mailbox_write w m control).words (harsolvek_mailbox_write w m control).message
  succeeds : {w m : List ℕ} → HandedMailbox count w m → (bytes : List ℕ)
      → HandedMailbox count (harsolvek_mailbox_success w m bytes).words (harsolvek_mailbox_success w m bytes).message
  fails : {w m : List ℕ} → HandedMailbox count w m → HandedMailbox count (harsolvek_mailbox_failure w m).words (harsolvek_mailbox_failure w m).message
  changes : {w m : List ℕ} → HandedMailbox count w m → (connector reason : ℕ)
      → HandedMailbox count (harsolvek_mailbox_change w m connector reason).words (harsolvek_mailbox_change w m connector reason).message
