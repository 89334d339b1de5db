-- Which words are those of a mailbox, in the paper's own numbers (include/harsolvek.h; 01, The mailbox).
use Rattle.std.specs.Prelude.{ℕ, ◌≤◌, ◌<◌, ◌^◌, List, ◌≡◌}
use Rattle.commands.specs.Table.{entry_of}
use Rattle.commands.specs.declared.table.Class.TheVariants.{Run}
use Rattle.width.specs.Words.{word_at}

-- A command that may run: the table says so of its code, its connector, or 0 for none, is one that there is, and its type fits.
pub record CommandValid (w : List ℕ) : Type 0 where
  pub class : (entry_of (word_at w 7)).class ≡ Run
  pub there : word_at w 8 ≤ word_at w 0
  pub type : word_at w 9 ≤ 255

-- Nothing 0, ResetDone 1, Busy 2, Completed 3, Failed 4, NotSupported 5, Cancelled 6, Acknowledged 7: a command with Busy alone, and only
-- while notifications are on; a length with Completed alone.
pub record StatusValid (w : List ℕ) : Type 0 where
  pub codes : word_at w 5 ≤ 7
  pub busy_alone : (word_at w 5 ≡ 2 → ⊥) → (word_at w 7 ≡ 0) × (word_at w 8 ≡ 0) × (word_at w 9 ≡ 0)
  pub busy_on : word_at w 5 ≡ 2 → word_at w 3 ≡ 1
  pub busy_runs : word_at w 5 ≡ 2 → CommandValid w
  pub completed_alone : (word_at w 5 ≡ 3 → ⊥) → word_at w 6 ≡ 0
  pub length : word_at w 6 ≤ 255

-- Of the connectors that wait no bit above the count is set.
pub record MailboxValid (w : List ℕ) : Type 0 where
  pub least : 1 ≤ word_at w 0
  pub most : word_at w 0 ≤ 8
  pub shown : word_at w 1 ≤ word_at w 0
  pub waiting : word_at w 2 < 2 ^ word_at w 0
  pub on : word_at w 3 ≤ 1
  pub mask : word_at w 4 ≤ 65535
  pub off_no_mask : word_at w 3 ≡ 0 → word_at w 4 ≡ 0
  pub status_valid : StatusValid w
