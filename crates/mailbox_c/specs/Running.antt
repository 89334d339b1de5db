-- Whether a command is one that runs (01, The mailbox).
use Rattle.std.specs.Prelude.{ℕ, Bool, false, ltb}
use Rattle.basis.specs.Pick.{pick}
use Rattle.commands.specs.Table.{entry_of}
use Rattle.commands.specs.declared.table.Class.TheVariants.{Run}
use Rattle.mailbox_rules.specs.Refusal.{is}

-- The table says so of its code.
unfoldable pub code_runs : ℕ → Bool
code_runs code = is Run (entry_of code).class

-- Its connector, or 0 for none, is among so many.
unfoldable pub may_run_of : ℕ → ℕ → ℕ → Bool
may_run_of code connector count = pick (ltb count connector) false (code_runs code)
