-- There are 1 to 8 connectors, fixed at the start; other counts: 29, no mailbox (01, The mailbox).
use Rattle.std.specs.Prelude.{ℕ, Result, Ok, Err, ltb}
use Rattle.numbers.specs.Number.{number_in}
use Rattle.basis.specs.Pick.{pick}
use Rattle.mailbox_state.specs.declared.mailbox.NoMailbox.{NoMailbox}

abbrev pub connectors_least : ℕ
connectors_least = 1

abbrev pub connectors_most : ℕ
connectors_most = 8

abbrev pub no_mailbox_number_of : NoMailbox → ℕ
no_mailbox_number_of none = 29

abbrev pub no_mailbox : Result ℕ NoMailbox
no_mailbox = Err (record {})

-- A count that a mailbox may have.
unfoldable pub connectors_of : ℕ → Result ℕ NoMailbox
connectors_of count = pick (ltb count connectors_least) no_mailbox (pick (ltb connectors_most count) no_mailbox (Ok count))

-- The number that a start with so many is answered.
abbrev pub connectors_number_of : ℕ → ℕ
connectors_number_of count = number_in no_mailbox_number_of (connectors_of count)
