-- Each public contract leaves one answer and one state of the lent memory. Written from the contracts by tools/contracts.
use Rattle.std.specs.Prelude.{List, ℕ, ◌≡◌}
use Rattle.basis.specs.Flag.{byte_of}
use Rattle.basis.specs.Only.{only}
use Rattle.mailbox_c.specs.Calls.{mailbox_called, harsolvek_mailbox_change, harsolvek_mailbox_failure, cci_read, harsolvek_mailbox_cci, harsolvek_mailbox_layout1, harsolvek_mailbox_fresh, harsolvek_mailbox_success, harsolvek_mailbox_write}
use Rattle.mailbox_c.specs.Words.{is_mailbox}

pub one_harsolvek_mailbox_change_raw : (words message_in : List ℕ) (connector reason r r' : ℕ) (words_left words_left' message_in_left message_in_left' : List ℕ)
    → mailbox_called r words_left message_in_left ≡ harsolvek_mailbox_change words message_in connector reason
    → mailbox_called r' words_left' message_in_left' ≡ harsolvek_mailbox_change words message_in connector reason
    → mailbox_called r words_left message_in_left ≡ mailbox_called r' words_left' message_in_left'
one_harsolvek_mailbox_change_raw words message_in connector reason r r' words_left words_left' message_in_left message_in_left' is is' = only is is'

pub one_harsolvek_mailbox_failure_raw : (words message_in : List ℕ) (r r' : ℕ) (words_left words_left' message_in_left message_in_left' : List ℕ)
    → mailbox_called r words_left message_in_left ≡ harsolvek_mailbox_failure words message_in
    → mailbox_called r' words_left' message_in_left' ≡ harsolvek_mailbox_failure words message_in
    → mailbox_called r words_left message_in_left ≡ mailbox_called r' words_left' message_in_left'
one_harsolvek_mailbox_failure_raw words message_in r r' words_left words_left' message_in_left message_in_left' is is' = only is is'

pub one_harsolvek_mailbox_cci_raw : (words : List ℕ) (cci r r' cci_left cci_left' : ℕ)
    → cci_read r cci_left ≡ harsolvek_mailbox_cci words
    → cci_read r' cci_left' ≡ harsolvek_mailbox_cci words
    → cci_read r cci_left ≡ cci_read r' cci_left'
one_harsolvek_mailbox_cci_raw words cci r r' cci_left cci_left' is is' = only is is'

pub one_harsolvek_mailbox_is_mailbox_raw : (words : List ℕ) (r r' : ℕ)
    → r ≡ byte_of (is_mailbox words)
    → r' ≡ byte_of (is_mailbox words)
    → r ≡ r'
one_harsolvek_mailbox_is_mailbox_raw words r r' is is' = only is is'

pub one_harsolvek_mailbox_layout_1 : (r r' : ℕ)
    → r ≡ harsolvek_mailbox_layout1
    → r' ≡ harsolvek_mailbox_layout1
    → r ≡ r'
one_harsolvek_mailbox_layout_1 r r' is is' = only is is'

pub one_harsolvek_mailbox_fresh_raw : (words message_in : List ℕ) (connectors r r' : ℕ) (words_left words_left' message_in_left message_in_left' : List ℕ)
    → mailbox_called r words_left message_in_left ≡ harsolvek_mailbox_fresh connectors
    → mailbox_called r' words_left' message_in_left' ≡ harsolvek_mailbox_fresh connectors
    → mailbox_called r words_left message_in_left ≡ mailbox_called r' words_left' message_in_left'
one_harsolvek_mailbox_fresh_raw words message_in connectors r r' words_left words_left' message_in_left message_in_left' is is' = only is is'

pub one_harsolvek_mailbox_success_raw : (words message_in bytes : List ℕ) (r r' : ℕ) (words_left words_left' message_in_left message_in_left' : List ℕ)
    → mailbox_called r words_left message_in_left ≡ harsolvek_mailbox_success words message_in bytes
    → mailbox_called r' words_left' message_in_left' ≡ harsolvek_mailbox_success words message_in bytes
    → mailbox_called r words_left message_in_left ≡ mailbox_called r' words_left' message_in_left'
one_harsolvek_mailbox_success_raw words message_in bytes r r' words_left words_left' message_in_left message_in_left' is is' = only is is'

pub one_harsolvek_mailbox_write_raw : (words message_in control : List ℕ) (r r' : ℕ) (words_left words_left' message_in_left message_in_left' : List ℕ)
    → mailbox_called r words_left message_in_left ≡ harsolvek_mailbox_write words message_in control
    → mailbox_called r' words_left' message_in_left' ≡ harsolvek_mailbox_write words message_in control
    → mailbox_called r words_left message_in_left ≡ mailbox_called r' words_left' message_in_left'
one_harsolvek_mailbox_write_raw words message_in control r r' words_left words_left' message_in_left message_in_left' is is' = only is is'
