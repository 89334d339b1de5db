-- Notifications as a flag and a mask, and back. There is a mask only while they are on (01, The mailbox).
use Rattle.std.specs.Prelude.{ℕ, Bool, false, eqb, leb}
use Rattle.basis.specs.Pick.{pick}
use Rattle.mailbox_state.specs.declared.state.Notifications.{Notifications}
use Rattle.mailbox_state.specs.declared.state.Notifications.TheVariants.{Off, On}

abbrev pub on_of : Notifications → ℕ
on_of Off = 0
on_of (On mask) = 1

abbrev pub mask_of : Notifications → ℕ
mask_of Off = 0
mask_of (On mask) = mask

unfoldable pub notifications_of : ℕ → ℕ → Notifications
notifications_of on mask = pick (eqb on 1) (On mask) Off

-- A mask has 16 bits.
unfoldable pub notifies_of : ℕ → ℕ → Bool
notifies_of on mask = pick (eqb on 1) (leb mask 65535) (pick (eqb on 0) (eqb mask 0) false)
