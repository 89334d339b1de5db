-- A message on its way in one direction.
use Rattle.std.specs.Prelude.{ℕ, Bool, true, false, List, eqb, ltb, take}
use Rattle.basis.specs.Pick.{pick}
use Rattle.luck.specs.declared.way.Way.{Way}

abbrev pub way : ℕ → Bool → Way
way bytes again = record { bytes = bytes; again = again }

abbrev pub no_message : Way
no_message = way 0 false

abbrev pub way_of : ℕ → Way
way_of bytes = way bytes false

abbrev pub message_on_way : Way → List ℕ → List ℕ
message_on_way w buffer = take w.bytes buffer

-- The request goes next if no response is on its way or if it is a repeat.
abbrev pub rises_of : Way → Way → Bool
rises_of rising falling = pick (eqb rising.bytes 0) false (pick (eqb falling.bytes 0) true rising.again)

abbrev pub next_way : Way → Way → Bool → Way
next_way rising falling rises = pick rises rising falling

-- After a message has arrived.
abbrev pub after_arrival_of : Way → Bool → Way
after_arrival_of w stays = pick stays (way w.bytes true) no_message

-- After a call that wrote this many bytes.
abbrev pub after_write_of : Way → ℕ → Way
after_write_of w written = pick (eqb written 0) w (way_of written)

-- The message of such a call has replaced one that never arrived.
abbrev pub pushed_of : Way → ℕ → Bool
pushed_of w written = pick (eqb written 0) false (pick w.again false (ltb 0 w.bytes))
