-- Each class is judged by 2 and 4, and then by its own numbers (01, Numbers we answer).
use mathlib.Core.Bool.{Bool, true, false, not, ◌&&◌}
use mathlib.Core.Path.{◌≡◌, refl}
use Rattle.std.specs.Prelude.{Ok, Err}
use Rattle.basis.specs.Pick.{pick}
use Rattle.commands.specs.declared.table.Class.{Class}
use Rattle.commands.specs.declared.table.Class.TheVariants.{Cancel, Acknowledge, Enable, Run, NotSupported}
use Rattle.mailbox_rules.specs.Refusal.{clears_nothing, refusal_of, stopped_of}
use Rattle.mailbox_state.specs.Answer.{Answer}
use Rattle.mailbox_state.specs.declared.answer.Refusal.TheVariants.{NothingToClear, NothingToCancel}
use Rattle.mailbox_state.specs.declared.situation.Situation.{Situation}

-- The classes that 2 and 4 refuse, and what each answers where neither does.
pub data Plain : Class → Answer → Type 0 where
  cancel : Plain Cancel (Err NothingToCancel)
  run : Plain Run (Ok tt)
  other : Plain NotSupported (Ok tt)

plain_by : {class : Class} {own : Answer} → Plain class own → (s : Situation) (off due : Bool) → s.off ≡ off → s.due ≡ due → s.runs ≡ false
    → stopped_of s.off s.due own ≡ refusal_of class s
unfolding refusal_of stopped_of pick
plain_by cancel s true due o d r = rw o
plain_by cancel s false true o d r = rw (o, r, d)
plain_by cancel s false false o d r = rw (o, r, d)
plain_by run s true due o d r = rw o
plain_by run s false true o d r = rw (o, r, d)
plain_by run s false false o d r = rw (o, r, d)
plain_by other s true due o d r = rw o
plain_by other s false true o d r = rw (o, r, d)
plain_by other s false false o d r = rw (o, r, d)

enables_by : (s : Situation) (off due : Bool) → s.off ≡ off → s.due ≡ due → s.runs ≡ false → stopped_of false s.due (Ok tt) ≡ refusal_of Enable s
unfolding refusal_of stopped_of pick
enables_by s true true o d r = rw (o, r, d)
enables_by s true false o d r = rw (o, r, d)
enables_by s false true o d r = rw (o, r, d)
enables_by s false false o d r = rw (o, r, d)

acknowledges_by : (s : Situation) (off : Bool) → s.off ≡ off → s.runs ≡ false
    → stopped_of s.off (s.due && not s.completed) (pick (clears_nothing s) (Err NothingToClear) (Ok tt)) ≡ refusal_of Acknowledge s
unfolding refusal_of stopped_of pick
acknowledges_by s true o r = rw o
acknowledges_by s false o r = rw (o, r)

cancels_by : (s : Situation) (due : Bool) → s.due ≡ due → s.off ≡ false → s.runs ≡ true → stopped_of false s.due (Ok tt) ≡ refusal_of Cancel s
unfolding refusal_of stopped_of pick
cancels_by s true d o r = rw (o, r, d)
cancels_by s false d o r = rw (o, r, d)

module _ (s : Situation) (still : s.runs ≡ false) where
  pub plain : {class : Class} {own : Answer} → Plain class own → stopped_of s.off s.due own ≡ refusal_of class s
  plain p = plain_by p s s.off s.due refl refl still

  -- 2 does not refuse 0x05.
  pub enables : stopped_of false s.due (Ok tt) ≡ refusal_of Enable s
  enables = enables_by s s.off s.due refl refl still

  -- ACK_CC_CI goes on to 5.
  pub acknowledges : stopped_of s.off (s.due && not s.completed) (pick (clears_nothing s) (Err NothingToClear) (Ok tt)) ≡ refusal_of Acknowledge s
  acknowledges = acknowledges_by s s.off refl still

-- In a run with notifications on, CANCEL is taken unless 4 refuses it.
pub cancels : (s : Situation) → s.off ≡ false → s.runs ≡ true → stopped_of false s.due (Ok tt) ≡ refusal_of Cancel s
cancels s on runs = cancels_by s s.due refl on runs
