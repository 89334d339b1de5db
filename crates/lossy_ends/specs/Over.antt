-- What holds at every step of the code: both ends are those of a session over a line that loses and repeats (`Reached` in
-- crates/line/specs/Line.antt). The code keeps no list of the messages sent, so there are lists of them with which it holds.
use Rattle.std.specs.Prelude.{ℕ, ◌⊎◌, ◌≡◌, length, take}
use mathlib.Core.List.{List, Memᴰ}
use Rattle.wire.specs.declared.response.Identity.{Identity}
use Rattle.receiver_state.specs.Phase.{accepted_of}
use Rattle.receiver_state.specs.declared.phase.Accepted.{Accepted}
use Rattle.receiver_state.specs.declared.phase.Phase.TheVariants.{Good}
use Rattle.receiver_state.specs.declared.session.Receiver.{Receiver}
use Rattle.indoor_state.specs.declared.plan.Release.{Release}
use Rattle.line.specs.Line.{World, Wide, Reached}
use Rattle.luck.specs.Way.{message_on_way}
use Rattle.luck.specs.declared.way.Way.{Way}
use Rattle.lossy_ends.specs.declared.ends.Ends.{Ends}

abbrev pub lossy_world : Ends → List ℕ → List (List ℕ) → List (List ℕ) → World
lossy_world e image requests responses = record { receiver = e.receiver; indoor = e.indoor; image = image; requests = requests; responses = responses }

-- Nothing is on its way, or a message that was sent: the line adds no message and alters none.
abbrev pub OnItsWay : Way → List ℕ → List (List ℕ) → Type 0
OnItsWay w buffer sent = (w.bytes ≡ 0) ⊎ Memᴰ (message_on_way w buffer) sent

pub record Over (file : List ℕ) (e : Ends) (image up down : List ℕ) : Type 0 where
  pub memory : List ℕ
  pub release : Release
  pub identity : Identity
  pub wide : Wide release identity
  pub requests : List (List ℕ)
  pub responses : List (List ℕ)
  pub reached : Reached file memory release identity (lossy_world e image requests responses)
  pub rising : OnItsWay e.up up requests
  pub falling : OnItsWay e.down down responses

-- The receiver has accepted as many bytes as the file has, and they are the file's.
abbrev pub Same : List ℕ → Ends → List ℕ → Type 0
Same file e image = ((accepted_of e.receiver.phase).bytes ≡ length file) × (take (length file) image ≡ file)

-- What "done" says: the receiver has marked the image good, has accepted as many bytes as the file has, and they are the file's.
pub record Delivered (file : List ℕ) (receiver : Receiver) (image : List ℕ) : Type 0 where
  pub accepted : Accepted
  pub good : receiver.phase ≡ Good accepted
  pub counted : accepted.bytes ≡ length file
  pub bytes : take (length file) image ≡ file
