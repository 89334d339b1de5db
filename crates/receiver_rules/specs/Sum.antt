-- The image sum: 28, or the sum of the accepted bytes, which are the first bytes of the image (01, Sizes and numbers).
use Rattle.std.specs.Prelude.{ℕ, List, Ok, Err, length, take}
use Rattle.basis.specs.Pick.{pick, differ}
use Rattle.image.specs.Sum as sums
use Rattle.receiver_state.specs.Phase.{accepted_of}
use Rattle.receiver_state.specs.declared.session.Receiver.{Receiver}
use Rattle.receiver_state.specs.Sum.{Summed}

unfoldable pub receiver_sum_of : Receiver → List ℕ → Summed
receiver_sum_of r image =
    pick (differ (length image) r.capacity) (Err (record {}))
    (Ok (sums.sum_of (take (accepted_of r.phase).bytes image)))
