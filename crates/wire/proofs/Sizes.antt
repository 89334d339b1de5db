-- Whatever is read as a DATA request holds its block: the part from the fifth byte can be handed on untested.
use borrow.Author.Tests.{ltb-false}
use Prim.Native.Nat.{ℕ}
use mathlib.Core.Path.{◌≡◌}
use mathlib.Core.List.{List}
use native.Mathlib.Omega.{arith}
use lib.ListN.{length, length-drop}
use lib.Dec.{ltb}
use Rattle.basis.specs.Pick.{pick_all}
use Rattle.wire.specs.Codes.{get_fw_id, initiate, datum, validate, abort, data_nr, data_pause, vendor_specific}
use Rattle.basis.specs.Bytes.{byte_at}
use Rattle.wire.specs.Request.{parsed_request_of, request_of_type, bare_in, initiate_in, data_in}
use Rattle.wire.specs.Fields.{Sized}
use Rattle.wire.specs.declared.request.Request.{Request}
use Rattle.wire.specs.declared.request.Request.TheVariants.{GetFwId, Validate, Abort, NotBuilt}
use Rattle.wire.proofs.Walk.{Headed, HoldsOf, refused, valid_holds, of_length, of_type, with_header}
use Rattle.wire.proofs.RequestBytes.{requests}
use Rattle.std.specs.Prelude.{Ok}

module _ (m : List ℕ) where
  data_sized : Headed m → HoldsOf requests (Sized m) (data_in m)
  unfolding data_in
  data_sized h =
      pick_all (HoldsOf requests (Sized m)) (ltb (length m) 4) _ _ (λ _. refused requests (Sized m))
      (λ f.
      let four = ltb-false (length m) 4 f in
      let short = h.short in
      valid_holds requests (Sized m) _ (four, length-drop 4 m, omega arith))

  typed_sized : Headed m → HoldsOf requests (Sized m) (request_of_type m (byte_at m 1))
  unfolding request_of_type bare_in initiate_in
  typed_sized h =
      let by = of_type requests (Sized m) (byte_at m 1) in
      let bare = of_length requests (Sized m) m 2 in
      let known = valid_holds requests (Sized m) NotBuilt tt in
      by get_fw_id _ _ (λ _. bare GetFwId (λ _. tt))
      (by initiate _ _ (λ _. of_length requests (Sized m) m 10 _ (λ _. tt))
      (by datum _ _ (λ _. data_sized h)
      (by validate _ _ (λ _. bare Validate (λ _. tt))
      (by abort _ _ (λ _. bare Abort (λ _. tt))
      (by data_nr _ _ (λ _. known)
      (by data_pause _ _ (λ _. known)
      (by vendor_specific _ _ (λ _. known) (refused requests (Sized m)))))))))

pub request_sized : (m : List ℕ) (r : Request) → parsed_request_of m ≡ Ok r → Sized m r
unfolding parsed_request_of HoldsOf
request_sized m = with_header requests (Sized m) m (request_of_type m (byte_at m 1)) (typed_sized m)
