-- What the fields of a message can hold, and what a reader gives back of them.
use Rattle.std.specs.Prelude.{ℕ, ◌+◌, ◌%◌, ◌<◌, ◌≤◌, ◌≡◌, List, [], length, drop}
use Rattle.wire.specs.Codes.{longest, data_head, image_size_most}
use Rattle.basis.specs.Bytes.{byte_at}
use Rattle.wire.specs.Identity.{cleared}
use Rattle.wire.specs.declared.request.Versions.{Versions}
use Rattle.wire.specs.declared.request.Request.{Request}
use Rattle.wire.specs.declared.request.Request.TheVariants as Req
use Rattle.wire.specs.declared.response.Response.{Response}
use Rattle.wire.specs.declared.response.Response.TheVariants as Res

abbrev pub Words : Versions → Type 0
Words v = (v.first < 65536) × (v.second < 65536) × (v.third < 65536) × (v.fourth < 65536)

-- What is known and not built is never written.
abbrev pub BuiltRequest : Request → Type 0
BuiltRequest Req.GetFwId = Unit
BuiltRequest (Req.Initiate v) = Unit
BuiltRequest (Req.Data n size) = Unit
BuiltRequest Req.Validate = Unit
BuiltRequest Req.Abort = Unit
BuiltRequest Req.NotBuilt = ⊥

abbrev pub BuiltResponse : Response → Type 0
BuiltResponse (Res.GetFwId st i) = Unit
BuiltResponse (Res.Initiate st w size) = Unit
BuiltResponse (Res.Data st w n) = Unit
BuiltResponse (Res.Validate st w success) = Unit
BuiltResponse Res.NotBuilt = ⊥

-- A request that can be sent, with the block behind it: numbers as wide as their fields, and a block of 0 to 256 bytes in DATA alone.
abbrev pub Sendable : Request → List ℕ → Type 0
Sendable Req.GetFwId block = block ≡ []
Sendable (Req.Initiate v) block = (block ≡ []) × Words v
Sendable (Req.Data n size) block = (n < 65536) × (length block ≡ size) × (size ≤ 256)
Sendable Req.Validate block = block ≡ []
Sendable Req.Abort block = block ≡ []
Sendable Req.NotBuilt block = ⊥

-- The block is the part of a DATA request from its fifth byte (01, Sizes and numbers).
abbrev pub block_in : List ℕ → Request → List ℕ
block_in m Req.GetFwId = []
block_in m (Req.Initiate v) = []
block_in m (Req.Data n size) = drop data_head m
block_in m Req.Validate = []
block_in m Req.Abort = []
block_in m Req.NotBuilt = []

-- The bytes of a DATA request hold its head and then a block of its size, both in one message.
abbrev pub Sized : List ℕ → Request → Type 0
Sized m Req.GetFwId = Unit
Sized m (Req.Initiate v) = Unit
Sized m (Req.Data n size) = (data_head ≤ length m) × (length (drop data_head m) ≡ size) × (data_head + size ≤ longest)
Sized m Req.Validate = Unit
Sized m Req.Abort = Unit
Sized m Req.NotBuilt = Unit

-- A response that can be sent: numbers as wide as their fields, MaxImageSize of 20 bits.
abbrev pub Answerable : Response → Type 0
Answerable (Res.GetFwId st i) = (i.vendor < 65536) × (i.product < 65536) × Words i.versions
Answerable (Res.Initiate st w size) = size ≤ image_size_most
Answerable (Res.Data st w n) = n < 65536
Answerable (Res.Validate st w success) = Unit
Answerable Res.NotBuilt = ⊥

-- A response as it arrives: the identity without its reserved bits, all else as sent.
abbrev pub as_read : Response → Response
as_read (Res.GetFwId st i) = Res.GetFwId st (cleared i)
as_read (Res.Initiate st w size) = Res.Initiate st w size
as_read (Res.Data st w n) = Res.Data st w n
as_read (Res.Validate st w success) = Res.Validate st w success
as_read Res.NotBuilt = Res.NotBuilt

-- The bytes of a response whose reserved bits (001 T5-18, T5-20, T5-24) and NumDataNR (T5-22) are zero.
abbrev pub Plain : List ℕ → Response → Type 0
Plain m (Res.GetFwId st i) = (byte_at m 8 % 16 ≡ 0) × (byte_at m 18 < 16) × (byte_at m 19 < 4) × (byte_at m 20 < 32) × (byte_at m 21 < 16)
Plain m (Res.Initiate st w size) = byte_at m 6 < 16
Plain m (Res.Data st w n) = byte_at m 4 ≡ 0
Plain m (Res.Validate st w success) = byte_at m 4 < 2
Plain m Res.NotBuilt = ⊥
