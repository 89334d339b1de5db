-- Each code and length of the messages, once. src/codes.rt has them for the code; the contracts tie the two.
use Rattle.std.specs.Prelude.{ℕ, List, [], ◌∷◌}

-- 001 T5-2
abbrev pub version : ℕ
version = 0x01

-- 01, Sizes and numbers
abbrev pub shortest : ℕ
shortest = 2

abbrev pub longest : ℕ
longest = 260

-- 001 T5-3; `data` is a word of this language, so that DATA is `datum`
abbrev pub get_fw_id : ℕ
get_fw_id = 0x81

abbrev pub initiate : ℕ
initiate = 0x82

abbrev pub datum : ℕ
datum = 0x83

abbrev pub data_nr : ℕ
data_nr = 0x84

abbrev pub validate : ℕ
validate = 0x85

abbrev pub abort : ℕ
abort = 0x86

abbrev pub data_pause : ℕ
data_pause = 0x87

abbrev pub vendor_specific : ℕ
vendor_specific = 0xFF

-- 001 T5-16
abbrev pub get_fw_id_response : ℕ
get_fw_id_response = 0x01

abbrev pub initiate_response : ℕ
initiate_response = 0x02

abbrev pub data_response : ℕ
data_response = 0x03

abbrev pub validate_response : ℕ
validate_response = 0x05

abbrev pub data_pause_response : ℕ
data_pause_response = 0x07

abbrev pub vendor_specific_response : ℕ
vendor_specific_response = 0x7F

-- The types that are known and not built (01, The parts of the cable job)
abbrev pub requests_not_built : List ℕ
requests_not_built = data_nr ∷ data_pause ∷ vendor_specific ∷ []

abbrev pub responses_not_built : List ℕ
responses_not_built = data_pause_response ∷ vendor_specific_response ∷ []

-- 001 T5-1: a header alone
abbrev pub header : ℕ
header = 2

-- 001 T5-6
abbrev pub initiate_length : ℕ
initiate_length = 10

-- 001 T5-8: what comes before the block
abbrev pub data_head : ℕ
data_head = 4

-- 001 T5-18
abbrev pub get_fw_id_response_length : ℕ
get_fw_id_response_length = 22

-- 001 T5-20
abbrev pub initiate_response_length : ℕ
initiate_response_length = 7

-- 001 T5-22
abbrev pub data_response_length : ℕ
data_response_length = 7

-- 001 T5-24
abbrev pub validate_response_length : ℕ
validate_response_length = 5

-- The WaitTime of a responder that takes no more (001 T5-20, T5-22, T5-24)
abbrev pub unable : ℕ
unable = 255

-- MaxImageSize has 20 bits: an image, and the memory for one, has at most so many bytes (001 T5-20; 01, Sizes and numbers)
abbrev pub image_size_most : ℕ
image_size_most = 1048575
