-- The fields of 001 T5-18, where they lie, and which of their bits are reserved.
use Rattle.std.specs.Prelude.{ℕ, ◌+◌, ◌*◌, ◌/◌, ◌%◌, List}
use Rattle.basis.specs.Bytes.{byte_at}
use Rattle.wire.specs.Numbers.{word_at}
use Rattle.wire.specs.declared.request.Versions.{Versions}
use Rattle.wire.specs.declared.response.Identity.{Identity}

-- FWVersion1 to FWVersion4 from a place on (001 T5-6, T5-18)
abbrev pub versions_at : List ℕ → ℕ → Versions
versions_at m i = record { first = word_at m i; second = word_at m (i + 2); third = word_at m (i + 4); fourth = word_at m (i + 6) }

-- SiVersion 3:0, Flags1 7:4, Flags2 7:2, Flags3 7:5 and Flags4 7:4 are reserved: cleared when read and when written
abbrev pub cleared : Identity → Identity
cleared i = record {
  vendor = i.vendor;
  product = i.product;
  hardware = i.hardware;
  silicon = i.silicon / 16 * 16;
  versions = i.versions;
  bank = i.bank;
  flags1 = i.flags1 % 16;
  flags2 = i.flags2 % 4;
  flags3 = i.flags3 % 32;
  flags4 = i.flags4 % 16;
}

abbrev pub identity_in : List ℕ → Identity
identity_in m = record {
  vendor = word_at m 3;
  product = word_at m 5;
  hardware = byte_at m 7;
  silicon = byte_at m 8;
  versions = versions_at m 9;
  bank = byte_at m 17;
  flags1 = byte_at m 18;
  flags2 = byte_at m 19;
  flags3 = byte_at m 20;
  flags4 = byte_at m 21;
}
