-- The version in the header's own number, HARSOLVEK_VERSION (include/harsolvek.h).
use mathlib.Core.Path.{◌≡◌, refl}
use Rattle.version_c.specs.Version.{harsolvek_version}

pub version_is : harsolvek_version ≡ 0x010100
version_is = refl
