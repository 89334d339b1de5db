-- A value of the code's types has fields as wide as their types: what `Wide` asks of a session is so of every value.
use mathlib.Core.List.{List}
use mir.Val.{Val}
use denote.Laws.{Is}
use denote.Struct.Declared.{row}
use Rattle.wire.specs.Fields.{Words}
use Rattle.wire.specs.declared.request.Versions.{Versions}
use Rattle.wire.specs.declared.response.Identity.{Identity}
use Rattle.wire.specs.contracts.request.Versions as versions
use Rattle.wire.specs.contracts.response.Identity as identities
use Rattle.indoor_state.specs.declared.plan.Release.{Release}
use Rattle.indoor_state.specs.contracts.plan.Release as releases
use Rattle.line.specs.Line.{Wide}

versions_wide : (v : Versions) (vs : List Val) → Is (row versions.the_type) v vs → Words v
versions_wide v vs h = let w = h.1.1 in (w.0.1, w.1.0.1, w.1.1.0.1, w.1.1.1.0.1)

pub values_wide : (release : Release) (identity : Identity) (us vs : List Val) → Is (row releases.the_type) release us → Is (row identities.the_type) identity vs → Wide release identity
values_wide release identity us vs r i =
    let w = i.1.1 in
    record {
      vendor = w.0.1;
      product = w.1.0.1;
      reported = versions_wide identity.versions _ w.1.1.1.1.0;
      offered = versions_wide release.versions _ r.1.1.1.1.0;
    }
