use Rattle.geometry_records.proofs.Rules.{geometries}
use Rattle.geometry_records.proofs.shape_body.Goals as goal

pub lod-second-requires : goal.lod-second-requires
lod-second-requires c = search geometries

pub boundary-requires : goal.boundary-requires
boundary-requires c = search geometries

pub returns : goal.returns
returns c = search geometries
