use Rattle.utf8.specs.Ascii.{ascii}
use Rattle.geometry_records.proofs.Rules.{geometries}
use Rattle.geometry_records.proofs.lod.Goals as goal

pub lod_code-requires : goal.lod_code-requires
unfolding ascii
lod_code-requires c = (search geometries, search geometries)

pub returns : goal.returns
unfolding ascii
returns c = search geometries
