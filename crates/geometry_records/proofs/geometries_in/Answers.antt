use Rattle.utf8.specs.Ascii.{ascii}
use Rattle.geometry_records.proofs.Rules.{geometries}
use Rattle.geometry_records.proofs.geometries_in.Goals as goal

pub each_geometry-requires : goal.each_geometry-requires
unfolding ascii
each_geometry-requires c = search geometries

pub returns-in-Some : goal.returns-in-Some
unfolding ascii
returns-in-Some c = search geometries

pub returns-in-None : goal.returns-in-None
unfolding ascii
returns-in-None c = search geometries
