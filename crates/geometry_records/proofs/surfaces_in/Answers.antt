use Rattle.utf8.specs.Ascii.{ascii}
use Rattle.geometry_records.proofs.Rules.{geometries}
use Rattle.geometry_records.proofs.surfaces_in.Goals as goal

pub surfaces-requires : goal.surfaces-requires
unfolding ascii
surfaces-requires c = search geometries

pub returns-in-Some : goal.returns-in-Some
unfolding ascii
returns-in-Some c = search geometries

pub returns-in-None : goal.returns-in-None
unfolding ascii
returns-in-None c = search geometries
