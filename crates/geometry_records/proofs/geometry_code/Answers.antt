use Rattle.utf8.specs.Ascii.{ascii}
use Rattle.geometry_records.proofs.Rules.{geometries}
use Rattle.geometry_records.proofs.geometry_code.Goals as goal

pub returns : goal.returns
unfolding ascii
returns c = search geometries
