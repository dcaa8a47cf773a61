use Rattle.geometry_records.proofs.Rules.{geometries}
use Rattle.geometry_records.proofs.semantics.Goals as goal

pub returns : goal.returns
returns c = search geometries
