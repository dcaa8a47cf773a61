use Rattle.geometry_records.proofs.Rules.{geometries}
use Rattle.geometry_records.proofs.surface_type.Goals as goal

pub returns-then-is_added : goal.returns-then-is_added
returns-then-is_added c = search geometries

pub returns : goal.returns
returns c = search geometries
