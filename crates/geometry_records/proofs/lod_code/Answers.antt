use Rattle.geometry_records.proofs.Rules.{geometries}
use Rattle.geometry_records.proofs.lod_code.Goals as goal

pub copy-n-requires : goal.copy-n-requires
copy-n-requires c = (search geometries, search geometries)

pub digit-major-requires : goal.digit-major-requires
digit-major-requires c = search geometries

pub returns-then-n-lt3 : goal.returns-then-n-lt3
returns-then-n-lt3 c = search geometries

pub digit-requires : goal.digit-requires
digit-requires c = search geometries

pub returns : goal.returns
returns c = search geometries
