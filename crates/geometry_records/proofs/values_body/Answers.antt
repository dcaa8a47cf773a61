use Rattle.utf8.specs.Ascii.{ascii}
use Rattle.geometry_records.proofs.Rules.{geometries}
use Rattle.geometry_records.proofs.values_body.Goals as goal

pub the_member-k-requires : goal.the_member-k-requires
unfolding ascii
the_member-k-requires c = search geometries

pub values-requires : goal.values-requires
unfolding ascii
values-requires c = search geometries

pub returns : goal.returns
unfolding ascii
returns c = search geometries
