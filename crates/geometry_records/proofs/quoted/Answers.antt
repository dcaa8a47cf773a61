use Rattle.geometry_records.proofs.Rules.{geometries}
use Rattle.geometry_records.proofs.quoted.Goals as goal

pub is_string-requires : goal.is_string-requires
is_string-requires c = search geometries

pub text_from-requires : goal.text_from-requires
text_from-requires c = search geometries

pub text_to-requires : goal.text_to-requires
text_to-requires c = search geometries

pub returns-in-Some : goal.returns-in-Some
returns-in-Some c = search geometries

pub returns-in_default : goal.returns-in_default
returns-in_default c = search geometries

pub returns-in_default-2 : goal.returns-in_default-2
returns-in_default-2 c = search geometries
