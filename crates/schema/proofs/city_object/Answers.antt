use Rattle.utf8.specs.Ascii.{ascii}
use Rattle.geometry.proofs.Lines.{gives}
use Rattle.geometry.proofs.Strings.{type_at}
use Rattle.schema.proofs.city_object.Goals as goal

pub city_object_of-requires : goal.city_object_of-requires
unfolding ascii
city_object_of-requires c = type_at c.requires c.member-kind.ensures c.object_code-code.ensures

pub returns : goal.returns
returns c = gives c.city_object_of.ensures
