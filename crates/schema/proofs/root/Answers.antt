use Rattle.utf8.specs.Ascii.{ascii}
use Rattle.geometry.proofs.Lines.{gives}
use Rattle.schema.proofs.Filling.{filling}
use Rattle.schema.proofs.root.Goals as goal

pub fill_index-extra-requires : goal.fill_index-extra-requires
unfolding ascii
fill_index-extra-requires c = search filling

pub city_json-least-requires : goal.city_json-least-requires
unfolding ascii
city_json-least-requires c = search filling

pub returns : goal.returns
unfolding ascii
returns c = record { gives = gives c.city_json-least.ensures; indexed_at = search filling }
