use Rattle.std.proofs.Common.{[]}
use Rattle.utf8.specs.Ascii.{ascii}
use Rattle.rules.specs.Schema.{city_objects, vertices}
use Rattle.geometry.proofs.Lines.{lines, line-then, line-none, found-node, member-node}
use Rattle.schema.proofs.Filling.{extra-at}
use Rattle.schema.proofs.Types.{numbers}
use Rattle.schema.proofs.Orders.{town-is}
use Rattle.schema.proofs.town.Goals as goal

pub required_found-a-requires-clause-callable : goal.required_found-a-requires-clause-callable
required_found-a-requires-clause-callable c = λ k b e. search (lines, found-node c.requires.0 e, extra-at c.requires.1 e)

pub required_found-requires-clause-callable : goal.required_found-requires-clause-callable
required_found-requires-clause-callable c = λ k b e. search (lines, member-node c.member-points.ensures c.requires.0.node e)

pub returns : goal.returns
unfolding ascii
returns c =
    town-is c.member-points.ensures c.count_found-count.ensures
    (line-then _ (c.required_found-a.ensures (ascii "CityObjects") (city_objects c.count_found-count.result) c.requires.0.seeks (λ k b r e p. search lines))
    (line-then [] (c.required_found.ensures (ascii "vertices") vertices c.member-points.ensures (λ k b r e p. search numbers)) line-none))
