use Rattle.std.proofs.Common.{[], ◌∷◌}
use Rattle.utf8.specs.Ascii.{ascii}
use Rattle.rules.specs.Schema.{word, one_word, transform, vertices}
use Rattle.geometry.specs.Says.{required}
use Rattle.geometry.proofs.Lines.{lines, line-object, line-then, together}
use Rattle.schema.specs.Says.{objects}
use Rattle.schema.proofs.Orders.{root_is, root_parts}
use Rattle.schema.proofs.city_json.Goals as goal

pub returns : goal.returns
unfolding ascii word root_parts together
returns c =
    let rest = objects ∷ required (ascii "vertices") vertices ∷ [] in
    let after = required (ascii "transform") transform ∷ rest in
    let version = required (ascii "version") (word "2.0") ∷ after in
    root_is
    (line-object (required (ascii "type") (word "CityJSON") ∷ version) c.object-a.ensures
    (line-then version (c.required-b.ensures (one_word (ascii "CityJSON")) (λ k b r d p. search lines))
    (line-then after (c.required-c.ensures (one_word (ascii "2.0")) (λ k b r d p. search lines))
    (line-then rest (c.required-d.ensures transform (λ k b r d p. search lines)) c.town.ensures))))
