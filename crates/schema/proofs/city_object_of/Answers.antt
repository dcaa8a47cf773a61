use Rattle.std.proofs.Common.{[]}
use Rattle.utf8.specs.Ascii.{ascii}
use Rattle.shapes.specs.Checks.{object_kind}
use Rattle.rules.specs.Schema.{object_type, links, geometries}
use Rattle.geometry.proofs.Lines.{lines, checked, line-object, line-then, line-none, together}
use Rattle.geometry.proofs.Strings.{code_at}
use Rattle.schema.proofs.Orders.{city-object-is, object_parts}
use Rattle.schema.proofs.city_object_of.Goals as goal

pub required_found-b-requires-clause-callable : goal.required_found-b-requires-clause-callable
required_found-b-requires-clause-callable c = λ k b e. search (lines, code_at c.requires e)

pub returns : goal.returns
unfolding ascii object_parts together
returns c =
    city-object-is _ c.requires
    (line-object _ c.object-a.ensures
    (line-then _ (c.required_found-b.ensures (ascii "type") object_type c.requires.member.seeks (λ k b r e p. search lines))
    (line-then _ (c.optional-c.ensures object_kind (λ k b r d p. search (lines, checked)))
    (line-then _ (c.optional-d.ensures links (λ k b r d p. search lines))
    (line-then _ (c.optional-e.ensures links (λ k b r d p. search lines))
    (line-then [] (c.optional.ensures (geometries c.args.vertices c.args.code) (λ k b r d p. search lines)) line-none))))))
