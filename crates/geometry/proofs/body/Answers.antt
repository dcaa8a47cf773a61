use Rattle.utf8.specs.Ascii.{ascii}
use Rattle.rules.specs.Schema as schema
use Rattle.geometry.proofs.Orders.{body_is}
use Rattle.geometry.proofs.Lines.{lines, over-is, least-map}
use Rattle.geometry.proofs.body.Goals as goal

pub optional-requires-clause-callable : goal.optional-requires-clause-callable
optional-requires-clause-callable c = λ k b d. search (lines, c.boundary_fault-own.ensures.sound)

pub returns : goal.returns
unfolding ascii
returns c =
    body_is _ _ c.member-at.ensures c.need-a.ensures (search lines) c.boundary_fault-own.ensures
    (least-map _ _ c.map_or-b.ensures (λ f p. search lines))
    (record { is = λ o f. c.optional.ensures (schema.semantics c.args.code o) (λ k b r d p. over-is {c = schema.semantics c.args.code} (search lines) o f) })
