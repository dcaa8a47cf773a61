use Rattle.std.proofs.Common.{[]}
use Rattle.utf8.specs.Ascii.{ascii}
use Rattle.rules.specs.Schema.{three_pairs}
use Rattle.geometry.proofs.Lines.{line-object, line-then, line-none, together}
use Rattle.schema.proofs.Types.{numbers}
use Rattle.schema.proofs.Orders.{transform-is, transform_parts}
use Rattle.schema.proofs.transform_at.Goals as goal

pub returns : goal.returns
unfolding ascii transform_parts together
returns c =
    transform-is
    (line-object _ c.object-a.ensures
    (line-then _ (c.required-b.ensures three_pairs (λ k b r d p. search numbers))
    (line-then [] (c.required.ensures three_pairs (λ k b r d p. search numbers)) line-none)))
