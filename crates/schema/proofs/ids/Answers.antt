use Rattle.shapes.specs.Checks.{string_kind}
use Rattle.rules.specs.Schema.{links}
use Rattle.geometry.proofs.Lines.{lines, checked}
use Rattle.schema.proofs.ids.Goals as goal

pub returns : goal.returns
unfolding links
returns c = c.array_of.ensures string_kind (λ k b r d p. search (lines, checked))
