use Rattle.rules.specs.Schema as schema
use Rattle.geometry.proofs.Lines.{lines, checked}
use Rattle.geometry.proofs.surfaces_at.Goals as goal

pub returns : goal.returns
unfolding schema.surfaces
returns c = c.array_of.ensures schema.surface (λ k b r d p. search (lines, checked))
