use Rattle.rules.specs.Schema as schema
use Rattle.geometry.proofs.Lines.{lines, checked}
use Rattle.geometry.proofs.geometries_at.Goals as goal

pub returns : goal.returns
unfolding schema.geometries
returns c = c.array_of.ensures (schema.geometry c.args.vertices c.args.object) (λ k b r d p. search (lines, checked))
