use Rattle.std.proofs.Common.{[]}
use Rattle.utf8.specs.Ascii.{ascii}
use Rattle.rules.specs.Schema.{surface_type}
use Rattle.geometry.proofs.Orders.{surface-is, surface_parts}
use Rattle.geometry.proofs.Lines.{lines, line-object, line-then, line-none, together}
use Rattle.geometry.proofs.surface.Goals as goal

pub returns : goal.returns
unfolding surface_parts together ascii
returns c = surface-is (line-object _ c.object-a.ensures (line-then [] (c.required.ensures surface_type (λ k b r d p. search lines)) line-none))
