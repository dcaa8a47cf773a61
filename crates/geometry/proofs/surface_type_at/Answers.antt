use Rattle.rules.specs.Schema.{surface_type, is_surface_type}
use Rattle.geometry.proofs.Strings.{strings}
use Rattle.geometry.proofs.surface_type_at.Goals as goal

pub returns : goal.returns
unfolding surface_type
returns c = c.string_that.ensures is_surface_type (λ b p. search strings)
