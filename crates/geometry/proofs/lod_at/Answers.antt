use Rattle.words.specs.Words.{is_lod}
use Rattle.rules.specs.Schema as schema
use Rattle.geometry.proofs.Strings.{strings}
use Rattle.geometry.proofs.lod_at.Goals as goal

pub returns : goal.returns
unfolding schema.lod
returns c = c.string_that.ensures is_lod (λ b p. search strings)
