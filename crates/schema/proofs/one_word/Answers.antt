use Rattle.utf8.specs.Utf8.{same}
use Rattle.rules.specs.Schema.{one_word}
use Rattle.geometry.proofs.Strings.{strings}
use Rattle.schema.proofs.one_word.Goals as goal

pub returns : goal.returns
unfolding one_word
returns c = c.string_that.ensures (same c.args.word.now) (λ b p. search strings)
