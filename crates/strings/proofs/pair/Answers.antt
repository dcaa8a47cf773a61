-- A pair of surrogates names a character.
use Rattle.strings.proofs.Rules.{strings}
use Rattle.strings.proofs.pair.Goals as goal

pub returns : goal.returns
returns c = search strings
