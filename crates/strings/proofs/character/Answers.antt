-- A unit alone, or a pair.
use Rattle.strings.proofs.Rules.{strings}
use Rattle.strings.proofs.character.Goals as goal

pub returns-then-u-lt55296 : goal.returns-then-u-lt55296
returns-then-u-lt55296 c = search strings

pub pair-requires : goal.pair-requires
pair-requires c = search strings

pub returns-in-Some : goal.returns-in-Some
returns-in-Some c = search strings

pub returns-in-None : goal.returns-in-None
returns-in-None c = search strings
