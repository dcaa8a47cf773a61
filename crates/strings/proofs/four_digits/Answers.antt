-- Four digits make a number.
use Rattle.strings.proofs.Rules.{strings}
use Rattle.strings.proofs.four_digits.Goals as goal

pub returns : goal.returns
returns c = search strings
