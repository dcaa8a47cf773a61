-- A low surrogate, or what else stands there.
use Rattle.strings.proofs.Rules.{strings}
use Rattle.strings.proofs.low_at.Goals as goal

pub returns-then-end-at-lt6 : goal.returns-then-end-at-lt6
returns-then-end-at-lt6 c = search strings

pub returns-in-56320-to-57343 : goal.returns-in-56320-to-57343
returns-in-56320-to-57343 c = search strings

pub returns-in_default : goal.returns-in_default
returns-in_default c = search strings

pub returns-in_default-2 : goal.returns-in_default-2
returns-in_default-2 c = search strings
