-- The escape, by its second byte and what is left of the string.
use Rattle.strings.proofs.Rules.{strings}
use Rattle.strings.proofs.escape_at.Goals as goal

pub returns-then-end-at-lt2 : goal.returns-then-end-at-lt2
returns-then-end-at-lt2 c = search strings

pub returns-then-b-ne117 : goal.returns-then-b-ne117
returns-then-b-ne117 c = search strings

pub returns-then-end-at-lt6 : goal.returns-then-end-at-lt6
returns-then-end-at-lt6 c = search strings

pub returns : goal.returns
returns c = search strings
