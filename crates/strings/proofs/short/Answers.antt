-- What an escape of two bytes stands for.
use Rattle.strings.proofs.Rules.{strings}
use Rattle.strings.proofs.short.Goals as goal

pub returns-in-98 : goal.returns-in-98
returns-in-98 c = search strings

pub returns-in-102 : goal.returns-in-102
returns-in-102 c = search strings

pub returns-in-110 : goal.returns-in-110
returns-in-110 c = search strings

pub returns-in-114 : goal.returns-in-114
returns-in-114 c = search strings

pub returns-in-116 : goal.returns-in-116
returns-in-116 c = search strings

pub returns-in_default : goal.returns-in_default
returns-in_default c = search strings
