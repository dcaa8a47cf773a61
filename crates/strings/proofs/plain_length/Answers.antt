-- A backslash, another byte, and the end.
use Rattle.strings.proofs.Rules.{copies}
use Rattle.strings.proofs.plain_length.Goals as goal

pub returns-then-not-has_escape : goal.returns-then-not-has_escape
returns-then-not-has_escape c = search copies

pub loop-k-init : goal.loop-k-init
loop-k-init c = search copies

pub returns-then-escape : goal.returns-then-escape
returns-then-escape c = search copies

pub loop-k-preserved : goal.loop-k-preserved
loop-k-preserved c = search copies

pub returns : goal.returns
returns c = search copies
