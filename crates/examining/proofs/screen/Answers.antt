-- The text is too long, is not whole characters, or passes.
use Rattle.examining.proofs.Rules.{opens}
use Rattle.examining.proofs.screen.Goals as goal

pub returns-then-text-gt65535 : goal.returns-then-text-gt65535
returns-then-text-gt65535 c = search opens

pub returns-then-whole-text : goal.returns-then-whole-text
returns-then-whole-text c = search opens

pub returns : goal.returns
returns c = search opens
