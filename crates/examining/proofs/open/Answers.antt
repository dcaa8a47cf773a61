-- What the parser's answer stands for.
use Rattle.examining.proofs.Rules.{opens, open-tree}
use Rattle.examining.proofs.open.Goals as goal

pub returns-in_err-parse : goal.returns-in_err-parse
returns-in_err-parse c = search opens

pub returns : goal.returns
returns c = open-tree _ _ _ c.parse.ensures c.in_ok-parse.was
