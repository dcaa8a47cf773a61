use Rattle.std.proofs.Common.{◌∙◌}
use Rattle.std.proofs.lemmas.Result.{err_from_is_err_and}
use Rattle.json_text.proofs.Parts.{escape-u}
use Rattle.json_text.proofs.Rules.{lexes}
use Rattle.json_text.proofs.escape.Goals as goal

pub returns-in_err-b : goal.returns-in_err-b
returns-in_err-b c = let p = err_from_is_err_and c.from_residual.result c.from_residual.ensures.1 in rw (p.1, p.2) (search (lexes, c.in_err-b.ensures))

pub returns-then-b-eq117 : goal.returns-then-b-eq117
returns-then-b-eq117 c = let h = c.in_ok-b.ensures in escape-u h.0 (h.1 ∙ c.if-b-eq117.true) c.hex4.ensures

pub returns-then-is_escape : goal.returns-then-is_escape
returns-then-is_escape c = search (lexes, c.in_ok-b.ensures)

pub returns : goal.returns
returns c = search (lexes, c.in_ok-b.ensures)
