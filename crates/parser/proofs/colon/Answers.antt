use Rattle.std.proofs.Common.{sym, ◌∙◌}
use Rattle.std.proofs.lemmas.Result.{err_from_is_err_and}
use Rattle.json_text.proofs.Rules.{got-some}
use Rattle.parser.proofs.Nodes.{colon-once, colon-out, colon-wrong, colon-there}
use Rattle.parser.proofs.colon.Goals as goal

pub returns-in-Some-eq58 : goal.returns-in-Some-eq58
returns-in-Some-eq58 c =
    let h = got-some c.args.text.now c.args.at c.get.ensures.lookup c.in-Some-eq58.is in
    colon-once c.args.text.now c.args.at h.0 (h.1 ∙ c.in-Some-eq58.field-0-test)

pub returns-in_err-byte : goal.returns-in_err-byte
returns-in_err-byte c =
    let p = err_from_is_err_and c.from_residual.result c.from_residual.ensures.1 in
    let h = c.in_err-byte.ensures in
    rw (p.1, p.2) (colon-out c.args.text.now c.args.at c.skip_blanks-i.ensures h.0 h.1)

pub returns-then-branch-ne58 : goal.returns-then-branch-ne58
returns-then-branch-ne58 c =
    let h = c.in_ok-byte.ensures in
    colon-wrong c.args.text.now c.args.at c.skip_blanks-i.ensures h.0 (λ e. c.if-branch-ne58.true (sym h.1 ∙ e))

pub returns : goal.returns
returns c =
    let h = c.in_ok-byte.ensures in
    colon-there c.args.text.now c.args.at c.skip_blanks-i.ensures h.0 (h.1 ∙ c.if-branch-ne58.false)
