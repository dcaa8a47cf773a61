use Rattle.std.proofs.Common.{◌∙◌, ◌<◌, ◌≤◌, arith}
use Rattle.std.proofs.lemmas.Result.{err_from_is_err_and}
use Rattle.json_text.proofs.Parts.{string-shut, string-break, string-escaped, string-bad, string-plain}
use Rattle.json_text.proofs.Rules.{lexes}
use Rattle.json_text.proofs.string.Goals as goal

pub loop-i-init : goal.loop-i-init
loop-i-init c = search lexes

pub returns-in_err-b : goal.returns-in_err-b
returns-in_err-b c = let p = err_from_is_err_and c.from_residual.result c.from_residual.ensures.1 in rw (p.1, p.2) (search (lexes, c.in_err-b.ensures))

pub returns-in-34 : goal.returns-in-34
returns-in-34 c = let h = c.in_ok-b.ensures in string-shut c.loop-i.invariant.1 h.0 (h.1 ∙ c.in-34.is)

pub returns-in_err-i-in-92 : goal.returns-in_err-i-in-92
returns-in_err-i-in-92 c =
    let p = err_from_is_err_and c.from_residual-in_err-i-in-92.result c.from_residual-in_err-i-in-92.ensures.1 in
    let h = c.in_ok-b.ensures in
    rw (p.1, p.2) (string-break c.loop-i.invariant.1 h.0 (h.1 ∙ c.in-92.is) c.in_err-i-in-92.ensures)

pub loop-i-preserved-in-92 : goal.loop-i-preserved-in-92
loop-i-preserved-in-92 c =
    let h = c.in_ok-b.ensures in
    let e = c.in_ok-i-in-92.ensures in
    (e.within.1, string-escaped c.loop-i.invariant.1 h.0 (h.1 ∙ c.in-92.is) e)

pub returns-in_default : goal.returns-in_default
returns-in_default c = let h = c.in_ok-b.ensures in string-bad c.loop-i.invariant.1 h.0 (let l : c.in_ok-b.b < 32 = c.if-is_control.ensures in omega arith)

pub loop-i-preserved : goal.loop-i-preserved
loop-i-preserved c =
    let h = c.in_ok-b.ensures in
    let l : 32 ≤ c.in_ok-b.b = c.if-is_control.ensures in
    (omega arith, string-plain c.loop-i.invariant.1 h.0 (λ e. omega arith) (λ e. omega arith) (omega arith))
