use Rattle.std.proofs.Common.{sym, ◌∙◌}
use Rattle.std.proofs.lemmas.Result.{err_from_is_err_and}
use Rattle.parser.proofs.Nodes.{name_out, name-wrong, name-break, named}
use Rattle.parser.proofs.Rules.{walks}
use Rattle.parser.proofs.member_name.Goals as goal

pub returns-then-is_type : goal.returns-then-is_type
returns-then-is_type c = search walks

pub returns-in_err-byte : goal.returns-in_err-byte
returns-in_err-byte c =
    let p = err_from_is_err_and c.from_residual.result c.from_residual.ensures.1 in
    let h = c.in_err-byte.ensures in
    rw (p.1, p.2) (name_out c.name_start-i.ensures _ _ _ h.0 h.1)

pub returns-then-branch-ne34 : goal.returns-then-branch-ne34
returns-then-branch-ne34 c =
    let h = c.in_ok-byte.ensures in
    name-wrong c.name_start-i.ensures _ _ _ h.0 (λ e. c.if-branch-ne34.true (sym h.1 ∙ e))

pub returns-in_err-e : goal.returns-in_err-e
returns-in_err-e c =
    let p = err_from_is_err_and c.from_residual-in_err-e.result c.from_residual-in_err-e.ensures.1 in
    let h = c.in_ok-byte.ensures in
    rw (p.1, p.2) (name-break c.name_start-i.ensures h.0 (h.1 ∙ c.if-branch-ne34.false) _ _ _ c.in_err-e.ensures)

pub returns : goal.returns
returns c =
    let h = c.in_ok-byte.ensures in
    named c.name_start-i.ensures h.0 (h.1 ∙ c.if-branch-ne34.false) c.in_ok-e.ensures _ _ _ _ c.put_node-2.ensures c.colon.ensures
