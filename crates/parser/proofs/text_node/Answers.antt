use Rattle.std.proofs.lemmas.Result.{err_from_is_err_and}
use Rattle.parser.proofs.Nodes.{text-scalar, atom-bad, atom-read}
use Rattle.parser.proofs.text_node.Goals as goal

pub returns-in_err-end : goal.returns-in_err-end
returns-in_err-end c =
    let p = err_from_is_err_and c.from_residual.result c.from_residual.ensures.1 in
    rw (p.1, p.2) (atom-bad c.args.text.now c.args.at _ _ _ _ (text-scalar c.requires.0 c.in_err-end.ensures))

pub returns : goal.returns
returns c = atom-read c.args.text.now c.args.at (text-scalar c.requires.0 c.in_ok-end.ensures) c.put_node.ensures
