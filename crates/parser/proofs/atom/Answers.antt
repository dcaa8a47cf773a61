use Rattle.std.proofs.lemmas.Result.{err_from_is_err_and}
use Rattle.parser.proofs.Nodes.{atom-fits, atom-bad, atom-read}
use Rattle.parser.proofs.atom.Goals as goal

pub returns-in_err-end : goal.returns-in_err-end
returns-in_err-end c =
    let p = err_from_is_err_and c.from_residual.result c.from_residual.ensures.1 in
    rw (p.1, p.2) (atom-bad c.args.text.now c.args.at _ _ _ _ c.in_err-end.ensures)

pub put_node-requires : goal.put_node-requires
put_node-requires c = atom-fits c.args.text.now c.args.at c.in_ok-end.ensures c.requires.1

pub returns : goal.returns
returns c = atom-read c.args.text.now c.args.at c.in_ok-end.ensures c.put_node.ensures
