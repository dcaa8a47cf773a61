use Rattle.std.proofs.Common.{arith}
use Rattle.std.proofs.lemmas.Result.{err_from_is_err_and}
use Rattle.parser.proofs.Growth.{told-read, parse-long, parse-short, parse-stops, parse-trailing, parse-whole}
use Rattle.parser.proofs.parse.Goals as goal

pub returns-then-text-gt65535 : goal.returns-then-text-gt65535
returns-then-text-gt65535 c = parse-long c.args.text.now _ (omega arith)

pub returns-then-table-text : goal.returns-then-table-text
returns-then-table-text c = parse-short c.args.text.now c.args.table.now (omega arith) (omega arith)

pub returns-in_err-taken : goal.returns-in_err-taken
returns-in_err-taken c =
    let p = err_from_is_err_and c.from_residual.result c.from_residual.ensures.1 in
    rw (p.1, p.2) (parse-stops c.args.text.now c.args.table.now (omega arith) (omega arith) _ _ c.in_err-taken.ensures)

pub skip_blanks-j-requires : goal.skip_blanks-j-requires
skip_blanks-j-requires c = let v = told-read c.in_ok-taken.ensures in v.inside

pub returns-then-j-text : goal.returns-then-j-text
returns-then-j-text c =
    parse-trailing c.args.text.now c.args.table.now (omega arith) (omega arith) _ c.in_ok-taken.taken c.in_ok-taken.ensures c.skip_blanks-j.result c.skip_blanks-j.ensures c.if-j-text.true

pub returns : goal.returns
returns c = parse-whole c.args.text.now c.args.table.now (omega arith) (omega arith) _ c.in_ok-taken.taken c.in_ok-taken.ensures c.skip_blanks-j.result c.skip_blanks-j.ensures c.if-j-text.false
