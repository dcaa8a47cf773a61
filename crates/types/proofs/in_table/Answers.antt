-- A row, or none.
use Rattle.std.proofs.Common.{arith}
use Rattle.types.proofs.Rows.{permitted-at}
use Rattle.types.proofs.Rules.{types}
use Rattle.types.proofs.in_table.Goals as goal

pub returns-in-Some : goal.returns-in-Some
returns-in-Some c =
    let row = c.in-Some.ensures.lookup.3 in
    rw (row.1 0) (permitted-at c.args.rows.now c.args.object c.args.code c.requires.1 (omega (arith, row.0, c.requires.0)) c.requires.2)

pub returns-in-None : goal.returns-in-None
returns-in-None c = search types
