use Rattle.rows.proofs.Tables.{filling-turn}
use Rattle.rows.proofs.Rules.{filling}
use Rattle.rows.proofs.fill_rows.Goals as goal

pub loop-k-init : goal.loop-k-init
loop-k-init c = search filling

pub overflow_cast-rows : goal.overflow_cast-rows
overflow_cast-rows c = search filling

pub overflow_add-own : goal.overflow_add-own
overflow_add-own c = search filling

pub member-found-requires : goal.member-found-requires
member-found-requires c = search filling

pub fill_found-at-requires : goal.fill_found-at-requires
fill_found-at-requires c = search filling

-- the two calls' promises are given, since `search` breaks off on the way to them
pub loop-k-preserved : goal.loop-k-preserved
loop-k-preserved c = search (filling-turn, c.fill_found-at.ensures, c.member-found.ensures)

pub overflow_cast-rows-2 : goal.overflow_cast-rows-2
overflow_cast-rows-2 c = search filling

pub returns : goal.returns
returns c = search filling
