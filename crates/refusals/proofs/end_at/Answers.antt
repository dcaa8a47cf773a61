-- A node's two words are in the table, and the first that begins at the place has the end.
use native.Mathlib.Omega.{arith}
use Rattle.refusals.proofs.Ends.{seek-room, seek-on, seek-none, seeks}
use Rattle.refusals.proofs.end_at.Goals as goal

pub loop-i-init : goal.loop-i-init
loop-i-init c = search seeks

pub offset_bounds-table-i : goal.offset_bounds-table-i
offset_bounds-table-i c = omega (arith, seek-room c.loop-i.invariant c.loop-i-test.true)

pub bounds-table-i : goal.bounds-table-i
bounds-table-i c = omega (arith, seek-room c.loop-i.invariant c.loop-i-test.true)

pub offset_bounds-table-i-then-table-i : goal.offset_bounds-table-i-then-table-i
offset_bounds-table-i-then-table-i c = omega (arith, seek-room c.loop-i.invariant c.loop-i-test.true)

pub bounds-table-i-then-table-i : goal.bounds-table-i-then-table-i
bounds-table-i-then-table-i c = omega (arith, seek-room c.loop-i.invariant c.loop-i-test.true)

pub returns-then-table-i : goal.returns-then-table-i
returns-then-table-i c = search seeks

pub loop-i-preserved : goal.loop-i-preserved
loop-i-preserved c = search seeks

pub returns : goal.returns
returns c = search seeks

pub returns-else-table-i : goal.returns-else-table-i
returns-else-table-i c = seek-none (seek-on c.loop-i.invariant c.loop-i-test.true c.if-table-i.false) (omega arith)
