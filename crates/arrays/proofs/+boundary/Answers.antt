use Rattle.std.proofs.Common.{arith, refl}
use Rattle.arrays.proofs.Nodes.{nest-leaf, nesting-item, nesting-index, nesting-fits, nesting-turn, nesting-done}
use Rattle.arrays.proofs.Rules.{arrays}
use Rattle.arrays.proofs.+boundary.Goals as goal
use Rattle.arrays.proofs.+boundary.Goals.{then-depth-eq1, else-depth-eq1}

pub index-requires : goal.index-requires
index-requires t c = search arrays

pub returns-then-depth-eq0 : goal.returns-then-depth-eq0
returns-then-depth-eq0 t c = search nest-leaf

pub loop-k-init : goal.loop-k-init
loop-k-init t c = search arrays

pub index-o-requires : goal.index-o-requires
index-o-requires t c = nesting-index _ c.loop-k.invariant c.in-Some.ensures.steps c.if-depth-eq1.true

pub boundary-o-requires : goal.boundary-o-requires
boundary-o-requires t c = (omega arith, nesting-item _ c.loop-k.invariant c.in-Some.ensures.steps)

pub overflow_add-count : goal.overflow_add-count
overflow_add-count t c = nesting-fits _ c.loop-k.invariant c.in-Some.ensures.steps (omega arith)

pub loop-k-preserved : goal.loop-k-preserved
loop-k-preserved t c =
    nesting-turn _ c.loop-k.invariant c.in-Some.ensures.steps
    (elim c.if-depth-eq1.branch [
      | then-depth-eq1 w ↦ rw (w.o-is, w.sheet-is) (nest-leaf _ (omega (arith, w.if-depth-eq1.true)) w.index-o.ensures refl)
      | else-depth-eq1 w ↦ rw (w.o-is, w.sheet-is) w.boundary-o.ensures
    ])

pub returns : goal.returns
returns t c = nesting-done _ c.loop-k.invariant c.in-None.ensures.steps.0 c.put4.ensures.writes refl
