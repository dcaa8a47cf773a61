use Rattle.std.specs.Prelude.{◌++◌}
use Rattle.shapes.specs.Checks.{number_kind}
use Rattle.shapes.specs.Shapes.{pair_range}
use Rattle.shapes.specs.Laws.{Passing}
use Rattle.shapes.proofs.entries.Given as goal

abbrev pub invariant-loop-k : goal.invariant-loop-k
invariant-loop-k l = Passing (λ w. number_kind w ++ pair_range w) l.text l.table l.i l.best l.k-iterator l.least
