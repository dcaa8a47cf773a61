use Rattle.std.proofs.Common.{◌-◌}
use Rattle.model.specs.Model.{lay_values}
use Rattle.model.specs.Read.{value_of, nest_of}
use Rattle.arrays.specs.Fits.{Value, Leaves}
use Rattle.arrays.specs.Laws.{Laying}
use Rattle.arrays.proofs.+values.Given as goal

abbrev pub decreases-values : goal.decreases-values
decreases-values l = l.depth

abbrev pub invariant-loop-k : goal.invariant-loop-k
invariant-loop-k l =
    Laying (Leaves Value (l.depth - 1)) (λ w. lay_values (l.depth - 1) (nest_of value_of (l.depth - 1) w)) l.text l.table l.i l.k-iterator
    l.initial.sheet l.sheet l.at l.o
