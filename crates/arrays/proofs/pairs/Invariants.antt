use Rattle.model.specs.Model.{lay_decimal}
use Rattle.model.specs.Read.{decimal_of}
use Rattle.arrays.specs.Fits.{Pair}
use Rattle.arrays.specs.Laws.{Laying}
use Rattle.arrays.proofs.pairs.Given as goal

abbrev pub invariant-loop-k : goal.invariant-loop-k
invariant-loop-k l = Laying Pair (λ w. lay_decimal (decimal_of w)) l.text l.table l.i l.k-iterator l.initial.sheet l.sheet l.at l.o
