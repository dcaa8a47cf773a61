use Rattle.model.specs.Code.{signed}
use Rattle.model.specs.Read.{integer_of}
use Rattle.arrays.specs.Fits.{Coordinate}
use Rattle.arrays.specs.Laws.{Laying}
use Rattle.arrays.proofs.vertex.Given as goal

abbrev pub invariant-loop-k : goal.invariant-loop-k
invariant-loop-k l = Laying Coordinate (λ w. signed 4 (integer_of w)) l.text l.table l.i l.k-iterator l.initial.sheet l.sheet l.at l.o
