use Rattle.model.specs.Code.{signed}
use Rattle.model.specs.Model.{lay_three}
use Rattle.model.specs.Read.{integer_of, three_of}
use Rattle.arrays.specs.Fits.{Coordinate, Triple}
use Rattle.arrays.specs.Laws.{Laying}
use Rattle.arrays.proofs.vertices.Given as goal

abbrev pub invariant-loop-k : goal.invariant-loop-k
invariant-loop-k l =
    Laying (Triple Coordinate) (λ w. lay_three (signed 4) (three_of integer_of w)) l.text l.table l.i l.k-iterator l.initial.sheet l.sheet l.at l.o
