use Rattle.arrays.specs.Laws.{Laying}
use Rattle.geometry_records.specs.Fits.{GeometryFits}
use Rattle.geometry_records.specs.Bytes.{geometry_bytes}
use Rattle.geometry_records.proofs.each_geometry.Given as goal

abbrev pub invariant-loop-k : goal.invariant-loop-k
invariant-loop-k l = Laying GeometryFits geometry_bytes l.text l.table l.i l.k-iterator l.initial.sheet l.sheet l.at l.o
