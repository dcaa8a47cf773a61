use Rattle.arrays.specs.Laws.{Laying}
use Rattle.geometry_records.specs.Bytes.{surface_bytes}
use Rattle.geometry_records.proofs.Nodes.{Any}
use Rattle.geometry_records.proofs.surfaces.Given as goal

abbrev pub invariant-loop-k : goal.invariant-loop-k
invariant-loop-k l = Laying Any surface_bytes l.text l.table l.i l.k-iterator l.initial.sheet l.sheet l.at l.o
