use Rattle.rules.specs.Schema.{city_object}
use Rattle.schema.proofs.Filling.{PassingNames}
use Rattle.schema.proofs.city_objects_at.Given as goal

abbrev pub invariant-loop-k : goal.invariant-loop-k
invariant-loop-k l = PassingNames (city_object l.vertices) l.text l.table l.i l.initial.least l.k-iterator l.least
