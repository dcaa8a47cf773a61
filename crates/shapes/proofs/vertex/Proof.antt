-- `shapes::vertex` meets its contract.
use Rattle.std.proofs.lemmas.Bool.{not_from_false, not_from_true}
use Rattle.shapes.proofs.Parts.{clears-best, vertex-no, vertex-is}
use Rattle.shapes.proofs.Rules.{shapes}
use Rattle.shapes.proofs.vertex.Statement.{statement}
use Rattle.shapes.proofs.vertex.Tie as tie

returns : tie.Need-returns-then-is_plain_vertex
returns c = clears-best _ _ c.is_plain_vertex.ensures c.if-is_plain_vertex.true

returns-2 : tie.Need-returns-then-not-is_triple
returns-2 c = vertex-no _ c.is_triple.ensures (not_from_false _ c.if-not-is_triple.true) c.unless.ensures

returns-3 : tie.Need-returns
returns-3 c = vertex-is _ c.is_triple.ensures (not_from_true _ c.if-not-is_triple.false) c.coordinates.ensures

pub vertex_spec : {M : Type 1} → statement M
vertex_spec = tie.close (tie.spec (λ c κs. search shapes) returns (λ c κs. search shapes) (λ c κs. search shapes) returns-2 (λ c κs. search shapes) returns-3)
