-- `shapes::is_plain_vertex` meets its contract.
use Rattle.std.proofs.lemmas.Bool.{not_from_true}
use Rattle.shapes.proofs.Triples.{plain-one, plain_second, plain-two, plain-third, plain-vertex}
use Rattle.shapes.proofs.Rules.{shapes}
use Rattle.shapes.proofs.is_plain_vertex.Statement.{statement}
use Rattle.shapes.proofs.is_plain_vertex.Tie as tie

is-small-requires-2 : tie.Need-is_small-requires-2
is-small-requires-2 c κs = plain_second (plain-one (search shapes) c.is_small.ensures (not_from_true _ c.if-not-is_small.false))

is-small-requires-3 : tie.Need-is_small-requires-3
is-small-requires-3 c κs =
    plain-third
    (plain-two
    (plain-one (search shapes) c.is_small.ensures (not_from_true _ c.if-not-is_small.false))
    c.is_small-2.ensures
    (not_from_true _ c.if-not-is_small-2.false))

returns-5 : tie.Need-returns
returns-5 c =
    plain-vertex
    (plain-two
    (plain-one (search shapes) c.is_small.ensures (not_from_true _ c.if-not-is_small.false))
    c.is_small-2.ensures
    (not_from_true _ c.if-not-is_small-2.false))
    c.is_small-3.ensures

pub is_plain_vertex_spec : {M : Type 1} → statement M
is_plain_vertex_spec =
    tie.close
    (tie.spec
    (λ c κs. search shapes)
    (λ c. search shapes)
    (λ c κs. search shapes)
    (λ c. search shapes)
    (λ c. search shapes)
    (λ c. search shapes)
    (λ c κs. search shapes)
    (λ c. search shapes)
    (λ c. search shapes)
    is-small-requires-2
    (λ c. search shapes)
    (λ c. search shapes)
    is-small-requires-3
    returns-5)
