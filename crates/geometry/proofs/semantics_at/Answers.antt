use Rattle.utf8.specs.Ascii.{ascii}
use Rattle.rules.specs.Schema as schema
use Rattle.geometry.proofs.Orders.{semantics-is}
use Rattle.geometry.proofs.Lines.{lines, over-is, member-node}
use Rattle.geometry.proofs.semantics_at.Goals as goal

pub required_found-b-requires-clause-callable : goal.required_found-b-requires-clause-callable
required_found-b-requires-clause-callable c = λ k b e. search (lines, member-node c.member-all.ensures c.requires.0 e)

pub returns : goal.returns
unfolding ascii
returns c =
    semantics-is _ c.member-all.ensures c.object-a.ensures
    (c.required_found-b.ensures (ascii "surfaces") schema.surfaces c.member-all.ensures (λ k b r e p. search lines))
    c.count_found-count.ensures
    (record {
      is = λ o f.
          let over = schema.values c.count_found-count.result c.args.outline.code in
          c.required.ensures (over o) (λ k b r d p. over-is {c = over} (search lines) o f);
    })
