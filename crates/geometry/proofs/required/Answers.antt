use Rattle.geometry.proofs.Lines.{member-node}
use Rattle.geometry.proofs.required.Goals as goal

pub required_found-requires-clause-callable : goal.required_found-requires-clause-callable
required_found-requires-clause-callable g c = λ k b e. c.requires.callable k b (member-node c.member-found.ensures c.requires.node e)

pub returns : goal.returns
returns g c = λ f m.
    c.required_found.ensures _ f c.member-found.ensures (λ k b r e p. m k b r (member-node c.member-found.ensures c.requires.node e) p)
