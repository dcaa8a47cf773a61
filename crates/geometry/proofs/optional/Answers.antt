use Rattle.geometry.proofs.Lines.{member-node, optional-none, optional-some}
use Rattle.geometry.proofs.optional.Goals as goal

pub check-requires : goal.check-requires
check-requires g c = c.requires.callable _ _ (member-node c.member.ensures c.requires.node c.in-Some.is)

pub returns-in-Some : goal.returns-in-Some
returns-in-Some g c = λ f m.
    optional-some _ c.member.ensures f c.in-Some.is (m _ _ _ (member-node c.member.ensures c.requires.node c.in-Some.is) c.check.ensures)

pub returns-in-None : goal.returns-in-None
returns-in-None g c = λ f m. optional-none _ c.member.ensures f c.in-None.is
