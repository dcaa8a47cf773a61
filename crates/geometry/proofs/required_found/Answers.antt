use Rattle.geometry.proofs.Lines.{required-none, required-some}
use Rattle.geometry.proofs.required_found.Goals as goal

pub returns-in-Some : goal.returns-in-Some
returns-in-Some g c = λ name f s m. required-some name s f c.need-a.ensures c.in-Some.is (m _ _ _ c.in-Some.is c.check.ensures)

pub returns-in-None : goal.returns-in-None
returns-in-None g c = λ name f s m. required-none name s f c.need-a.ensures c.in-None.is
