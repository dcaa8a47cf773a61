use Rattle.records.proofs.Rules.{whole}
use Rattle.records.proofs.objects.Goals as goal

pub loop-k-init : goal.loop-k-init
loop-k-init c = search whole

pub object-o-requires-clause-member_node : goal.object-o-requires-clause-member_node
object-o-requires-clause-member_node c = (search whole, search whole)

pub object-o-requires-clause-row_at : goal.object-o-requires-clause-row_at
object-o-requires-clause-row_at c = (search whole, search whole)

pub loop-k-preserved : goal.loop-k-preserved
loop-k-preserved c = search whole

pub returns : goal.returns
returns c = search whole
