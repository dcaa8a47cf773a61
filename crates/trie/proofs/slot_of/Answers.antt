use Rattle.trie.proofs.Rules.{seeks}
use Rattle.trie.proofs.slot_of.Goals as goal
use Rattle.trie.proofs.slot_of.Goals.{then-e-eq0-via-then-e-eq0, then-e-eq0-via-else-e-eq0+then-trie-e}

pub loop-init : goal.loop-init
loop-init c = search seeks

pub returns-then-e-eq0 : goal.returns-then-e-eq0
returns-then-e-eq0 c =
    elim c.then-e-eq0.branch [
      | then-e-eq0-via-then-e-eq0 w ↦ search seeks
      | then-e-eq0-via-else-e-eq0+then-trie-e w ↦ search seeks
    ]

pub loop-preserved : goal.loop-preserved
loop-preserved c = search seeks
