use Rattle.trie.proofs.Rules.{values}
use Rattle.trie.proofs.put.Goals as goal

pub returns : goal.returns
returns c = search values
