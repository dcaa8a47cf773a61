use Rattle.trie.proofs.Rules.{steps, walks-child, walks-grown}
use Rattle.trie.proofs.step.Goals as goal

pub offset_bounds-trie-slot : goal.offset_bounds-trie-slot
offset_bounds-trie-slot c = search steps

pub bounds-trie-slot : goal.bounds-trie-slot
bounds-trie-slot c = search steps

pub returns-then-entry-ne0 : goal.returns-then-entry-ne0
returns-then-entry-ne0 c = walks-child c.in_ok-slot.ensures c.from-entry.ensures c.requires.0 c.requires.1 c.if-entry-ne0.true

pub grow-requires : goal.grow-requires
grow-requires c = search steps

pub returns : goal.returns
returns c = walks-grown c.in_ok-slot.ensures c.from-entry.ensures c.requires.0 (search steps) c.if-entry-ne0.false c.grow.ensures
