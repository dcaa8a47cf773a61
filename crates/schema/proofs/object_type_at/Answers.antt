use Rattle.schema.proofs.Types.{typed, type-added, type-wrong}
use Rattle.schema.proofs.object_type_at.Goals.{then-is_added, else-is_added}
use Rattle.schema.proofs.object_type_at.Goals as goal

pub returns-then-not-is_string : goal.returns-then-not-is_string
returns-then-not-is_string c = search typed

pub is_added-requires : goal.is_added-requires
is_added-requires c = search typed

pub returns-then-code-ne0 : goal.returns-then-code-ne0
returns-then-code-ne0 c = search typed

pub returns : goal.returns
returns c = elim c.if-is_added.branch [
  | then-is_added w ↦
      type-added _ c.is_string.ensures (search typed) c.requires c.if-code-ne0.false c.is_added.ensures w.if-is_added.true (rw w.rule-is at c.unless.ensures)
  | else-is_added w ↦
      type-wrong _ c.is_string.ensures (search typed) c.requires c.if-code-ne0.false c.is_added.ensures w.if-is_added.false (rw w.rule-is at c.unless.ensures)
]
