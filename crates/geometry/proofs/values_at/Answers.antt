use Rattle.std.proofs.Common.{[], ◌∷◌}
use Rattle.rules.specs.Schema as schema
use Rattle.geometry.proofs.Lines.{line-array, line-then, line-none}
use Rattle.geometry.proofs.values_at.Goals as goal

pub returns : goal.returns
unfolding schema.values
returns c = record {
  is = λ o f.
      line-array (schema.over_boundary c.args.surfaces c.args.outline.code o ∷ []) c.array-a.ensures
      (line-then [] (c.over_outline.ensures.is o f) line-none);
}
