-- Two decoders' bytes are compared one by one.
use Rattle.std.proofs.Common.{ap, ◌∙◌}
use Rattle.std.proofs.lemmas.Iterator.Consumers.{YieldsList-from_first}
use Rattle.strings.specs.Ahead.{ahead}
use Rattle.compare.proofs.Loops.{same_items}
use Rattle.compare.proofs.same_decoded.Goals as goal

pub returns : goal.returns
returns c =
    same_items _ _ c.eq.ensures.ran (YieldsList-from_first (λ x. x) ahead _ c.new.ensures.bytes)
    (λ it e. YieldsList-from_first (λ x. x) ahead _ (ap ahead e ∙ c.new-2.ensures.bytes))
