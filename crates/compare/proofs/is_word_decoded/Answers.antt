-- The word's bytes and the decoder's are compared one by one.
use Rattle.std.proofs.Common.{ap, ◌∙◌}
use Rattle.std.proofs.lemmas.Iterator.{YieldsList-from_slice}
use Rattle.std.proofs.lemmas.Iterator.Consumers.{YieldsList-from_copied, YieldsList-from_first}
use Rattle.strings.specs.Ahead.{ahead}
use Rattle.compare.proofs.Loops.{same_items}
use Rattle.compare.proofs.is_word_decoded.Goals as goal

pub returns : goal.returns
returns c =
    same_items _ _ c.eq.ensures.ran (YieldsList-from_copied (YieldsList-from_slice c.args.word.now cc))
    (λ it e. YieldsList-from_first (λ x. x) ahead _ (ap ahead e ∙ c.new.ensures.bytes))
