-- The turns of the search.
use Rattle.strings.proofs.Rules.{finds}
use Rattle.strings.proofs.first_unpaired.Goals as goal

pub loop-i-preserved-then-text-i-ne92 : goal.loop-i-preserved-then-text-i-ne92
loop-i-preserved-then-text-i-ne92 c = search finds

pub returns-in_err-escape_at : goal.returns-in_err-escape_at
returns-in_err-escape_at c = search finds

pub loop-i-preserved-in-Short : goal.loop-i-preserved-in-Short
loop-i-preserved-in-Short c = search finds

pub returns : goal.returns
returns c = search finds

pub returns-then-is_surrogate : goal.returns-then-is_surrogate
returns-then-is_surrogate c = search finds

pub loop-i-smaller : goal.loop-i-smaller
loop-i-smaller c = search finds

pub loop-i-preserved : goal.loop-i-preserved
loop-i-preserved c = search finds
