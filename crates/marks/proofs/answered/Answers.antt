use Rattle.std.proofs.Common.{◌∙◌, rules, tests}
use Rattle.std.proofs.lemmas.Iterator.{YieldsList-from_slice}
use Rattle.std.proofs.lemmas.Iterator.Search.{all_from_yields_List}
use Rattle.marks.specs.Marks as marks
use Rattle.marks.proofs.Numbers.{answered-all}
use Rattle.marks.proofs.answered.Goals as goal

-- the result is that of the test at each number of the row
pub returns : goal.returns
returns c =
    let g = c.args.set.now in
    let ns = c.args.numbers.now in
    all_from_yields_List (marks.answers g c.args.own) _ _ _ c.all.ensures.ran (YieldsList-from_slice ns cc) (λ x b q k. search (rules, tests)) ∙ answered-all g c.args.own ns
