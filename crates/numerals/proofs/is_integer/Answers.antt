-- No byte is a point or the letter.
use Rattle.std.proofs.Common.{rules, tests, not, ◌&&◌, eqb, ◌∙◌, ap, take, drop, ◌-◌}
use Rattle.std.proofs.lemmas.Iterator.{YieldsList-from_slice}
use Rattle.std.proofs.lemmas.Iterator.Search.{all_from_yields_List}
use Rattle.numerals.specs.Numerals.{is_letter, is_integer}
use Rattle.numerals.proofs.Bytes.{all-plain, slice-of}
use Rattle.numerals.proofs.is_integer.Goals as goal

pub returns : goal.returns
returns c =
    let raw = take (c.args.end - c.args.at) (drop c.args.at c.args.text.now) in
    let h =
    all_from_yields_List {all = raw} (λ b. not (eqb b 46) && not (is_letter b)) _ _ _ c.all.ensures.ran (YieldsList-from_slice _ c.iter.ensures.rest)
    (λ x b q k. (search (rules, tests), search (rules, tests))) in
    h ∙ all-plain _ ∙ ap is_integer (slice-of _ _ _ c.requires.0)
