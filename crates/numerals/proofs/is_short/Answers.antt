-- The digits follow a minus sign, or are all.
use Rattle.std.proofs.Common.{rules, arith, ap, subst, ◌∙◌, ◌-◌, false, take, drop, length-drop}
use Rattle.std.proofs.lemmas.List.{take_rest}
use Rattle.numerals.specs.Reading.{Short, quick_of}
use Rattle.numerals.proofs.Bytes.{slice-of}
use Rattle.numerals.proofs.Short.{short-long, short-empty, short-minus, short-plus, some-digits}
use Rattle.numerals.proofs.is_short.Goals as goal

pub returns-then-raw-gt9 : goal.returns-then-raw-gt9
returns-then-raw-gt9 c = subst (λ t. Short t false) (slice-of _ _ _ c.requires.0) (short-long _ c.if-raw-gt9.true)

pub returns-in-empty : goal.returns-in-empty
returns-in-empty c = subst (λ t. Short t false) (slice-of _ _ _ c.requires.0) (short-empty _ c.in-empty.len_below)

pub returns-in-45 : goal.returns-in-45
returns-in-45 c =
    let x = take (c.args.end - c.args.at) (drop c.args.at c.args.text.now) in
    let e = c.is_some.ensures ∙ some-digits (drop 1 x) (omega (arith, length-drop 1 x, c.if-raw-gt9.false)) (c.digits.ensures ∙ ap quick_of (take_rest x 1)) in
    subst (λ t. Short t c.is_some.result) (slice-of _ _ _ c.requires.0) (short-minus x c.if-raw-gt9.false c.in-45.len_at_least (search rules) e)

pub returns-in_default : goal.returns-in_default
returns-in_default c =
    let x = take (c.args.end - c.args.at) (drop c.args.at c.args.text.now) in
    let e = c.is_some-in_default.ensures ∙ some-digits x (omega (arith, c.if-raw-gt9.false)) c.digits-in_default.ensures in
    subst (λ t. Short t c.is_some-in_default.result) (slice-of _ _ _ c.requires.0) (short-plus x c.if-raw-gt9.false c.in_default.len_at_least (search rules) e)
