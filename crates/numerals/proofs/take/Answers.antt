-- A point, another byte, a zero and another digit.
use Rattle.std.proofs.Common.{◌+◌, ap, sym, ◌∙◌}
use Rattle.numerals.proofs.Bytes.{digit-value, digit-none, flag-value}
use Rattle.numerals.proofs.Sums.{take-point, take-other, take-zero, take-digit, value-small}
use Rattle.numerals.proofs.take.Goals as goal

pub returns-then-b-eq46 : goal.returns-then-b-eq46
returns-then-b-eq46 c = take-point _ c.requires c.if-b-eq46.true

pub append-requires : goal.append-requires
append-requires c =
    let h = digit-value _ _ _ (sym c.in-Some.is ∙ c.digit.ensures) in
    (c.requires.m, c.requires.zeros, value-small _ _ h.0 h.1)

pub returns-in-None : goal.returns-in-None
returns-in-None c = take-other _ c.requires c.if-b-eq46.false (digit-none _ _ (sym c.in-None.is ∙ c.digit.ensures))

pub returns-in-Some-eq0 : goal.returns-in-Some-eq0
returns-in-Some-eq0 c =
    let h = digit-value _ _ _ (sym c.in-Some-eq0.is ∙ c.digit.ensures) in
    take-zero _ c.requires h.0 (sym c.in-Some-eq0.field-0-test ∙ h.1) (ap (λ n. c.args.s.places + n) (c.from.ensures ∙ flag-value _))

pub returns-in-Some : goal.returns-in-Some
returns-in-Some c =
    let h = digit-value _ _ _ (sym c.in-Some.is ∙ c.digit.ensures) in
    take-digit _ c.requires c.in-Some.d-test.1 h.0 h.1 (ap (λ n. c.args.s.places + n) (c.from.ensures ∙ flag-value _)) c.append.ensures
