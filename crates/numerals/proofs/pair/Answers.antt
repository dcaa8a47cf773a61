-- The mantissa is too large, or 0, or has a power that is in range or not.
use Rattle.std.proofs.Common.{rules, ap, subst, ◌∙◌}
use Rattle.std.proofs.lemmas.List.{take_rest}
use Rattle.numerals.specs.Numerals.{pair_of}
use Rattle.numerals.specs.Reading.{pair_in, IsWhole}
use Rattle.numerals.proofs.Bytes.{slice-of}
use Rattle.numerals.proofs.Pairs.{pair-large, next-high, m-fits, pair-zero, pair-beyond, pair-ranged}
use Rattle.numerals.proofs.pair.Goals as goal

pub returns-in_err-s : goal.returns-in_err-s
returns-in_err-s c = ap pair_in c.from_residual.ensures ∙ pair-large _ c.in_err-s.ensures ∙ ap pair_of (slice-of _ _ _ c.requires.0)

pub returns-then-s-eq0 : goal.returns-then-s-eq0
returns-then-s-eq0 c = pair-zero _ _ _ c.in_ok-s.ensures c.if-s-eq0.true ∙ ap pair_of (slice-of _ _ _ c.requires.0)

pub slice_bounds-integer_of-count : goal.slice_bounds-integer_of-count
slice_bounds-integer_of-count c = next-high _ _ _ c.in_ok-s.ensures

pub slice_bounds-integer_of-start : goal.slice_bounds-integer_of-start
slice_bounds-integer_of-start c = search (rules, next-high)

pub returns-in_err-e : goal.returns-in_err-e
returns-in_err-e c =
    let w = subst (λ t. IsWhole t c.integer_of.result) (take_rest _ c.in_ok-s.next) c.integer_of.ensures in
    ap pair_in c.from_residual-in_err-e.ensures
    ∙ pair-beyond _ _ _ c.in_ok-s.ensures c.if-s-eq0.false w c.in_err-e.ensures
    ∙ ap pair_of (slice-of _ _ _ c.requires.0)

pub with_sign-requires : goal.with_sign-requires
with_sign-requires c = m-fits _ _ _ c.in_ok-s.ensures

pub returns : goal.returns
returns c =
    let w = subst (λ t. IsWhole t c.integer_of.result) (take_rest _ c.in_ok-s.next) c.integer_of.ensures in
    pair-ranged _ _ _ c.in_ok-s.ensures c.if-s-eq0.false w _ c.in_ok-e.ensures c.is_negative.ensures c.with_sign.ensures
    ∙ ap pair_of (slice-of _ _ _ c.requires.0)
