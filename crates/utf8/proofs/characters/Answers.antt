-- The character at this place, or none.
use Rattle.std.proofs.Common.{arith, refl, sym, ◌∙◌}
use Rattle.utf8.proofs.Arms.{found-some, found-none}
use Rattle.utf8.proofs.Places.{inside, starts, goes_on, stops, ends}
use Rattle.utf8.proofs.characters.Goals as goal

pub loop-i-init : goal.loop-i-init
loop-i-init c = starts _ _ c.requires.at_in_bounds

pub returns-in_default : goal.returns-in_default
returns-in_default c = stops c.loop-i.invariant _ _ refl (found-none (sym c.in_default.is ∙ c.character.ensures))

pub overflow_add-i : goal.overflow_add-i
overflow_add-i c =
    let h = found-some _ (sym c.in-Some.is ∙ c.character.ensures) in
    omega (arith, inside c.args.text.now c.loop-i.i c.in-Some.n (omega (arith, c.loop-i-test.true, c.requires.end_in_bounds)) h.0)

pub loop-i-smaller : goal.loop-i-smaller
loop-i-smaller c =
    let h = found-some _ (sym c.in-Some.is ∙ c.character.ensures) in
    omega (arith, h.1, c.loop-i-test.true, c.requires.end_in_bounds)

pub loop-i-preserved : goal.loop-i-preserved
loop-i-preserved c =
    let h = found-some _ (sym c.in-Some.is ∙ c.character.ensures) in
    goes_on c.loop-i.invariant _ _ c.loop-i-test.true c.requires.end_in_bounds h.0 (omega (arith, h.1))

pub returns : goal.returns
returns c = ends c.loop-i.invariant _ c.loop-i-test.false
