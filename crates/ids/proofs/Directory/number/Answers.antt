use Rattle.std.proofs.Common.{arith}
use Rattle.ids.proofs.Chains.{chains, trail-inside, trail-few}
use Rattle.ids.proofs.Directory.number.Goals as goal

pub loop-left-init : goal.loop-left-init
loop-left-init c = search chains

pub offset_bounds-self-k : goal.offset_bounds-self-k
offset_bounds-self-k c = record { fits = omega (arith, trail-few c.loop-left.invariant c.in-Some.is) }

pub bounds-self-k : goal.bounds-self-k
bounds-self-k c = trail-inside c.loop-left.invariant c.in-Some.is

pub same-requires : goal.same-requires
same-requires c = search chains

pub returns-then-same : goal.returns-then-same
returns-then-same c = search chains

pub offset_bounds-self-k-in-Some : goal.offset_bounds-self-k-in-Some
offset_bounds-self-k-in-Some c = record { fits = omega (arith, trail-few c.loop-left.invariant c.in-Some.is) }

pub bounds-self-k-in-Some : goal.bounds-self-k-in-Some
bounds-self-k-in-Some c = search chains

pub loop-left-preserved : goal.loop-left-preserved
loop-left-preserved c = search chains

pub loop-left-smaller : goal.loop-left-smaller
loop-left-smaller c = search chains

pub returns : goal.returns
returns c = search chains
