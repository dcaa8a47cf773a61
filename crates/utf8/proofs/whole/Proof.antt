-- `utf8::whole` meets its contract. The loop: the characters before this place are counted.
use Prim.Native.Nat.{◌-◌}
use lib.ListN.{length}
use Rattle.utf8.proofs.Places.{Reached}
use Rattle.utf8.proofs.Rules.{chars}
use Rattle.utf8.proofs.whole.Statement.{statement}
use Rattle.utf8.proofs.whole.Tie as tie

abbrev invariant-loop : tie.invariant-loop-at
invariant-loop text at₀ at = Reached text 0 at

abbrev decreases-loop : tie.decreases-loop-at
decreases-loop text at₀ at = length text - at

pub whole_spec : {M : Type 1} → statement M
whole_spec =
    tie.close
    (tie.spec
    invariant-loop
    decreases-loop
    (λ c. search chars)
    (λ c. search chars)
    (λ c κs. search chars)
    (λ c. search chars)
    (λ c. search chars)
    (λ c. search chars)
    (λ c. search chars)
    (λ c κs. search chars)
    (λ c. search chars))
