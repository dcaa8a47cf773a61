-- Integers in two's complement.
use Rattle.std.specs.Prelude.{◌≡◌, refl, suc, ◌+◌, ◌-◌, ◌^◌, ℤ, pos, negsuc}
use Rattle.std.proofs.Common.{ap, arith}
use Rattle.std.specs.Int.{w64, cast_unsigned}
use Rattle.writer.specs.Writes.{twos}

pub unsigned-twos : (z : ℤ) → cast_unsigned w64 z ≡ twos z
unfolding twos
unsigned-twos (pos n) = refl
unsigned-twos (negsuc n) = let e : suc n ≡ n + 1 = omega arith in ap (λ m. 2 ^ 64 - m) e
