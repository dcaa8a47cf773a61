-- A sum less another.
use Rattle.numerals.proofs.Powers.{powers}
use Rattle.numerals.proofs.ten_power.Goals as goal

pub returns-then-exponent : goal.returns-then-exponent
returns-then-exponent c = search powers

pub returns-else-exponent : goal.returns-else-exponent
returns-else-exponent c = search powers
