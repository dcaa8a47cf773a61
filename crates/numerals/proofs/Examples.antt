-- Worked examples of numerals: those of rule 13 and its limits, and of values.
use Rattle.std.specs.Prelude.{◌≡◌, refl, pos, negsuc, nat_abs, true, false}
use Rattle.std.proofs.Common.{ap, arith}
use Rattle.std.proofs.Math.Option.{none, some}
use Rattle.utf8.specs.Ascii.{ascii}
use Rattle.numerals.specs.Numerals.{decimal, pair_of, is_integer, integer, fits32, is_below}
use Rattle.numerals.specs.Values.{as_written, SameValue}
use Rattle.numerals.proofs.Values.{by_value}

one-point-nought : pair_of (ascii "1.0") ≡ some (record { m = pos 1; e = pos 0 })
unfolding pair_of ascii
one-point-nought = refl

thousandth : pair_of (ascii "0.001") ≡ some (record { m = pos 1; e = negsuc 2 })
unfolding pair_of ascii
thousandth = refl

hundred-less : pair_of (ascii "-120.50E+1") ≡ some (record { m = negsuc 1204; e = pos 0 })
unfolding pair_of ascii
hundred-less = refl

nought-of-any-size : pair_of (ascii "0e999999999999") ≡ some (record { m = pos 0; e = pos 0 })
unfolding pair_of ascii
nought-of-any-size = refl

minus-nought : pair_of (ascii "-0.00") ≡ some (record { m = pos 0; e = pos 0 })
unfolding pair_of ascii
minus-nought = refl

ten-e-minus-23 : pair_of (ascii "10e-23") ≡ some (record { m = pos 1; e = negsuc 21 })
unfolding pair_of ascii
ten-e-minus-23 = refl

one-e-23 : pair_of (ascii "1e23") ≡ none
unfolding pair_of ascii
one-e-23 = refl

ten-to-15 : pair_of (ascii "1000000000000000") ≡ some (record { m = pos 1; e = pos 15 })
unfolding pair_of ascii
ten-to-15 = refl

sixteen-digits : pair_of (ascii "1000000000000001") ≡ none
unfolding pair_of ascii
sixteen-digits = refl

minus-nought-integer : integer (ascii "-0") ≡ pos 0
unfolding integer ascii
minus-nought-integer = refl

one-point-nought-integer : is_integer (ascii "1.0") ≡ false
unfolding is_integer ascii
one-point-nought-integer = refl

minus-nought-below : is_below 1 (integer (ascii "-0")) ≡ true
unfolding is_below integer ascii
minus-nought-below = refl

minus-one-below : is_below 1 (integer (ascii "-1")) ≡ false
unfolding is_below integer ascii
minus-one-below = refl

least-32 : fits32 (integer (ascii "-2147483648")) ≡ true
unfolding fits32 integer ascii
least-32 = refl

past-32 : fits32 (integer (ascii "2147483648")) ≡ false
unfolding fits32 integer ascii
past-32 = refl

-- ---- values

-- 150 times ten to the 0, and 1500 times ten to the -1
fraction-and-exponent : SameValue (as_written (ascii "1.50e2")) (as_written (ascii "150.0"))
unfolding as_written ascii
fraction-and-exponent = record { k = 1; i = 1; j = 0; left = refl; right = refl; same = refl }

-- zero has one value, with a sign and at any power
zeros : SameValue (as_written (ascii "-0.0")) (as_written (ascii "0e9"))
unfolding as_written ascii
zeros = record { k = 1; i = 0; j = 10; left = refl; right = refl; same = refl }

-- 1 and 10 have the same digits but for zeros, and not the same value
one-and-ten : SameValue (as_written (ascii "1")) (as_written (ascii "10")) → ⊥
unfolding decimal ascii
one-and-ten s = let e = ap (λ d. nat_abs d.e) ((by_value (ascii "1") (ascii "10")).1 s) in omega (arith, e)
