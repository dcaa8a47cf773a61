-- A bit that is set in a byte.
use Rattle.std.proofs.Common.{ℕ, ◌+◌, ◌*◌, ◌%◌, ◌^◌, ◌<◌, ◌≡◌, Bool, true, false, cond, ◌||◌, refl, ap, arith, eq-eqb, eqb-true, w8}
use Rattle.std.proofs.lemmas.Bool.{eqb-false}
use Rattle.std.specs.Prelude.{eqb}
use Rattle.std.specs.Int.{bit_at}
use Rattle.std.specs.Int.Bits.{bit_or, or_add_and}
use Rattle.std.proofs.lemmas.Nat.{one_shl}
use Rattle.std.proofs.lemmas.Nat.Bits.{and_pow, bit_at-lt, bit_at_set_same, bit_at_set_other}
use Rattle.grid.specs.Grid.{bit, with_bit}

module _ (w k : ℕ) (h : k < 8) where
  sum : bit_or w (1 * 2 ^ k % 256) + bit_at w k * 2 ^ k ≡ w + 2 ^ k
  sum = rw (one_shl k 8 h, ← and_pow w k) (or_add_and w (2 ^ k))

  set-if : (b : Bool) → eqb (bit_at w k) 1 ≡ b → bit_or w (1 * 2 ^ k % 256) ≡ cond b w (w + 2 ^ k)
  set-if true e = let z = eqb-true (bit_at w k) 1 e in let y = rw z at sum in omega (arith, y)
  set-if false e =
      let n = eqb-false (bit_at w k) 1 e in
      let z : bit_at w k ≡ 0 = omega (arith, bit_at-lt w k) in
      let y = rw z at sum in
      omega (arith, y)

  -- the byte has the bit besides
  pub set-is : bit_or w (1 * 2 ^ k % 256) ≡ with_bit w k
  unfolding bit with_bit
  set-is = set-if (eqb (bit_at w k) 1) refl

  read-if : (l : ℕ) (b : Bool) → eqb l k ≡ b → bit (bit_or w (1 * 2 ^ k % 256)) l ≡ (b || bit w l)
  unfolding bit
  read-if l true e = rw (eqb-true l k e) (eq-eqb _ _ (bit_at_set_same w8 w k h))
  read-if l false e = ap (λ n. eqb n 1) (bit_at_set_other w8 w k h l (eqb-false l k e))

  -- and the others as they were
  pub set-read : (l : ℕ) → bit (bit_or w (1 * 2 ^ k % 256)) l ≡ (eqb l k || bit w l)
  set-read l = read-if l (eqb l k) refl
