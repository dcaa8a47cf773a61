-- What a bit that is read or set tells of the set.
use Rattle.std.proofs.Common.{ℕ, ◌+◌, ◌*◌, ◌/◌, ◌%◌, ◌^◌, ◌≤◌, ◌<◌, ◌≡◌, Bool, true, false, ◌&&◌, ◌||◌, List, length, get_or, set, length-set, refl, arith, eq-eqb, ne_eqb, eqb-true}
use Rattle.std.proofs.lemmas.Bool.{eqb-false}
use Rattle.std.specs.Prelude.{eqb}
use Rattle.std.specs.Int.Bits.{bit_or}
use Rattle.std.proofs.Math.Seq.{get_or-set_same, get_or-set_other}
use Rattle.grid.specs.Grid.{holds, with_pair, Puts}
use Rattle.grid.proofs.Bits.{set-is, set-read}

-- columns of one byte are the same exactly if their bits are
column-if : (d : Bool) (b column : ℕ) → b / 8 ≡ column / 8 → eqb (b % 8) (column % 8) ≡ d → eqb b column ≡ d
column-if true b column q e = eq-eqb b column (omega (arith, eqb-true (b % 8) (column % 8) e))
column-if false b column q e = ne_eqb b column (λ z. eqb-false (b % 8) (column % 8) e (rw z))

-- pairs of different bytes are different
apart_if : (d : Bool) (a b row column : ℕ) → (a * 128 + b / 8 ≡ row * 128 + column / 8 → ⊥) → eqb a row ≡ d → (d && eqb b column) ≡ false
apart_if true a b row column n e = ne_eqb b column (λ z. n (rw (z, eqb-true a row e)))
apart_if false a b row column n e = refl

-- the byte of the pair with its bit besides
module _ (g : List ℕ) (row column : ℕ) (c : column < 1024) (r : row * 128 + 128 ≤ length g) where
  at : ℕ
  at = row * 128 + column / 8

  byte : ℕ
  byte = bit_or (get_or g at 0) (1 * 2 ^ (column % 8) % 256)

  has-if : (d : Bool) (a b : ℕ) → eqb (a * 128 + b / 8) at ≡ d → b < 1024 → holds (set g at byte) a b ≡ ((eqb a row && eqb b column) || holds g a b)
  unfolding holds at byte
  has-if true a b d l =
      let z : a * 128 + b / 8 ≡ at = eqb-true _ _ d in
      let s : a ≡ row = omega arith in
      let t : b / 8 ≡ column / 8 = omega arith in
      rw (z, get_or-set_same g at byte 0 (omega arith), eq-eqb a row s, column-if (eqb (b % 8) (column % 8)) b column t refl)
      (set-read (get_or g at 0) (column % 8) (omega arith) (b % 8))
  has-if false a b d l =
      rw (get_or-set_other g at (a * 128 + b / 8) byte 0 (eqb-false _ _ d), apart_if (eqb a row) a b row column (eqb-false _ _ d) refl)

  pub puts-set : Puts g (set g (row * 128 + column / 8) (bit_or (get_or g (row * 128 + column / 8) 0) (1 * 2 ^ (column % 8) % 256))) row column
  unfolding with_pair at byte
  puts-set =
      record {
        is = rw (set-is (get_or g at 0) (column % 8) (omega arith));
        room = simp length-set;
        has = λ a b m l. has-if (eqb (a * 128 + b / 8) at) a b refl l;
      }
