-- Powers of ten: differences that are within 22 of 0.
use Prim.Native.Nat.{ℕ, zero, suc, ◌+◌, ◌-◌, ◌≤◌, ◌<◌}
use native.Mathlib.Omega.{arith}
use mathlib.Core.Path.{◌≡◌, refl, sym, ap, ◌∙◌, subst}
use Rattle.std.proofs.Common.{add_comm, Option, Some, None}
use mathlib.Core.Bool.{Bool, true, false, cond}
use lib.Dec.{ltb}
use lib.IntN.{ℤ, pos, negsuc, neg_ℤ, sub_ℕ, ◌+ℤ◌, ◌-ℤ◌, +ℤ_assoc, neg_ℤ-+ℤ}
use mir.Syntax.{w64}
use mir.Val.{to_z, of_z}
use mir.Facts.{to_z-of_z}
use borrow.Author.Tests.{lt-ltb, le-ltb, ltb-true, ltb-false}
use borrow.Author.Rules.{rules}
use Rattle.numerals.specs.Numerals.{signed}
use Rattle.numerals.specs.Reading.{Reaches, power_of}
use Rattle.std.specs.Int.{abs_diff}
use Rattle.numerals.proofs.Laws.{nat_abs-signed}
use Rattle.numerals.proofs.Wholes.{signed-fits}

-- ---- a difference

sub-up : (a b : ℕ) → b ≤ a → sub_ℕ a b ≡ pos (a - b)
sub-up a b h = ap (λ t. cond t (negsuc (b - suc a)) (pos (a - b))) (le-ltb a b h)

sub-down : (a b : ℕ) → a < b → sub_ℕ a b ≡ negsuc (b - suc a)
sub-down a b h = ap (λ t. cond t (negsuc (b - suc a)) (pos (a - b))) (lt-ltb a b h)

module _ (a b : ℕ) where
  pub beyond-up : b ≤ a → 22 < a - b → Reaches (sub_ℕ a b) None
  unfolding Reaches
  beyond-up h l = rw (sub-up a b h) l

  pub beyond-down : a < b → 22 < b - a → Reaches (sub_ℕ a b) None
  unfolding Reaches
  beyond-down h l = rw (sub-down a b h) (omega arith)

  -- by the distance of a from b, with the sign by which the code asks
  pub beyond : {d : ℕ} → d ≡ abs_diff a b → 22 < d → Reaches (sub_ℕ a b) None
  beyond {d} q l = by-test (ltb a b) refl
    where
      by-test : (t : Bool) → ltb a b ≡ t → Reaches (sub_ℕ a b) None
      by-test true e = beyond-down (ltb-true a b e) (omega (arith, ltb-true a b e))
      by-test false e = beyond-up (ltb-false a b e) (omega (arith, ltb-false a b e))

  distance : (d : ℕ) → d ≡ abs_diff a b → signed (ltb a b) d ≡ sub_ℕ a b
  unfolding signed
  distance d q = by-test (ltb a b) refl
    where
      by-test : (t : Bool) → ltb a b ≡ t → signed t d ≡ sub_ℕ a b
      by-test true e =
          let n : d ≡ suc (b - suc a) = omega (arith, ltb-true a b e) in
          ap (signed true) n ∙ sym (sub-down a b (ltb-true a b e))
      by-test false e =
          let n : d ≡ a - b = omega (arith, ltb-false a b e) in
          ap (signed false) n ∙ sym (sub-up a b (ltb-false a b e))

  pub ranged : {d : ℕ} {z : ℤ} → d ≡ abs_diff a b → d ≤ 22 → z ≡ signed (ltb a b) d → Reaches (sub_ℕ a b) (Some (to_z w64 (of_z w64 z)))
  unfolding Reaches
  ranged {d} {z} q l e =
      let w = distance d q in
      (rw e (to_z-of_z (signed-fits (ltb a b) d (omega arith)) ∙ w), rw (← w) (rw (nat_abs-signed (ltb a b) d) l))

-- ---- the power of a pair is a difference

less : (a b : ℕ) → pos a -ℤ pos b ≡ sub_ℕ a b
less a zero = let e : a + 0 ≡ a - 0 = omega arith in ap pos e ∙ sym (sub-up a 0 (omega arith))
less a (suc b) = refl

pub power-up : (z p n : ℕ) → power_of z p false n ≡ sub_ℕ (z + n) p
unfolding power_of signed
power-up z p n = sym (+ℤ_assoc (pos z) (pos n) (neg_ℤ (pos p))) ∙ less (z + n) p

pub power-down : (z p n : ℕ) → power_of z p true n ≡ sub_ℕ z (n + p)
unfolding power_of signed
power-down z p n = ap (λ t. pos z +ℤ t) (sym (neg_ℤ-+ℤ (pos n) (pos p))) ∙ less z (n + p)

module _ (z p n : ℕ) {neg : Bool} (r : Option ℤ) where
  pub down-gap : neg ≡ true → Reaches (sub_ℕ z (p + n)) r → Reaches (power_of z p neg n) r
  down-gap e g = subst (λ t. Reaches t r) (ap (sub_ℕ z) (add_comm p n) ∙ sym (power-down z p n) ∙ ap (λ t. power_of z p t n) (sym e)) g

  pub up-gap : neg ≡ false → Reaches (sub_ℕ (z + n) p) r → Reaches (power_of z p neg n) r
  up-gap e g = subst (λ t. Reaches t r) (sym (power-up z p n) ∙ ap (λ t. power_of z p t n) (sym e)) g

pub ruleset powers = (rules, beyond, ranged, down-gap, up-gap)
