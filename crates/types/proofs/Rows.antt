-- The table of permitted geometries.
use Prim.Native.Nat.{ℕ, ◌/◌, ◌^◌, ◌≤◌, ◌<◌}
use native.Mathlib.Omega.{arith}
use mathlib.Core.Path.{◌≡◌, refl, sym, ◌∙◌}
use mathlib.Core.Bool.{Bool, true, false, cond, ◌&&◌}
use mathlib.Core.List.{List, [], ◌∷◌}
use lib.ListN.{get_or}
use lib.Bits.{bit_and}
use lib.Dec.{eqb, ltb}
use borrow.Author.Tests.{ne_eqb, ltb-true, le-ltb}
use Rattle.words.specs.Words.{Row, permitted_rows, permitted_in, is_permitted, has, object_codes}
use Rattle.utf8.specs.Laws.{both_left, both_right}
use Rattle.words.specs.Tables.{bit_at, tabled}
use Rattle.utf8.specs.Finite.{all_from, each_below, agree, agree-equal}

-- are all of some numbers below m?
unfoldable under : ℕ → List ℕ → Bool
under m [] = true
under m (d ∷ ds) = ltb d m && under m ds

has-past : (m c : ℕ) (ds : List ℕ) → under m ds ≡ true → m ≤ c → has ds c ≡ false
unfolding under has
has-past m c [] e h = refl
has-past m c (d ∷ ds) e h =
    let l : d < m = ltb-true d m (both_left (ltb d m) _ e) in
    rw (ne_eqb d c (λ z. omega arith), has-past m c ds (both_right (ltb d m) _ e) h)

-- do the rows name only objects below 34, and only geometries below 8?
unfoldable bounded : List Row → Bool
unfolding under
bounded [] = true
bounded (r ∷ rs) = under 34 (object_codes r.objects) && under 8 r.geometries && bounded rs

rows-bounded : bounded permitted_rows ≡ true
unfolding bounded permitted_rows object_codes
rows-bounded = refl

under-if : (b : Bool) (s t : List ℕ) → under 8 s ≡ true → under 8 t ≡ true → under 8 (cond b s t) ≡ true
under-if true s t p q = p
under-if false s t p q = q

module _ (object : ℕ) where
  geometries-under : (rs : List Row) → bounded rs ≡ true → under 8 (permitted_in rs object) ≡ true
  unfolding permitted_in bounded under
  geometries-under [] e = refl
  geometries-under (r ∷ rs) e =
      under-if (has (object_codes r.objects) object) r.geometries (permitted_in rs object)
      (both_right (under 34 (object_codes r.objects)) _ (both_left (under 34 (object_codes r.objects) && under 8 r.geometries) _ e))
      (geometries-under rs (both_right (under 34 (object_codes r.objects) && under 8 r.geometries) _ e))

  others : (rs : List Row) → bounded rs ≡ true → 34 ≤ object → permitted_in rs object ≡ permitted_in [] object
  unfolding permitted_in bounded
  others [] e h = refl
  others (r ∷ rs) e h =
      rw (has-past 34 object (object_codes r.objects) (both_left _ _ (both_left (under 34 (object_codes r.objects) && under 8 r.geometries) _ e)) h)
      (others rs (both_right (under 34 (object_codes r.objects) && under 8 r.geometries) _ e) h)

  module _ (code : ℕ) where
    -- no geometry has a code past 7
    pub permitted-past : 8 ≤ code → ltb code 8 ≡ is_permitted object code
    unfolding is_permitted
    permitted-past h = le-ltb code 8 h ∙ sym (has-past 8 code _ (geometries-under permitted_rows rows-bounded) h)

    -- an object that is not in the rows may have each geometry
    pub permitted-other : 34 ≤ object → code < 8 → ltb 0 code ≡ is_permitted object code
    unfolding is_permitted permitted_in has
    permitted-other h l = rw (others permitted_rows rows-bounded h) (agree-equal _ _ (each_below (λ c. agree (ltb 0 c) (has (permitted_in [] object) c)) 8 code refl l))

-- a table has the rule's answers
pub permitted-at : (rows : List ℕ) (object code : ℕ) → tabled rows ≡ true → object < 34 → code < 8 → eqb (bit_and (get_or rows object 0 / 2 ^ code) 1) 1 ≡ is_permitted object code
unfolding tabled bit_at
permitted-at rows object code e h l =
    agree-equal _ _ (each_below (λ c. agree (bit_at rows object c) (is_permitted object c)) 8 code (each_below (λ o. all_from (λ c. agree (bit_at rows o c) (is_permitted o c)) 0 8) 34 object e h) l)
