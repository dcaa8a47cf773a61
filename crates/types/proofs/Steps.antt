-- What a decoder's bytes tell of the string: whether it begins with a plus sign, and whether it is a level of detail.
use Prim.Native.Nat.{ℕ}
use mathlib.Core.Path.{◌≡◌, sym, ◌∙◌}
use mathlib.Core.Bool.{Bool, true, false, ◌&&◌}
use mathlib.Core.List.{List, [], ◌∷◌}
use lib.ListN.{length}
use lib.Dec.{eqb, ltb}
use borrow.Author.Tests.{eq-eqb, ne_eqb}
use Rattle.utf8.specs.Ascii.{is_digit}
use Rattle.words.specs.Words.{is_added, is_added_name, is_lod}

-- digit, point, digit
module _ (a b c : ℕ) (r : Bool) (e : r ≡ is_digit a) where
  pub decimal-first : r ≡ false → false ≡ (is_digit a && eqb b 46 && is_digit c)
  decimal-first f = rw (← e, f)

  pub decimal-point : r ≡ true → (b ≡ 46 → ⊥) → false ≡ (is_digit a && eqb b 46 && is_digit c)
  decimal-point f n = rw (← e, f, ne_eqb b 46 n)

  pub decimal-all : (q : Bool) → q ≡ is_digit c → r ≡ true → b ≡ 46 → q ≡ (is_digit a && eqb b 46 && is_digit c)
  decimal-all q g f p = rw (← e, ← g, f, eq-eqb b 46 p)

-- the bytes d that a decoder hands out are those of the string l
module _ {l d : List ℕ} (e : d ≡ l) where
  pub added_none : d ≡ [] → false ≡ is_added l
  unfolding is_added
  added_none q = rw (← e, q)

  pub lod-empty : d ≡ [] → false ≡ is_lod l
  unfolding is_lod
  lod-empty q = rw (← e, q)

  -- the first byte
  module _ (a : ℕ) (m : List ℕ) (q : d ≡ a ∷ m) where
    pub added-plus : a ≡ 43 → true ≡ is_added l
    unfolding is_added
    added-plus p = rw (← e, q, eq-eqb a 43 p)

    pub added-other : (a ≡ 43 → ⊥) → false ≡ is_added l
    unfolding is_added
    added-other n = rw (← e, q, ne_eqb a 43 n)

    pub lod-alone : m ≡ [] → is_digit a ≡ is_lod l
    unfolding is_lod
    lod-alone q2 = rw (← e, q, q2)

    -- the second
    module _ (b : ℕ) (n : List ℕ) (q2 : m ≡ b ∷ n) where
      pub lod-short : n ≡ [] → false ≡ is_lod l
      unfolding is_lod
      lod-short q3 = rw (← e, q, q2, q3)

      -- the third
      module _ (c : ℕ) (o : List ℕ) (q3 : n ≡ c ∷ o) where
        third : l ≡ a ∷ b ∷ c ∷ o
        third = sym e ∙ (q ∙ rw (q2, q3))

        pub lod-three : (r : Bool) → r ≡ (is_digit a && eqb b 46 && is_digit c) → o ≡ [] → r ≡ is_lod l
        unfolding is_lod
        lod-three r f q4 = f ∙ rw (third, q4)

        pub lod-long : (g : ℕ) (p : List ℕ) → o ≡ g ∷ p → false ≡ is_lod l
        unfolding is_lod
        lod-long g p q4 = rw (third, q4)

        pub lod-no : (r : Bool) → r ≡ (is_digit a && eqb b 46 && is_digit c) → r ≡ false → r ≡ is_lod l
        unfolding is_lod
        lod-no r f n = by-rest o third
          where
            by-rest : (t : List ℕ) → l ≡ a ∷ b ∷ c ∷ t → r ≡ is_lod l
            by-rest [] z = f ∙ rw z
            by-rest (g ∷ t) z = n ∙ rw z

-- a plus sign and at least one more byte
module _ (l : List ℕ) (r : Bool) (e : r ≡ is_added l) where
  pub name-no-plus : r ≡ false → r ≡ is_added_name l
  unfolding is_added_name
  name-no-plus f = rw (← e, f)

  pub name-plus : (n : ℕ) → r ≡ true → n ≡ length l → ltb 1 n ≡ is_added_name l
  unfolding is_added_name
  name-plus n f q = rw (← e, f, q)
