-- What the length and the first byte of a string tell of `looks_second_level`.
use Prim.Native.Nat.{ℕ, ◌-◌, ◌≤◌, ◌<◌}
use mathlib.Core.Path.{◌≡◌}
use mathlib.Core.Bool.{true, false}
use mathlib.Core.List.{List}
use lib.ListN.{get_or}
use lib.Dec.{leb}
use borrow.Author.Tests.{ne_eqb, le-leb, lt-leb}
use Rattle.words.specs.Tables.{looks_second_level}

module _ (x : List ℕ) (at end : ℕ) where
  pub looks-short : end - at < 10 → leb 10 (end - at) ≡ looks_second_level x at end
  unfolding looks_second_level
  looks-short h = rw (lt-leb 10 (end - at) h)

  module _ (h : 10 ≤ end - at) where
    pub looks-b : get_or x at 0 ≡ 66 → true ≡ looks_second_level x at end
    unfolding looks_second_level
    looks-b e = rw (le-leb 10 (end - at) h, e)

    pub looks-t : get_or x at 0 ≡ 84 → true ≡ looks_second_level x at end
    unfolding looks_second_level
    looks-t e = rw (le-leb 10 (end - at) h, e)

    pub looks-escape : get_or x at 0 ≡ 92 → true ≡ looks_second_level x at end
    unfolding looks_second_level
    looks-escape e = rw (le-leb 10 (end - at) h, e)

    pub looks-other : (get_or x at 0 ≡ 66 → ⊥) → (get_or x at 0 ≡ 84 → ⊥) → (get_or x at 0 ≡ 92 → ⊥) → false ≡ looks_second_level x at end
    unfolding looks_second_level
    looks-other p q r = rw (le-leb 10 (end - at) h, ne_eqb (get_or x at 0) 66 p, ne_eqb (get_or x at 0) 84 q, ne_eqb (get_or x at 0) 92 r)
