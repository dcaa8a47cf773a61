-- The three words of the node of any part.
use Prim.Native.Nat.{ℕ, ◌+◌, ◌*◌, ◌^◌, ◌<◌}
use mathlib.Core.Path.{◌≡◌}
use mathlib.Core.List.{List}
use native.Mathlib.Omega.{arith}
use lib.ListN.{length, get_or}
use mir.Syntax.{w64}
use mir.Val.{Fits}
use Rattle.json_text.specs.Laws.{words}
use Rattle.everywhere.specs.Parts.{Part, part_place, part_end}
use Rattle.everywhere.specs.Says.{Stands, of-value, of-name, AnyPart}

pub record PartWords (x t : List ℕ) (i : ℕ) (d : Part) : Type 0 where
  pub room : i + 2 < length t
  pub start : get_or t i 0 ≡ part_place d
  pub end : get_or t (i + 1) 0 ≡ part_end d
  pub inside : get_or t i 0 < length x

module _ {x t : List ℕ} {i : ℕ} where
  pub part-words : {d : Part} → Stands x t i d → PartWords x t i d
  unfolding part_place part_end
  part-words (of-value s) = let w = words s in record { room = w.room; start = w.start; end = w.end; inside = omega (arith, w.start, w.some, w.inside) }
  part-words (of-name q) = let w = q.words in record { room = w.room; start = w.start; end = w.end; inside = omega (arith, w.start, w.some, w.inside) }

  pub any-first : AnyPart x t i → i < length t
  any-first a = omega (arith, (part-words a.stands).room)

  pub any-second : AnyPart x t i → i + 1 < length t
  any-second a = omega (arith, (part-words a.stands).room)

  pub any-third : AnyPart x t i → i + 2 < length t
  any-third a = (part-words a.stands).room

  pub any-onward : AnyPart x t i → length t * 4 < 2 ^ 63 → Fits w64 (i + 3)
  any-onward a h = record { fits = omega (arith, (part-words a.stands).room) }

  pub any-inside : {p : ℕ} → AnyPart x t i → p ≡ get_or t i 0 → p < length x
  any-inside a e = omega (arith, (part-words a.stands).inside)
