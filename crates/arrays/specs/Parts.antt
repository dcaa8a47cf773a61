-- The bytes of numbers and of nested arrays, level by level.
use Rattle.std.specs.Prelude.{ℕ, zero, suc, ◌^◌, ◌<◌, ◌≡◌, refl, Bool, true, false, cond, List, [], ◌∷◌, ◌++◌, map, length, get_or, ℤ, pos, negsuc}
use Rattle.std.proofs.Common.{arith, sym, ap, ◌∙◌, append_assoc, append-nil, ltb-true}
use Rattle.std.proofs.Math.Option.{some}
use Rattle.std.proofs.Math.Option as option
use Rattle.std.proofs.lemmas.List.{length-map}
use Rattle.shapes.specs.Checks.{is_some}
use Rattle.utf8.specs.Laws.{never}
use Rattle.numerals.specs.Numerals.{decimal, in_range, pair_of, integer, fits32, is_below, digits, natural, negative}
use Rattle.numerals.specs.Numerals as numerals
use Rattle.numerals.specs.Reading.{saturated}
use Rattle.json_text.specs.Tree.{Json, null, bool, num, str, arr, obj}
use Rattle.nodes.specs.Access.{is_null_value, is_number_value, elements, numeral_of}
use Rattle.utf8.specs.Bytes.{le}
use Rattle.model.specs.Code.{concat_map, Holds}
use Rattle.model.specs.Good.{GoodDecimal}
use Rattle.model.specs.Model.{lay_three, lay_nest, lay_values}
use Rattle.model.specs.Read.{maybe_decimal, zero_if_none, decimal_of, integer_of, index_of, value_of, three_of, nest_of}
use Rattle.model.specs.Read as read
use Rattle.sheets.specs.Numbers.{integer-read, pair-good}
use Rattle.arrays.specs.Fits.{Pair, Coordinate, Index}

-- reading and writing each element is one pass
pub each_map : {A B : Type 0} (enc : B → List ℕ) (f : A → B) (l : List A) → concat_map enc (map f l) ≡ concat_map (λ a. enc (f a)) l
unfolding concat_map
each_map enc f [] = refl
each_map enc f (a ∷ l) = ap (λ r. enc (f a) ++ r) (each_map enc f l)

-- three elements are written one after the other
pub three-each : {A : Type 0} (enc : A → List ℕ) (read : Json → A) (v : Json) → length (elements v) ≡ 3
    → concat_map (λ w. enc (read w)) (elements v) ≡ lay_three enc (three_of read v)
unfolding lay_three three_of concat_map
three-each enc read v h = go (elements v) h
  where
    go : (l : List Json) → length l ≡ 3
        → concat_map (λ w. enc (read w)) l ≡ enc (read (get_or l 0 (null 0 0))) ++ enc (read (get_or l 1 (null 0 0))) ++ enc (read (get_or l 2 (null 0 0)))
    go [] e = absurd (omega arith)
    go (a ∷ []) e = absurd (omega arith)
    go (a ∷ b ∷ []) e = absurd (omega arith)
    go (a ∷ b ∷ c ∷ []) e =
        ap (λ l. enc (read a) ++ (enc (read b) ++ l)) (append-nil (enc (read c)))
        ∙ sym (append_assoc (enc (read a)) (enc (read b)) (enc (read c)))
    go (a ∷ b ∷ c ∷ d ∷ l) e = absurd (omega arith)

-- an array of a boundary is its count and its elements
pub nest-parts : (d : ℕ) (v : Json)
    → lay_nest (suc d) (nest_of index_of (suc d) v) ≡ le 4 (length (elements v)) ++ concat_map (λ w. lay_nest d (nest_of index_of d w)) (elements v)
unfolding lay_nest nest_of
nest-parts d v = λ i. le 4 (length-map (elements v) (nest_of index_of d) i) ++ each_map (lay_nest d) (nest_of index_of d) (elements v) i

-- an array of values is its elements
pub values-parts : (d : ℕ) (v : Json) → lay_values (suc d) (nest_of value_of (suc d) v) ≡ concat_map (λ w. lay_values d (nest_of value_of d w)) (elements v)
unfolding lay_values nest_of
values-parts d v = each_map (lay_values d) (nest_of value_of d) (elements v)

-- ---- numbers

-- the pair of a transform number
pub pair_read : (v : Json) → Pair v → (pair_of (numeral_of v) ≡ some (decimal_of v)) × GoodDecimal (decimal_of v)
unfolding Pair is_number_value numeral_of decimal_of maybe_decimal zero_if_none pair_of
pair_read (null p e) h = absurd (never h.0 refl)
pair_read (bool p e b) h = absurd (never h.0 refl)
pair_read (num p e raw) h = of (in_range (decimal raw)) refl h.1
  where
    of : (b : Bool) → in_range (decimal raw) ≡ b → is_some (cond b (some (decimal raw)) option.none) ≡ true
        → (cond b (some (decimal raw)) option.none ≡ some (decimal raw)) × GoodDecimal (decimal raw)
    of true q g = (refl, pair-good (decimal raw) (rw q g))
    of false q g = absurd (never g refl)
pair_read (str p e raw) h = absurd (never h.0 refl)
pair_read (arr p e vs) h = absurd (never h.0 refl)
pair_read (obj p e ms) h = absurd (never h.0 refl)

-- an integer that is at least 0 is what its digits write
below-signed : (neg : Bool) (n : ℕ) → is_below (2 ^ 32) (numerals.signed neg n) ≡ true → (read.natural (numerals.signed neg n) ≡ n) × (n < 2 ^ 32)
unfolding is_below numerals.signed read.natural
below-signed true zero h = (refl, omega arith)
below-signed true (suc n) h = absurd (never h refl)
below-signed false n h = (refl, ltb-true n (2 ^ 32) h)

-- an index
pub index_read : (v : Json) → Index v → (index_of v ≡ saturated (numeral_of v)) × (index_of v < 2 ^ 32)
unfolding Index index_of integer saturated
index_read v h =
    let n = natural 0 (digits (numeral_of v)) in
    let (e, l) = below-signed (negative (numeral_of v)) n h.1 in
    let z : index_of v ≡ n = ap read.natural (integer-read v h.0) ∙ e in
    (omega (arith, z, l), omega (arith, z, l))

-- an integer of 32 signed bits
small-holds : (z : ℤ) → fits32 z ≡ true → Holds 4 z
unfolding fits32
small-holds (pos n) h = omega (arith, ltb-true n (2 ^ 31) h)
small-holds (negsuc n) h = omega (arith, ltb-true n (2 ^ 31) h)

-- a coordinate
pub coordinate-read : (v : Json) → Coordinate v → (integer_of v ≡ integer (numeral_of v)) × Holds 4 (integer_of v)
unfolding Coordinate
coordinate-read v h =
    let e = integer-read v h.0 in
    (e, rw e (small-holds (integer (numeral_of v)) h.1))

-- a semantic value
pub value-null : (v : Json) → is_null_value v ≡ true → value_of v ≡ option.none
unfolding is_null_value value_of maybe_decimal
value-null (null p e) h = refl
value-null (bool p e b) h = absurd (never h refl)
value-null (num p e raw) h = absurd (never h refl)
value-null (str p e raw) h = absurd (never h refl)
value-null (arr p e vs) h = absurd (never h refl)
value-null (obj p e ms) h = absurd (never h refl)

pub value-index : (v : Json) → is_number_value v ≡ true → value_of v ≡ some (index_of v)
unfolding is_number_value value_of maybe_decimal index_of integer_of decimal_of zero_if_none
value-index (null p e) h = absurd (never h refl)
value-index (bool p e b) h = absurd (never h refl)
value-index (num p e raw) h = refl
value-index (str p e raw) h = absurd (never h refl)
value-index (arr p e vs) h = absurd (never h refl)
value-index (obj p e ms) h = absurd (never h refl)
