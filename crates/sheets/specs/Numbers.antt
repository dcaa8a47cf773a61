-- Numbers, boundaries and values in which rules 12 and 13 find no fault read as numbers in range and as nests of one shape.
use Rattle.std.specs.Prelude.{ℕ, zero, suc, ◌^◌, ◌≤◌, ◌<◌, ◌≡◌, refl, Bool, true, false, cond, ◌&&◌, ◌||◌, List, [], ◌∷◌, map, length, get_or, eqb, ltb, ℤ, pos, negsuc, nat_abs}
use Rattle.std.proofs.Common.{arith, sym, subst, ltb-true, leb-true, eqb-true}
use Rattle.std.proofs.Math.Option.{some}
use Rattle.std.proofs.Math.Option as option
use Rattle.std.specs.Int.Signed.{mag}
use Rattle.utf8.specs.Laws.{both_left, both_right, never}
use Rattle.numerals.specs.Numerals.{Decimal, decimal, in_range, pair_of, is_integer, integer, fits32, is_below, whole_of}
use Rattle.numerals.proofs.Laws.{whole}
use Rattle.json_text.specs.Tree.{Json, null, bool, num, str, arr, obj}
use Rattle.nodes.specs.Access.{is_null_value, is_number_value, is_array_value, elements, numeral_of}
use Rattle.shapes.specs.Checks.{unless, for_each, each_element, number_kind, array_kind, is_some}
use Rattle.shapes.specs.Shapes.{is_integer_value, all_integers, three_entries, pair_range, is_triple, coordinate, vertex, shaped, ranged, for_both, matches}
use Rattle.rules.specs.Schema.{three_pairs}
use Rattle.model.specs.Code.{All}
use Rattle.model.specs.Lists.{all_both, all_of_map}
use Rattle.model.specs.Good.{AllThree, Leaves, GoodDecimal, GoodVertex, GoodValue, Both, Shaped}
use Rattle.model.specs.Read.{maybe_decimal, zero_if_none, decimal_of, integer_of, natural, index_of, value_of, three_of, nest_of}
use Rattle.sheets.specs.Clear.{nil-left, nil-right, cond-left, kept, numeral-ok, clear, each-clear, both-good, each-good}

-- ---- integers

-- what the rules read of an integer is what the model reads
pub integer-read : (v : Json) → is_integer_value v ≡ true → integer_of v ≡ integer (numeral_of v)
unfolding is_integer_value integer_of decimal_of maybe_decimal zero_if_none
integer-read (null p e) h = cc
integer-read (bool p e b) h = cc
integer-read (num p e raw) h = whole raw h
integer-read (str p e raw) h = cc
integer-read (arr p e vs) h = cc
integer-read (obj p e ms) h = cc

-- an index in range
below : (n : ℕ) (z : ℤ) → is_below n z ≡ true → natural z < n
unfolding is_below natural
below n (pos k) h = ltb-true k n h
below n (negsuc k) h = absurd (never h refl)

-- the check of rule 13 at an integer
pub ranged_below : (n : ℕ) (v : Json) → is_integer_value v ≡ true → ranged n zero v ≡ [] → is_below n (integer (numeral_of v)) ≡ true
unfolding ranged is_integer_value
ranged_below n v h e = numeral-ok 13 (λ raw. is_below n (integer raw)) v (both_left (is_number_value v) _ h) e

-- so the index that is read is in range
index-good : (n : ℕ) (v : Json) → is_integer_value v ≡ true → ranged n zero v ≡ [] → index_of v < n
unfolding index_of
index-good n v h e = subst (λ z. natural z < n) (sym (integer-read v h)) (below n (integer (numeral_of v)) (ranged_below n v h e))

-- ---- boundaries and values

-- a boundary of d levels: each index is below n
pub boundary-good : (n d : ℕ) (v : Json) → shaped d v ≡ [] → ranged n d v ≡ [] → Leaves (λ i. i < n) d (nest_of index_of d v)
unfolding shaped ranged nest_of
boundary-good n zero v s e = index-good n v (kept (is_integer_value v) 12 v s) e
boundary-good n (suc d) v s e =
    both-good (shaped d) (ranged n d) (nest_of index_of d) (Leaves (λ i. i < n) d) (boundary-good n d) (elements v)
    (nil-right (unless (is_array_value v) 12 v) _ s) e

-- a value is null or below n
value-good : (n : ℕ) (v : Json) → (is_integer_value v || is_null_value v) ≡ true → ranged n zero v ≡ [] → GoodValue n (value_of v)
unfolding is_integer_value is_null_value value_of maybe_decimal index_of integer_of decimal_of zero_if_none
value-good n (null p e) h q = tt
value-good n (bool p e b) h q = tt
value-good n (num p e raw) h q = index-good n (num p e raw) (of (is_integer raw) h) q
  where
    of : (b : Bool) → (b || false) ≡ true → b ≡ true
    of true t = refl
    of false t = t
value-good n (str p e raw) h q = tt
value-good n (arr p e vs) h q = tt
value-good n (obj p e ms) h q = tt

-- what is asked of values in v levels over a boundary of d levels
abbrev GoodValues : ℕ → ℕ → ℕ → Json → Json → Type 0
GoodValues n d v b x = Shaped d v (nest_of index_of d b) (nest_of value_of v x) × Leaves (GoodValue n) v (nest_of value_of v x)

-- two lists of one length, by what holds of one level less
levels-good : (n d v : ℕ) → ((b x : Json) → matches v b x ≡ [] → ranged n v x ≡ [] → GoodValues n d v b x) → (bs xs : List Json) → length bs ≡ length xs
    → for_both (matches v) bs xs ≡ [] → for_each (ranged n v) xs ≡ []
    → Both (Shaped d v) (map (nest_of index_of d) bs) (map (nest_of value_of v) xs) × All (Leaves (GoodValue n) v) (map (nest_of value_of v) xs)
unfolding for_both for_each
levels-good n d v good [] [] l p r = (tt, tt)
levels-good n d v good [] (x ∷ xs) l p r = absurd (omega arith)
levels-good n d v good (b ∷ bs) [] l p r = absurd (omega arith)
levels-good n d v good (b ∷ bs) (x ∷ xs) l p r =
    let one = good b x (nil-left (matches v b x) _ p) (nil-left (ranged n v x) _ r) in
    let more = levels-good n d v good bs xs (omega arith) (nil-right (matches v b x) _ p) (nil-right (ranged n v x) _ r) in
    ((one.0, more.0), (one.1, more.1))

-- one level of values over one of a boundary: of its count
pub matches-clear : (d : ℕ) (b x : Json) → matches (suc d) b x ≡ []
    → (length (elements b) ≡ length (elements x)) × (for_both (matches d) (elements b) (elements x) ≡ [])
unfolding matches
matches-clear d b x m =
    let alike = is_array_value x && eqb (length (elements b)) (length (elements x)) in
    let t = kept alike 12 x (nil-left _ (cond alike (for_both (matches d) (elements b) (elements x)) []) m) in
    (eqb-true _ _ (both_right (is_array_value x) _ t), cond-left alike _ [] t (nil-right (unless alike 12 x) _ m))

-- values in v levels over a boundary of no fewer: of its counts, each null or below n
pub values-good : (n d v : ℕ) (b x : Json) → v ≤ d → matches v b x ≡ [] → ranged n v x ≡ [] → GoodValues n d v b x
unfolding matches ranged nest_of
values-good n d zero b x h m q = (tt, value-good n x (kept _ 12 x m) q)
values-good n zero (suc v) b x h m q = absurd (omega arith)
values-good n (suc d) (suc v) b x h m q =
    let (l, f) = matches-clear v b x m in
    levels-good n d v (λ c y. values-good n d v c y (omega arith)) (elements b) (elements x) l f q

-- ---- transforms and vertices

-- the first three of a list, null after its end
three-good : {A : Type 0} (read : Json → A) (P : A → Type 0) → P (read (null 0 0)) → (v : Json) → All P (map read (elements v)) → AllThree P (three_of read v)
unfolding three_of
three-good read P z v a = (of (elements v) 0 a, of (elements v) 1 a, of (elements v) 2 a)
  where
    of : (vs : List Json) (i : ℕ) → All P (map read vs) → P (read (get_or vs i (null 0 0)))
    of [] i b = z
    of (w ∷ ws) zero b = b.0
    of (w ∷ ws) (suc i) b = of ws i b.1

-- a pair in range
pub pair-good : (d : Decimal) → is_some (cond (in_range d) (some d) option.none) ≡ true → GoodDecimal d
unfolding is_some in_range
pair-good d e = of (in_range d) refl e
  where
    of : (b : Bool) → in_range d ≡ b → is_some (cond b (some d) option.none) ≡ true → GoodDecimal d
    of true q t = (ltb-true _ _ (both_left _ _ q), leb-true _ _ (both_right (ltb (nat_abs d.m) (10 ^ 15)) _ q))
    of false q t = absurd (never t refl)

-- zero is one
decimal-zero : GoodDecimal (record { m = pos 0; e = pos 0 })
decimal-zero = (omega arith, omega arith)

-- a transform number
decimal-good : (v : Json) → pair_range v ≡ [] → GoodDecimal (decimal_of v)
unfolding decimal_of maybe_decimal zero_if_none pair_range
decimal-good (null p e) h = decimal-zero
decimal-good (bool p e b) h = decimal-zero
decimal-good (num p e raw) h = pair-good (decimal raw) (numeral-ok 13 (λ r. is_some (pair_of r)) (num p e raw) refl h)
decimal-good (str p e raw) h = decimal-zero
decimal-good (arr p e vs) h = decimal-zero
decimal-good (obj p e ms) h = decimal-zero

-- the three pairs of `scale` or `translate`
abbrev pub GoodPairs : Json → Type 0
GoodPairs v = AllThree GoodDecimal (three_of decimal_of v)

-- they are in range
pub pairs-good : (v : Json) → three_pairs v ≡ [] → GoodPairs v
unfolding three_pairs decimal_of maybe_decimal zero_if_none
pairs-good v e =
    let c = clear (array_kind ∷ each_element number_kind ∷ three_entries ∷ each_element pair_range ∷ []) v e in
    three-good decimal_of GoodDecimal decimal-zero v (each-good pair_range decimal_of GoodDecimal decimal-good (elements v) c.1.1.1.0)

-- also where there is no value
pub pairs-null : GoodPairs (null 0 0)
unfolding three_of decimal_of maybe_decimal zero_if_none elements
pairs-null = (decimal-zero, decimal-zero, decimal-zero)

-- an integer of 32 signed bits
fits : (z : ℤ) → fits32 z ≡ true → mag z < 2 ^ 31
unfolding fits32
fits (pos n) e = ltb-true n (2 ^ 31) e
fits (negsuc n) e = ltb-true n (2 ^ 31) e

-- a coordinate
pub coordinate-clear : (v : Json) → is_integer_value v ≡ true → coordinate v ≡ [] → fits32 (integer (numeral_of v)) ≡ true
unfolding coordinate is_integer_value
coordinate-clear v h e = numeral-ok 13 (λ raw. fits32 (integer raw)) v (both_left (is_number_value v) _ h) e

coordinate-good : (v : Json) → is_integer_value v ≡ true → coordinate v ≡ [] → mag (integer_of v) < 2 ^ 31
coordinate-good v h e = subst (λ z. mag z < 2 ^ 31) (sym (integer-read v h)) (fits (integer (numeral_of v)) (coordinate-clear v h e))

-- several integers
integers : (vs : List Json) → all_integers vs ≡ true → All (λ v. is_integer_value v ≡ true) vs
unfolding all_integers
integers [] h = tt
integers (v ∷ vs) h = (both_left (is_integer_value v) _ h, integers vs (both_right (is_integer_value v) _ h))

-- a vertex: three integers, whose range is checked
pub vertex-clear : (v : Json) → vertex v ≡ []
    → (length (elements v) ≡ 3) × All (λ w. is_integer_value w ≡ true) (elements v) × (for_each coordinate (elements v) ≡ [])
unfolding vertex is_triple each_element
vertex-clear v e = of (is_triple v) refl e
  where
    of : (b : Bool) → is_triple v ≡ b → cond b (each_element coordinate v) (unless false 12 v) ≡ []
        → (length (elements v) ≡ 3) × All (λ w. is_integer_value w ≡ true) (elements v) × (for_each coordinate (elements v) ≡ [])
    of true q d = (
      eqb-true _ _ (both_right (is_array_value v) _ (both_left _ (all_integers (elements v)) q)),
      integers (elements v) (both_right (is_array_value v && eqb (length (elements v)) 3) _ q),
      d,
    )
    of false q d = absurd (never (kept false 12 v d) refl)

pub vertex-good : (v : Json) → vertex v ≡ [] → GoodVertex (three_of integer_of v)
unfolding integer_of decimal_of maybe_decimal zero_if_none whole_of
vertex-good v e =
    let (l, i, c) = vertex-clear v e in
    three-good integer_of (λ z. mag z < 2 ^ 31) (omega arith) v
    (all_of_map (λ z. mag z < 2 ^ 31) integer_of (elements v)
    (all_both (λ w. is_integer_value w ≡ true) (λ w. coordinate w ≡ []) (λ w. mag (integer_of w) < 2 ^ 31) coordinate-good (elements v) i
    (each-clear coordinate (elements v) c)))
