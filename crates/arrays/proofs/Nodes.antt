-- Numbers and arrays at a node, from what the code's tests and callees say.
use Prim.Native.Nat.{ℕ, zero, suc, ◌+◌, ◌-◌, ◌*◌, ◌^◌, ◌≤◌, ◌<◌}
use native.Mathlib.Omega.{arith}
use mathlib.Core.Path.{◌≡◌, refl, sym, ap, ◌∙◌}
use Rattle.std.proofs.Common.{Some}
use mathlib.Core.Bool.{Bool, true, false}
use mathlib.Core.List.{List, ◌++◌}
use mathlib.Core.Logic.{inl}
use lib.ListN.{length, get_or}
use lib.Seq.{slice}
use lib.IntN.{ℤ, pos}
use mir.Syntax.{w64}
use mir.Val.{Fits, to_z, of_z}
use mir.Facts.{to_z-of_z}
use borrow.Author.Rules.{sfits_of}
use Rattle.utf8.specs.Laws.{clash}
use Rattle.numerals.specs.Numerals.{integer, fits32}
use Rattle.numerals.specs.Reading.{IsWhole, Quick}
use Rattle.numerals.specs.declared.Whole.{Whole}
use Rattle.json_text.specs.Tree.{Json}
use Rattle.json_text.specs.Table.{Sub}
use Rattle.nodes.specs.Access.{is_null_value, is_number_value, elements, numeral_of}
use Rattle.nodes.specs.Says.{Gives}
use Rattle.nodes.specs.Siblings.{StepsPast}
use Rattle.nodes.specs.Siblings as siblings
use Rattle.nodes.specs.declared.Siblings.{Siblings}
use Rattle.nodes.specs.Laws.{NumeralAt, numeral-at}
use Rattle.shapes.specs.Shapes.{or_fault, pair_or_fault}
use Rattle.shapes.specs.Says.{paired_as, GivesPair}
use Rattle.std.specs.Prelude.{Result, Ok, Err}
use Rattle.shapes.specs.Laws.{integer-number}
use Rattle.utf8.specs.Bytes.{le}
use Rattle.model.specs.Code.{signed, concat_map}
use Rattle.model.specs.Model.{lay_three, lay_decimal, lay_nest, lay_value, lay_values}
use Rattle.model.specs.Read.{natural, decimal_of, integer_of, index_of, value_of, three_of, nest_of}
use Rattle.model.proofs.Weigh.{decimal-fits}
use Rattle.sheets.specs.Numbers.{integer-read}
use Rattle.writer.specs.Writes.{Writes, Skips, twos}
use Rattle.writer.specs.Laws.{then, as_bytes, numbered, wrote-signed}
use Rattle.arrays.specs.Fits.{Pair, Coordinate, Index, Value, Elements, Triple, Leaves}
use Rattle.arrays.specs.Says.{Holds, Wrote}
use Rattle.arrays.specs.Laws.{Laying, laying-begin, laying-same, laying-item, laying-turn, laying-done, holds_as, wrote_as, wrote-told}
use Rattle.arrays.proofs.Counting.{Counting, counting-start, counting-fits, counting-turn, counting-done}
use Rattle.arrays.specs.Parts.{three-each, nest-parts, values-parts, pair_read, index_read, coordinate-read, value-null, value-index}

-- a number
unfoldable pub Number : Json → Type 0
Number v = is_number_value v ≡ true

-- a level less
leaves-suc : (P : Json → Type 0) (depth : ℕ) → (depth ≡ 0 → ⊥) → (v : Json) → Leaves P depth v → Elements (Leaves P (depth - 1)) v
unfolding Leaves
leaves-suc P zero h v l = absurd (h refl)
leaves-suc P (suc d) h v l = let e : suc d - 1 ≡ d = omega arith in rw e l

nest-suc : (depth : ℕ) → (depth ≡ 0 → ⊥) → (v : Json)
    → le 4 (length (elements v)) ++ concat_map (λ w. lay_nest (depth - 1) (nest_of index_of (depth - 1) w)) (elements v) ≡ lay_nest depth (nest_of index_of depth v)
nest-suc zero h v = absurd (h refl)
nest-suc (suc d) h v = let e : suc d - 1 ≡ d = omega arith in rw e (sym (nest-parts d v))

values-suc : (depth : ℕ) → (depth ≡ 0 → ⊥) → (v : Json) → concat_map (λ w. lay_values (depth - 1) (nest_of value_of (depth - 1) w)) (elements v) ≡ lay_values depth (nest_of value_of depth v)
values-suc zero h v = absurd (h refl)
values-suc (suc d) h v = let e : suc d - 1 ≡ d = omega arith in rw e (sym (values-parts d v))

module _ {x t : List ℕ} {i : ℕ} where
  pub coordinate-number : Holds Coordinate x t i → Holds Number x t i
  unfolding Coordinate Number
  coordinate-number h = holds_as (λ v p. integer-number v p.0) h

  pub index_number : Holds Index x t i → Holds Number x t i
  unfolding Index Number
  index_number h = holds_as (λ v p. integer-number v p.0) h

  -- a numeral stands from p to e
  module _ (h : Holds Number x t i) {p e : ℕ} (q : p ≡ get_or t i 0) (o : e ≡ get_or t (i + 1) 0) where
    numeral : (v : Json) → Sub x t i v → NumeralAt x t i (numeral_of v)
    unfolding Number
    numeral v s = numeral-at s (h.holds v s)

    bytes : (v : Json) → Sub x t i v → slice p e x ≡ numeral_of v
    bytes v s = rw (q, o) (sym (numeral v s).bytes)

    pub number-order : p ≤ e
    number-order = omega (arith, (numeral h.node.value h.node.stands).low)

    pub number-inside : e ≤ length x
    number-inside = omega (arith, (numeral h.node.value h.node.stands).high)

  -- a pair
  pub pair-asked : Holds Pair x t i → Gives is_number_value x t i true
  unfolding Pair
  pair-asked h = record { is = λ v s. sym (h.holds v s).0 }

  module _ (h : Holds Pair x t i) (a : Result (ℤ × ℤ) ℕ) (g : GivesPair x t i a) where
    pair-at : (v : Json) → Sub x t i v → paired_as a ≡ inl (decimal_of v)
    unfolding pair_or_fault or_fault
    pair-at v s = g.is v s ∙ ap (or_fault v) (pair_read v (h.holds v s)).0

    pub pair-out : {e : ℕ} {f : Json → List ℕ} {d₀ d : List ℕ} {to r : ℕ} → a ≡ Err e → Wrote f x t i d₀ d to r
    unfolding paired_as
    pair-out k = absurd (go h.node.value h.node.stands)
      where
        go : (v : Json) → Sub x t i v → ⊥
        go v s = let z = rw k at (pair-at v s) in clash cc

    pub pair-wrote : {n k : ℤ} {b c : ℕ} {d₀ d₁ d₂ : List ℕ} {to r₁ r : ℕ} → a ≡ Ok (n, k) → b ≡ twos (to_z w64 (of_z w64 n)) → c ≡ twos (to_z w64 (of_z w64 k)) → Writes (le 8 b) d₀ d₁ to r₁
        → Writes (le 2 c) d₁ d₂ r₁ r → Wrote (λ v. lay_decimal (decimal_of v)) x t i d₀ d₂ to r
    unfolding paired_as lay_decimal
    pair-wrote {n} {k} {b} {c} {d₀} {d₁} {d₂} {to} {r₁} {r} w y z u g = record { is = go }
      where
        go : (v : Json) → Sub x t i v → Writes (signed 8 (decimal_of v).m ++ signed 2 (decimal_of v).e) d₀ d₂ to r
        go v s =
            let l = rw w at (pair-at v s) in
            let j : record { m = n; e = k } ≡ decimal_of v = cc in
            let f = decimal-fits (decimal_of v) (pair_read v (h.holds v s)).1 in
            let y' : b ≡ twos (decimal_of v).m = y ∙ ap twos (ap (λ z. to_z w64 (of_z w64 z)) (ap (λ q. q.m) j) ∙ to_z-of_z {w = w64} (sfits_of (omega (arith, f.0)))) in
            let z' : c ≡ twos (decimal_of v).e = z ∙ ap twos (ap (λ z. to_z w64 (of_z w64 z)) (ap (λ q. q.e) j) ∙ to_z-of_z {w = w64} (sfits_of (omega (arith, f.1)))) in
            rw (← wrote-signed 8 (decimal_of v).m (omega arith) f.0, ← wrote-signed 2 (decimal_of v).e (omega arith) f.1, ← y', ← z') (then u g)

  -- a coordinate
  module _ (h : Holds Coordinate x t i) {p e : ℕ} (q : p ≡ get_or t i 0) (o : e ≡ get_or t (i + 1) 0) where
    pub coordinate-small : fits32 (integer (slice p e x)) ≡ true
    unfolding Coordinate
    coordinate-small = let d = h.node in rw (bytes (coordinate-number h) q o d.value d.stands) (h.holds d.value d.stands).1

    pub coordinate-wrote : {z : ℤ} {b : ℕ} {d₀ d : List ℕ} {to r : ℕ} → z ≡ integer (slice p e x) → b ≡ twos z → Writes (le 4 b) d₀ d to r → Wrote (λ v. signed 4 (integer_of v)) x t i d₀ d to r
    coordinate-wrote {z} {b} {d₀} {d} {to} {r} y k w = record { is = go }
      where
        go : (v : Json) → Sub x t i v → Writes (signed 4 (integer_of v)) d₀ d to r
        go v s =
            let (c, l) = coordinate-read v (h.holds v s) in
            let n : integer_of v ≡ z = c ∙ ap integer (sym (bytes (coordinate-number h) q o v s)) ∙ sym y in
            rw (← wrote-signed 4 (integer_of v) (omega arith) l, n, ← k) w

    pub coordinate-quick : {n : ℕ} {d₀ d : List ℕ} {to r : ℕ} → Quick (slice p e x) (Some n) → Writes (le 4 n) d₀ d to r
        → Wrote (λ v. signed 4 (integer_of v)) x t i d₀ d to r
    unfolding twos
    coordinate-quick {n} k w = coordinate-wrote {z = pos n} (sym (k.value n refl)) refl w

  -- an index, read in one go or by its digits
  pub index-quick : Holds Index x t i → {p e n : ℕ} → p ≡ get_or t i 0 → e ≡ get_or t (i + 1) 0 → Quick (slice p e x) (Some n) → Gives index_of x t i n
  unfolding Index index_of natural
  index-quick h {p} {e} {n} q o k = record {
    is = λ v s. sym (ap natural (integer-read v (h.holds v s).0 ∙ ap integer (sym (bytes (index_number h) q o v s)) ∙ k.value n refl));
  }

  pub index-whole : Holds Index x t i → {p e : ℕ} {w : Whole} → p ≡ get_or t i 0 → e ≡ get_or t (i + 1) 0 → IsWhole (slice p e x) w → Gives index_of x t i w.magnitude
  index-whole h {w = w} q o k = record { is = λ v s. sym ((index_read v (h.holds v s)).0 ∙ rw (← bytes (index_number h) q o v s) (sym k.size)) }

  pub index-wrote : {n : ℕ} {d₀ d : List ℕ} {to r : ℕ} → Gives index_of x t i n → Writes (le 4 n) d₀ d to r → Wrote (λ v. le 4 (index_of v)) x t i d₀ d to r
  index-wrote g w = wrote-told (le 4) g w

  -- three of a kind
  pub triple-elements : (P : Json → Type 0) → Holds (Triple P) x t i → Holds (Elements P) x t i
  unfolding Triple
  triple-elements P h = holds_as (λ v p. p.1) h

  triple-done : {A : Type 0} {P : Json → Type 0} {s : Siblings} {d₀ d : List ℕ} {to r : ℕ} (enc : A → List ℕ) (read : Json → A)
      → Holds (Triple P) x t i → Laying P (λ w. enc (read w)) x t i s d₀ d to r → s.end ≤ s.at → Wrote (λ v. lay_three enc (three_of read v)) x t i d₀ d to r
  unfolding Triple
  triple-done enc read h p l = wrote_as (λ v s. three-each enc read v (h.holds v s).0) (laying-done p l)

  module _ {s : Siblings} {d₀ d : List ℕ} {to r : ℕ} where
    pub pairs-done : Holds (Triple Pair) x t i → Laying Pair (λ w. lay_decimal (decimal_of w)) x t i s d₀ d to r → s.end ≤ s.at
        → Wrote (λ v. lay_three lay_decimal (three_of decimal_of v)) x t i d₀ d to r
    pairs-done h p l = triple-done lay_decimal decimal_of h p l

    pub vertex-done : Holds (Triple Coordinate) x t i → Laying Coordinate (λ w. signed 4 (integer_of w)) x t i s d₀ d to r → s.end ≤ s.at
        → Wrote (λ v. lay_three (signed 4) (three_of integer_of v)) x t i d₀ d to r
    vertex-done h p l = triple-done (signed 4) integer_of h p l

  -- a null value, and another
  pub null-wrote : {b : Bool} {d₀ d : List ℕ} {to r : ℕ} → Gives is_null_value x t i b → b ≡ true → Writes (le 4 0xffff_ffff) d₀ d to r → Wrote (λ v. lay_value (value_of v)) x t i d₀ d to r
  unfolding lay_value
  null-wrote g e w = record { is = λ v s. rw (value-null v (sym (g.is v s) ∙ e)) w }

  pub value-is : {b : Bool} → Holds Value x t i → Gives is_null_value x t i b → b ≡ false → Holds Index x t i
  unfolding Value
  value-is h g e = record { node = h.node; holds = λ v s. h.holds v s (sym (g.is v s) ∙ e) }

  pub value-wrote : {b : Bool} {d₀ d : List ℕ} {to r : ℕ} → Holds Value x t i → Gives is_null_value x t i b → b ≡ false → Wrote (λ v. le 4 (index_of v)) x t i d₀ d to r
      → Wrote (λ v. lay_value (value_of v)) x t i d₀ d to r
  unfolding lay_value Number
  value-wrote h g e w = record { is = λ v s. rw (value-index v ((index_number (value-is h g e)).holds v s)) (w.is v s) }

  -- what stands at a depth
  pub leaf : (P : Json → Type 0) (depth : ℕ) → Holds (Leaves P depth) x t i → depth ≡ 0 → Holds P x t i
  unfolding Leaves
  leaf P depth h e = rw e at h

  pub deeper : (P : Json → Type 0) (depth : ℕ) → Holds (Leaves P depth) x t i → (depth ≡ 0 → ⊥) → Holds (Elements (Leaves P (depth - 1))) x t i
  deeper P depth h n = holds_as (leaves-suc P depth n) h

  -- here and below the bytes f are told by an equation: it shows `search` the depth, which the bytes themselves show only under a λ
  module _ (depth : ℕ) {f : Json → List ℕ} {d₀ d : List ℕ} {to r : ℕ} where
    pub nest-leaf : depth ≡ 0 → Wrote (λ v. le 4 (index_of v)) x t i d₀ d to r → f ≡ (λ v. lay_nest depth (nest_of index_of depth v)) → Wrote f x t i d₀ d to r
    unfolding lay_nest nest_of
    nest-leaf e w q = rw (q, e) w

    pub values-leaf : depth ≡ 0 → Wrote (λ v. lay_value (value_of v)) x t i d₀ d to r → f ≡ (λ v. lay_values depth (nest_of value_of depth v)) → Wrote f x t i d₀ d to r
    unfolding lay_values nest_of
    values-leaf e w q = rw (q, e) w

    pub values-done : {s : Siblings} → (depth ≡ 0 → ⊥)
        → Laying (Leaves Value (depth - 1)) (λ w. lay_values (depth - 1) (nest_of value_of (depth - 1) w)) x t i s d₀ d to r → s.end ≤ s.at
        → f ≡ (λ v. lay_values depth (nest_of value_of depth v)) → Wrote f x t i d₀ d to r
    values-done h p l q = rw q (wrote_as (λ v s. values-suc depth h v) (laying-done p l))

-- ---- a boundary

-- what the loop over an array of a boundary knows when it has come to s: what was passed was to be written from `first` on,
-- the place for the count is kept at `to`, and the cursor is `at`
pub record Nesting (depth : ℕ) (x t : List ℕ) (i : ℕ) (s : Siblings) (d₀ d : List ℕ) (to first at count : ℕ) : Type 0 where
  pub deep : depth ≡ 0 → ⊥
  pub kept : Skips 4 to first
  pub laying : Laying (Leaves Index (depth - 1)) (λ w. lay_nest (depth - 1) (nest_of index_of (depth - 1) w)) x t i s d₀ d first at
  pub counting : Counting x t i s count

module _ (depth : ℕ) {x t : List ℕ} {i : ℕ} {s : Siblings} where
  pub nesting-start : {r : Siblings} {d : List ℕ} {to first : ℕ} → Holds (Leaves Index depth) x t i → (depth ≡ 0 → ⊥) → siblings.Elements x t i r → s ≡ r
      → Skips 4 to first → Nesting depth x t i s d d to first first 0
  nesting-start h k e q z = record { deep = k; kept = z; laying = laying-begin (deeper Index depth h k) e q; counting = counting-start h.node e q }

  module _ {d₀ d : List ℕ} {to first at count : ℕ} (p : Nesting depth x t i s d₀ d to first at count) where
    pub nesting-same : length d ≡ length d₀
    nesting-same = laying-same p.laying

    module _ {k : ℕ} {u : Siblings} (g : StepsPast s k u) where
      pub nesting-item : Holds (Leaves Index (depth - 1)) x t k
      nesting-item = laying-item p.laying g

      pub nesting-index : depth ≡ 1 → Holds Index x t k
      nesting-index e = leaf Index (depth - 1) nesting-item (omega arith)

      pub nesting-fits : length t * 4 < 2 ^ 63 → Fits w64 (count + 1)
      nesting-fits h = counting-fits p.counting g h

      pub nesting-turn : {d' : List ℕ} {r : ℕ} → Wrote (λ v. lay_nest (depth - 1) (nest_of index_of (depth - 1) v)) x t k d d' at r
          → Nesting depth x t i u d₀ d' to first r (count + 1)
      nesting-turn w = record { deep = p.deep; kept = p.kept; laying = laying-turn p.laying g w; counting = counting-turn p.counting g }

    pub nesting-done : {f : Json → List ℕ} {d' : List ℕ} {q : ℕ} → s.end ≤ s.at → Writes (le 4 count) d d' to q
        → f ≡ (λ v. lay_nest depth (nest_of index_of depth v)) → Wrote f x t i d₀ d' to at
    nesting-done h w e =
        let elems = laying-done p.laying h in
        let all = counting-done p.counting h in
        let each : Json → List ℕ = λ w. lay_nest (depth - 1) (nest_of index_of (depth - 1) w) in
        rw e
        (wrote_as (λ v s. nest-suc depth p.deep v)
        (record { is = λ v s. as_bytes (ap (λ n. le 4 n ++ concat_map each (elements v)) (all.is v s)) (numbered _ p.kept (elems.is v s) w) }))
