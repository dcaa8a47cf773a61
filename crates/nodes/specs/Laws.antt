-- Laws for code that reads a node table: what the first byte of a value tells, where a string and a numeral stand, and the least of several faults.
use Rattle.std.specs.Prelude.{◌≡◌, refl, true, false, List, [], ◌∷◌, ◌++◌, ℕ, zero, suc, ◌+◌, ◌-◌, ◌<◌, ◌≤◌, min, length, get_or, replicate, eqb}
use Rattle.std.proofs.Common.{sym, ◌∙◌, append-nil, arith, ne_eqb}
use Rattle.std.proofs.Math.Path.{ap}
use Rattle.std.proofs.lemmas.List.{length-replicate}
use Rattle.std.proofs.Math.Seq.{slice}
use Rattle.utf8.specs.Ascii.{is_digit}
use Rattle.utf8.specs.Laws.{never}
use Rattle.strings.specs.Strings.{decode}
use Rattle.strings.specs.Spans.{Span, decode_at}
use Rattle.json_text.specs.Tree.{Json, Members, place_of}
use Rattle.json_text.specs.Tree as tree
use Rattle.json_text.specs.Table.{Quoted, is_numeric, Sub, null, bool, num, str, arr, obj}
use Rattle.json_text.specs.Laws.{other_byte, words, Left, begin, MembersLeft, members-begin}
use Rattle.nodes.specs.Faults.{least}
use Rattle.nodes.specs.Access.{is_null_value, is_number_value, is_string_value, is_array_value, is_object_value, listed, elements, pairs, members, Member, text_of, numeral_of}

-- what the first byte b of a value tells: 110 is n, 34 a quote, 91 is [, 123 is {; a numeral starts with - or a digit
pub record Kinds (b : ℕ) (v : Json) : Type 0 where
  pub null : eqb b 110 ≡ is_null_value v
  pub string : eqb b 34 ≡ is_string_value v
  pub array : eqb b 91 ≡ is_array_value v
  pub object : eqb b 123 ≡ is_object_value v
  pub number : is_numeric b ≡ is_number_value v

numeral-kinds : {p e : ℕ} {raw : List ℕ} (b : ℕ) → true ≡ is_numeric b → Kinds b (tree.num p e raw)
unfolding is_numeric is_digit is_null_value is_number_value is_string_value is_array_value is_object_value
numeral-kinds b h =
    record {
      null = ne_eqb b 110 (other_byte b 110 h refl);
      string = ne_eqb b 34 (other_byte b 34 h refl);
      array = ne_eqb b 91 (other_byte b 91 h refl);
      object = ne_eqb b 123 (other_byte b 123 h refl);
      number = sym h;
    }

pub kinds : {x t : List ℕ} {i : ℕ} {v : Json} → Sub x t i v → Kinds (get_or x (get_or t i 0) 0) v
unfolding is_numeric is_digit is_null_value is_number_value is_string_value is_array_value is_object_value
kinds (null w) = rw (w.start, w.byte) (record { null = refl; string = refl; array = refl; object = refl; number = refl })
kinds (bool {b = true} w) = rw (w.start, w.byte) (record { null = refl; string = refl; array = refl; object = refl; number = refl })
kinds (bool {b = false} w) = rw (w.start, w.byte) (record { null = refl; string = refl; array = refl; object = refl; number = refl })
kinds (num {b = b} w n r) = rw (w.start, w.byte) (numeral-kinds b n)
kinds (str q) = rw (q.words.start, q.words.byte) (record { null = refl; string = refl; array = refl; object = refl; number = refl })
kinds (arr w vs) = rw (w.start, w.byte) (record { null = refl; string = refl; array = refl; object = refl; number = refl })
kinds (obj w ms) = rw (w.start, w.byte) (record { null = refl; string = refl; array = refl; object = refl; number = refl })

-- the bytes between a string's quotes, as they stand in the text
unfoldable pub raw_of : Json → List ℕ
raw_of (tree.null p e) = []
raw_of (tree.bool p e b) = []
raw_of (tree.num p e raw) = []
raw_of (tree.str p e raw) = raw
raw_of (tree.arr p e vs) = []
raw_of (tree.obj p e ms) = []

decode-none : decode [] ≡ []
unfolding decode
decode-none = refl

text-raw : (v : Json) → text_of v ≡ decode (raw_of v)
unfolding text_of raw_of
text-raw (tree.null p e) = sym decode-none
text-raw (tree.bool p e b) = sym decode-none
text-raw (tree.num p e raw) = sym decode-none
text-raw (tree.str p e raw) = refl
text-raw (tree.arr p e vs) = sym decode-none
text-raw (tree.obj p e ms) = sym decode-none

-- the members of an object, as the tree has them
unfoldable pub fields_of : Json → Members
fields_of (tree.null p e) = tree.empty
fields_of (tree.bool p e b) = tree.empty
fields_of (tree.num p e raw) = tree.empty
fields_of (tree.str p e raw) = tree.empty
fields_of (tree.arr p e vs) = tree.empty
fields_of (tree.obj p e ms) = ms

pub members-fields : (v : Json) → members v ≡ pairs (fields_of v)
unfolding members fields_of pairs
members-fields (tree.null p e) = refl
members-fields (tree.bool p e b) = refl
members-fields (tree.num p e raw) = refl
members-fields (tree.str p e raw) = refl
members-fields (tree.arr p e vs) = refl
members-fields (tree.obj p e ms) = refl

-- the string whose bytes between the quotes are raw stands at the node i
pub record StringAt (x t : List ℕ) (i : ℕ) (raw : List ℕ) : Type 0 where
  pub room : i + 2 < length t
  pub fits : get_or t i 0 + 1 ≤ length x
  pub some : 1 ≤ get_or t (i + 1) 0
  pub span : Span x (get_or t i 0 + 1) (get_or t (i + 1) 0 - 1)
  pub between : raw ≡ slice (get_or t i 0 + 1) (get_or t (i + 1) 0 - 1) x
  pub text : decode raw ≡ decode_at x (get_or t i 0 + 1) (get_or t (i + 1) 0 - 1)

-- the numeral raw stands at the node i: its bytes are those from its start to its end
pub record NumeralAt (x t : List ℕ) (i : ℕ) (raw : List ℕ) : Type 0 where
  pub low : get_or t i 0 ≤ get_or t (i + 1) 0
  pub high : get_or t (i + 1) 0 ≤ length x
  pub bytes : raw ≡ slice (get_or t i 0) (get_or t (i + 1) 0) x

module _ {x t : List ℕ} where
  -- a name, or a string, by its three words
  pub quoted-at : {i p e : ℕ} {raw : List ℕ} → Quoted x t i p e raw → StringAt x t i raw
  unfolding decode_at
  quoted-at {i} {p} {e} {raw} q =
      let w = q.words in
      let b : raw ≡ slice (get_or t i 0 + 1) (get_or t (i + 1) 0 - 1) x = rw (w.start, w.end) q.between in
      record {
        room = w.room;
        fits = omega (arith, w.start, w.some, w.inside);
        some = omega (arith, w.end, w.some);
        span = record { low = omega (arith, w.start, w.end, q.quotes); high = omega (arith, w.end, w.inside) };
        between = b;
        text = ap decode b;
      }

  -- where a name, or a string, starts
  pub quoted-place : {i p e : ℕ} {raw : List ℕ} → Quoted x t i p e raw → p ≡ get_or t i 0
  quoted-place q = sym q.words.start

  -- a string
  pub string-at : {i : ℕ} {v : Json} → Sub x t i v → is_string_value v ≡ true → StringAt x t i (raw_of v)
  unfolding is_string_value raw_of
  string-at (null w) h = absurd (never h refl)
  string-at (bool w) h = absurd (never h refl)
  string-at (num w n r) h = absurd (never h refl)
  string-at (str q) h = quoted-at q
  string-at (arr w vs) h = absurd (never h refl)
  string-at (obj w ms) h = absurd (never h refl)

  -- its decoded text
  pub text-at : {i : ℕ} {v : Json} → Sub x t i v → is_string_value v ≡ true → text_of v ≡ decode_at x (get_or t i 0 + 1) (get_or t (i + 1) 0 - 1)
  text-at {v = v} s h = text-raw v ∙ (string-at s h).text

  -- where a value starts and ends
  pub place_at : {i : ℕ} {v : Json} → Sub x t i v → place_of v ≡ get_or t i 0
  place_at s = sym (words s).start

  pub place-below : {i : ℕ} {v : Json} → Sub x t i v → length x ≤ 65535 → get_or t i 0 < 65536
  place-below s h = let w = words s in omega (arith, w.start, w.some, w.inside)

  -- a numeral
  pub numeral-at : {i : ℕ} {v : Json} → Sub x t i v → is_number_value v ≡ true → NumeralAt x t i (numeral_of v)
  unfolding is_number_value numeral_of
  numeral-at (null w) h = absurd (never h refl)
  numeral-at (bool w) h = absurd (never h refl)
  numeral-at (num w n r) h = record { low = omega (arith, w.start, w.end, w.some); high = omega (arith, w.end, w.inside); bytes = rw (w.start, w.end) r }
  numeral-at (str q) h = absurd (never h refl)
  numeral-at (arr w vs) h = absurd (never h refl)
  numeral-at (obj w ms) h = absurd (never h refl)

  -- where a loop over the elements of an array begins, and one over the members of an object
  pub elements-begin : {i : ℕ} {v : Json} (P : List Json → Type 0) → Sub x t i v → is_array_value v ≡ true → P (elements v)
      → Left x t (i + 3) (get_or t (i + 2) 0) (λ vs. P (listed vs))
  unfolding is_array_value elements
  elements-begin P (null w) h p = absurd (never h refl)
  elements-begin P (bool w) h p = absurd (never h refl)
  elements-begin P (num w n r) h p = absurd (never h refl)
  elements-begin P (str q) h p = absurd (never h refl)
  elements-begin P (arr {p = q} {e = e} {vs = vs} w ss) h p = begin (record { place = q; end = e; kids = vs; stands = arr w ss }) p
  elements-begin P (obj w ms) h p = absurd (never h refl)

  pub object-begin : {i : ℕ} {v : Json} {P : Members → Type 0} → Sub x t i v → is_object_value v ≡ true → P (fields_of v)
      → MembersLeft x t (i + 3) (get_or t (i + 2) 0) P
  unfolding is_object_value fields_of
  object-begin (null w) h p = absurd (never h refl)
  object-begin (bool w) h p = absurd (never h refl)
  object-begin (num w n r) h p = absurd (never h refl)
  object-begin (str q) h p = absurd (never h refl)
  object-begin (arr w vs) h p = absurd (never h refl)
  object-begin (obj {p = q} {e = e} {ms = ms} w fs) h p = members-begin (record { place = q; end = e; fields = ms; stands = obj w fs }) p

  pub fields-begin : {i : ℕ} {v : Json} (P : List Member → Type 0) → Sub x t i v → is_object_value v ≡ true → P (members v)
      → MembersLeft x t (i + 3) (get_or t (i + 2) 0) (λ ms. P (pairs ms))
  fields-begin {v = v} P s h p = object-begin s h (rw (← members-fields v) p)

-- a value that is no array has no elements, and one that is no object no members
pub no-elements : (v : Json) → is_array_value v ≡ false → elements v ≡ []
unfolding is_array_value elements
no-elements (tree.null p e) h = refl
no-elements (tree.bool p e b) h = refl
no-elements (tree.num p e raw) h = refl
no-elements (tree.str p e raw) h = refl
no-elements (tree.arr p e vs) h = absurd (never (sym h) refl)
no-elements (tree.obj p e ms) h = refl

pub no_fields : (v : Json) → is_object_value v ≡ false → fields_of v ≡ tree.empty
unfolding is_object_value fields_of
no_fields (tree.null p e) h = refl
no_fields (tree.bool p e b) h = refl
no_fields (tree.num p e raw) h = refl
no_fields (tree.str p e raw) h = refl
no_fields (tree.arr p e vs) h = refl
no_fields (tree.obj p e ms) h = absurd (never (sym h) refl)

pub no-members : (v : Json) → is_object_value v ≡ false → members v ≡ []
unfolding pairs
no-members v h = members-fields v ∙ ap pairs (no_fields v h)

-- the least of several faults: part by part, in any order, and never above the best so far
pub least-++ : (b : ℕ) (xs ys : List ℕ) → least b (xs ++ ys) ≡ least (least b xs) ys
unfolding least
least-++ b [] ys = refl
least-++ b (f ∷ xs) ys = least-++ (min b f) xs ys

pub least-min : (b f : ℕ) (xs : List ℕ) → least (min b f) xs ≡ min (least b xs) f
unfolding least
least-min b f [] = refl
least-min b f (g ∷ xs) = let z : min (min b f) g ≡ min (min b g) f = omega arith in rw z (least-min (min b g) f xs)

pub least-comm : (b : ℕ) (xs ys : List ℕ) → least b (xs ++ ys) ≡ least b (ys ++ xs)
unfolding least
least-comm b [] ys = ap (least b) (sym (append-nil ys))
least-comm b (f ∷ xs) ys =
    least-min b f (xs ++ ys)
    ∙ (ap (λ (n : ℕ). min n f) (least-comm b xs ys ∙ least-++ b ys xs) ∙ (sym (least-min (least b ys) f xs) ∙ sym (least-++ b ys (f ∷ xs))))

pub least-le : (b : ℕ) (xs : List ℕ) → least b xs ≤ b
unfolding least
least-le b [] = omega arith
least-le b (f ∷ xs) = omega (arith, least-le (min b f) xs)

-- ---- an array that was just made

zero-at : (c n : ℕ) → ◌≡◌ {A = ℕ} (get_or (replicate n 0) c 0) 0
zero-at c zero = refl
zero-at zero (suc n) = refl
zero-at (suc c) (suc n) = zero-at c n

module _ {l : List ℕ} (n : ℕ) (q : l ≡ replicate n 0) where
  pub fresh-zero : (c : ℕ) → get_or l c 0 ≡ 0
  fresh-zero c = ap (λ (a : List ℕ). get_or a c 0) q ∙ zero-at c n

  pub fresh-length : length l ≡ n
  fresh-length = ap length q ∙ length-replicate {A = ℕ} n 0
