-- A test that only agreeing trees pass, so that examples of `Alike` are computed.
-- It fails for Booleans and objects that are examined whole, though these may agree; the examples have none.
use Rattle.std.specs.Prelude.{◌≡◌, refl, List, [], ◌∷◌, Bool, true, false, ◌&&◌, ℕ, ℤ, pos, negsuc, eqb}
use Rattle.std.proofs.Common.{ap, eqb-true}
use Rattle.std.proofs.Math.Option.{Option, some}
use Rattle.std.proofs.Math.Option as option
use Rattle.utf8.specs.Utf8.{same}
use Rattle.utf8.specs.Laws.{clash, both_left, both_right, same-equal}
use Rattle.strings.specs.Strings.{decode}
use Rattle.numerals.specs.Numerals.{Decimal, decimal}
use Rattle.json_text.specs.Tree.{Json, null, bool, num, str, arr, obj, Items, no_items, ◌▸◌}
use Rattle.nodes.specs.Access.{is_null_value, is_number_value, is_string_value, is_array_value, listed, elements, members, name_of, text_of, numeral_of, find}
use Rattle.model.specs.Good.{Both}
use Rattle.model.specs.Alike.{Same, SameAll, Shape, whole, list, entries, field, none-else, Perhaps, Agree}

-- equal integers; equal decimals
same_integer : ℤ → ℤ → Bool
same_integer (pos m) (pos n) = eqb m n
same_integer (pos m) (negsuc n) = false
same_integer (negsuc m) (pos n) = false
same_integer (negsuc m) (negsuc n) = eqb m n

same_integer-equal : (x y : ℤ) → same_integer x y ≡ true → x ≡ y
unfolding same_integer
same_integer-equal (pos m) (pos n) t = ap pos (eqb-true m n t)
same_integer-equal (pos m) (negsuc n) t = clash cc
same_integer-equal (negsuc m) (pos n) t = clash cc
same_integer-equal (negsuc m) (negsuc n) t = ap negsuc (eqb-true m n t)

same_decimal : Decimal → Decimal → Bool
same_decimal x y = same_integer x.m y.m && same_integer x.e y.e

same_decimal-equal : (x y : Decimal) → same_decimal x y ≡ true → x ≡ y
unfolding same_decimal
same_decimal-equal x y t =
    let p = same_integer-equal x.m y.m (both_left _ _ t) in
    let q = same_integer-equal x.e y.e (both_right (same_integer x.m y.m) _ t) in
    λ i. record { m = p i; e = q i }

-- lists of one length whose elements pass
all_pairs : {A : Type 0} → (A → A → Bool) → List A → List A → Bool
all_pairs t [] [] = true
all_pairs t [] (b ∷ m) = false
all_pairs t (a ∷ l) [] = false
all_pairs t (a ∷ l) (b ∷ m) = t a b && all_pairs t l m

all_pairs-both : {A : Type 0} (t : A → A → Bool) (R : A → A → Type 0) → ((a b : A) → t a b ≡ true → R a b) → (l m : List A) → all_pairs t l m ≡ true → Both R l m
unfolding all_pairs
all_pairs-both t R one [] [] e = tt
all_pairs-both t R one [] (b ∷ m) e = clash cc
all_pairs-both t R one (a ∷ l) [] e = clash cc
all_pairs-both t R one (a ∷ l) (b ∷ m) e = (one a b (both_left _ _ e), all_pairs-both t R one l m (both_right (t a b) _ e))

-- what the tests of a value's kind tell of its form
is-null : (k : Json) → is_null_value k ≡ true → (q f : ℕ) × (k ≡ null q f)
unfolding is_null_value
is-null (null p e) t = (p, e, refl)
is-null (bool p e b) t = clash cc
is-null (num p e raw) t = clash cc
is-null (str p e raw) t = clash cc
is-null (arr p e vs) t = clash cc
is-null (obj p e ms) t = clash cc

is_number : (k : Json) (d : Decimal) → (is_number_value k && same_decimal d (decimal (numeral_of k))) ≡ true
    → (q f : ℕ) × (raw : List ℕ) × (k ≡ num q f raw) × (d ≡ decimal raw)
unfolding is_number_value numeral_of
is_number (null p e) d t = clash cc
is_number (bool p e b) d t = clash cc
is_number (num p e raw) d t = (p, e, raw, refl, same_decimal-equal d (decimal raw) t)
is_number (str p e raw) d t = clash cc
is_number (arr p e vs) d t = clash cc
is_number (obj p e ms) d t = clash cc

is-string : (k : Json) (d : List ℕ) → (is_string_value k && same d (text_of k)) ≡ true → (q f : ℕ) × (raw : List ℕ) × (k ≡ str q f raw) × (d ≡ decode raw)
unfolding is_string_value text_of
is-string (null p e) d t = clash cc
is-string (bool p e b) d t = clash cc
is-string (num p e raw) d t = clash cc
is-string (str p e raw) d t = (p, e, raw, refl, same-equal d (decode raw) t)
is-string (arr p e vs) d t = clash cc
is-string (obj p e ms) d t = clash cc

is-array : (k : Json) → is_array_value k ≡ true → (q f : ℕ) × (us : Items) × (k ≡ arr q f us)
unfolding is_array_value
is-array (null p e) t = clash cc
is-array (bool p e b) t = clash cc
is-array (num p e raw) t = clash cc
is-array (str p e raw) t = clash cc
is-array (arr p e vs) t = (p, e, vs, refl)
is-array (obj p e ms) t = clash cc

-- two values agree
mutual
  is_same : Json → Json → Bool
  is_same (null p e) k = is_null_value k
  is_same (bool p e b) k = false
  is_same (num p e raw) k = is_number_value k && same_decimal (decimal raw) (decimal (numeral_of k))
  is_same (str p e raw) k = is_string_value k && same (decode raw) (text_of k)
  is_same (arr p e vs) k = is_array_value k && is_same_all vs (elements k)
  is_same (obj p e ms) k = false

  is_same_all : Items → List Json → Bool
  is_same_all no_items [] = true
  is_same_all no_items (k ∷ l) = false
  is_same_all (j ▸ v) [] = false
  is_same_all (j ▸ v) (k ∷ l) = is_same j k && is_same_all v l

mutual
  unfolding Same is_same elements

  is_same-same : (j k : Json) → is_same j k ≡ true → Same j k
  is_same-same (null p e) k t = is-null k t
  is_same-same (bool p e b) k t = clash cc
  is_same-same (num p e raw) k t = is_number k (decimal raw) t
  is_same-same (str p e raw) k t = is-string k (decode raw) t
  is_same-same (arr p e vs) k t =
      let (q, f, us, z) = is-array k (both_left _ _ t) in
      (q, f, us, z, is_same_all-same vs (listed us) (rw z at (both_right (is_array_value k) _ t)))
  is_same-same (obj p e ms) k t = clash cc

  is_same_all-same : (vs : Items) (l : List Json) → is_same_all vs l ≡ true → SameAll vs l
  is_same_all-same no_items [] t = tt
  is_same_all-same no_items (k ∷ l) t = clash cc
  is_same_all-same (j ▸ v) [] t = clash cc
  is_same_all-same (j ▸ v) (k ∷ l) t = (is_same-same j k (both_left _ _ t), is_same_all-same v l (both_right (is_same j k) _ t))

perhaps : (Json → Json → Bool) → Option Json → Option Json → Bool
perhaps t option.none option.none = true
perhaps t option.none (some k) = false
perhaps t (some j) option.none = false
perhaps t (some j) (some k) = t j k

perhaps-so : (t : Json → Json → Bool) (R : Json → Json → Type 0) → ((j k : Json) → t j k ≡ true → R j k)
    → (o p : Option Json) → perhaps t o p ≡ true → Perhaps R o p
unfolding perhaps
perhaps-so t R one option.none option.none e = tt
perhaps-so t R one option.none (some k) e = clash cc
perhaps-so t R one (some j) option.none e = clash cc
perhaps-so t R one (some j) (some k) e = one j k e

unfoldable pub agrees : Shape → Json → Json → Bool
unfolding is_same all_pairs perhaps same_decimal same_integer
agrees whole j k = is_same j k
agrees (list s) j k = all_pairs (agrees s) (elements j) (elements k)
agrees (entries s) j k = all_pairs (λ a b. same (name_of a) (name_of b) && agrees s a.1 b.1) (members j) (members k)
agrees (field n s r) j k = perhaps (agrees s) (find n j) (find n k) && agrees r j k
agrees none-else j k = true

-- trees that pass agree
pub agrees-agree : (s : Shape) (j k : Json) → agrees s j k ≡ true → Agree s j k
unfolding agrees Agree
agrees-agree whole j k t = is_same-same j k t
agrees-agree (list s) j k t = all_pairs-both (agrees s) (Agree s) (agrees-agree s) (elements j) (elements k) t
agrees-agree (entries s) j k t =
    all_pairs-both _ _ (λ a b e. (same-equal _ _ (both_left _ _ e), agrees-agree s a.1 b.1 (both_right (same (name_of a) (name_of b)) _ e)))
    (members j) (members k) t
agrees-agree (field n s r) j k t = (
  perhaps-so (agrees s) (Agree s) (agrees-agree s) (find n j) (find n k) (both_left _ _ t),
  agrees-agree r j k (both_right (perhaps (agrees s) (find n j) (find n k)) _ t),
)
agrees-agree none-else j k t = tt
