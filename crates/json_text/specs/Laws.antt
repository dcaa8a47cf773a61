-- Laws of a node table that stands for a value, for code that reads the table.
use Rattle.std.specs.Prelude.{◌≡◌, ℕ, ◌+◌, ◌<◌, ◌≤◌, true, false, cond, ◌||◌, List, length, ◌==◌, ◌≢◌, slice_index, slice_index_or, refl}
use Rattle.std.proofs.Common.{sym, ◌∙◌, add_assoc, add-zero, arith, ne_eqb, le-leb}
use Rattle.std.proofs.Math.Seq.{slice-cons}
use Rattle.std.proofs.lemmas.Bool.{lt-leb}
use Rattle.utf8.specs.Ascii.{is_digit}
use Rattle.utf8.specs.Laws.{clash}
use Rattle.json_text.specs.Tree.{Json, Items, ◌▸◌, ◌◂◌, Members, member, with, Name, place_of, end_of}
use Rattle.json_text.specs.Tree as tree
use Rattle.json_text.specs.Machine.{is_blank}
use Rattle.json_text.specs.Table.{size, sizes, widths, Words, Quoted, is_numeric, lead, Sub, null, bool, num, str, arr, obj, Subs, nil, cons, Fields, last, field}

-- kinds of byte, by their range
pub over-blank : (b : ℕ) → 32 < b → false ≡ is_blank b
unfolding is_blank
over-blank b h = rw (ne_eqb b 32 (λ e. omega arith), ne_eqb b 10 (λ e. omega arith), ne_eqb b 13 (λ e. omega arith), ne_eqb b 9 (λ e. omega arith))

pub is-digit : (b : ℕ) → 48 ≤ b → b < 58 → true ≡ is_digit b
unfolding is_digit
is-digit b l h = rw (le-leb 48 b l, le-leb b 57 (omega arith))

pub under-digit : (b : ℕ) → b < 48 → false ≡ is_digit b
unfolding is_digit
under-digit b l = rw (lt-leb 48 b l)

pub over-digit : (b : ℕ) → 57 < b → false ≡ is_digit b
unfolding is_digit
over-digit b h = rw (le-leb 48 b (omega arith), lt-leb b 57 h)

-- the byte that a value starts with
unfoldable pub lead_of : Json → ℕ
lead_of (tree.null p e) = 110
lead_of (tree.bool p e b) = lead b
lead_of (tree.num p e raw) = slice_index raw 0
lead_of (tree.str p e raw) = 34
lead_of (tree.arr p e vs) = 91
lead_of (tree.obj p e ms) = 123

-- the kinds of value, and the kind that a value's first byte tells: one that is none of the six below starts a numeral
pub data Kind : Type 0 where
  a_null a_bool a_number a_string an_array an_object : Kind

unfoldable pub kind_of : Json → Kind
kind_of (tree.null p e) = a_null
kind_of (tree.bool p e b) = a_bool
kind_of (tree.num p e raw) = a_number
kind_of (tree.str p e raw) = a_string
kind_of (tree.arr p e vs) = an_array
kind_of (tree.obj p e ms) = an_object

unfoldable pub byte_kind : ℕ → Kind
byte_kind b =
    cond (b == 91) an_array
    (cond (b == 123) an_object
    (cond (b == 34) a_string
    (cond (b == 110) a_null
    (cond (b == 116 || b == 102) a_bool a_number))))

-- sizes
pub size-pos : (v : Json) → 3 ≤ size v
unfolding size
size-pos (tree.null p e) = omega arith
size-pos (tree.bool p e b) = omega arith
size-pos (tree.num p e raw) = omega arith
size-pos (tree.str p e raw) = omega arith
size-pos (tree.arr p e vs) = omega arith
size-pos (tree.obj p e ms) = omega arith

pub sizes-◂ : (us : Items) (v : Json) → sizes (us ◂ v) ≡ sizes us + size v
unfolding sizes ◌◂◌
sizes-◂ tree.no_items v = omega arith
sizes-◂ (u ▸ us) v = omega (arith, sizes-◂ us v)

pub widths-with : (ms : Members) (k : Name) (v : Json) → widths (with ms k v) ≡ widths ms + (3 + size v)
unfolding widths with
widths-with tree.empty k v = omega arith
widths-with (member j u ms) k v = omega (arith, widths-with ms k v)

-- one element more, and one member more
pub subs-◂ : {x t : List ℕ} {i : ℕ} {us : Items} {v : Json} → Subs x t i us → Sub x t (i + sizes us) v → Subs x t i (us ◂ v)
unfolding sizes ◌◂◌
subs-◂ nil s = cons (rw add-zero at s) nil
subs-◂ (cons u us) s = cons u (subs-◂ us (rw (← add_assoc) at s))

pub fields-with : {x t : List ℕ} {i n : ℕ} {ms : Members} {k : Name} {v : Json} → Fields x t i ms → i + widths ms ≡ n
    → Quoted x t n k.place k.end k.raw → Sub x t (n + 3) v → Fields x t i (with ms k v)
unfolding widths with
fields-with {i = i} {k = k} {v = v} last e q s = let z : i ≡ _ = sym (add-zero i) ∙ e in field {i = i} {k = k} {v = v} (rw z q) (rw z s) last
fields-with (field {v = u} q' s' fs) e q s = field q' s' (fields-with fs (omega arith) q s)

-- words that are the same stand for the same value
module _ {x t t' : List ℕ} (long : length t' ≡ length t) where
  pub same-words : {i p e b n : ℕ} → ((k : ℕ) → i ≤ k → k < i + 3 → slice_index t' k ≡ slice_index t k) → Words x t i p e b n → Words x t' i p e b n
  same-words s w = record {
    room = omega (arith, w.room);
    start = s _ (omega arith) (omega arith) ∙ w.start;
    end = s _ (omega arith) (omega arith) ∙ w.end;
    next = s _ (omega arith) (omega arith) ∙ w.next;
    some = w.some;
    inside = w.inside;
    byte = w.byte;
  }

  pub same-quoted : {i p e : ℕ} {raw : List ℕ} → ((k : ℕ) → i ≤ k → k < i + 3 → slice_index t' k ≡ slice_index t k) → Quoted x t i p e raw → Quoted x t' i p e raw
  same-quoted s q = record { words = same-words s q.words; quotes = q.quotes; between = q.between }

  mutual
    unfolding size

    pub same-sub : {i : ℕ} {v : Json} → Sub x t i v → ((k : ℕ) → i ≤ k → k < i + size v → slice_index t' k ≡ slice_index t k) → Sub x t' i v
    same-sub (null w) s = null (same-words s w)
    same-sub (bool w) s = bool (same-words s w)
    same-sub (num w n r) s = num (same-words s w) n r
    same-sub (str q) s = str (same-quoted s q)
    same-sub (arr w vs) s = arr (same-words (λ k l u. s k l (omega arith)) w) (same-subs vs (λ k l u. s k (omega arith) (omega arith)))
    same-sub (obj w ms) s = obj (same-words (λ k l u. s k l (omega arith)) w) (same-fields ms (λ k l u. s k (omega arith) (omega arith)))

    pub same-subs : {i : ℕ} {vs : Items} → Subs x t i vs → ((k : ℕ) → i ≤ k → k < i + sizes vs → slice_index t' k ≡ slice_index t k) → Subs x t' i vs
    same-subs nil s = nil
    same-subs (cons {v = v} u us) s = cons (same-sub u (λ k l h. s k l (omega arith))) (same-subs us (λ k l h. s k (omega arith) (omega arith)))

    pub same-fields : {i : ℕ} {ms : Members} → Fields x t i ms → ((k : ℕ) → i ≤ k → k < i + widths ms → slice_index t' k ≡ slice_index t k) → Fields x t' i ms
    same-fields last s = last
    same-fields (field {v = v} q u us) s =
        field (same-quoted (λ k l h. s k l (omega arith)) q) (same-sub u (λ k l h. s k (omega arith) (omega arith)))
        (same-fields us (λ k l h. s k (omega arith) (omega arith)))

-- a numeral's first byte
pub other_byte : (b k : ℕ) → true ≡ is_numeric b → is_numeric k ≡ false → b ≢ k
other_byte b k h f e = let g : true ≡ is_numeric k = rw e at h in clash cc

numeral-kind : (b : ℕ) → true ≡ is_numeric b → byte_kind b ≡ a_number
unfolding byte_kind is_numeric is_digit
numeral-kind b h =
    rw (
      ne_eqb b 91 (other_byte b 91 h refl),
      ne_eqb b 123 (other_byte b 123 h refl),
      ne_eqb b 34 (other_byte b 34 h refl),
      ne_eqb b 110 (other_byte b 110 h refl),
      ne_eqb b 116 (other_byte b 116 h refl),
      ne_eqb b 102 (other_byte b 102 h refl),
    )

-- what a node's words say of its value
module _ {x t : List ℕ} where
  pub words : {i : ℕ} {v : Json} → Sub x t i v → Words x t i (place_of v) (end_of v) (lead_of v) (i + size v)
  unfolding size place_of end_of lead_of
  words (null w) = w
  words (bool w) = w
  words (num {p = p} {e = e} w n r) =
      record {
        room = w.room;
        start = w.start;
        end = w.end;
        next = w.next;
        some = w.some;
        inside = w.inside;
        byte = rw (r, slice-cons p e x 0 w.some w.inside);
      }
  words (str q) = q.words
  words (arr w vs) = w
  words (obj w ms) = w

  -- the byte where it starts tells its kind
  pub kind-of : {i : ℕ} {v : Json} → Sub x t i v → byte_kind (slice_index x (slice_index t i)) ≡ kind_of v
  unfolding byte_kind kind_of
  kind-of (null w) = rw (w.start, w.byte)
  kind-of (bool {b = true} w) = rw (w.start, w.byte)
  kind-of (bool {b = false} w) = rw (w.start, w.byte)
  kind-of (num w n r) = rw (w.start, w.byte) (numeral-kind _ n)
  kind-of (str q) = rw (q.words.start, q.words.byte)
  kind-of (arr w vs) = rw (w.start, w.byte)
  kind-of (obj w ms) = rw (w.start, w.byte)

  -- the words of a value, of elements and of members lie within the table
  mutual
    unfolding size

    pub sub_within : {i : ℕ} {v : Json} → Sub x t i v → i + size v ≤ length t
    sub_within (null w) = let r = w.room in omega arith
    sub_within (bool w) = let r = w.room in omega arith
    sub_within (num w n e) = let r = w.room in omega arith
    sub_within (str q) = let r = q.words.room in omega arith
    sub_within (arr w vs) = let r = w.room in omega (arith, subs-within vs (omega arith))
    sub_within (obj w ms) = let r = w.room in omega (arith, fields_within ms (omega arith))

    pub subs-within : {i : ℕ} {vs : Items} → Subs x t i vs → i ≤ length t → i + sizes vs ≤ length t
    subs-within nil h = omega arith
    subs-within (cons s ss) h = omega (arith, subs-within ss (sub_within s))

    pub fields_within : {i : ℕ} {ms : Members} → Fields x t i ms → i ≤ length t → i + widths ms ≤ length t
    fields_within last h = omega arith
    fields_within (field q s fs) h = let l = sub_within s in omega (arith, fields_within fs (omega arith))

-- the words from i on are those of a value; of an array of the elements `kids`; of an object of the members `fields`
pub record Tree (x t : List ℕ) (i : ℕ) : Type 0 where
  pub value : Json
  pub stands : Sub x t i value

pub record Array (x t : List ℕ) (i : ℕ) : Type 0 where
  pub place : ℕ
  pub end : ℕ
  pub kids : Items
  pub stands : Sub x t i (tree.arr place end kids)

pub record Object (x t : List ℕ) (i : ℕ) : Type 0 where
  pub place : ℕ
  pub end : ℕ
  pub fields : Members
  pub stands : Sub x t i (tree.obj place end fields)

pub kids : {x t : List ℕ} {i p e : ℕ} {vs : Items} → Sub x t i (tree.arr p e vs) → Subs x t (i + 3) vs
kids (arr w vs) = vs

pub fields : {x t : List ℕ} {i p e : ℕ} {ms : Members} → Sub x t i (tree.obj p e ms) → Fields x t (i + 3) ms
fields (obj w ms) = ms

-- an array, and an object, by the kind
pub record IsArray (v : Json) : Type 0 where
  pub place : ℕ
  pub end : ℕ
  pub kids : Items
  pub is : v ≡ tree.arr place end kids

pub record IsObject (v : Json) : Type 0 where
  pub place : ℕ
  pub end : ℕ
  pub fields : Members
  pub is : v ≡ tree.obj place end fields

pub is-array : (v : Json) → kind_of v ≡ an_array → IsArray v
unfolding kind_of
is-array (tree.null p e) h = clash cc
is-array (tree.bool p e b) h = clash cc
is-array (tree.num p e raw) h = clash cc
is-array (tree.str p e raw) h = clash cc
is-array (tree.arr p e vs) h = record { place = p; end = e; kids = vs; is = refl }
is-array (tree.obj p e ms) h = clash cc

pub is-object : (v : Json) → kind_of v ≡ an_object → IsObject v
unfolding kind_of
is-object (tree.null p e) h = clash cc
is-object (tree.bool p e b) h = clash cc
is-object (tree.num p e raw) h = clash cc
is-object (tree.str p e raw) h = clash cc
is-object (tree.arr p e vs) h = clash cc
is-object (tree.obj p e ms) h = record { place = p; end = e; fields = ms; is = refl }

-- Loops over elements. What a loop knows where it has come to the node k: the words from k up to n are those of some elements, of which P holds
pub record Left (x t : List ℕ) (k n : ℕ) (P : Items → Type 0) : Type 0 where
  pub items : Items
  pub stand : Subs x t k items
  pub ends : k + sizes items ≡ n
  pub holds : P items

-- what it knows in a turn: the value at k, and the others from the node that the value's third word names
pub record Past (x t : List ℕ) (k n : ℕ) (P : Items → Type 0) : Type 0 where
  pub value : Json
  pub others : Items
  pub holds : P (value ▸ others)
  pub stands : Sub x t k value
  pub word : Words x t k (place_of value) (end_of value) (lead_of value) (k + size value)
  pub more : k < slice_index t (k + 2)
  pub within : slice_index_or t (k + 2) 0 ≤ n
  pub then : Subs x t (slice_index t (k + 2)) others
  pub ends : slice_index_or t (k + 2) 0 + sizes others ≡ n

pub past : {x t : List ℕ} {k n : ℕ} {P : Items → Type 0} → Left x t k n P → k < n → Past x t k n P
unfolding sizes
past {x} {t} {k} {n} {P} l h = go l.stand l.ends l.holds
  where
    go : {vs : Items} → Subs x t k vs → k + sizes vs ≡ n → P vs → Past x t k n P
    go nil e p = absurd (omega arith)
    go (cons {v = v} {vs = vs} s ss) e p =
        let w = words s in
        record {
          value = v;
          others = vs;
          holds = p;
          stands = s;
          word = w;
          more = omega (arith, size-pos v, w.next);
          within = omega (arith, w.next);
          then = rw w.next ss;
          ends = omega (arith, w.next);
        }

pub over : {x t : List ℕ} {k n : ℕ} {P Q : Items → Type 0} (u : Past x t k n P) → Q u.others → Left x t (slice_index t (k + 2)) n Q
over u q = record { items = u.others; stand = u.then; ends = u.ends; holds = q }

-- none are left where the loop ends
pub ended : {x t : List ℕ} {k n : ℕ} {P : Items → Type 0} → Left x t k n P → n ≤ k → P tree.no_items
unfolding sizes
ended {x} {t} {k} {n} {P} l h = go l.items l.ends l.holds
  where
    go : (vs : Items) → k + sizes vs ≡ n → P vs → P tree.no_items
    go tree.no_items e p = p
    go (v ▸ vs) e p = absurd (omega (arith, size-pos v))

-- where the loop begins
pub array-ends : {x t : List ℕ} {i : ℕ} (a : Array x t i) → (i + 3) + sizes a.kids ≡ slice_index t (i + 2)
unfolding size
array-ends a = let w = words a.stands in omega (arith, w.next)

pub begin : {x t : List ℕ} {i : ℕ} {P : Items → Type 0} (a : Array x t i) → P a.kids → Left x t (i + 3) (slice_index t (i + 2)) P
begin a p = record { items = a.kids; stand = kids a.stands; ends = array-ends a; holds = p }

-- Loops over members: the name's node at k, the value's at k + 3, and the next member where the value's third word says
pub record MembersLeft (x t : List ℕ) (k n : ℕ) (P : Members → Type 0) : Type 0 where
  pub members : Members
  pub stand : Fields x t k members
  pub ends : k + widths members ≡ n
  pub holds : P members

pub record MemberPast (x t : List ℕ) (k n : ℕ) (P : Members → Type 0) : Type 0 where
  pub key : Name
  pub value : Json
  pub others : Members
  pub holds : P (member key value others)
  pub quoted : Quoted x t k key.place key.end key.raw
  pub stands : Sub x t (k + 3) value
  pub word : Words x t (k + 3) (place_of value) (end_of value) (lead_of value) (k + 3 + size value)
  pub more : k < slice_index t (k + 3 + 2)
  pub within : slice_index_or t (k + 3 + 2) 0 ≤ n
  pub then : Fields x t (slice_index t (k + 3 + 2)) others
  pub ends : slice_index_or t (k + 3 + 2) 0 + widths others ≡ n

pub member-past : {x t : List ℕ} {k n : ℕ} {P : Members → Type 0} → MembersLeft x t k n P → k < n → MemberPast x t k n P
unfolding widths
member-past {x} {t} {k} {n} {P} l h = go l.stand l.ends l.holds
  where
    go : {ms : Members} → Fields x t k ms → k + widths ms ≡ n → P ms → MemberPast x t k n P
    go last e p = absurd (omega arith)
    go (field {k = j} {v = v} {ms = ms} q s fs) e p =
        let w = words s in
        let z : slice_index_or t (k + 3 + 2) 0 ≡ k + (3 + size v) = w.next ∙ add_assoc k 3 (size v) in
        record {
          key = j;
          value = v;
          others = ms;
          holds = p;
          quoted = q;
          stands = s;
          word = w;
          more = omega arith;
          within = omega arith;
          then = rw z fs;
          ends = omega arith;
        }

pub member-over : {x t : List ℕ} {k n : ℕ} {P Q : Members → Type 0} (u : MemberPast x t k n P) → Q u.others → MembersLeft x t (slice_index t (k + 3 + 2)) n Q
member-over u q = record { members = u.others; stand = u.then; ends = u.ends; holds = q }

pub members-ended : {x t : List ℕ} {k n : ℕ} {P : Members → Type 0} → MembersLeft x t k n P → n ≤ k → P tree.empty
unfolding widths
members-ended {x} {t} {k} {n} {P} l h = go l.members l.ends l.holds
  where
    go : (ms : Members) → k + widths ms ≡ n → P ms → P tree.empty
    go tree.empty e p = p
    go (member j v ms) e p = absurd (omega (arith, size-pos v))

pub object-ends : {x t : List ℕ} {i : ℕ} (a : Object x t i) → (i + 3) + widths a.fields ≡ slice_index t (i + 2)
unfolding size
object-ends a = let w = words a.stands in omega (arith, w.next)

pub members-begin : {x t : List ℕ} {i : ℕ} {P : Members → Type 0} (a : Object x t i) → P a.fields → MembersLeft x t (i + 3) (slice_index t (i + 2)) P
members-begin a p = record { members = a.fields; stand = fields a.stands; ends = object-ends a; holds = p }
