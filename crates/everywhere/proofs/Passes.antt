-- Passes over all nodes of a table, in the text's order: the faults of a tree are those of its parts, one after the other.
use Prim.Native.Nat.{ℕ, ◌+◌, ◌-◌, ◌*◌, ◌≤◌, ◌<◌}
use mathlib.Core.Path.{◌≡◌, refl, sym, ap, ◌∙◌}
use mathlib.Core.Bool.{Bool, true, false, not}
use mathlib.Core.List.{List, [], ◌∷◌, ◌++◌, map, map-append, append_assoc, flat_map}
use native.Mathlib.Omega.{arith}
use lib.ListN.{length, length-append}
use borrow.Author.Tests.{not-true}
use Rattle.strings.specs.Strings.{unpaired_from}
use Rattle.strings.specs.Spans.{has_byte}
use Rattle.strings.specs.Laws.{none-slice, unpaired-plain}
use Rattle.json_text.specs.Tree.{Json, Items, ◌▸◌, Members, member, Name}
use Rattle.json_text.specs.Tree as tree
use Rattle.json_text.specs.Table.{size, sizes, widths, Sub, null, bool, num, str, arr, obj, Subs, nil, cons, Fields, last, field}
use Rattle.json_text.specs.Laws.{words}
use Rattle.nodes.specs.Faults.{fault, least}
use Rattle.everywhere.specs.Everywhere.{strings, unpaired_in, rule5, strings_in, strings_of}
use Rattle.nodes.specs.Says.{Root, Gives}
use Rattle.nodes.specs.Laws.{least-++}
use Rattle.everywhere.specs.Parts.{Part, parts, parts_in, parts_of}
use Rattle.everywhere.specs.Says.{Stands, of-value, of-name, own5, AnyPart, PartGives}

pub flat-++ : (f : Part → List ℕ) (ds es : List Part) → flat_map f (ds ++ es) ≡ flat_map f ds ++ flat_map f es
unfolding flat_map
flat-++ f [] es = refl
flat-++ f (d ∷ ds) es = ap (λ (l : List ℕ). f d ++ l) (flat-++ f ds es) ∙ sym (append_assoc (f d) (flat_map f ds) (flat_map f es))

unpaired-++ : (ss ts : List Name) → unpaired_in (ss ++ ts) ≡ unpaired_in ss ++ unpaired_in ts
unfolding unpaired_in
unpaired-++ [] ts = refl
unpaired-++ (s ∷ ss) ts = ap (λ (l : List ℕ). unpaired_from (s.place + 1) s.raw ++ l) (unpaired-++ ss ts) ∙ sym (append_assoc (unpaired_from (s.place + 1) s.raw) (unpaired_in ss) (unpaired_in ts))

-- rule 5 part by part
mutual
  unfolding strings unpaired_in own5 parts flat_map

  unpaired-parts : (v : Json) → unpaired_in (strings v) ≡ flat_map own5 (parts v)
  unpaired-parts (tree.null p e) = refl
  unpaired-parts (tree.bool p e b) = refl
  unpaired-parts (tree.num p e raw) = refl
  unpaired-parts (tree.str p e raw) = refl
  unpaired-parts (tree.arr p e vs) = unpaired-items vs
  unpaired-parts (tree.obj p e ms) = unpaired-members ms

  unpaired-items : (vs : Items) → unpaired_in (strings_in vs) ≡ flat_map own5 (parts_in vs)
  unpaired-items tree.no_items = refl
  unpaired-items (v ▸ vs) = rw (unpaired-++, flat-++, unpaired-parts v, unpaired-items vs)

  unpaired-members : (ms : Members) → unpaired_in (strings_of ms) ≡ flat_map own5 (parts_of ms)
  unpaired-members tree.empty = refl
  unpaired-members (member k v ms) = rw (unpaired-++, flat-++ own5 _ _, unpaired-parts v, unpaired-members ms)

pub rule5-parts : (v : Json) → rule5 v ≡ flat_map own5 (parts v)
unfolding rule5
rule5-parts v = unpaired-parts v

-- three words a part
mutual
  unfolding parts size

  parts-size : (v : Json) → 3 * length (parts v) ≡ size v
  parts-size (tree.null p e) = refl
  parts-size (tree.bool p e b) = refl
  parts-size (tree.num p e raw) = refl
  parts-size (tree.str p e raw) = refl
  parts-size (tree.arr p e vs) = omega (arith, items-size vs)
  parts-size (tree.obj p e ms) = omega (arith, members-size ms)

  items-size : (vs : Items) → 3 * length (parts_in vs) ≡ sizes vs
  items-size tree.no_items = refl
  items-size (v ▸ vs) = omega (arith, length-append (parts v) (parts_in vs), parts-size v, items-size vs)

  members-size : (ms : Members) → 3 * length (parts_of ms) ≡ widths ms
  members-size tree.empty = refl
  members-size (member k v ms) = omega (arith, length-append (parts v) (parts_of ms), parts-size v, members-size ms)

-- the words from i on are those of the parts ds
pub data Row (x t : List ℕ) : ℕ → List Part → Type 0 where
  none : {i : ℕ} → Row x t i []
  some : {i : ℕ} {d : Part} {ds : List Part} → Stands x t i d → Row x t (i + 3) ds → Row x t i (d ∷ ds)

row-++ : {x t : List ℕ} {i : ℕ} {ds : List Part} (n : ℕ) (es : List Part) → Row x t i ds → i + 3 * length ds ≡ n → Row x t n es → Row x t i (ds ++ es)
row-++ {i = i} n es none e r = let z : i ≡ n = omega arith in rw z r
row-++ n es (some {ds = ds} s r') e r = some s (row-++ n es r' (omega arith) r)

module _ {x t : List ℕ} where
  mutual
    unfolding parts size

    row : {i : ℕ} {v : Json} → Sub x t i v → Row x t i (parts v)
    row (null w) = some (of-value (null w)) none
    row (bool w) = some (of-value (bool w)) none
    row (num w n r) = some (of-value (num w n r)) none
    row (str q) = some (of-value (str q)) none
    row (arr w vs) = some (of-value (arr w vs)) (item-row vs)
    row (obj w ms) = some (of-value (obj w ms)) (member-row ms)

    item-row : {i : ℕ} {vs : Items} → Subs x t i vs → Row x t i (parts_in vs)
    item-row nil = none
    item-row (cons {v = v} {vs = vs} s ss) = row-++ _ (parts_in vs) (row s) (omega (arith, parts-size v)) (item-row ss)

    member-row : {i : ℕ} {ms : Members} → Fields x t i ms → Row x t i (parts_of ms)
    member-row last = none
    member-row (field {v = v} {ms = ms} q s fs) = some (of-name q) (row-++ _ (parts_of ms) (row s) (omega (arith, parts-size v)) (member-row fs))

-- where the text has no backslash, no part breaks rule 5
module _ {x t : List ℕ} (h : has_byte 92 x ≡ false) where
  plain-part : {i : ℕ} {d : Part} → Stands x t i d → own5 d ≡ []
  unfolding own5
  plain-part (of-value (null w)) = refl
  plain-part (of-value (bool w)) = refl
  plain-part (of-value (num w n r)) = refl
  plain-part (of-value (str {p = p} {e = e} q)) = rw q.between (unpaired-plain (p + 1) _ (none-slice 92 (p + 1) (e - 1) x h))
  plain-part (of-value (arr w vs)) = refl
  plain-part (of-value (obj w ms)) = refl
  plain-part (of-name {k = k} q) = rw q.between (unpaired-plain (k.place + 1) _ (none-slice 92 (k.place + 1) (k.end - 1) x h))

  plain_row : {i : ℕ} {ds : List Part} → Row x t i ds → flat_map own5 ds ≡ []
  unfolding flat_map
  plain_row none = refl
  plain_row (some s r) = rw (plain-part s, plain_row r)

pub rule5-clear : {x t : List ℕ} (b : ℕ) {r : Bool} → r ≡ has_byte 92 x → not r ≡ true → Gives (λ v. least b (map (fault 5) (rule5 v))) x t 0 b
unfolding least
rule5-clear b {r} q n = record { is = λ v s. rw (rule5-parts v, plain_row (sym q ∙ not-true r n) (row s)) }

-- ---- a pass over a table

-- where a pass has come to the node k: the words from k up to n are those of the parts that are left, and F holds of these
pub record Rest (F : List Part → Type 0) (x t : List ℕ) (n k : ℕ) : Type 0 where
  pub left : List Part
  pub stand : Row x t k left
  pub ends : k + 3 * length left ≡ n
  pub holds : F left

-- in a turn: the part at k, and the others
pub record Turn (F : List Part → Type 0) (x t : List ℕ) (n k : ℕ) : Type 0 where
  pub part : Part
  pub others : List Part
  pub stands : Stands x t k part
  pub then : Row x t (k + 3) others
  pub ends : (k + 3) + 3 * length others ≡ n
  pub holds : F (part ∷ others)

-- at the start all parts of w are left; it has as many words as v, which stands at the same node, of this or another text
pub rest_all : (F : List Part → Type 0) {x y t : List ℕ} {v w : Json} {n : ℕ} → Sub y t 0 v → Sub x t 0 w → size v ≡ n → F (parts w) → Rest F x t n 0
rest_all F {w = w} s u e h = record { left = parts w; stand = row u; ends = omega (arith, parts-size w, (words s).next, (words u).next); holds = h }

module _ {F : List Part → Type 0} {x t : List ℕ} {n k : ℕ} (r : Rest F x t n k) where
  pub turn : k < n → Turn F x t n k
  turn h = go r.stand r.ends r.holds
    where
      go : {ds : List Part} → Row x t k ds → k + 3 * length ds ≡ n → F ds → Turn F x t n k
      go none e p = absurd (omega arith)
      go (some {d = d} {ds = ds} s w) e p = record { part = d; others = ds; stands = s; then = w; ends = omega arith; holds = p }

  pub finished : n ≤ k → F []
  finished h = go r.left r.ends r.holds
    where
      go : (ds : List Part) → k + 3 * length ds ≡ n → F ds → F []
      go [] e p = p
      go (d ∷ ds) e p = absurd (omega arith)

-- and it goes on with the others
pub onward : {F : List Part → Type 0} (G : List Part → Type 0) {x t : List ℕ} {n k : ℕ} (u : Turn F x t n k) → G u.others → Rest G x t n (k + 3)
onward G u h = record { left = u.others; stand = u.then; ends = u.ends; holds = h }

-- ---- a pass that looks for faults

-- something is claimed of every least so far
abbrev pub Always : ℕ → Type 0
Always b = Unit

-- the faults of the parts ds with b have the least `all`, if P holds of b
abbrev Least : (P : ℕ → Type 0) (rule : ℕ) (own : Part → List ℕ) (b all : ℕ) → List Part → Type 0
Least P rule own b all ds = P b → least b (map (fault rule) (flat_map own ds)) ≡ all

-- this holds of what is left, for every value that stands at the node 0; the pass began with b₀
pub record Pass (P : ℕ → Type 0) (rule : ℕ) (own : Part → List ℕ) (x t : List ℕ) (n b₀ k b : ℕ) : Type 0 where
  pub root : Root x t n
  left : (v : Json) → Sub x t 0 v → Rest (Least P rule own b (least b₀ (map (fault rule) (flat_map own (parts v))))) x t n k

-- the first part's faults, then those of the others
one_more : (rule : ℕ) (own : Part → List ℕ) (b : ℕ) (d : Part) (ds : List Part)
    → least b (map (fault rule) (flat_map own (d ∷ ds))) ≡ least (least b (map (fault rule) (own d))) (map (fault rule) (flat_map own ds))
unfolding flat_map
one_more rule own b d ds = ap (least b) (map-append (fault rule) (own d) (flat_map own ds)) ∙ least-++ b (map (fault rule) (own d)) (map (fault rule) (flat_map own ds))

pub pass-begin : (P : ℕ → Type 0) (rule : ℕ) (own : Part → List ℕ) {x t : List ℕ} {n : ℕ} (b : ℕ) → Root x t n → Pass P rule own x t n b 0 b
pass-begin P rule own b d = record { root = d; left = λ v s. rest_all (Least P rule own b _) d.stands s d.ends (λ z. refl) }

module _ {P : ℕ → Type 0} {rule : ℕ} {own : Part → List ℕ} {x t : List ℕ} {n b₀ k b : ℕ} (c : Pass P rule own x t n b₀ k b) where
  pub pass-part : k < n → AnyPart x t k
  pass-part l = let u = turn (c.left c.root.value c.root.stands) l in record { part = u.part; stands = u.stands; short = c.root.short }

  pub again : {r : ℕ} → k < n → ((d : Part) → Stands x t k d → P r → P b × (r ≡ least b (map (fault rule) (own d)))) → Pass P rule own x t n b₀ (k + 3) r
  again l g =
      record {
        root = c.root;
        left = λ v s.
            let u = turn (c.left v s) l in
            onward (Least P rule own _ _) u
            (λ z. let o = g u.part u.stands z in rw o.1 (sym (one_more rule own b u.part u.others) ∙ u.holds o.0));
      }

  pub pass-done : n ≤ k → P b → (v : Json) → Sub x t 0 v → b ≡ least b₀ (map (fault rule) (flat_map own (parts v)))
  unfolding flat_map least
  pass-done h z v s = finished (c.left v s) h z

module _ {rule : ℕ} {own : Part → List ℕ} {x t : List ℕ} {n b₀ k b r : ℕ} where
  pub pass-again : Pass Always rule own x t n b₀ k b → k < n → PartGives rule own x t k b r → Pass Always rule own x t n b₀ (k + 3) r
  pass-again c l g = again c l (λ d s z. (tt, g.is d s))
