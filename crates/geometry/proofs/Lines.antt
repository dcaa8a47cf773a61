-- Checks one after the other at one value, and checks of members.
use Prim.Native.Nat.{ℕ, min}
use Prim.Native.String.{String}
use mathlib.Core.Path.{◌≡◌, refl, sym, ap, ◌∙◌, subst}
use mathlib.Core.Bool.{not, ◌||◌}
use mathlib.Core.List.{List, [], ◌∷◌, ◌++◌, append_assoc}
use mathlib.Core.Option.{Option}
use mathlib.Core.Option as option
use Rattle.utf8.specs.Ascii.{ascii}
use Rattle.json_text.specs.Tree.{Json}
use Rattle.nodes.specs.Access.{is_object_value, members, first_named, find}
use Rattle.nodes.specs.Faults.{least}
use Rattle.nodes.specs.Laws.{least-++}
use Rattle.nodes.specs.Says.{Node, Sought, Seeks, Finds, Gives, GivesFound}
use Rattle.nodes.specs.Says.{Found}
use Rattle.std.specs.Prelude.{Some, None, MatchOption}
use Rattle.fields.specs.Laws.{at-node, sought-in}
use Rattle.shapes.specs.Checks.{Check, unless, all, on, at, object_kind, array_kind, is_some, needs}
use Rattle.shapes.specs.Says.{Needs}
use Rattle.shapes.specs.Laws.{checking, least-mix}
use Rattle.geometry.specs.Says.{Checked, CheckedOver, optional, required, MemberFound, least_with}

-- ---- checks in a line

all_append : (cs ds : List Check) (v : Json) → all cs v ++ all ds v ≡ all (cs ++ ds) v
unfolding all
all_append [] ds v = refl
all_append (c ∷ cs) ds v = append_assoc (c v) (all cs v) (all ds v) ∙ ap (λ l. c v ++ l) (all_append cs ds v)

module _ {x t : List ℕ} {i : ℕ} where
  pub line-none : {best : ℕ} → Checked (all []) x t i best best
  unfolding least all
  line-none = record { is = λ v s. refl }

  pub line-then : {best m r : ℕ} {c : Check} (cs : List Check) → Checked c x t i best m → Checked (all cs) x t i m r → Checked (all (c ∷ cs)) x t i best r
  unfolding all
  line-then {best} {m} {r} {c} cs g h =
      record { is = λ v s. h.is v s ∙ (ap (λ (n : ℕ). least n (all cs v)) (g.is v s) ∙ sym (least-++ best (c v) (all cs v))) }

  -- the checks of one line, and then those of another
  pub line-append : {best m r : ℕ} (cs ds : List Check) → Checked (all cs) x t i best m → Checked (all ds) x t i m r → Checked (all (cs ++ ds)) x t i best r
  line-append {best} cs ds g h =
      record {
        is = λ v s.
            h.is v s ∙ (ap (λ (n : ℕ). least n (all ds v)) (g.is v s) ∙ (sym (least-++ best (all cs v) (all ds v)) ∙ ap (least best) (all_append cs ds v)));
      }

  -- a check that another crate's function makes
  pub checked : {best r : ℕ} (c : Check) → Gives (λ v. least best (c v)) x t i r → Checked c x t i best r
  checked c g = record { is = λ v s. g.is v s }

  pub gives : {best r : ℕ} {c : Check} → Checked c x t i best r → Gives (λ v. least best (c v)) x t i r
  gives g = record { is = λ v s. g.is v s }

  -- an object, and then the rest of the line
  pub line-object : {best m r : ℕ} (cs : List Check) → Gives (λ v. least best (object_kind v)) x t i m → Checked (all cs) x t i m r → Checked (all (object_kind ∷ cs)) x t i best r
  line-object cs g h = line-then cs (checked object_kind g) h

  -- an array, and then the rest of the line
  pub line-array : {best m r : ℕ} (cs : List Check) → Gives (λ v. least best (array_kind v)) x t i m → Checked (all cs) x t i m r → Checked (all (array_kind ∷ cs)) x t i best r
  line-array cs g h = line-then cs (checked array_kind g) h

-- a check over what was found, at what that is
pub over-is : {c : Option Json → Check} {x t : List ℕ} {found : Found} {i best r : ℕ} → CheckedOver c x t found i best r → (o : Option Json) → Finds x t o found
    → Checked (c o) x t i best r
over-is g o f = g.is o f

-- ---- a member

module _ {x t : List ℕ} {i : ℕ} {found : Found} (name : List ℕ) (f : Seeks (λ v. first_named name (members v)) x t i found) where
  pub optional-none : (c : Check) {best : ℕ} → found ≡ None → Checked (optional name c) x t i best best
  unfolding optional on Finds least
  optional-none c e = record { is = λ v s. let z : first_named name (members v) ≡ option.none = subst (Finds x t (first_named name (members v))) e (f.finds v s) in rw z }

  pub optional-some : (c : Check) {best k r : ℕ} → found ≡ Some k → Checked c x t k best r → Checked (optional name c) x t i best r
  unfolding optional on Finds
  optional-some c {best} {k} e g =
      record {
        is = λ v s.
            let (w, p, q) : Finds x t (first_named name (members v)) (Some k) = subst (Finds x t (first_named name (members v))) e (f.finds v s) in
            g.is w q ∙ ap (λ o. least best (on c o)) (sym p);
      }

  pub optional-is : (c : Check) {best r : ℕ} → GivesFound (λ o. least best (on c o)) x t found r → Checked (optional name c) x t i best r
  unfolding optional
  optional-is c g = record { is = λ v s. g.is (first_named name (members v)) (f.finds v s) }

  -- where what was found is checked by `map_or`
  pub optional-map : (c : Check) {best r : ℕ} {P : ℕ → Type 0} → MatchOption found (r ≡ best) P → ((k : ℕ) → found ≡ Some k → P k → Checked c x t k best r)
      → Checked (optional name c) x t i best r
  optional-map c {best} {r} {P} m h = go found refl m
    where
      go : (o : Found) → found ≡ o → MatchOption o (r ≡ best) P → Checked (optional name c) x t i best r
      go None e z = rw z (optional-none c e)
      go (Some k) e z = optional-some c e (h k e z)

  pub required-then : (c : Check) {best m r : ℕ} → Needs x t found i best m → Checked (optional name c) x t i m r → Checked (required name c) x t i best r
  unfolding required
  required-then c {best} {m} n g =
      record {
        is = λ v s.
            let u = unless (not (is_object_value v) || is_some (first_named name (members v))) 8 v in
            g.is v s ∙ (ap (λ (b : ℕ). least b (optional name c v)) (n.is v (first_named name (members v)) s (f.finds v s)) ∙ sym (least-++ best u (optional name c v)));
      }

  pub required-none : (c : Check) {best m : ℕ} → Needs x t found i best m → found ≡ None → Checked (required name c) x t i best m
  required-none c n e = required-then c n (optional-none c e)

  pub required-some : (c : Check) {best m k r : ℕ} → Needs x t found i best m → found ≡ Some k → Checked c x t k m r → Checked (required name c) x t i best r
  required-some c n e g = required-then c n (optional-some c e g)

  pub member-found : Node x t i → MemberFound name x t i found
  member-found d = record { node = d; seeks = f }

pub found-sought : {name x t : List ℕ} {i : ℕ} {found : Found} → MemberFound name x t i found → Sought x t found
found-sought m = sought-in m.seeks m.node

-- the lesser of a fault and of that which was found, by `map_or`
pub least-map : (a : ℕ) {b : ℕ} (found : Found) {P : ℕ → Type 0} → MatchOption found (b ≡ a) P → ((f : ℕ) → P f → b ≡ min a f) → b ≡ least_with a found
unfolding least_with
least-map a None m h = m
least-map a (Some f) m h = h f m

-- a value stands where it was found
pub found-node : {name x t : List ℕ} {i k : ℕ} {found : Found} → MemberFound name x t i found → found ≡ Some k → Node x t k
found-node m e = at-node (found-sought m) e

pub member-node : {x t : List ℕ} {i k : ℕ} {f : Json → Option Json} {found : Found} → Seeks f x t i found → Node x t i → found ≡ Some k → Node x t k
member-node s d e = at-node (sought-in s d) e

-- ---- the definition's order: the needs of all names first, and then the checks

-- what an object is checked for: a member that is needed, one that may be absent, and another check
pub data Part : Type 0 where
  need : String → Check → Part
  may : String → Check → Part
  other : Check → Part

unfoldable pub names : List Part → List String
names [] = []
names (need n c ∷ ps) = n ∷ names ps
names (may n c ∷ ps) = names ps
names (other c ∷ ps) = names ps

-- the checks as the definition has them
unfoldable pub apart : List Part → List Check
apart [] = []
apart (need n c ∷ ps) = at n c ∷ apart ps
apart (may n c ∷ ps) = at n c ∷ apart ps
apart (other c ∷ ps) = c ∷ apart ps

-- the checks as the code makes them
unfoldable pub together : List Part → List Check
together [] = []
together (need n c ∷ ps) = required (ascii n) c ∷ together ps
together (may n c ∷ ps) = optional (ascii n) c ∷ together ps
together (other c ∷ ps) = c ∷ together ps

one_more : (b : ℕ) (u q n r s : List ℕ) → ((a : ℕ) → least a s ≡ least a (n ++ r)) → least b ((u ++ q) ++ s) ≡ least b ((u ++ n) ++ (q ++ r))
one_more b u q n r s e = least-++ b (u ++ q) s ∙ (e (least b (u ++ q)) ∙ (sym (least-++ b (u ++ q) (n ++ r)) ∙ least-mix b u q n r))

gathered : (ps : List Part) (v : Json) (b : ℕ) → least b (all (together ps) v) ≡ least b (needs (names ps) v ++ all (apart ps) v)
unfolding all needs names apart together required optional at find
gathered [] v b = refl
gathered (need n c ∷ ps) v b = one_more b (unless (not (is_object_value v) || is_some (find n v)) 8 v) (on c (find n v)) (needs (names ps) v) (all (apart ps) v) (all (together ps) v) (gathered ps v)
gathered (may n c ∷ ps) v b = one_more b [] (on c (find n v)) (needs (names ps) v) (all (apart ps) v) (all (together ps) v) (gathered ps v)
gathered (other c ∷ ps) v b = one_more b [] (c v) (needs (names ps) v) (all (apart ps) v) (all (together ps) v) (gathered ps v)

pub gather : (ps : List Part) (v : Json) (b : ℕ) → least b (all (object_kind ∷ together ps) v) ≡ least b (all (object_kind ∷ needs (names ps) ∷ apart ps) v)
unfolding all
gather ps v b =
    least-++ b (object_kind v) (all (together ps) v)
    ∙ (gathered ps v (least b (object_kind v)) ∙ sym (least-++ b (object_kind v) (needs (names ps) v ++ all (apart ps) v)))

-- what `search` is handed to close what a function over members leaves
pub ruleset lines = (
  checking,
  line-none,
  line-then,
  line-object,
  line-array,
  optional-none,
  optional-some,
  required-none,
  required-some,
  found-sought,
  found-node,
  member-node,
  member-found,
  sought-in,
  at-node,
)
