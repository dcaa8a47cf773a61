-- What the walk over a geometry asks and tells.
use Rattle.std.specs.Prelude.{◌≡◌, Bool, true, not, ◌||◌, List, [], ◌++◌, ℕ, ◌≤◌, min, is_none}
use Rattle.std.proofs.Math.Option.{Option}
use Prim.Native.String.{String}
use Rattle.utf8.specs.Ascii.{ascii}
use Rattle.words.specs.Words.{code_of, depth}
use Rattle.json_text.specs.Tree.{Json}
use Rattle.json_text.specs.Table.{Sub}
use Rattle.nodes.specs.Access.{is_object_value, text_of, members, first_named, find}
use Rattle.nodes.specs.Faults.{least}
use Rattle.nodes.specs.Says.{Node, Seeks, Finds, Sought, Gives, GivesFound}
use Rattle.nodes.specs.Says.{Found}
use Rattle.std.specs.Prelude.{Some, None}
use Rattle.fields.specs.Fields.{text_in}
use Rattle.shapes.specs.Checks.{Check, unless, on, is_some}
use Rattle.shapes.specs.Shapes.{shaped}
use Rattle.boundaries.specs.Says.{Nodes}
use Rattle.rules.specs.Schema.{boundaries, semantics}
use Rattle.geometry.specs.declared.Outline.{Outline}

-- r is the least of best and the faults that the check finds in the value that stands at the node i
pub record Checked (c : Check) (x t : List ℕ) (i best r : ℕ) : Type 0 where
  pub is : (v : Json) → Sub x t i v → r ≡ least best (c v)

-- checks of the member whose name has these bytes: one that may be absent, and one that is needed (rule 8)
unfoldable pub optional : List ℕ → Check → Check
unfolding on first_named members
optional name c v = on c (first_named name (members v))

unfoldable pub required : List ℕ → Check → Check
unfolding unless is_object_value is_some first_named members optional
required name c v = unless (not (is_object_value v) || is_some (first_named name (members v))) 8 v ++ optional name c v

-- the check may be called at each node, whatever the least so far
abbrev pub Callable : List ℕ → List ℕ → (ℕ → ℕ → Type 0) → Type 0
Callable x t pre = (k b : ℕ) → Node x t k → pre k b

-- what it gives there is what c finds
abbrev pub Makes : List ℕ → List ℕ → (ℕ → ℕ → ℕ → Type 0) → Check → Type 0
Makes x t post c = (k b r : ℕ) → Node x t k → post k b r → Checked c x t k b r

-- the same where the value was found
abbrev pub CallableFound : Found → (ℕ → ℕ → Type 0) → Type 0
CallableFound found pre = (k b : ℕ) → found ≡ Some k → pre k b

abbrev pub MakesFound : List ℕ → List ℕ → Found → (ℕ → ℕ → ℕ → Type 0) → Check → Type 0
MakesFound x t found post c = (k b r : ℕ) → found ≡ Some k → post k b r → Checked c x t k b r

-- what a test gives at the node k is what ok says of the text there
abbrev pub Answers : List ℕ → List ℕ → ℕ → (Bool → Type 0) → (List ℕ → Bool) → Type 0
Answers x t k post ok = (b : Bool) → post b → Gives (λ v. ok (text_of v)) x t k b

-- what was found is the member whose name has these bytes, of the value that stands at the node i
pub record MemberFound (name x t : List ℕ) (i : ℕ) (found : Found) : Type 0 where
  pub node : Node x t i
  pub seeks : Seeks (λ v. first_named name (members v)) x t i found

-- what was found is the `type` of the value that stands at the node i, and the code is that of its word
pub record TypeAt (words : List String) (x t : List ℕ) (i : ℕ) (found : Found) (code : ℕ) : Type 0 where
  pub member : MemberFound (ascii "type") x t i found
  pub is : GivesFound (λ o. code_of words (text_in o)) x t found code

-- the code is that of the word that stands at the node i
pub record CodeAt (words : List String) (x t : List ℕ) (i code : ℕ) : Type 0 where
  pub node : Node x t i
  pub is : Gives (λ v. code_of words (text_of v)) x t i code

-- the check of a geometry's semantics over its boundary
unfoldable pub meaning : ℕ → Check
unfolding optional ascii semantics find
meaning code v = optional (ascii "semantics") (semantics code (find "boundaries" v)) v

-- r is the least of best and the faults that a check finds in the value that stands at the node i, over what was found
pub record CheckedOver (c : Option Json → Check) (x t : List ℕ) (found : Found) (i best r : ℕ) : Type 0 where
  pub is : (o : Option Json) → Finds x t o found → Checked (c o) x t i best r

-- if sound is true, the value that stands at the node i has the shape of a boundary of that code
pub record SoundAt (x t : List ℕ) (i code : ℕ) (sound : Bool) : Type 0 where
  pub none : sound ≡ true → (v : Json) → Sub x t i v → shaped (depth code) v ≡ []

-- a boundary was sought; if it was found and its type has a code, what `sound` tells holds of it
pub record Outlined (x t : List ℕ) (o : Outline) : Type 0 where
  pub sought : Sought x t o.at
  pub is : (o.code ≡ 0 → ⊥) → (i : ℕ) → o.at ≡ Some i → SoundAt x t i o.code o.sound

-- the lesser of a fault and of that which was found, if it was
unfoldable pub least_with : ℕ → Found → ℕ
least_with best None = best
least_with best (Some f) = min best f

-- r is the least fault of the boundary that was found, if it has one; a boundary without one is well shaped
pub record OwnFault (vertices code : ℕ) (x t : List ℕ) (found r : Found) : Type 0 where
  pub is : (o : Option Json) (best : ℕ) → Finds x t o found → best ≤ 4294967295 → least_with best r ≡ least best (on (boundaries vertices code) o)
  pub sound : Outlined x t (record { at = found; code = code; sound = is_none r })

-- values stand at the node v, over a boundary at the node b whose type has a code
pub record Overlaid (x t : List ℕ) (b v : ℕ) (o : Outline) : Type 0 where
  pub nodes : Nodes x t b v
  pub coded : o.code ≡ 0 → ⊥
  pub known : SoundAt x t b o.code o.sound
