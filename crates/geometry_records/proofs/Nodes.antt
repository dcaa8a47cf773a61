-- Records at a node, from what the code's tests and callees say.
use Prim.Native.Nat.{ℕ, ◌≤◌}
use mathlib.Core.Path.{◌≡◌, refl}
use mathlib.Core.List.{List, [], ◌∷◌}
use Rattle.json_text.specs.Tree.{Json}
use Rattle.nodes.specs.Access.{elements}
use Rattle.nodes.specs.Says.{Node}
use Rattle.nodes.specs.declared.Siblings.{Siblings}
use Rattle.nodes.specs.Says.{Found}
use Rattle.std.specs.Prelude.{Some, None}
use Rattle.model.specs.Code.{concat_map, All}
use Rattle.model.specs.Read.{or_null}
use Rattle.arrays.specs.Fits.{Elements}
use Rattle.arrays.specs.Says.{Holds, Wrote, WroteFound}
use Rattle.arrays.specs.Laws.{Laying, laying-done, wrote_none, wrote-some}
use Rattle.geometry_records.specs.Bytes.{each_in}
use Rattle.geometry_records.specs.Members.{each}

-- ---- payloads

module _ {x t : List ℕ} {d₀ d : List ℕ} {body end : ℕ} where
  -- a writer goes on
  pub wrote-onward : {i : ℕ} {f : Json → List ℕ} → Node x t i → Wrote f x t i d₀ d body end → body ≤ end
  wrote-onward n w = (w.is n.value n.stands).onward

-- ---- the elements of what was found

-- any value
unfoldable pub Any : Json → Type 0
Any v = Unit {0}

all_any : (vs : List Json) → All Any vs
unfolding Any
all_any [] = tt
all_any (v ∷ vs) = (tt, all_any vs)

pub any-elements : {x t : List ℕ} {i : ℕ} → Node x t i → Holds (Elements Any) x t i
unfolding Elements
any-elements d = record { node = d; holds = λ v s. all_any (elements v) }

-- all of them were written
pub each_all : {P : Json → Type 0} {f : Json → List ℕ} {x t : List ℕ} {i : ℕ} {s : Siblings} {d₀ d : List ℕ} {to at : ℕ} → Laying P f x t i s d₀ d to at
    → s.end ≤ s.at → Wrote (each f) x t i d₀ d to at
unfolding each
each_all p h = laying-done p h

module _ (f : Json → List ℕ) {x t : List ℕ} {found : Found} where
  pub each_none : {d : List ℕ} {to : ℕ} → found ≡ None → WroteFound (each_in f) x t found d d to to
  unfolding each_in or_null elements concat_map
  each_none e = wrote_none e refl

  pub each-some : {k : ℕ} {d₀ d : List ℕ} {to r : ℕ} → found ≡ Some k → Wrote (each f) x t k d₀ d to r → WroteFound (each_in f) x t found d₀ d to r
  unfolding each_in each or_null
  each-some e w = wrote-some e w
