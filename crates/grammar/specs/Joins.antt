-- Elements and members that are read one after the other.
use Rattle.std.specs.Prelude.{◌≡◌, refl}
use Rattle.std.proofs.Common.{◌∙◌, ap}
use Rattle.json_text.specs.Tree.{Json, Items, no_items, ◌▸◌, ◌◂◌, Members, empty, member, with, Name}

-- the elements us, and then each of vs
abbrev pub ◌⊕◌ : Items → Items → Items
us ⊕ no_items = us
us ⊕ (v ▸ vs) = (us ◂ v) ⊕ vs

infixl 55 ◌⊕◌
-- the first element stays first
items-cons : (u : Json) (us vs : Items) → (u ▸ us) ⊕ vs ≡ u ▸ (us ⊕ vs)
unfolding ◌◂◌
items-cons u us no_items = refl
items-cons u us (v ▸ vs) = items-cons u (us ◂ v) vs

-- after no elements
pub items-none : (vs : Items) → no_items ⊕ vs ≡ vs
unfolding ◌◂◌
items-none no_items = refl
items-none (v ▸ vs) = items-cons v no_items vs ∙ ap (λ (us : Items). v ▸ us) (items-none vs)

-- the members ms, and then each of ns
abbrev pub ◌⊞◌ : Members → Members → Members
ms ⊞ empty = ms
ms ⊞ (member k v ns) = (with ms k v) ⊞ ns

infixl 55 ◌⊞◌
-- the first member stays first
members-cons : (k : Name) (v : Json) (ms ns : Members) → (member k v ms) ⊞ ns ≡ member k v (ms ⊞ ns)
unfolding with
members-cons k v ms empty = refl
members-cons k v ms (member j u ns) = members-cons k v (with ms j u) ns

-- after no members
pub members-empty : (ns : Members) → empty ⊞ ns ≡ ns
unfolding with
members-empty empty = refl
members-empty (member k v ns) = members-cons k v empty ns ∙ ap (λ (ms : Members). member k v ms) (members-empty ns)
