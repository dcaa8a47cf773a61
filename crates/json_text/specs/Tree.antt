-- The tree of a JSON text, with the place of each value and each name.
use Rattle.std.specs.Prelude.{ℕ, Bool, List}

-- a string that names a member: the offset of its first byte, one past that of its last, and the bytes between its quotes as they stand in the text
pub record Name : Type 0 where
  pub place : ℕ
  pub end : ℕ
  pub raw : List ℕ

-- Each value has its place p, the offset of its first byte, and its end e, one past the offset of its last.
-- A numeral has its bytes, a string those between its quotes, both as they stand in the text.
mutual
  pub data Json : Type 0 where
    null : (p e : ℕ) → Json
    bool : (p e : ℕ) → Bool → Json
    num : (p e : ℕ) → List ℕ → Json
    str : (p e : ℕ) → List ℕ → Json
    arr : (p e : ℕ) → Items → Json
    obj : (p e : ℕ) → Members → Json

  -- the elements of an array, in the text's order
  pub data Items : Type 0 where
    no_items : Items
    ◌▸◌ : Json → Items → Items

  -- the members of an object, in the text's order
  pub data Members : Type 0 where
    empty : Members
    member : Name → Json → Members → Members

infixr 60 ◌▸◌
-- one element more
unfoldable pub ◌◂◌ : Items → Json → Items
no_items ◂ v = v ▸ no_items
(u ▸ us) ◂ v = u ▸ (us ◂ v)

infixl 60 ◌◂◌
-- one member more
unfoldable pub with : Members → Name → Json → Members
with empty k v = member k v empty
with (member j u ms) k v = member j u (with ms k v)

-- where a value starts, and one past where it ends
unfoldable pub place_of : Json → ℕ
place_of (null p e) = p
place_of (bool p e b) = p
place_of (num p e raw) = p
place_of (str p e raw) = p
place_of (arr p e vs) = p
place_of (obj p e ms) = p

unfoldable pub end_of : Json → ℕ
end_of (null p e) = e
end_of (bool p e b) = e
end_of (num p e raw) = e
end_of (str p e raw) = e
end_of (arr p e vs) = e
end_of (obj p e ms) = e
