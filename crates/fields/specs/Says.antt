-- What the functions over what was found ask and tell.
use Rattle.std.specs.Prelude.{◌≡◌, true, List, [], ℕ, ◌+◌, ◌<◌, ◌≤◌, min, length, get_or, Some, None}
use Rattle.std.specs.Prelude as code
use Rattle.strings.specs.Spans.{Span, decode_at}
use Rattle.std.proofs.Math.Option.{Option}
use Prim.Native.String.{String}
use Rattle.words.specs.Words.{code_of}
use Rattle.json_text.specs.Tree.{Json}
use Rattle.json_text.specs.Table.{Quoted, Sub}
use Rattle.nodes.specs.Access.{is_string_value, Member}
use Rattle.nodes.specs.Says.{Node, Finds, Sought}
use Rattle.nodes.specs.Says.{Found}
use Rattle.fields.specs.Fields.{text_in}
use Rattle.fields.specs.declared.Index.{Index}

-- a string stands at the node i
pub record StringNode (x t : List ℕ) (i : ℕ) : Type 0 where
  pub node : Node x t i
  pub is : (v : Json) → Sub x t i v → is_string_value v ≡ true

-- the bytes w are those that stand between the offsets, decoded, or there are none
abbrev pub Spells : List ℕ → List ℕ → code.Option (ℕ × ℕ) → Type 0
Spells x w (Some s) = Span x s.0 s.1 × (w ≡ decode_at x s.0 s.1)
Spells x w None = w ≡ []

-- r tells where the text of the string that was found stands
pub record GivesSpan (x t : List ℕ) (found : Found) (r : code.Option (ℕ × ℕ)) : Type 0 where
  pub is : (o : Option Json) → Finds x t o found → Spells x (text_in o) r

-- the code is that of the word that was found
pub record CodeOf (words : List String) (x t : List ℕ) (found : Found) (code : ℕ) : Type 0 where
  pub sought : Sought x t found
  pub is : (o : Option Json) → Finds x t o found → code ≡ code_of words (text_in o)

-- a member stands at the node i: its name there, and its value after it
pub record MemberAt (x t : List ℕ) (i : ℕ) (m : Member) : Type 0 where
  pub name : Quoted x t i m.0.place m.0.end m.0.raw
  pub value : Sub x t (i + 3) m.1

-- "the index that names each object's place has that fixed size": it holds the node of the name of each of the first 1,024 members,
-- in order, and then zeros
pub record Indexed (x t : List ℕ) (ms : List Member) (index : Index) : Type 0 where
  pub room : length index.offsets ≡ 1024
  pub count : index.count ≡ min 1024 (length ms)
  pub each : (k : ℕ) (d : Member) → k < index.count → MemberAt x t (get_or index.offsets k 0) (get_or ms k d)
  pub rest : (k : ℕ) → index.count ≤ k → get_or index.offsets k 0 ≡ 0
