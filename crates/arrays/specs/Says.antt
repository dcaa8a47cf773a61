-- What the writers ask and tell of a node.
use Rattle.std.specs.Prelude.{List, ℕ}
use Rattle.std.proofs.Math.Option.{Option}
use Rattle.json_text.specs.Tree.{Json}
use Rattle.json_text.specs.Table.{Sub}
use Rattle.nodes.specs.Says.{Node, Finds, Found}
use Rattle.writer.specs.Writes.{Writes}

-- a value of the text x, which is short enough (rule 1), stands at the node i, and P holds of it
pub record Holds (P : Json → Type 0) (x t : List ℕ) (i : ℕ) : Type 0 where
  pub node : Node x t i
  pub holds : (v : Json) → Sub x t i v → P v

-- the bytes that f gives for the value at the node i were to be written
pub record Wrote (f : Json → List ℕ) (x t : List ℕ) (i : ℕ) (d₀ d : List ℕ) (to r : ℕ) : Type 0 where
  pub is : (v : Json) → Sub x t i v → Writes (f v) d₀ d to r

-- the bytes that f gives for what was found were to be written
pub record WroteFound (f : Option Json → List ℕ) (x t : List ℕ) (found : Found) (d₀ d : List ℕ) (to r : ℕ) : Type 0 where
  pub is : (o : Option Json) → Finds x t o found → Writes (f o) d₀ d to r
