-- The strings and names of a model stand for whole characters (proofs/Characters.antt).
use Rattle.std.specs.Prelude.{ℕ}
use mathlib.Core.List.{List}
use Rattle.std.proofs.Math.Option.{Option, some}
use Rattle.std.proofs.Math.Option as option
use Rattle.utf8.specs.Utf8.{Whole}
use Rattle.strings.specs.Strings.{decode}
use Rattle.json_text.specs.Tree.{Name}
use Rattle.model.specs.Code.{All}
use Rattle.model.specs.Model.{Surface, added, Semantics, Object, Model}
use Rattle.model.specs.Model as model

-- a string or a name stands for whole characters
abbrev pub WholeName : Name → Type 0
WholeName s = Whole (decode s.raw)

-- the added name of a surface, if it has one
abbrev pub WholeSurface : Surface → Type 0
WholeSurface (model.listed code) = Unit {0}
WholeSurface (added name) = Whole name

-- the added names of a geometry's surfaces, if it has semantics
abbrev pub WholeSemantics : {code : ℕ} → Option (Semantics code) → Type 0
WholeSemantics option.none = Unit {0}
WholeSemantics (some s) = All WholeSurface s.surfaces

-- the ID of an object, the IDs that it links to, and the added names of its surfaces
pub record WholeObject (o : Object (List ℕ)) : Type 0 where
  pub id : Whole o.id
  pub children : All Whole o.children
  pub parents : All Whole o.parents
  pub names : All (λ g. WholeSemantics g.semantics) o.geometries

-- all texts of a model
abbrev pub WholeTexts : Model → Type 0
WholeTexts m = All WholeObject m.objects
