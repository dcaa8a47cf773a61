-- Members of the transform and of an object.
use Prim.Native.Nat.{ℕ}
use mathlib.Core.List.{List}
use Rattle.utf8.specs.Ascii.{ascii}
use Rattle.nodes.specs.Access.{members, first_named}
use Rattle.nodes.specs.Says.{Seeks, Gives, GivesFound}
use Rattle.nodes.specs.Says.{Found}
use Rattle.fields.specs.Fields.{text_in, type_text}
use Rattle.words.specs.Words.{object_words, code_of}
use Rattle.model.specs.Model.{lay_three, lay_decimal}
use Rattle.model.specs.Read.{decimal_of, three_of}
use Rattle.arrays.specs.Fits.{Pair, Triple}
use Rattle.arrays.specs.Says.{Holds, Wrote}
use Rattle.arrays.specs.Laws.{holds_as}
use Rattle.geometry_records.specs.Members.{Named, Leads}
use Rattle.geometry_records.proofs.Members.{wrote-led, has_named, typed}
use Rattle.records.specs.Fits.{TransformFits}
use Rattle.records.specs.Members.{pairs_member}

pub pairs-led : {name x t : List ℕ} {i k : ℕ} {d₀ d : List ℕ} {to r : ℕ} → Leads name x t i k
    → Wrote (λ v. lay_three lay_decimal (three_of decimal_of v)) x t k d₀ d to r → Wrote (pairs_member name) x t i d₀ d to r
unfolding pairs_member
pairs-led l w = wrote-led l w

module _ {x t : List ℕ} {i : ℕ} where
  pub transform-scale : Holds TransformFits x t i → Holds (Named (Triple Pair) (ascii "scale")) x t i
  transform-scale h = holds_as (λ v f. has_named "scale" f.scale) h

  pub transform-translate : Holds TransformFits x t i → Holds (Named (Triple Pair) (ascii "translate")) x t i
  transform-translate h = holds_as (λ v f. has_named "translate" f.translate) h

  pub object-typed : {code : ℕ} {found : Found} → Seeks (λ v. first_named (ascii "type") (members v)) x t i found → GivesFound (λ o. code_of object_words (text_in o)) x t found code
      → Gives (λ v. code_of object_words (type_text v)) x t i code
  object-typed f g = typed object_words f g
