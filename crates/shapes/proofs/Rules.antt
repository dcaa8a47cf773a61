-- What the proofs of several functions use, and what `search` is handed.
use Prim.Native.Nat.{ℕ}
use mathlib.Core.Path.{◌≡◌, sym, ap, ◌∙◌}
use mathlib.Core.Bool.{Bool, not, ◌||◌}
use mathlib.Core.List.{List}
use mathlib.Core.Option.{Option}
use mathlib.Core.Option as option
use Rattle.json_text.specs.Tree.{Json}
use Rattle.nodes.specs.Access.{is_object_value}
use Rattle.nodes.specs.Faults.{least}
use Rattle.nodes.specs.Says.{Gives, Finds}
use Rattle.nodes.specs.Says.{Found}
use Rattle.std.specs.Prelude.{Some, None}
use Rattle.shapes.specs.Checks.{unless, is_some}
use Rattle.shapes.specs.Says.{Needs}
use Rattle.shapes.specs.Laws.{checking, unless-true}
use Rattle.shapes.proofs.Parts.{or-true, or-false, clears-none, number-node, integer-no, integer-is, triple-kind, triple-array, triple-count, triple-is, vertex-array, integers-begin}
use Rattle.shapes.proofs.Triples.{small-none, small_is, plain-onward, plain-begin, plain-first}

-- rule 8
module _ {x t : List ℕ} {i : ℕ} (best : ℕ) {found : Found} where
  pub need-nothing : {r : ℕ} (b : Bool) → found ≡ None → Gives is_object_value x t i b → Gives (λ v. least best (unless (not b) 8 v)) x t i r → Needs x t found i best r
  unfolding Finds is_some
  need-nothing {r} b e g u = record { is = λ v o s f. let z : o ≡ option.none = rw e at f in u.is v s ∙ ap (λ (b : Bool). least best (unless b 8 v)) (rw (g.is v s, z) (sym (or-false _))) }

  pub need-found : {k : ℕ} → found ≡ Some k → Needs x t found i best best
  unfolding Finds is_some
  need-found {k} e = record { is = λ v o s f. go v o (rw e at f) }
    where
      go : (v : Json) (o : Option Json) → Finds x t o (Some k) → best ≡ least best (unless (not (is_object_value v) || is_some o) 8 v)
      go v o (w, q, z) = unless-true best 8 v (ap (λ o. not (is_object_value v) || is_some o) q ∙ or-true (not (is_object_value v)))

-- what `search` is handed to close what the functions leave
pub ruleset shapes = (
  checking,
  need-nothing,
  need-found,
  integer-no,
  integer-is,
  triple-kind,
  triple-array,
  triple-count,
  triple-is,
  vertex-array,
  integers-begin,
  clears-none,
  small-none,
  small_is,
  plain-onward,
  plain-begin,
  plain-first,
  number-node,
)
