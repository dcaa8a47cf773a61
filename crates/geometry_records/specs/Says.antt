-- What the writers of geometries ask and tell.
use Rattle.std.specs.Prelude.{◌≡◌, List, ℕ}
use Rattle.std.proofs.Math.Option.{Option}
use Rattle.strings.specs.Spans.{Span, decode_at}
use Rattle.json_text.specs.Tree.{Json}
use Rattle.nodes.specs.Says.{Finds}
use Rattle.nodes.specs.Says.{Found}
use Rattle.fields.specs.Fields.{text_in}
use Rattle.geometry_records.specs.declared.Quote.{Quote}

-- q is where the bytes of the string that was found stand; no bytes, if no string was found
pub record Quotes (x t : List ℕ) (found : Found) (q : Quote) : Type 0 where
  pub span : Span x q.from q.to
  pub text : (o : Option Json) → Finds x t o found → decode_at x q.from q.to ≡ text_in o
