-- A law of the trie: a text leads to one entry.
use Rattle.std.specs.Prelude.{ℕ, ◌≡◌, refl, List, get_or}
use Rattle.std.proofs.Common.{sym, ap, ◌∙◌}
use Rattle.trie.specs.Trie.{Meets, none, here, next, Child, Reaches, stop, on}

module _ {t : List ℕ} {c : ℕ} where
  meets-unique : {b q m z z' : ℕ} → Meets t c b q m z → Meets t c b q m z' → z ≡ z'
  meets-unique (none h q) (none k p) = refl
  meets-unique (none h q) (here k l n p) = refl
  meets-unique (none h q) (next k l n p o) = absurd (n q)
  meets-unique (here h l n q) (none k p) = refl
  meets-unique (here h l n q) (here k o u p) = refl
  meets-unique (here h l n q) (next k o u p v) = absurd (p q)
  meets-unique (next h l n q p) (none k o) = absurd (n o)
  meets-unique (next h l n q p) (here k o u v) = absurd (q v)
  meets-unique (next h l n q p) (next k o u v w) = meets-unique p w

  child-unique : {s b r r' : ℕ} → Child t c s b r → Child t c s b r' → r ≡ r'
  child-unique p q = sym p.is ∙ (ap (λ (z : ℕ). get_or t z 0) (meets-unique p.meets q.meets) ∙ q.is)

  -- a text leads to one entry
  pub reaches-unique : {s r r' : ℕ} {u : List ℕ} → Reaches t c s u r → Reaches t c s u r' → r ≡ r'
  reaches-unique stop stop = refl
  reaches-unique (on p q) (on o z) = reaches-unique q (rw (child-unique p o) z)
