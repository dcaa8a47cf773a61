-- The number of the bytes that a string stands for, byte by byte.
use Prim.Native.Nat.{ℕ, ◌+◌, ◌*◌, ◌%◌, ◌≤◌, ◌<◌}
use mathlib.Core.Path.{◌≡◌, refl, sym, ◌∙◌}
use mathlib.Core.List.{List, [], ◌∷◌}
use native.Mathlib.Omega.{arith}
use lib.ListN.{get_or}
use borrow.Author.Rules.{rules}
use Rattle.strings.specs.Spans.{Span, decode_at}
use Rattle.strings.specs.Laws.{onward, at_plain, at-end}
use Rattle.everywhere.specs.Chains.{hash_from, chain_of}

-- bytes whose number is all: those before l have the number h
pub record Hashing (all : ℕ) (l : List ℕ) (h : ℕ) : Type 0 where
  goes : all ≡ hash_from h l
  pub small : h < 67108864

pub hashing-begin : (h : ℕ) (l : List ℕ) {m : List ℕ} → m ≡ l → h < 67108864 → Hashing (hash_from h l) m h
hashing-begin h l e s = rw e (record { goes = refl; small = s })

module _ {all h : ℕ} {l : List ℕ} (c : Hashing all l h) where
  pub hashing-end : l ≡ [] → h ≡ all
  unfolding hash_from
  hashing-end q = let e = c.goes in sym (rw q at e)

  pub hashing-more : (b : ℕ) (m : List ℕ) (r : ℕ) → l ≡ b ∷ m → r ≡ (h * 59 + b) % 67108864 → r < 67108864 → Hashing all m r
  unfolding hash_from
  hashing-more b m r q z s = let e = c.goes in let f : all ≡ hash_from ((h * 59 + b) % 67108864) m = rw q at e in record { goes = rw z f; small = s }

-- at a byte of the text
module _ {x : List ℕ} {at end : ℕ} (s : Span x at end) {all h : ℕ} (c : Hashing all (decode_at x at end) h) where
  pub plain_end : end ≤ at → h ≡ all
  plain_end l = hashing-end c (at-end s l)

  pub plain_more : {r : ℕ} → at < end → (get_or x at 0 ≡ 92 → ⊥) → r ≡ (h * 59 + get_or x at 0) % 67108864 → r < 67108864 → Hashing all (decode_at x (at + 1) end) r
  plain_more l n = hashing-more c _ _ _ (at_plain s l n)

  pub plain-rest : {m : List ℕ} {r : ℕ} → m ≡ decode_at x at end → r ≡ hash_from h m → r ≡ all
  plain-rest e q = q ∙ rw e (sym c.goes)

pub chain-is : (l : List ℕ) (h r : ℕ) → h ≡ hash_from 0 l → r ≡ h % 4096 → r ≡ chain_of l
unfolding chain_of
chain-is l h r e q = rw (q, e)

pub chain-small : (h r : ℕ) → r ≡ h % 4096 → r < 4096
chain-small h r q = omega arith

pub ruleset hashes = (rules, onward, hashing-begin, hashing-end, hashing-more, plain_end, plain_more, plain-rest, chain-is, chain-small)
