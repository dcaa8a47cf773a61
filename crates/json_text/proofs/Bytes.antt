-- The kinds of byte, from what the code's tests say.
use Rattle.std.proofs.Common.{◌≡◌, ℕ, ◌<◌, ◌≤◌, true, false, eqb, ◌⊎◌, inl, inr, arith, rules, ne_eqb, le-leb}
use borrow.Author.Tests.{lt-leb}
use Rattle.json_text.specs.Machine.{is_blank, is_hex, is_escape}
use Rattle.json_text.specs.Laws.{over-blank, is-digit, under-digit, over-digit}

module _ (b : ℕ) where
  pub blank-32 : b ≡ 32 → true ≡ is_blank b
  unfolding is_blank
  blank-32 e = rw e

  pub blank-10 : b ≡ 10 → true ≡ is_blank b
  unfolding is_blank
  blank-10 e = rw e

  pub blank-13 : b ≡ 13 → true ≡ is_blank b
  unfolding is_blank
  blank-13 e = rw e

pub no-blank : (b : ℕ) → (b ≡ 32 → ⊥) → (b ≡ 10 → ⊥) → (b ≡ 13 → ⊥) → eqb b 9 ≡ is_blank b
unfolding is_blank
no-blank b h32 h10 h13 = rw (ne_eqb b 32 h32, ne_eqb b 10 h10, ne_eqb b 13 h13)

pub hex-digit : (b : ℕ) → 48 ≤ b → b < 58 → true ≡ is_hex b
unfolding is_hex
hex-digit b l h = rw (le-leb 48 b l, le-leb b 57 (omega arith))

pub hex-upper : (b : ℕ) → 65 ≤ b → b < 71 → true ≡ is_hex b
unfolding is_hex
hex-upper b l h = rw (le-leb 48 b (omega arith), lt-leb b 57 (omega arith), le-leb 65 b l, le-leb b 70 (omega arith))

pub hex-lower : (b : ℕ) → 97 ≤ b → b < 103 → true ≡ is_hex b
unfolding is_hex
hex-lower b l h = rw (le-leb 48 b (omega arith), lt-leb b 57 (omega arith), le-leb 65 b (omega arith), lt-leb b 70 (omega arith), le-leb 97 b l, le-leb b 102 (omega arith))

pub hex-none : (b : ℕ) → b < 48 → false ≡ is_hex b
unfolding is_hex
hex-none b h = rw (lt-leb 48 b h, lt-leb 65 b (omega arith), lt-leb 97 b (omega arith))

pub hex-none-2 : (b : ℕ) → 57 < b → b < 65 → false ≡ is_hex b
unfolding is_hex
hex-none-2 b l h = rw (le-leb 48 b (omega arith), lt-leb b 57 l, lt-leb 65 b h, lt-leb 97 b (omega arith))

pub hex-none-3 : (b : ℕ) → 70 < b → b < 97 → false ≡ is_hex b
unfolding is_hex
hex-none-3 b l h = rw (le-leb 48 b (omega arith), lt-leb b 57 (omega arith), le-leb 65 b (omega arith), lt-leb b 70 l, lt-leb 97 b h)

pub hex-none-4 : (b : ℕ) → 102 < b → false ≡ is_hex b
unfolding is_hex
hex-none-4 b l = rw (le-leb 48 b (omega arith), lt-leb b 57 (omega arith), le-leb 65 b (omega arith), lt-leb b 70 (omega arith), le-leb 97 b (omega arith), lt-leb b 102 l)

abbrev pub Escapes : ℕ → Type 0
Escapes b = (b ≡ 34) ⊎ ((b ≡ 47) ⊎ ((b ≡ 92) ⊎ ((b ≡ 98) ⊎ ((b ≡ 102) ⊎ ((b ≡ 110) ⊎ ((b ≡ 114) ⊎ (b ≡ 116)))))))

pub is-escape : (b : ℕ) → Escapes b → true ≡ is_escape b
unfolding is_escape
is-escape b (inl e) = rw e
is-escape b (inr (inl e)) = rw e
is-escape b (inr (inr (inl e))) = rw e
is-escape b (inr (inr (inr (inl e)))) = rw e
is-escape b (inr (inr (inr (inr (inl e))))) = rw e
is-escape b (inr (inr (inr (inr (inr (inl e)))))) = rw e
is-escape b (inr (inr (inr (inr (inr (inr (inl e))))))) = rw e
is-escape b (inr (inr (inr (inr (inr (inr (inr e))))))) = rw e

pub no-escape : (b : ℕ) → (Escapes b → ⊥) → false ≡ is_escape b
unfolding is_escape
no-escape b h =
    rw (
      ne_eqb b 34 (λ e. h (inl e)),
      ne_eqb b 47 (λ e. h (inr (inl e))),
      ne_eqb b 92 (λ e. h (inr (inr (inl e)))),
      ne_eqb b 98 (λ e. h (inr (inr (inr (inl e))))),
      ne_eqb b 102 (λ e. h (inr (inr (inr (inr (inl e)))))),
      ne_eqb b 110 (λ e. h (inr (inr (inr (inr (inr (inl e))))))),
      ne_eqb b 114 (λ e. h (inr (inr (inr (inr (inr (inr (inl e)))))))),
      ne_eqb b 116 (λ e. h (inr (inr (inr (inr (inr (inr (inr e)))))))),
    )

pub ruleset hexes = (hex-digit, hex-upper, hex-lower, hex-none, hex-none-2, hex-none-3, hex-none-4)

pub ruleset bytes = (rules, hexes, blank-32, blank-10, blank-13, over-blank, no-blank, is-digit, under-digit, over-digit, is-escape, no-escape)
