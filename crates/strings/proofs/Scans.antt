-- The bytes before the first backslash.
use Prim.Native.Nat.{ℕ, ◌+◌, ◌-◌, ◌≤◌, ◌<◌}
use native.Mathlib.Omega.{arith}
use native.Mathlib.Numerals.{add-one}
use mathlib.Core.Path.{◌≡◌, refl, sym, ap, subst, ◌∙◌}
use mathlib.Core.Bool.{Bool, false, ◌||◌}
use lib.ListN.{length, get_or, take, drop, length-take, length-drop, length-append}
use lib.Seq.{drop-cons, take-suc, take-take, take-length, drop-length, take-append_seam, drop-append-add, drop-drop}
use mathlib.Core.List.{List, [], ◌∷◌, ◌++◌, append-nil, append_assoc}
use lib.Dec.{eqb}
use Rattle.std.specs.List.{list_any}
use Rattle.std.proofs.lemmas.List.{length-take-le}
use Rattle.strings.specs.Strings.{decode, pieces, decoded}
use Rattle.strings.specs.Spans.{Span, decode_at, Copied, has_byte}
use Rattle.strings.specs.Parts.{Plain}
use Rattle.strings.specs.Laws.{plain_byte, decode-plain, decode_at-short, taken, taken-size, taken-later}

pub has_any : (b : ℕ) (l : List ℕ) → list_any (λ a. eqb a b) l ≡ has_byte b l
unfolding has_byte
has_any b [] = refl
has_any b (a ∷ l) = ap (λ r. eqb a b || r) (has_any b l)

nothing : decode [] ≡ []
unfolding decode pieces decoded
nothing = refl

-- the first k bytes stand for themselves
pub record Past (raw : List ℕ) (k : ℕ) : Type 0 where
  pub within : k ≤ length raw
  pub stands : decode raw ≡ take k raw ++ decode (drop k raw)

pub past-start : (raw : List ℕ) → Past raw 0
past-start raw = record { within = omega arith; stands = refl }

module _ {raw : List ℕ} {k : ℕ} (p : Past raw k) where
  pub past-more : k < length raw → (get_or raw k 0 ≡ 92 → ⊥) → Past raw (k + 1)
  past-more l n =
      let b = get_or raw k 0 in
      let e : decode (drop k raw) ≡ b ∷ decode (drop (k + 1) raw) = ap decode (drop-cons raw k 0 l ∙ rw (add-one k) refl) ∙ plain_byte b (drop (k + 1) raw) n in
      let t : take (k + 1) raw ≡ take k raw ++ (b ∷ []) = rw (add-one k) (take-suc raw k 0 l) in
      record {
        within = omega arith;
        stands = p.stands ∙ ap (λ m. take k raw ++ m) e ∙ sym (append_assoc (take k raw) (b ∷ []) (decode (drop (k + 1) raw))) ∙ ap (λ m. m ++ decode (drop (k + 1) raw)) (sym t);
      }

  pub past-here : k < length raw → get_or raw k 0 ≡ 92 → Plain raw k
  past-here l e = record { within = p.within; stands = p.stands; then = λ m. e }

  pub past-end : length raw ≤ k → Plain raw (length raw)
  past-end l = let e : k ≡ length raw = omega (arith, p.within) in subst (Plain raw) e (record { within = p.within; stands = p.stands; then = λ m. absurd (omega (arith, e)) })

pub plain-none : (raw : List ℕ) (r : Bool) → r ≡ has_byte 92 raw → r ≡ false → Plain raw (length raw)
plain-none raw r e n =
    record {
      within = omega arith;
      stands = decode-plain raw (sym e ∙ n) ∙ sym (append-nil raw) ∙ rw (take-length raw, drop-length raw, nothing) refl;
      then = λ m. absurd (omega arith);
    }

-- bytes that are written after others
pub copied-then : {ws vs d₀ d d' : List ℕ} {to o r : ℕ} → to + length ws ≤ length d₀ → Copied ws d₀ d to o → Copied vs d d' o r → Copied (ws ++ vs) d₀ d' to r
copied-then {ws} {vs} {d₀} {d} {d'} {to} {o} {r} h c e =
    let t : length (take to d₀) ≡ to = length-take-le to d₀ (omega arith) in
    let z : o ≡ length (take to d₀ ++ ws) = c.answer ∙ rw (length-append, t) refl in
    let rest = drop (to + length ws) d₀ in
    let q : d ≡ take to d₀ ++ ws ++ rest = c.contents in
    let before : take o d ≡ take to d₀ ++ ws = rw (q, z) (take-append_seam (take to d₀ ++ ws) rest) in
    let after : drop (o + length vs) d ≡ drop (to + length ws + length vs) d₀ = rw (q, z) (drop-append-add (take to d₀ ++ ws) rest (length vs)) ∙ drop-drop (length vs) (to + length ws) d₀ in
    let n : to + length (ws ++ vs) ≡ to + length ws + length vs = rw length-append (omega arith) in
    record {
      answer = e.answer ∙ omega (arith, c.answer, n);
      contents = e.contents ∙ rw (before, after, n) (ap (λ m. m ++ drop (to + length ws + length vs) d₀) (append_assoc (take to d₀) ws vs));
    }

pub copied-size : {ws d₀ d : List ℕ} {to o : ℕ} → to + length ws ≤ length d₀ → Copied ws d₀ d to o → length d ≡ length d₀
copied-size {ws} {d₀} {d} {to} h c =
    let t : length (take to d₀) ≡ to = length-take-le to d₀ (omega arith) in
    ap length c.contents ∙ rw (length-append, length-append, length-drop, t) (omega arith)

-- a string, of which the first n bytes stand for themselves
module _ {x : List ℕ} {at end : ℕ} (s : Span x at end) {n : ℕ} (p : Plain (take (end - at) (drop at x)) n) where
  pub plain-within : n ≤ end - at
  plain-within = omega (arith, p.within, taken-size s)

  pub plain-span : Span x (at + n) end
  plain-span = record { low = omega (arith, plain-within, s.low); high = s.high }

  -- these bytes, as code takes them out of the text
  abbrev pub before : List ℕ
  before = take (at + n - at) (drop at x)

  pub plain-parts : decode_at x at end ≡ before ++ decode_at x (at + n) end
  unfolding decode_at
  plain-parts =
      let z : at + n - at ≡ n = omega arith in
      ap decode (sym (taken s))
      ∙ p.stands
      ∙ ap (λ m. m ++ decode (drop n (take (end - at) (drop at x)))) (take-take n (end - at) (drop at x) plain-within ∙ rw z refl)
      ∙ ap (λ m. before ++ decode m) (taken-later s plain-within)

  pub before-size : length before ≡ n
  before-size = rw (length-take, length-drop) (omega (arith, plain-within, s.low, s.high))

  pub plain_size : {m : ℕ} → m ≡ length (decode_at x (at + n) end) → n + m ≡ length (decode_at x at end)
  plain_size e = rw (plain-parts, length-append) (omega (arith, e, before-size))

  pub plain-few : {m : ℕ} → m ≡ length (decode_at x (at + n) end) → n + m ≤ end - at
  plain-few e = omega (arith, e, plain-within, decode_at-short x (at + n) end s.high)

  parts-size : length (decode_at x at end) ≡ length before + length (decode_at x (at + n) end)
  parts-size = rw (plain-parts, length-append) refl

  pub plain-room : (d : List ℕ) (to : ℕ) → to + length (decode_at x at end) ≤ length d → to + length before ≤ length d
  plain-room d to h = omega (arith, h, parts-size)

  module _ {d d' m : List ℕ} {to o : ℕ} (h : to + length (decode_at x at end) ≤ length d) (c : Copied before d d' to o) (e : m ≡ decode_at x (at + n) end) where
    pub plain-rest : o + length m ≤ length d'
    plain-rest = omega (arith, h, parts-size, c.answer, ap length e, copied-size (plain-room d to h) c)

    pub copied-both : {d'' : List ℕ} {r : ℕ} → Copied m d' d'' o r → Copied (decode_at x at end) d d'' to r
    copied-both v = rw plain-parts (copied-then (plain-room d to h) c (rw e at v))
