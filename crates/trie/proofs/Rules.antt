-- What `search` is handed to close what the functions leave.
use Prim.Native.Nat.{ℕ, ◌+◌, ◌*◌, ◌/◌, ◌%◌, ◌≤◌, ◌<◌}
use native.Mathlib.Omega.{arith}
use mathlib.Core.Path.{◌≡◌, refl, sym, ap, ◌∙◌}
use mathlib.Core.Bool.{Bool, true, false}
use mathlib.Core.List.{List, [], ◌∷◌, ◌++◌, append-nil, append_assoc}
use lib.ListN.{length, get_or, set, length-set}
use lib.Seq.{get_or-set_same, get_or-set_other}
use lib.Dec.{ltb}
use borrow.Author.Tests.{ltb-true, ltb-false}
use borrow.Author.Rules.{rules}
use Rattle.std.specs.Prelude.{Option, Some, None}
use Rattle.strings.specs.Spans.{Span, decode_at}
use Rattle.strings.specs.Laws.{onward, at_plain, at-end}
use Rattle.trie.specs.declared.Place.{Place}
use Rattle.trie.specs.Trie.{byte_of, value_of, Meets, none, here, next, Child, Reaches, stop, on, Grown, Keeps, Walked, Sought, Walks, Puts}

-- ---- the search among children

-- the slot that is found from the slot q on is the one that is found from the entry s on
pub record Seeks (t : List ℕ) (c b s q m : ℕ) : Type 0 where
  pub low : q < c * 5
  goes : (z : ℕ) → Meets t c b q m z → Meets t c b (s * 5) b z

module _ {t : List ℕ} {c b s : ℕ} where
  pub seek-begin : {a m : ℕ} → s < c → a ≡ b → m ≡ a → Seeks t c b s (s * 5) m
  seek-begin {a} {m} l e f = record { low = omega arith; goes = λ z p. rw (f ∙ e) at p }

  module _ {q m : ℕ} (k : Seeks t c b s q m) where
    pub seek-low : c * 5 ≤ length t → q < length t
    seek-low h = omega (arith, k.low)

    module _ {e : ℕ} (o : e ≡ get_or t q 0) where
      pub seek-none : e ≡ 0 → Sought t c b s (Some q)
      seek-none z = record { told = k.goes q (none k.low (sym o ∙ z)) }

      module _ (n : e ≡ 0 → ⊥) (l : e < c) {a : ℕ} (i : a ≡ b) where
        pub seek_found : byte_of t e ≡ a → Sought t c b s (Some q)
        seek_found p = record { told = k.goes q (here k.low (rw (← o) l) (λ z. n (o ∙ z)) (rw (← o) (p ∙ i))) }

        pub seek-again : (byte_of t e ≡ a → ⊥) → Seeks t c b s (e * 5 + 1 + m % 2) (m / 2)
        seek-again d =
            record { low = omega arith; goes = λ z p. k.goes z (next k.low (rw (← o) l) (λ z. n (o ∙ z)) (λ y. d (rw o y ∙ sym i)) (rw (← o) p)) }

pub ruleset seeks = (rules, seek-begin, seek-low, seek-none, seek_found, seek-again)

-- ---- one entry more

same_in : {m : ℕ} (t : List ℕ) (i v : ℕ) → length t ≡ m → i < m → get_or (set t i v) i 0 ≡ v
same_in t i v n l = get_or-set_same t i v 0 (rw n l)

set_room : {m : ℕ} (t : List ℕ) (i v : ℕ) → length t ≡ m → length (set t i v) ≡ m
set_room t i v n = length-set t i v ∙ n

-- ---- what a trie with one entry more keeps

meets-room : {t : List ℕ} {c b q m z : ℕ} → Meets t c b q m z → z < c * 5
meets-room (none h q) = h
meets-room (here h l n q) = h
meets-room (next h l n q p) = meets-room p

-- a slot is one of the first three words of its entry
meets-slot : {t : List ℕ} {c b q m z : ℕ} → q % 5 < 3 → Meets t c b q m z → z % 5 < 3
meets-slot k (none h q) = k
meets-slot k (here h l n q) = k
meets-slot k (next h l n q p) = meets-slot (omega arith) p

meets-low : {t : List ℕ} {c b q m z : ℕ} → Meets t c b q m z → (get_or t z 0 ≡ 0 → ⊥) → get_or t z 0 < c
meets-low (none h q) n = absurd (n q)
meets-low (here h l u q) n = l
meets-low (next h l u q p) n = meets-low p n

module _ {t t' : List ℕ} {w c b : ℕ} (g : Grown t t' w c b) (h : w < c * 5) (k : w % 5 < 3) (f : get_or t w 0 ≡ 0) where
  slot_kept : (q : ℕ) → q < c * 5 → (get_or t q 0 ≡ 0 → ⊥) → get_or t' q 0 ≡ get_or t q 0
  slot_kept q l n = g.others q l (λ z. n (ap (λ (i : ℕ). get_or t i 0) z ∙ f))

  byte-kept : (e : ℕ) → e < c → byte_of t' e ≡ byte_of t e
  byte-kept e l = g.others (e * 5 + 3) (omega arith) (λ z. omega arith)

  meets-kept : {a q m z : ℕ} → Meets t c a q m z → (get_or t z 0 ≡ 0 → ⊥) → Meets t' (c + 1) a q m z
  meets-kept (none l o) n = absurd (n o)
  meets-kept {q = q} (here l i o p) n =
      let y = slot_kept q l o in
      here {q = q} (omega arith) (omega (arith, y)) (λ z. o (sym y ∙ z)) (rw y (byte-kept (get_or t q 0) i ∙ p))
  meets-kept {q = q} {m = m} {z = z} (next l i o p j) n =
      let y = slot_kept q l o in
      next {q = q} {m = m} {z = z} (omega arith) (omega (arith, y)) (λ z. o (sym y ∙ z)) (λ d. p (sym (byte-kept (get_or t q 0) i) ∙ rw y at d)) (rw y (meets-kept j n))

  -- the byte b leads to the new entry where it led nowhere
  meets-new : {q m z : ℕ} → Meets t c b q m z → z ≡ w → Meets t' (c + 1) b q m z
  meets-new {q = q} (none l o) e =
      let y : get_or t' q 0 ≡ c = ap (λ (i : ℕ). get_or t' i 0) e ∙ g.held in
      here {q = q} (omega arith) (omega (arith, y)) (λ z. omega (arith, y)) (rw y g.byte)
  meets-new {q = q} (here l i o p) e = absurd (o (ap (λ (i : ℕ). get_or t i 0) e ∙ f))
  meets-new {q = q} {m = m} {z = z} (next l i o p j) e =
      let y = slot_kept q l o in
      next {q = q} {m = m} {z = z} (omega arith) (omega (arith, y)) (λ z. o (sym y ∙ z)) (λ d. p (sym (byte-kept (get_or t q 0) i) ∙ rw y at d)) (rw y (meets-new j e))

  child-kept : {s a r : ℕ} → Child t c s a r → Child t' (c + 1) s a r
  child-kept p =
      let n : get_or t p.slot 0 ≡ 0 → ⊥ = λ z. p.some (sym p.is ∙ z) in
      record { inside = omega (arith, p.inside); slot = p.slot; meets = meets-kept p.meets n; is = slot_kept p.slot (meets-room p.meets) n ∙ p.is; some = p.some }

  reaches-kept : {s r : ℕ} {u : List ℕ} → Reaches t c s u r → Reaches t' (c + 1) s u r
  reaches-kept stop = stop
  reaches-kept (on p q) = on (child-kept p) (reaches-kept q)

  child-new : {s : ℕ} → s < c → Meets t c b (s * 5) b w → Child t' (c + 1) s b c
  child-new l p = record { inside = omega arith; slot = w; meets = meets-new p refl; is = g.held; some = λ z. omega arith }

  fresh-value : (e : ℕ) → c ≤ e → e < c + 1 → value_of t' e ≡ 0
  fresh-value e l j = let z : e ≡ c = omega arith in rw z g.value

  keeps-grown : Keeps t c t' (c + 1)
  keeps-grown =
      record {
        more = omega arith;
        reaches = λ s u r p. reaches-kept p;
        values = λ e l. g.others (e * 5 + 4) (omega arith) (λ z. omega arith);
        fresh = fresh-value;
      }

-- ---- one byte

keeps_same : (t : List ℕ) (c : ℕ) → Keeps t c t c
keeps_same t c = record { more = omega arith; reaches = λ s u r p. p; values = λ e h. refl; fresh = λ e h k. absurd (omega arith) }

module _ {t : List ℕ} {c s b w : ℕ} (f : Sought t c b s (Some w)) where
  pub sought-room : w < c * 5
  sought-room = meets-room f.told

  pub sought-slot : w % 5 < 3
  sought-slot = meets-slot (omega arith) f.told

  module _ {m : ℕ} (q : m ≡ get_or t w 0) (l : s < c) where
    pub walks-child : c * 5 ≤ length t → (m ≡ 0 → ⊥) → Walks t c s (b ∷ []) t (Some (record { entry = m; count = c }))
    walks-child h z =
        let d : m < c = rw q (meets-low f.told (λ y. z (q ∙ y))) in
        let p : Child t c s b m = record { inside = l; slot = w; meets = f.told; is = sym q; some = z } in
        record { room = refl; told = record { keeps = keeps_same t c; reaches = on p stop; inside = d; few = h } }

    pub walks-grown : {t' : List ℕ} → c * 5 + 5 ≤ length t → m ≡ 0 → Grown t t' w c b → Walks t c s (b ∷ []) t' (Some (record { entry = c; count = c + 1 }))
    walks-grown h z g =
        let y : get_or t w 0 ≡ 0 = sym q ∙ z in
        record {
          room = g.room;
          told = record {
            keeps = keeps-grown g sought-room sought-slot y;
            reaches = on (child-new g sought-room sought-slot y l f.told) stop;
            inside = omega arith;
            few = omega (arith, g.room);
          };
        }

pub ruleset steps = (rules, sought-room, sought-slot)

-- ---- the bytes of a text

reaches_then : {t : List ℕ} {c s m r : ℕ} {u w : List ℕ} → Reaches t c s u m → Reaches t c m w r → Reaches t c s (u ++ w) r
reaches_then stop q = q
reaches_then (on p z) q = on p (reaches_then z q)

module _ {t t₁ t' : List ℕ} {c c₁ c' : ℕ} (k : Keeps t c t₁ c₁) (j : Keeps t₁ c₁ t' c') where
  fresh-if : (e : ℕ) (d : Bool) → ltb e c₁ ≡ d → c ≤ e → e < c' → value_of t' e ≡ 0
  fresh-if e true q h l = let z : e < c₁ = ltb-true e c₁ q in j.values e z ∙ k.fresh e h z
  fresh-if e false q h l = j.fresh e (ltb-false e c₁ q) l

  keeps_then : Keeps t c t' c'
  keeps_then =
      record {
        more = omega (arith, k.more, j.more);
        reaches = λ s u r p. j.reaches s u r (k.reaches s u r p);
        values = λ e h. j.values e (omega (arith, k.more)) ∙ k.values e h;
        fresh = λ e h l. fresh-if e (ltb e c₁) refl h l;
      }

  walked_then : {s m r : ℕ} {u w : List ℕ} → Reaches t₁ c₁ s u m → Reaches t' c' m w r → Reaches t' c' s (u ++ w) r
  walked_then {s} {m} {r} {u} p q = reaches_then (j.reaches s u m p) q

-- the bytes `all` from the entry s₀ on: those before `rest` lead to the place p
pub record Walking (t₀ : List ℕ) (c₀ s₀ : ℕ) (all t : List ℕ) (p : Place) (rest : List ℕ) : Type 0 where
  pub room : length t ≡ length t₀
  before : List ℕ
  is : all ≡ before ++ rest
  walked : Walked t₀ c₀ s₀ before t p.count p.entry

pub walking-begin : {t : List ℕ} (p : Place) (all rest : List ℕ) → all ≡ rest → p.entry < p.count → p.count * 5 ≤ length t → Walking t p.count p.entry all t p rest
walking-begin {t} p all rest e l h = record { room = refl; before = []; is = e; walked = record { keeps = keeps_same t p.count; reaches = stop; inside = l; few = h } }

module _ {t₀ : List ℕ} {c₀ s₀ : ℕ} {all t : List ℕ} {p : Place} {rest : List ℕ} (k : Walking t₀ c₀ s₀ all t p rest) where
  pub walking-inside : p.entry < p.count
  walking-inside = k.walked.inside

  pub walking-few : p.count * 5 ≤ length t
  walking-few = k.walked.few

  pub walking-room : length t₀ ≤ 327680 → length t ≤ 327680
  walking-room h = rw k.room h

  -- the rest leads on
  walking-rest : {t' : List ℕ} {o : Option Place} → Walks t p.count p.entry rest t' o → Walks t₀ c₀ s₀ all t' o
  walking-rest {o = None} w = record { room = w.room ∙ k.room; told = tt }
  walking-rest {o = Some q} w =
      let y = w.told in
      record {
        room = w.room ∙ k.room;
        told = record {
          keeps = keeps_then k.walked.keeps y.keeps;
          reaches = rw k.is (walked_then k.walked.keeps y.keeps k.walked.reaches y.reaches);
          inside = y.inside;
          few = y.few;
        };
      }

  pub walking-end : rest ≡ [] → Walks t₀ c₀ s₀ all t (Some p)
  walking-end q =
      let y = k.walked in
      record { room = k.room; told = record { keeps = y.keeps; reaches = rw (k.is, q, append-nil) y.reaches; inside = y.inside; few = y.few } }

  -- one byte more
  module _ {b : ℕ} {t' : List ℕ} where
    pub walking-more : {q : Place} {m : List ℕ} → Walks t p.count p.entry (b ∷ []) t' (Some q) → rest ≡ b ∷ m → Walking t₀ c₀ s₀ all t' q m
    walking-more {m = m} w e =
        let y = w.told in
        record {
          room = w.room ∙ k.room;
          before = k.before ++ (b ∷ []);
          is = k.is ∙ rw (e, append_assoc);
          walked =
              record {
                keeps = keeps_then k.walked.keeps y.keeps;
                reaches = walked_then k.walked.keeps y.keeps k.walked.reaches y.reaches;
                inside = y.inside;
                few = y.few;
              };
        }

-- at a byte of the text
module _ {x : List ℕ} {at end : ℕ} (d : Span x at end) {t₀ : List ℕ} {c₀ s₀ : ℕ} {all t : List ℕ} {p : Place} (k : Walking t₀ c₀ s₀ all t p (decode_at x at end)) where
  pub plain_end : end ≤ at → Walks t₀ c₀ s₀ all t (Some p)
  plain_end l = walking-end k (at-end d l)

  pub plain_more : {t' : List ℕ} {q : Place} → at < end → (get_or x at 0 ≡ 92 → ⊥) → Walks t p.count p.entry (get_or x at 0 ∷ []) t' (Some q) → Walking t₀ c₀ s₀ all t' q (decode_at x (at + 1) end)
  plain_more l n w = walking-more k w (at_plain d l n)

  pub plain-rest : {m : List ℕ} {t' : List ℕ} {o : Option Place} → m ≡ decode_at x at end → Walks t p.count p.entry m t' o → Walks t₀ c₀ s₀ all t' o
  plain-rest e w = walking-rest k (rw e at w)

pub ruleset walks = (rules, onward, walking-begin, walking-inside, walking-few, walking-room, plain_end, plain-rest)

-- ---- values

module _ (t t' : List ℕ) (h : (i : ℕ) → i % 5 < 4 → get_or t' i 0 ≡ get_or t i 0) where
  meets-same : {c b q m z : ℕ} → q % 5 < 3 → Meets t c b q m z → Meets t' c b q m z
  meets-same {q = q} k (none l o) = none l (h q (omega arith) ∙ o)
  meets-same {q = q} k (here l i o p) =
      let y = h q (omega arith) in
      here {q = q} l (rw y i) (λ z. o (sym y ∙ z)) (rw y (h (get_or t q 0 * 5 + 3) (omega arith) ∙ p))
  meets-same {q = q} {m = m} {z = z} k (next l i o p j) =
      let y = h q (omega arith) in
      next {q = q} {m = m} {z = z} l (rw y i) (λ z. o (sym y ∙ z)) (λ d. p (sym (h (get_or t q 0 * 5 + 3) (omega arith)) ∙ rw y at d)) (rw y (meets-same (omega arith) j))

  child-same : {c s b r : ℕ} → Child t c s b r → Child t' c s b r
  child-same {s = s} p =
      let k : p.slot % 5 < 3 = meets-slot (omega arith) p.meets in
      record { inside = p.inside; slot = p.slot; meets = meets-same (omega arith) p.meets; is = h p.slot (omega arith) ∙ p.is; some = p.some }

  reaches_same : {c s r : ℕ} {u : List ℕ} → Reaches t c s u r → Reaches t' c s u r
  reaches_same stop = stop
  reaches_same (on p q) = on (child-same p) (reaches_same q)

pub put-told : (t : List ℕ) (e v : ℕ) → e * 5 + 5 ≤ length t → Puts t (set t (e * 5 + 4) v) e v
put-told t e v l =
    record {
      room = set_room t (e * 5 + 4) v refl;
      value = same_in t (e * 5 + 4) v refl (omega arith);
      values = λ f d. get_or-set_other t (e * 5 + 4) (f * 5 + 4) v 0 (λ z. d (omega arith));
      reaches = λ c s u r p. reaches_same t (set t (e * 5 + 4) v) (λ i k. get_or-set_other t (e * 5 + 4) i v 0 (λ z. omega arith)) p;
    }

pub ruleset values = (rules, put-told)
