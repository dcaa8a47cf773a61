-- Rule 5 at one node.
use Prim.Native.Nat.{ℕ, ◌+◌, ◌-◌, ◌*◌, ◌^◌, ◌≤◌, ◌<◌, min}
use mathlib.Core.Path.{◌≡◌, refl, sym, ap, ◌∙◌}
use mathlib.Core.Bool.{true, false}
use mathlib.Core.List.{List, [], ◌∷◌, map}
use native.Mathlib.Omega.{arith}
use lib.ListN.{length, get_or}
use lib.Seq.{slice}
use mir.Syntax.{w64}
use mir.Val.{Fits}
use borrow.Author.Rules.{rules}
use borrow.Author.Tests.{eq-eqb, ne_eqb}
use Rattle.utf8.specs.Laws.{clash}
use Rattle.strings.specs.Strings.{unpaired_from}
use Rattle.strings.specs.Spans.{Span, unpaired_at, first_of}
use Rattle.strings.specs.Laws.{Rising, unpaired-rising, found_within}
use Rattle.std.specs.Prelude.{Option, None, Some}
use Rattle.json_text.specs.Tree.{Json}
use Rattle.json_text.specs.Tree as tree
use Rattle.nodes.specs.Access.{is_string_value}
use Rattle.nodes.specs.Faults.{fault, least}
use Rattle.nodes.specs.Laws.{StringAt, quoted-at, string-at, raw_of, kinds, place_at}
use Rattle.nodes.specs.Reads.{string-fits}
use Rattle.everywhere.proofs.Any.{any-first, any-second, any-third, any-inside}
use Rattle.everywhere.specs.Parts.{Part, value}
use Rattle.everywhere.specs.Says.{Stands, of-value, of-name, own5, AnyPart, PartGives}

-- no string has no unpaired surrogate
no-string : (v : Json) → is_string_value v ≡ false → own5 (value v) ≡ []
unfolding is_string_value own5
no-string (tree.null p e) h = refl
no-string (tree.bool p e b) h = refl
no-string (tree.num p e raw) h = refl
no-string (tree.str p e raw) h = clash cc
no-string (tree.arr p e vs) h = refl
no-string (tree.obj p e ms) h = refl

own-string : (v : Json) → is_string_value v ≡ true → own5 (value v) ≡ unpaired_from (tree.place_of v + 1) (raw_of v)
unfolding is_string_value own5 tree.place_of raw_of
own-string (tree.null p e) h = clash cc
own-string (tree.bool p e b) h = clash cc
own-string (tree.num p e raw) h = clash cc
own-string (tree.str p e raw) h = refl
own-string (tree.arr p e vs) h = clash cc
own-string (tree.obj p e ms) h = clash cc

-- a part that starts with a quote is a string or a name
record StringPart (x t : List ℕ) (i : ℕ) (d : Part) : Type 0 where
  raw : List ℕ
  string : StringAt x t i raw
  own : own5 d ≡ unpaired_at x (get_or t i 0 + 1) (get_or t (i + 1) 0 - 1)

module _ {x t : List ℕ} {i : ℕ} where
  string-part : {d : Part} → Stands x t i d → get_or x (get_or t i 0) 0 ≡ 34 → StringPart x t i d
  unfolding own5 unpaired_at
  string-part (of-value {v = v} s) e =
      let h : is_string_value v ≡ true = sym (kinds s).string ∙ eq-eqb _ _ e in
      let a = string-at s h in
      record { raw = raw_of v; string = a; own = own-string v h ∙ rw (place_at s, a.between) }
  string-part (of-name {k = k} q) e = let a = quoted-at q in record { raw = k.raw; string = a; own = rw (← q.words.start, a.between) }

  -- any other breaks rule 5 nowhere
  other-part : {d : Part} → Stands x t i d → (get_or x (get_or t i 0) 0 ≡ 34 → ⊥) → own5 d ≡ []
  other-part (of-value {v = v} s) n = no-string v (sym (kinds s).string ∙ ne_eqb _ _ n)
  other-part (of-name q) n = absurd (n (rw q.words.start q.words.byte))

  pub unpaired-none : {p : ℕ} (b : ℕ) → p ≡ get_or t i 0 → (get_or x p 0 ≡ 34 → ⊥) → PartGives 5 own5 x t i b b
  unfolding least
  unpaired-none b e n = record { is = λ d s. rw (other-part s (λ h. n (rw e h))) }

-- the first of several places in increasing order has the least fault
rising-least : (rule b n e : ℕ) (ps : List ℕ) → b ≤ fault rule n → Rising n e ps → least b (map (fault rule) ps) ≡ b
unfolding least fault Rising
rising-least rule b n e [] h r = refl
rising-least rule b n e (p ∷ ps) h r =
    let z : min b (fault rule p) ≡ b = omega (arith, r.0) in
    ap (λ (m : ℕ). least m (map (fault rule) ps)) z ∙ rising-least rule b (p + 1) e ps (omega (arith, r.0)) r.2

first-least : (rule b n e p : ℕ) (ps : List ℕ) → Rising n e ps → first_of ps ≡ Some p → least b (map (fault rule) ps) ≡ min b (fault rule p)
unfolding least fault Rising first_of
first-least rule b n e p [] r f = clash cc
first-least rule b n e p (q ∷ ps) r f = let z : q ≡ p = cc in rising-least rule (min b (fault rule q)) (q + 1) e ps (omega arith) r.2 ∙ ap (λ (m : ℕ). min b (fault rule m)) z

first-none : (ps : List ℕ) → first_of ps ≡ None → ps ≡ []
unfolding first_of
first-none [] f = refl
first-none (q ∷ ps) f = clash cc

module _ {x t : List ℕ} {i p : ℕ} (a : AnyPart x t i) (q : p ≡ get_or t i 0) (h : get_or x p 0 ≡ 34) where
  any-string : {d : Part} → Stands x t i d → StringPart x t i d
  any-string s = string-part s (rw (← q) h)

  pub any-fits : length x * 1 < 2 ^ 63 → Fits w64 (p + 1)
  any-fits h = string-fits (any-string a.stands).string q h

  module _ {e : ℕ} (r : e ≡ get_or t (i + 1) 0) where
    pub any_some : 1 ≤ e
    any_some = rw r (any-string a.stands).string.some

    pub any-span : Span x (p + 1) (e - 1)
    any-span = rw (q, r) (any-string a.stands).string.span

    module _ {f : Option ℕ} (g : f ≡ first_of (unpaired_at x (p + 1) (e - 1))) where
      pub unpaired-low : {o : ℕ} → f ≡ Some o → o ≤ 65535
      unpaired-low {o} m =
          let s = any-span in
          let k = found_within x (p + 1) (e - 1) o s (sym g ∙ m) in
          omega (arith, k.1, s.high, a.short)

      own-here : {d : Part} → Stands x t i d → own5 d ≡ unpaired_at x (p + 1) (e - 1)
      own-here s = rw (q, r) (any-string s).own

      pub unpaired-hit : {o u b w : ℕ} → f ≡ Some o → u ≡ fault 5 o → w ≡ min b u → PartGives 5 own5 x t i b w
      unfolding unpaired_at
      unpaired-hit {o} {u} {b} {w} m y z =
          record {
            is = λ d s.
                z
                ∙
                (ap (min b) y
                ∙ sym
                (ap (λ (l : List ℕ). least b (map (fault 5) l)) (own-here s)
                ∙ first-least 5 b (p + 1) _ o (unpaired_at x (p + 1) (e - 1)) (unpaired-rising (p + 1) (slice (p + 1) (e - 1) x)) (sym g ∙ m)));
          }

      pub unpaired-miss : (b : ℕ) → f ≡ None → PartGives 5 own5 x t i b b
      unfolding least
      unpaired-miss b m = record { is = λ d s. rw (own-here s, first-none _ (sym g ∙ m)) }

pub ruleset rule5s = (rules, any-first, any-second, any-third, any-inside, any-fits, any_some, any-span, unpaired-none, unpaired-low, unpaired-hit, unpaired-miss)
