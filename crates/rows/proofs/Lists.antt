-- The numbers of the objects that the elements of a list name, written one after the other.
use Prim.Native.Nat.{ℕ, ◌+◌, ◌*◌, ◌≤◌, ◌<◌}
use native.Mathlib.Omega.{arith}
use native.Mathlib.Numerals.{add-one}
use mathlib.Core.Path.{◌≡◌, refl, sym, ap, ◌∙◌, subst}
use mathlib.Core.Bool.{Bool, true, false, not}
use mathlib.Core.List.{List, [], ◌∷◌, ◌++◌, map, append_assoc, append-nil, map-append}
use mathlib.Core.Option.{none}
use lib.ListN.{length, set, take, length-set, length-map, length-append}
use lib.Seq.{take-suc-set, append_snoc}
use borrow.Author.Tests.{not-true, not-false}
use mir.Syntax.{w16, w64}
use mir.Val.{Fits}
use Rattle.json_text.specs.Tree.{Json}
use Rattle.json_text.specs.Table.{Sub}
use Rattle.nodes.specs.Access.{is_string_value, elements, Member}
use Rattle.nodes.specs.Says.{Node, Finds, Gives}
use Rattle.nodes.specs.Siblings.{Elements, StepsPast}
use Rattle.nodes.specs.declared.Siblings.{Siblings}
use Rattle.nodes.specs.Walk.{Running, run-begin, run-node, run-known, run_turn, run-done}
use Rattle.nodes.specs.Says.{Found}
use Rattle.std.specs.Prelude.{Some, None, unwrap_or}
use Rattle.fields.specs.Fields.{elements_in}
use Rattle.fields.specs.Laws.{at-node}
use Rattle.ids.specs.Says.{Offsets, Objects, Numbers, names_of}
use Rattle.ids.proofs.Rules.{string-text}
use Rattle.ids.proofs.Chains.{names-all}
use Rattle.rows.specs.Rows.{link_number}
use Rattle.rows.specs.Laws.{link-most}
use Rattle.rows.specs.Says.{LinkGives, ListFits, Appends, ListGives}

-- ---- one value

module _ {x t offsets : List ℕ} {k : ℕ} (n : Objects x t offsets) (d : Node x t k) where
  gives : {r : ℕ} → ((ms : List Member) → Offsets x t ms offsets → (v : Json) → Sub x t k v → r ≡ link_number (names_of ms) v) → LinkGives x t offsets k r
  gives f =
      let o = n.stand in
      let ms = n.members in
      record { is = f; low = omega (arith, f ms o d.value d.stands, link-most (names_of ms) d.value, names-all o) }

  module _ {b : Bool} (s : Gives is_string_value x t k b) where
    pub link-other : not b ≡ true → LinkGives x t offsets k (length offsets)
    unfolding link_number
    link-other h = gives (λ ms o v w. let z : is_string_value v ≡ false = sym (s.is v w) ∙ not-true b h in rw z (sym (names-all o)))

    pub link-string : (r : Found) → not b ≡ false → Numbers x t offsets k r → LinkGives x t offsets k (unwrap_or r (length offsets))
    unfolding link_number
    link-string r h u = gives (λ ms o v w. let z : is_string_value v ≡ true = sym (s.is v w) ∙ not-false b h in rw (z, string-text w z) (u.is ms o))

-- a number fits in sixteen bits
pub link-short : {x t offsets : List ℕ} {k r : ℕ} → Objects x t offsets → LinkGives x t offsets k r → Fits w16 r
link-short n l = record { fits = omega (arith, l.low, n.stand.few) }

-- ---- a list

pub fits-node : {x t rows : List ℕ} {i at : ℕ} → ListFits x t (Some i) at rows → Node x t i
fits-node f = at-node f.sought refl

-- the elements `done` of a list come before those that are left, and their numbers are written
pub record Rest (x t offsets rows₀ : List ℕ) (at : ℕ) (rows : List ℕ) (end : ℕ) (all left : List Json) : Type 0 where
  done : List Json
  split : all ≡ done ++ left
  ends : end ≡ at + length done
  are : (ms : List Member) → Offsets x t ms offsets → take end rows ≡ take at rows₀ ++ map (link_number (names_of ms)) done

-- the loop over the list at the node i has come to s, and to the word `end` of the table
pub record Listing (x t offsets : List ℕ) (i : ℕ) (s : Siblings) (rows₀ : List ℕ) (at : ℕ) (rows : List ℕ) (end : ℕ) : Type 0 where
  pub run : Running x t i s (Rest x t offsets rows₀ at rows end)
  pub same : length rows ≡ length rows₀
  pub fits : ListFits x t (Some i) at rows₀

pub listing-begin : {x t offsets rows : List ℕ} {i at : ℕ} {s r : Siblings} → ListFits x t (Some i) at rows → Elements x t i r → s ≡ r
    → Listing x t offsets i s rows at rows at
listing-begin {x} {t} {offsets} {rows} {at = at} f e q = record {
  run = run-begin (Rest x t offsets rows at rows at) (fits-node f) e q (λ l. record {
    done = [];
    split = refl;
    ends = omega arith;
    are = λ ms o. sym (append-nil (take at rows));
  });
  same = refl;
  fits = f;
}

module _ {x t offsets rows₀ rows : List ℕ} {i at end : ℕ} {s : Siblings} (p : Listing x t offsets i s rows₀ at rows end) where
  module _ {k : ℕ} {next : Siblings} (g : StepsPast s k next) where
    pub listing-node : Node x t k
    listing-node = run-node p.run g

    -- there is a word for each element that is left
    pub listing-inside : end < length rows
    unfolding Finds elements_in
    listing-inside =
        let s = p.fits.sought in
        let (v, w, u) : Finds x t s.answer (Some i) = s.finds in
        let h : at + length (elements v) ≤ length rows₀ = rw w at p.fits.room in
        run-known p.run g u (λ e es o r. omega (arith, h, p.same, r.ends, ap length r.split, length-append r.done (e ∷ es)))

    pub listing-scaled : Fits w64 (end * 2)
    listing-scaled = record { fits = omega (arith, listing-inside, p.same, p.fits.short) }

    pub listing-onward : Fits w64 (end + 1)
    listing-onward = record { fits = omega (arith, listing-inside, p.same, p.fits.short) }

    pub listing-turn : {r : ℕ} → LinkGives x t offsets k r → Listing x t offsets i next rows₀ at (set rows end r) (end + 1)
    listing-turn {r} e = record {
      run = run_turn p.run g (Rest x t offsets rows₀ at (set rows end r) (end + 1)) (λ all v vs s u. record {
        done = u.done ++ (v ∷ []);
        split = u.split ∙ sym (append_snoc u.done v vs);
        ends = omega (arith, u.ends, length-append u.done (v ∷ []));
        are = λ ms o.
            let f = link_number (names_of ms) in
            let w : take (end + 1) (set rows end r) ≡ take end rows ++ (r ∷ []) = rw add-one (take-suc-set rows end r listing-inside) in
            let z : map f (u.done ++ (v ∷ [])) ≡ map f u.done ++ (r ∷ []) = rw (e.is ms o v s) (map-append f u.done (v ∷ [])) in
            w ∙ (ap (λ (ws : List ℕ). ws ++ (r ∷ [])) (u.are ms o) ∙ (append_assoc (take at rows₀) (map f u.done) (r ∷ []) ∙ ap (λ (ws : List ℕ). take at rows₀ ++ ws) (sym z)));
      });
      same = length-set rows end r ∙ p.same;
      fits = p.fits;
    }

  pub listing-done : {u : Siblings} → (s.end ≤ s.at) × (u ≡ s) → ListGives x t offsets (Some i) rows₀ at rows end
  unfolding Finds elements_in
  listing-done h = record {
    room = p.same;
    is = λ ms o z (v, w, y).
        let u = run-done p.run h.0 y in
        let q : u.done ≡ elements v = sym (u.split ∙ append-nil u.done) in
        rw (w, ← q) (record { ends = rw (length-map u.done (link_number (names_of ms))) u.ends; are = u.are ms o });
  }

-- ---- what lists nothing

appends-none : (rows : List ℕ) (at : ℕ) → Appends [] rows at rows at
appends-none rows at = record { ends = omega arith; are = sym (append-nil (take at rows)) }

pub found_nothing : {x t offsets rows : List ℕ} {at : ℕ} {found : Found} → found ≡ None → ListGives x t offsets found rows at rows at
unfolding Finds elements_in
found_nothing {x} {t} {rows = rows} {at = at} q = record {
  room = refl;
  is = λ ms o z f. let w : z ≡ none = subst (Finds x t z) q f in rw w (appends-none rows at);
}

-- a value at a node
pub found-fits : {x t rows : List ℕ} {at i : ℕ} {found : Found} → found ≡ Some i → ListFits x t found at rows → ListFits x t (Some i) at rows
found-fits q f = rw q at f

pub found_at : {x t offsets rows rows' : List ℕ} {at i r : ℕ} {found : Found} → found ≡ Some i
    → ListGives x t offsets (Some i) rows at rows' r → ListGives x t offsets found rows at rows' r
found_at q g = rw q g
