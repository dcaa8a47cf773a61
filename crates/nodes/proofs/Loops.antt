-- Loops over the elements of an array and over the members of an object.
use Rattle.std.specs.Prelude.{ℕ, ◌+◌, ◌-◌, ◌<◌, ◌≤◌, ◌≡◌, Bool, true, false, List, [], ◌∷◌, length, get_or, Some, None}
use Rattle.std.specs.Iterator.{Yields, Drains}
use Rattle.std.proofs.Common.{arith, refl, sym, ap, ◌∙◌, zero-add, rules}
use Rattle.std.proofs.Math.Option.{some}
use Rattle.utf8.specs.Utf8.{same}
use Rattle.strings.specs.Spans.{Span, decode_at}
use Rattle.nodes.specs.Access.{elements, pairs, members, Member, name_of, first_named}
use Rattle.nodes.specs.Says.{Node, Gives, Finds, Seeks}
use Rattle.nodes.specs.Siblings.{Elements, Names, Steps, StepsPast}
use Rattle.nodes.specs.Laws.{quoted-at}
use Rattle.nodes.specs.Walk.{Running, run-begin, run_turn, run-done, RunningNames, names-begin, names-past, names-first, names-second, names-some, names-span, names-turn, names-done}
use Rattle.nodes.specs.declared.Siblings.{Siblings}

-- Counting: what calls of the iterator gave, and what is left
counted : {x t : List ℕ} {i : ℕ} (xs : List ℕ) {s u : Siblings} (n m : ℕ) → m ≡ n + length xs → Running x t i s (λ all left. n + length left ≡ length all)
    → Yields Steps s xs u → Running x t i u (λ all left. m + length left ≡ length all)
counted [] n m q w y = let z : m ≡ n = omega (arith, q) in rw (z, ← y) w
counted (k ∷ xs) n m q w y =
    counted xs (n + 1) m (omega (arith, q)) (run_turn w y.1 (λ all left. n + 1 + length left ≡ length all) (λ all v vs z o. omega (arith, o))) y.2

pub count-is : {x t : List ℕ} {i r : ℕ} {s : Siblings} → Node x t i → Elements x t i s → (xs : List ℕ) × Drains Steps s xs × (r ≡ length xs)
    → Gives (λ v. length (elements v)) x t i r
count-is {r = r} d e h =
    let w = counted h.0 0 r (omega (arith, h.2)) (run-begin (λ all left. 0 + length left ≡ length all) d e refl (λ l. zero-add _)) h.1.1.1 in
    record { is = λ v z. let o = run-done w h.1.1.2.0 z in omega (arith, o) }

-- Searching: the first member of that name is the first of those that are left
pub record Searching (x t : List ℕ) (i : ℕ) (name : List ℕ) (s : Siblings) : Type 0 where
  pub run : RunningNames x t i s (λ all left. first_named name all ≡ first_named name left)

name-hit : (name : List ℕ) (b : Bool) (m : Member) (ms : List Member) → b ≡ true → b ≡ same name (name_of m) → first_named name (m ∷ ms) ≡ some m.1
unfolding first_named
name-hit name b m ms e q = rw (← q, e)

name-miss : (name : List ℕ) (b : Bool) (m : Member) (ms : List Member) → b ≡ false → b ≡ same name (name_of m) → first_named name (m ∷ ms) ≡ first_named name ms
unfolding first_named
name-miss name b m ms e q = rw (← q, e)

module _ {x t : List ℕ} {i : ℕ} {name : List ℕ} {s : Siblings} where
  pub member-begin : {r : Siblings} → Node x t i → Names x t i r → s ≡ r → Searching x t i name s
  member-begin d e q = record { run = names-begin (λ all left. first_named name all ≡ first_named name left) d e q (λ l. refl) }

  module _ (w : Searching x t i name s) where
    module _ {k : ℕ} {u : Siblings} (g : StepsPast s k u) where
      pub key-first : k < length t
      key-first = names-first w.run g

      pub key-second : k + 1 < length t
      key-second = names-second w.run g

      pub key-some : {e : ℕ} → e ≡ get_or t (k + 1) 0 → 1 ≤ e
      key-some q = names-some w.run g q

      module _ {p e : ℕ} (q : p ≡ get_or t k 0) where
        pub key-span : e ≡ get_or t (k + 1) 0 → Span x (p + 1) (e - 1)
        key-span r = names-span w.run g q r

        module _ {b : Bool} (r : e ≡ get_or t (k + 1) 0) (h : b ≡ same name (decode_at x (p + 1) (e - 1))) where
          pub member-found : b ≡ true → Seeks (λ v. first_named name (members v)) x t i (Some (k + 3))
          unfolding Finds pairs name_of
          member-found o = record {
            finds = λ v z.
                let y = names-past w.run g z in
                let n : b ≡ same name (name_of (y.key, y.value)) = rw ((quoted-at y.quoted).text, ← q, ← r) h in
                (y.value, y.holds ∙ name-hit name b (y.key, y.value) (pairs y.others) o n, y.stands);
          }

          pub member-again : b ≡ false → Searching x t i name u
          unfolding name_of
          member-again o = record {
            run = names-turn w.run g (λ all left. first_named name all ≡ first_named name left)
                (λ all m ms z n p. p ∙ name-miss name b m ms o (rw (n, ← q, ← r) h));
          }

    pub member-done : {u : Siblings} → (s.end ≤ s.at) × (u ≡ s) → Seeks (λ v. first_named name (members v)) x t i None
    unfolding Finds first_named
    member-done h = record { finds = λ v z. names-done w.run h.0 z }

pub ruleset loops = (
  rules,
  member-begin,
  key-first,
  key-second,
  key-some,
  key-span,
)
