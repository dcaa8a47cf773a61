-- The numbers of linked objects.
use Prim.Native.Nat.{ℕ, ◌+◌, ◌≤◌, ◌<◌}
use Prim.Native.String.{String}
use mathlib.Core.Path.{◌≡◌, refl, sym, ap, ◌∙◌}
use mathlib.Core.List.{List, [], ◌∷◌, ◌++◌, map, append_assoc, append-nil}
use mathlib.Core.Option.{Option, none, some}
use lib.ListN.{length, get_or, drop, drop_of_length-le}
use Rattle.utf8.specs.Bytes.{le}
use Rattle.json_text.specs.Tree.{Json}
use Rattle.nodes.specs.Access.{elements, find, text_of}
use Rattle.fields.specs.Fields.{elements_in, listed_in}
use Rattle.marks.proofs.Numbers.{number-cons}
use Rattle.rows.specs.Rows.{link_number, link_numbers}
use Rattle.model.specs.Code.{concat_map, All}
use Rattle.model.specs.Model.{rec, lay_rec, object_number}
use Rattle.model.specs.Read.{or_null}
use Rattle.std.specs.Borrow.{MutBor}
use Rattle.std.specs.Fn.{Once}
use Rattle.writer.specs.Writes.{Writes, Stores, Recorded}
use Rattle.writer.specs.Laws.{nothing, then, as_bytes, recorded_writes}
use Rattle.arrays.specs.Fits.{Elements}
use Rattle.geometry_records.specs.Fits.{Perhaps}
use Rattle.geometry_records.specs.Bytes.{each_in}
use Rattle.records.specs.Fits.{Text}
use Rattle.records.specs.Bytes.{numbers_in}
use Rattle.records.specs.Says.{link_bytes, LinksWrote}

-- ---- a row

-- of the numbers of a row, the first j were to be written from `to` on, and the cursor is `at`
pub record Numbering (ns : List ℕ) (j : ℕ) (d₀ d : List ℕ) (to at : ℕ) : Type 0 where
  done : List ℕ
  all-is : concat_map (le 4) ns ≡ done ++ concat_map (le 4) (drop j ns)
  wrote : Writes done d₀ d to at
  pub room : length d ≡ length d₀

pub numbering_start : (ns d : List ℕ) (to : ℕ) → Numbering ns 0 d d to to
numbering_start ns d to = record { done = []; all-is = refl; wrote = nothing d to; room = refl }

module _ {ns : List ℕ} {j : ℕ} {d₀ d : List ℕ} {to at : ℕ} (p : Numbering ns j d₀ d to at) where
  pub numbering-turn : {n : ℕ} {d' : List ℕ} {r : ℕ} → j < length ns → n ≡ get_or ns j 0 → Stores (le 4 n) d d' at r → Numbering ns (j + 1) d₀ d' to r
  unfolding concat_map
  numbering-turn {n} l e w = record {
    done = p.done ++ le 4 n;
    all-is = p.all-is ∙ (ap (λ (l : List ℕ). p.done ++ concat_map (le 4) l) (number-cons ns j l) ∙ rw e (sym (append_assoc p.done (le 4 (get_or ns j 0)) (concat_map (le 4) (drop (j + 1) ns)))));
    wrote = then p.wrote w.writes;
    room = w.writes.room ∙ p.room;
  }

  pub numbering-done : length ns ≤ j → Writes (concat_map (le 4) ns) d₀ d to at
  unfolding concat_map
  numbering-done h = as_bytes (sym (p.all-is ∙ (ap (λ (l : List ℕ). p.done ++ concat_map (le 4) l) (drop_of_length-le ns {i = j} h) ∙ append-nil p.done))) p.wrote

-- its record
pub link-recorded : {F : Type 0} {g : Once F (MutBor (List ℕ) × (ℕ × Unit {0})) (ℕ × (MutBor (List ℕ) × Unit {0}))} {h : F}
    {kind : ℕ} (row : List ℕ) {d₀ d : List ℕ} {at r : ℕ} → Recorded g h kind d₀ d at r
    → ((p q : MutBor (List ℕ)) (body end : ℕ) → g.post h (p, (body, tt)) (end, (q, tt)) → Writes (concat_map (le 4) row) p.now q.now body end)
    → Writes (link_bytes kind row) d₀ d at r
unfolding link_bytes
link-recorded row c w = recorded_writes c w

-- no bytes
pub nothing_as : {d d' : List ℕ} {to r : ℕ} → d' ≡ d → r ≡ to → Writes [] d d' to r
nothing_as {d} {to = to} e q = rw (e, q) (nothing d to)

pub links-wrote : {a b c p d₀ d₁ d₂ : List ℕ} {to m r : ℕ} → Writes (link_bytes 4 a) d₀ d₁ to m → Writes (link_bytes 5 b) d₁ d₂ m r → a ≡ c → b ≡ p → LinksWrote c p d₀ d₂ to r
links-wrote u w e f = record { is = rw (← e, ← f) (then u w) }

-- ---- the numbers of what an object lists

-- of strings, these are the numbers of the objects that they name
text-numbers : (names : List (List ℕ)) (vs : List Json) → All Text vs → concat_map (le 4) (map (link_number names) vs) ≡ concat_map (λ s. le 4 (object_number names (text_of s))) vs
unfolding concat_map Text link_number
text-numbers names [] a = refl
text-numbers names (v ∷ vs) a = rw (a.0, text-numbers names vs a.1)

pub row-bytes : (kind : ℕ) (names : List (List ℕ)) (name : String) (v : Json) → Perhaps (Elements Text) name v
    → link_bytes kind (link_numbers names name v) ≡ lay_rec (rec kind (numbers_in names (find name v)))
unfolding link_bytes link_numbers listed_in numbers_in each_in elements_in or_null Elements elements concat_map
row-bytes kind names name v p = ap (λ (l : List ℕ). lay_rec (rec kind l)) (of (find name v) p.holds)
  where
    of : (o : Option Json) → ((w : Json) → o ≡ some w → Elements Text w)
        → concat_map (le 4) (map (link_number names) (elements_in o)) ≡ concat_map (λ s. le 4 (object_number names (text_of s))) (elements (or_null o))
    of none h = refl
    of (some w) h = text-numbers names (elements w) (h w refl)
