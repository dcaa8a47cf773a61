-- What follows from what the parts of judge and lay answered.
use Rattle.std.specs.Prelude.{ℕ, ◌+◌, ◌-◌, ◌*◌, ◌≤◌, ◌<◌, ◌≡◌, refl, Bool, true, false, cond, List, [], length, take, drop, replicate, ltb, Result, Ok, Err}
use Rattle.std.proofs.Common.{arith, ◌∙◌, subst, length-take-le, get_or-take, ltb-true, ltb-false}
use Rattle.std.proofs.Math.Path.{sym, ap}
use Rattle.std.proofs.Math.Logic.{inr}
use Rattle.std.proofs.Math.Option.{Option, some}
use Rattle.std.proofs.Math.Option as option
use Rattle.utf8.specs.Utf8.{whole_length}
use Rattle.utf8.specs.Laws.{clash}
use Rattle.json_text.specs.Machine.{Outcome, read, reads, bad, too_deep}
use Rattle.nodes.specs.Access.{Member}
use Rattle.fields.specs.Says.{Indexed}
use Rattle.fields.specs.declared.Index.{Index}
use Rattle.ids.specs.Says.{Offsets}
use Rattle.nodes.specs.Faults.{no_fault}
use Rattle.json_text.specs.Table.{size}
use Rattle.json_text.specs.Laws.{sub_within}
use Rattle.nodes.specs.Laws.{fresh-length}
use Rattle.nodes.specs.Unique.{unique}
use Rattle.schema.specs.declared.Walked.{Walked}
use Rattle.verdict.specs.Verdict.{accepted, refused, faults, parsed, screening, verdict}
use Rattle.verdict.specs.Verdict as judged
use Rattle.verdict.proofs.Exact.{verdict-long, verdict-odd, verdict-read, in-text}
use Rattle.refusals.specs.Refusals.{refusal}
use Rattle.refusals.specs.Says.{Tabled, Refuses}
use Rattle.refusals.specs.declared.Refusal.{Refusal}
use Rattle.examining.specs.Examining.{screened_as, tree_or_refusal, opened_as, Room, RowRoom, Stands, Opens, offsets_of, Examined}
use Rattle.examining.specs.Least.{no-fault, judged-fault, judged-none, few-clean}

-- ---- rules 1 and 2

-- what the screening leaves of the verdict
abbrev Left : List ℕ → Option judged.Verdict → Type 0
Left x option.none = (length x ≤ 65535) × (verdict x ≡ parsed (read x))
Left x (some v) = verdict x ≡ v

left : (x : List ℕ) → Left x (screening x)
unfolding screening
left x = by (ltb 65535 (length x)) (ltb (whole_length x) (length x)) refl refl
  where
    by : (a b : Bool) → ltb 65535 (length x) ≡ a → ltb (whole_length x) (length x) ≡ b
        → Left x (cond a (some (refused 1 65535 65535)) (cond b (some (refused 2 (whole_length x) (whole_length x))) option.none))
    by true b p q = verdict-long x (ltb-true _ _ p)
    by false true p q = verdict-odd x (ltb-false _ _ p) (ltb-true _ _ q)
    by false false p q = (ltb-false _ _ p, verdict-read x (ltb-false _ _ p) (ltb-false _ _ q))

screened-left : (x : List ℕ) {r s : Result (Unit {0}) Refusal} → screened_as r ≡ screening x → r ≡ s → Left x (screened_as s)
screened-left x h e = subst (Left x) (sym h ∙ ap screened_as e) (left x)

module _ (x : List ℕ) {r : Result (Unit {0}) Refusal} (h : screened_as r ≡ screening x) where
  pub passed-short : {u : Unit {0}} → r ≡ Ok u → length x ≤ 65535
  unfolding screened_as
  passed-short e = (screened-left x h e).0

  pub passed-verdict : {u : Unit {0}} → r ≡ Ok u → verdict x ≡ parsed (read x)
  unfolding screened_as
  passed-verdict e = (screened-left x h e).1

  pub screened-refused : {f : Refusal} → r ≡ Err f → refusal f ≡ verdict x
  unfolding screened_as
  screened-refused e = sym (screened-left x h e)

-- ---- rules 3 and 4

module _ (x t₀ t : List ℕ) {r : Result ℕ Refusal} (h : Opens x t₀ t r) where
  pub opened-tree : {n : ℕ} → r ≡ Ok n → Stands x t n
  opened-tree e = (h.holds _ e).tree

  pub opened-refused : {f : Refusal} → r ≡ Err f → refusal f ≡ parsed (read x)
  unfolding opened_as tree_or_refusal parsed
  opened-refused {f} e = by (read x) (sym (ap opened_as e) ∙ h.is)
    where
      by : (o : Outcome) → inr (refusal f) ≡ tree_or_refusal o → refusal f ≡ parsed o
      by (reads v) q = clash cc
      by (bad p) q = cc
      by (too_deep p) q = cc

-- ---- rules 5 to 17

-- as the lookup of an end asks
pub tabled : {x t : List ℕ} {n : ℕ} → Stands x t n → Tabled t n
tabled {x} s = record { text = x; root = record { value = s.value; stands = s.stands; ends = s.ends; short = s.short } }

module _ {x t : List ℕ} {n : ℕ} {w : Walked} (s : Stands x t n) (h : Examined x t w) where
  -- a tree with no fault
  pub clean : no_fault ≤ w.least → faults s.value ≡ []
  clean k = no-fault s.value (in-text x s.value s.short s.reads) (h.least s.value s.reads) k

  -- the refusal of its least fault
  pub table-refused : (f : Refusal) → w.least < no_fault → Refuses t w.least f → refusal f ≡ parsed (read x)
  unfolding parsed
  table-refused f k e = e.is x s.value s.stands ∙ sym (ap parsed s.reads ∙ judged-fault s.value (h.least s.value s.reads) k)

  pub table-accepted : no_fault ≤ w.least → accepted w.index.count ≡ parsed (read x)
  unfolding parsed
  table-accepted k =
      let few = few-clean s.value (clean k) in
      let counted = (h.indexed s.value s.reads).count in
      ap accepted (omega arith) ∙ sym (ap parsed s.reads ∙ judged-none s.value (h.least s.value s.reads) k)

-- ---- the offsets of an index

-- those of all members, if there are no more than it holds
pub index-offsets : {x t : List ℕ} {ms : List Member} {index : Index} → Indexed x t ms index → length ms ≤ 1024 → Offsets x t ms (offsets_of index)
unfolding offsets_of
index-offsets {index = index} i h =
    let c : length (take index.count index.offsets) ≡ index.count = length-take-le index.count index.offsets (omega (arith, i.room, i.count)) in
    record {
      all = omega (arith, c, i.count);
      few = omega (arith, c, i.count);
      each = λ k m l. rw (get_or-take index.count index.offsets k 0 (omega (arith, c))) (i.each k m (omega (arith, c)));
    }

-- as they are lent
pub lent-offsets : (index : Index) → take (index.count - 0) (drop 0 index.offsets) ≡ offsets_of index
unfolding offsets_of
lent-offsets index = let z : index.count - 0 ≡ index.count = omega arith in ap (λ (n : ℕ). take n index.offsets) z

-- ---- work tables that were just made

pub room-made : {x t : List ℕ} (m : ℕ) → length x ≤ 65535 → 3 * length x + 99 ≤ 2 * m → t ≡ replicate m 0 → Room x t
room-made m h k q = record { short = h; long = omega (arith, fresh-length m q) }

pub table-made : {t : List ℕ} (m : ℕ) → t ≡ replicate m 0 → m ≤ 98352 → length t ≤ 98352
table-made m q h = omega (arith, fresh-length m q)

-- rows for a tree of n words
pub rows-room : {x t rows : List ℕ} {n : ℕ} (m : ℕ) → Stands x t n → rows ≡ replicate m 0 → n ≤ 3 * m → m ≤ 65535 → RowRoom x t rows
rows-room m s q h k = record {
  long = λ v u. let e : s.value ≡ v = unique s.stands u in omega (arith, fresh-length m q, s.ends, ap size e);
  short = omega (arith, fresh-length m q);
}

-- a tree has no more words than its table
pub tree-words : {x t : List ℕ} {n : ℕ} → Stands x t n → length t ≤ 98352 → n ≤ 98352
tree-words s h = omega (arith, s.ends, sub_within s.stands)
