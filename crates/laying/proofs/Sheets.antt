-- What the functions that lay use: an accepted text's table is as the writers ask, and what they wrote is the sheet.
use Prim.Native.Nat.{ℕ, ◌+◌, ◌-◌, ◌^◌, ◌≤◌, ◌<◌}
use native.Mathlib.Omega.{arith}
use mathlib.Core.Path.{◌≡◌, refl, sym, ap, ◌∙◌, subst}
use mathlib.Core.List.{List, [], ◌++◌, map}
use lib.ListN.{length, replicate, length-replicate}
use Rattle.std.specs.Prelude.{Result, Ok, Err}
use borrow.Author.Rules.{rules}
use borrow.Author.Tests.{le-leb, lt-leb}
use Rattle.json_text.specs.Tree.{Json}
use Rattle.json_text.specs.Machine.{read, reads, tree_in, tree_of}
use Rattle.everywhere.specs.Everywhere.{rule5, rule6}
use Rattle.nodes.specs.Faults.{fault, least, no_fault}
use Rattle.fields.specs.Fields.{objects_of}
use Rattle.rules.specs.Schema.{city_json}
use Rattle.schema.specs.declared.Walked.{Walked}
use Rattle.rules.specs.Links.{link_faults}
use Rattle.model.specs.Model.{sheet_of}
use Rattle.model.specs.Read.{model_of}
use Rattle.model.proofs.Size.{short-enough}
use Rattle.verdict.specs.Verdict as verdict
use Rattle.verdict.specs.Verdict.{faults, parsed, screening}
use Rattle.verdict.specs.Places.{early}
use Rattle.sheets.specs.Clear.{nil-left, nil-right}
use Rattle.sheets.specs.Short.{tree-within}
use Rattle.sheets.specs.Laid.{model_of_text, sheet_of_text, fitted, filled, answer, room_after}
use Rattle.sheets.specs.Laid as laid
use Rattle.writer.specs.Writes.{Writes}
use Rattle.writer.specs.Laws.{whole-sheet}
use Rattle.arrays.specs.Laws.{holds_at}
use Rattle.nodes.specs.Unique.{unique}
use Rattle.records.specs.Accepted.{text-fits}
use Rattle.records.specs.Says.{Ready, SheetWrote}
use Rattle.refusals.specs.Refusals.{rule_number, refusal}
use Rattle.refusals.specs.declared.Broken.TheVariants as broken
use Rattle.refusals.specs.declared.Refusal.{Refusal}
use Rattle.examining.specs.Examining.{screened_as, Stands, Opens, Examined, RowsOf, offsets_of}
use Rattle.examining.specs.Laws.{passed-short, passed-verdict, screened-refused, opened-tree, opened-refused}
use Rattle.examining.specs.Laws.{clean, index-offsets, rows-room, room-made, table-made, tree-words}
use Rattle.examining.specs.Least.{few-clean, judged-none}
use Rattle.laying.specs.declared.Laid.{Laid}
use Rattle.laying.specs.Laying.{answered, Zeroes, Clean, Lays}

-- ---- a sheet of zeroes

pub zeroed : {d : List ℕ} (n : ℕ) → d ≡ replicate n 0 → Zeroes d
unfolding Zeroes
zeroed {d} n e = e ∙ ap (λ k. replicate k 0) (sym (ap length e ∙ length-replicate {A = ℕ} n 0))

-- ---- a refusal

pub refuses : {x d : List ℕ} {v : verdict.Verdict} (f : Refusal) → refusal f ≡ v → Zeroes d → Lays x v d d (answered (Err f))
unfolding answered fitted filled Zeroes
refuses f e z = record { gives = rw (← e); leaves = z }

-- an answer of `open`, or of `screen`
module _ {x d : List ℕ} (f : Refusal) where
  pub open-refused : {t₀ t : List ℕ} {r : Result ℕ Refusal} → Opens x t₀ t r → r ≡ Err f → Zeroes d → Lays x (parsed (read x)) d d (answered (Err f))
  open-refused h e z = refuses f (opened-refused _ _ _ h e) z

-- ---- a text without a fault

pub index-few : {x t : List ℕ} {n : ℕ} {w : Walked} → Stands x t n → Examined x t w → w.index.count ≤ 1024
index-few s h = omega (arith, (h.indexed s.value s.reads).count)

pub clean_of : {x t offsets : List ℕ} {n : ℕ} {w : Walked} {children parents : List ℕ} → Stands x t n → Examined x t w → RowsOf x t w children parents → no_fault ≤ w.least
    → offsets ≡ offsets_of w.index → Clean x t offsets children parents
clean_of {x} {t} {w = w} s h r k q =
    let few = few-clean s.value (clean s h k) in
    rw q (record {
      value = s.value;
      short = s.short;
      reads = s.reads;
      stands = s.stands;
      kept = clean s h k;
      indexed = λ v u.
          let e : s.value ≡ v = unique s.stands u in
          index-offsets (h.indexed v (s.reads ∙ ap reads e)) (subst (λ j. length (objects_of j) ≤ 1024) e few);
      rows = r.are k;
    })

-- ---- the sheet

module _ {x t offsets children parents : List ℕ} (d : Clean x t offsets children parents) where
  abbrev v : Json
  v = d.value

  -- the rules 7 to 14 find no fault
  rules-kept : city_json v ≡ []
  unfolding faults
  rules-kept = nil-right (map (fault 5) (rule5 v) ++ map (fault 6) (rule6 v)) (city_json v) (nil-left (early v) (link_faults v) d.kept)

  pub clean_ready : Ready x t offsets children parents
  clean_ready = record {
    root = holds_at v d.stands d.short (text-fits x v d.short d.reads rules-kept);
    indexed = d.indexed;
    below = d.rows.below;
    above = d.rows.above;
  }

  -- the sheet of the text is that of the tree, and is short
  sheet-of : sheet_of_text x ≡ sheet_of (model_of v)
  unfolding sheet_of_text model_of_text tree_of tree_in
  sheet-of = ap (λ o. sheet_of (model_of (tree_in o))) d.reads

  sheet-low : length (sheet_of (model_of v)) < 2 ^ 32
  sheet-low = short-enough v (tree-within 65535 x v d.short d.reads)

  accepted-as : parsed (read x) ≡ verdict.accepted (length offsets)
  unfolding parsed least
  accepted-as =
      let none : no_fault ≡ least no_fault (faults v) = ap (least no_fault) (sym d.kept) in
      ap parsed d.reads ∙ judged-none v none (omega arith) ∙ ap verdict.accepted (sym (d.indexed v d.stands).all)

  module _ {d₀ d₁ : List ℕ} {size : ℕ} (z : Zeroes d₀) (u : SheetWrote x t d₀ d₁ size) where
    wrote-all : (size ≡ length (sheet_of_text x)) × (length (sheet_of_text x) ≤ length d₀ → d₁ ≡ sheet_of_text x ++ replicate (length d₀ - length (sheet_of_text x)) 0)
    unfolding Zeroes
    wrote-all =
        let ws = sheet_of (model_of v) in
        rw sheet-of (whole-sheet ws d₁ (length d₀) size (subst (λ l. Writes ws l d₁ 0 size) z (u.is v d.stands)) (omega (arith, sheet-low)))

    pub lay-laid : {n : ℕ} → n ≡ length offsets → size ≤ length d₁ → Lays x (parsed (read x)) d₀ d₁ (answered (Ok (record { length = size; objects = n })))
    unfolding answered fitted filled
    lay-laid e l =
        let (a, b) = wrote-all in
        let m = (u.is v d.stands).room in
        let f : length (sheet_of_text x) ≤ length d₀ = omega arith in
        record { gives = rw (accepted-as, le-leb _ _ f, a, e); leaves = rw a (b f) }

    pub lay-no-room : {d₂ : List ℕ} {f : Refusal} → length d₁ < size → d₂ ≡ replicate (length d₁) 0 → f ≡ record { rule = broken.NoRoom; place = 0; end = 0 }
        → Lays x (parsed (read x)) d₀ d₂ (answered (Err f))
    unfolding answered fitted filled rule_number
    lay-no-room l q z =
        let (a, b) = wrote-all in
        let m = (u.is v d.stands).room in
        let f : length d₀ < length (sheet_of_text x) = omega arith in
        record { gives = rw (accepted-as, lt-leb _ _ f, z); leaves = q ∙ ap (λ n. replicate n 0) m }

-- ---- the answer

-- for a text whose verdict is that
module _ {x d₀ d : List ℕ} {n : ℕ} {a : laid.Answer} (l : Lays x (verdict.verdict x) d₀ d a) (e : length d₀ ≡ n) where
  pub lay-value : a ≡ answer x n
  unfolding answer
  lay-value = rw e at l.gives

  pub lay-after : d ≡ room_after x n
  unfolding room_after
  lay-after = rw e at l.leaves ∙ ap (filled x n) lay-value

pub passed-lay : {x d₀ d : List ℕ} {a : laid.Answer} {r : Result (Unit {0}) Refusal} {u : Unit {0}} → screened_as r ≡ screening x → r ≡ Ok u → Lays x (parsed (read x)) d₀ d a
    → Lays x (verdict.verdict x) d₀ d a
passed-lay {x} h e l = rw (passed-verdict x h e) l

-- for a text that breaks rule 1 or 2, in a room of n bytes that is cleared
module _ (x : List ℕ) {r : Result (Unit {0}) Refusal} (h : screened_as r ≡ screening x) {f : Refusal} (n : ℕ) (e : r ≡ Err f) where
  screened-lay : Lays x (verdict.verdict x) (replicate n 0) (replicate n 0) (answered (Err f))
  screened-lay = refuses f (screened-refused x h e) (zeroed n refl)

  pub screened-value : answered (Err f) ≡ answer x n
  screened-value = lay-value screened-lay (length-replicate {A = ℕ} n 0)

  pub screened-after : {d : List ℕ} → d ≡ replicate n 0 → d ≡ room_after x n
  screened-after z = z ∙ lay-after screened-lay (length-replicate {A = ℕ} n 0)

pub ruleset lays = (rules, opened-tree, refuses, open-refused, index-few, clean_of, clean_ready, lay-laid, lay-no-room)

pub ruleset screens = (rules, screened-value)
