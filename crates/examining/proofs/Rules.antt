-- What the proofs of the functions that examine use.
use Prim.Native.Nat.{ℕ, ◌≤◌, ◌<◌}
use native.Mathlib.Omega.{arith}
use mathlib.Core.Path.{◌≡◌, ap, ◌∙◌, subst}
use mathlib.Core.List.{List, map}
use lib.ListN.{length}
use Rattle.std.specs.Prelude.{Result, Ok, Err}
use borrow.Author.Rules.{rules}
use borrow.Author.Tests.{lt-ltb, le-ltb}
use Rattle.utf8.specs.Utf8.{whole_length}
use Rattle.utf8.specs.Laws.{clash}
use Rattle.json_text.specs.Tree.{Json}
use Rattle.json_text.specs.Table.{Sub}
use Rattle.json_text.specs.Parse.{Tells}
use Rattle.json_text.specs.declared.Unread.{Unread}
use Rattle.json_text.specs.declared.Unread.TheVariants.{Bad, Deep, Long, Short}
use Rattle.everywhere.specs.Everywhere.{rule5, rule6}
use Rattle.nodes.specs.Faults.{fault, least, no_fault}
use Rattle.nodes.specs.Says.{Gives}
use Rattle.fields.specs.Fields.{objects_of}
use Rattle.rules.specs.Schema.{city_json}
use Rattle.schema.specs.Says.{IndexedAt}
use Rattle.schema.specs.declared.Walked.{Walked}
use Rattle.nodes.specs.Unique.{unique}
use Rattle.fields.specs.declared.Index.{Index}
use Rattle.ids.specs.Says.{Offsets, Objects}
use Rattle.rows.specs.Says.{Listed}
use Rattle.links.specs.Says.{Ready, LinksGive}
use Rattle.verdict.specs.Verdict.{faults, parsed, screening}
use Rattle.verdict.proofs.Exact.{in-text}
use Rattle.verdict.specs.Places.{Placed, early}
use Rattle.refusals.specs.Refusals.{rule_number, unread_as}
use Rattle.refusals.specs.declared.Broken.TheVariants as broken
use Rattle.refusals.specs.declared.Refusal.{Refusal}
use Rattle.examining.specs.Examining.{screened_as, tree_or_refusal, opened_as, Room, Stands, TreeIn, Opens, Linked, Rows, offsets_of, TreeExamined, Examined, RowsOf}
use Rattle.examining.specs.Laws.{index-offsets, tabled, table-refused}
use Rattle.examining.specs.Least.{early-passes, all-passes, before-links, no-repeat, no-schema, from-five, few-objects}
use Rattle.examining.proofs.Alone.{alone}
use Rattle.examining.proofs.Rooms.{room_for}

-- ---- rules 1 and 2

module _ (x : List ℕ) where
  pub screen-long : {f : Refusal} → 65535 < length x → f ≡ record { rule = broken.TooLong; place = 65535; end = 65535 } → screened_as (Err f) ≡ screening x
  unfolding screened_as screening rule_number
  screen-long h e = rw (lt-ltb 65535 (length x) h, e)

  module _ {n : ℕ} (short : length x ≤ 65535) (whole : n ≡ whole_length x) where
    pub screen-odd : {f : Refusal} → n < length x → f ≡ record { rule = broken.NotUtf8; place = n; end = n } → screened_as (Err f) ≡ screening x
    unfolding screened_as screening rule_number
    screen-odd h e = rw (le-ltb 65535 (length x) short, lt-ltb (whole_length x) (length x) (omega arith), e, whole)

    pub screen-passed : length x ≤ n → screened_as (Ok tt) ≡ screening x
    unfolding screened_as screening
    screen-passed h = rw (le-ltb 65535 (length x) short, le-ltb (whole_length x) (length x) (omega arith))

-- ---- rules 3 and 4

module _ (x t₀ t : List ℕ) {r : Result ℕ Unread} (h : Tells x t₀ t r) where
  pub open-tree : {n : ℕ} → r ≡ Ok n → Opens x t₀ t (Ok n)
  unfolding Tells opened_as tree_or_refusal
  open-tree {n} e =
      let s = subst (Tells x t₀ t) e h in
      let m : TreeIn x t₀ t n = record { tree = record { value = s.value; short = s.short; reads = s.reads; stands = s.stands; ends = s.ends }; rest = s.rest } in
      record { is = rw (s.reads, s.ends); holds = λ k q. let z : n ≡ k = cc in rw (← z) m }

  -- that the text is too long, or the table too short, does not happen
  pub open-unread : {u : Unread} {f : Refusal} → Room x t₀ → r ≡ Err u → f ≡ unread_as u → Opens x t₀ t (Err f)
  unfolding Tells opened_as tree_or_refusal parsed rule_number unread_as
  open-unread {u} {f} k e q = of u (subst (Tells x t₀ t) e h) q
    where
      of : (v : Unread) → Tells x t₀ t (Err v) → f ≡ unread_as v → Opens x t₀ t (Err f)
      of (Bad p) s z = record { is = rw (z, s.1); holds = λ n y. clash cc }
      of (Deep p) s z = record { is = rw (z, s.1); holds = λ n y. clash cc }
      of Long s z = absurd (omega (arith, s.0, k.short))
      of Short s z = absurd (omega (arith, s.1, k.long))

-- ---- rules 5 to 14

pub tree-examined : {x t : List ℕ} {a b : ℕ} {w : Walked} → Gives (λ v. least no_fault (map (fault 5) (rule5 v))) x t 0 a → Gives (λ v. least a (map (fault 6) (rule6 v))) x t 0 b
    → Gives (λ v. least b (city_json v)) x t 0 w.least → IndexedAt x t w.index → TreeExamined x t w
tree-examined five six schema index = record { least = λ v s. early-passes v (five.is v s) (six.is v s) (schema.is v s); indexed = index }

-- ---- the links

pub linked-objects : {x t offsets : List ℕ} → Linked x t offsets → Objects x t offsets
linked-objects d = record { members = objects_of d.value; stand = d.indexed d.value d.stands; short = d.short }

pub linked-ready : {x t offsets children parents : List ℕ} → Linked x t offsets → Listed x t offsets "children" children → Listed x t offsets "parents" parents → Ready x t offsets children parents
linked-ready d b a = record { value = d.value; stands = d.stands; short = d.short; indexed = d.indexed; alone = d.alone; below = b; above = a }

pub rows_are : {x t offsets children parents : List ℕ} → Listed x t offsets "children" children → Listed x t offsets "parents" parents → Rows x t offsets children parents
rows_are b a = record { below = b; above = a }

-- ---- rules 5 to 17

-- the least fault and the index of the tree are those of the text
examined : {x t : List ℕ} {n : ℕ} {w : Walked} (s : Stands x t n) → IndexedAt x t w.index → w.least ≡ least no_fault (faults s.value) → Examined x t w
examined {x} {t} s i e = record {
  least = λ v q. e ∙ ap (λ u. least no_fault (faults u)) (cc);
  from = from-five s.value (in-text x s.value s.short s.reads) e;
  indexed = λ v q. i.is v (subst (Sub x t 0) (cc) s.stands);
}

module _ {x t : List ℕ} {n : ℕ} {w : Walked} (s : Stands x t n) (d : TreeExamined x t w) where
  placed : Placed s.value
  placed = in-text x s.value s.short s.reads

  walked : w.least ≡ least no_fault (early s.value)
  walked = d.least s.value s.stands

  pub examine-early : w.least < no_fault → Examined x t w
  examine-early h = examined s d.indexed (before-links s.value placed walked h)

  pub early-rows : {children parents : List ℕ} → w.least < no_fault → RowsOf x t w children parents
  early-rows h = record { are = λ k. absurd (omega arith) }

  few : no_fault ≤ w.least → length (objects_of s.value) ≤ 1024
  few h = few-objects s.value (no-schema s.value placed walked h)

  offsets_are : no_fault ≤ w.least → (v : Json) → Sub x t 0 v → Offsets x t (objects_of v) (offsets_of w.index)
  offsets_are h v u = index-offsets (d.indexed.is v u) (subst (λ j. length (objects_of j) ≤ 1024) (unique s.stands u) (few h))

  pub index-few : w.index.count ≤ 1024
  index-few = omega (arith, (d.indexed.is s.value s.stands).count)

  pub examine-linked : no_fault ≤ w.least → Linked x t (offsets_of w.index)
  examine-linked h = record {
    value = s.value;
    stands = s.stands;
    short = s.short;
    indexed = offsets_are h;
    alone = alone s.value (no-repeat s.value placed walked h);
  }

  module _ {e : ℕ} where
    pub examine-late : no_fault ≤ w.least → LinksGive x t w.least e → Examined x t (record { index = w.index; least = e })
    examine-late h g = examined s d.indexed (all-passes s.value walked (g.is s.value s.stands))

pub late-rows : {x t : List ℕ} {index : Index} {e : ℕ} {children parents : List ℕ} → Rows x t (offsets_of index) children parents
    → RowsOf x t (record { index = index; least = e }) children parents
late-rows r = record { are = λ k. r }

pub ruleset opens = (rules, screen-long, screen-odd, screen-passed, open-tree, open-unread)

pub ruleset examines = (rules, tree-examined, room_for, linked-objects, linked-ready, rows_are, examine-early, early-rows, index-few, examine-linked, examine-late, late-rows)

pub ruleset refuses = (rules, tabled, table-refused)
