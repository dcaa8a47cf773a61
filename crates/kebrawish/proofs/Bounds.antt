-- The numbers of an answer fit 32 bits, and what each function for C answers.
use Prim.Native.Nat.{ℕ, ◌^◌, ◌≤◌, ◌<◌}
use native.Mathlib.Omega.{arith}
use Rattle.std.specs.Prelude.{Result, Ok, Err}
use borrow.Author.Rules.{rules}
use native.Mathlib.Decide.{dec_lt}
use mathlib.Core.Path.{◌≡◌, refl, sym, ap, ◌∙◌}
use mathlib.Core.Bool.{Bool, true, false, cond}
use mathlib.Core.List.{List}
use lib.ListN.{length}
use lib.Dec.{leb}
use Rattle.utf8.specs.Laws.{clash}
use Rattle.verdict.specs.Verdict.{Verdict, accepted, refused, verdict}
use Rattle.verdict.proofs.Exact.{accepted-clean, verdict-long, ends-inside}
use Rattle.sheets.specs.Laid.{sheet_of_text, fitted, answer}
use Rattle.sheets.specs.Laid as laid
use Rattle.sheets.proofs.Answers.{of-laid}
use Rattle.sheets.proofs.Theorems.{sizes}
use Rattle.refusals.specs.Refusals.{rule_number}
use Rattle.refusals.specs.declared.Broken.{Broken}
use Rattle.refusals.specs.declared.Refusal.{Refusal}
use Rattle.judging.specs.Judging.{verdict_of}
use Rattle.examining.specs.Least.{few-clean}
use Rattle.laying.specs.declared.Laid.{Laid}
use Rattle.laying.specs.Laying.{answered}
use Rattle.kebrawish.specs.declared.KebrawishAnswer.{KebrawishAnswer}
use Rattle.kebrawish.specs.Answers.{acceptance, refusal_of, judge_answer, lay_answer}
use Rattle.kebrawish.specs.Says.{SmallVerdict, SmallAnswer}

-- the end of a refusal is at most 65,535, and its place no later
end-small : (x : List ℕ) (r p e : ℕ) → verdict x ≡ refused r p e → (p ≤ e) × (e ≤ 65535)
end-small x r p e q = let (h, k) = ends-inside x r p e q in (h, by k (dec_lt 65535 (length x)))
  where
    by : e ≤ length x → Dec (65535 < length x) → e ≤ 65535
    by k (yes h) = let z : refused 1 65535 65535 ≡ refused r p e = sym (verdict-long x h) ∙ q in let y : 65535 ≡ e = cc in omega arith
    by k (no h) = omega arith

-- there are at most 1,024 city objects
count_small : (x : List ℕ) (n : ℕ) → verdict x ≡ accepted n → n ≤ 1024
count_small x n e = let c = accepted-clean x n e in omega (arith, few-clean c.value c.clean, c.count)

small-verdict : (x : List ℕ) (v : Verdict) → verdict x ≡ v → SmallVerdict v
unfolding SmallVerdict
small-verdict x (accepted n) e = omega (arith, count_small x n e)
small-verdict x (refused r p c) e = let (h, k) = end-small x r p c e in (omega arith, omega arith)

small-answer : (x : List ℕ) (room : ℕ) (a : laid.Answer) → answer x room ≡ a → SmallAnswer a
unfolding SmallAnswer answer fitted
small-answer x room (laid.laid size objects) e =
    ((sizes x room size objects e).2, omega (arith, count_small x objects (of-laid x room size objects e).accepted))
small-answer x room (laid.refused r p c) e = by (verdict x) refl e
  where
    if : (b : Bool) (size n : ℕ) → cond b (laid.laid size n) (laid.refused 18 0 0) ≡ laid.refused r p c → (p < 2 ^ 32) × (c < 2 ^ 32)
    if true size n d = clash cc
    if false size n d = let y : 0 ≡ p = cc in let z : 0 ≡ c = cc in (omega arith, omega arith)

    by : (v : Verdict) → verdict x ≡ v → fitted x room v ≡ laid.refused r p c → (p < 2 ^ 32) × (c < 2 ^ 32)
    by (accepted n) q d = if (leb (length (sheet_of_text x)) room) (length (sheet_of_text x)) n d
    by (refused s o f) q d =
        let y : o ≡ p = cc in
        let z : f ≡ c = cc in
        let (h, k) = end-small x s o f q in
        (omega arith, omega arith)

-- ---- the struct

pub refusal_is : (b : Broken) {n : ℕ} (p e : ℕ) → n ≡ rule_number b → record { rule = n; place = p; end = e; length = 0; objects = 0 } ≡ refusal_of (rule_number b) p e
unfolding refusal_of
refusal_is b p e h = rw h

pub acceptance-is : (l n : ℕ) → record { rule = 0; place = 0; end = 0; length = l; objects = n } ≡ acceptance l n
unfolding acceptance
acceptance-is l n = refl

-- ---- what judge answered

module _ (x : List ℕ) (a : Result ℕ Refusal) (h : verdict_of a ≡ verdict x) where
  pub judged-small : SmallVerdict (verdict_of a)
  judged-small = small-verdict x (verdict_of a) (sym h)

  pub judged-answer : {r : KebrawishAnswer} → r ≡ judge_answer (verdict_of a) → r ≡ judge_answer (verdict x)
  judged-answer e = e ∙ ap judge_answer h

module _ {a : Result ℕ Refusal} where
  pub accepted-fits : {n : ℕ} → SmallVerdict (verdict_of a) → a ≡ Ok n → n < 2 ^ 32
  unfolding verdict_of SmallVerdict
  accepted-fits h e = rw e at h

  refused-fits : {s : Refusal} → SmallVerdict (verdict_of a) → a ≡ Err s → (s.place < 2 ^ 32) × (s.end < 2 ^ 32)
  unfolding verdict_of SmallVerdict
  refused-fits h e = rw e at h

  pub refused-place : {s : Refusal} → SmallVerdict (verdict_of a) → a ≡ Err s → s.place < 2 ^ 32
  refused-place h e = (refused-fits h e).0

  pub refused_end : {s : Refusal} → SmallVerdict (verdict_of a) → a ≡ Err s → s.end < 2 ^ 32
  refused_end h e = (refused-fits h e).1

  pub accepted-answer : {r : KebrawishAnswer} {n : ℕ} → a ≡ Ok n → r ≡ acceptance 0 n → r ≡ judge_answer (verdict_of a)
  unfolding verdict_of judge_answer
  accepted-answer e q = rw e q

  pub refused-answer : {r : KebrawishAnswer} {s : Refusal} → a ≡ Err s → r ≡ refusal_of (rule_number s.rule) s.place s.end → r ≡ judge_answer (verdict_of a)
  unfolding verdict_of judge_answer
  refused-answer e q = rw e q

-- ---- what lay answered

module _ (x : List ℕ) (room : ℕ) (a : Result Laid Refusal) (h : answered a ≡ answer x room) where
  pub laid-small : SmallAnswer (answered a)
  laid-small = small-answer x room (answered a) (sym h)

  pub laid-answered : {r : KebrawishAnswer} → r ≡ lay_answer (answered a) → r ≡ lay_answer (answer x room)
  laid-answered e = e ∙ ap lay_answer h

module _ {a : Result Laid Refusal} where
  laid-fits : {w : Laid} → SmallAnswer (answered a) → a ≡ Ok w → (w.length < 2 ^ 32) × (w.objects < 2 ^ 32)
  unfolding answered SmallAnswer
  laid-fits h e = rw e at h

  pub laid-length : {w : Laid} → SmallAnswer (answered a) → a ≡ Ok w → w.length < 2 ^ 32
  laid-length h e = (laid-fits h e).0

  pub laid-objects : {w : Laid} → SmallAnswer (answered a) → a ≡ Ok w → w.objects < 2 ^ 32
  laid-objects h e = (laid-fits h e).1

  lay-refused-fits : {s : Refusal} → SmallAnswer (answered a) → a ≡ Err s → (s.place < 2 ^ 32) × (s.end < 2 ^ 32)
  unfolding answered SmallAnswer
  lay-refused-fits h e = rw e at h

  pub lay-refused-place : {s : Refusal} → SmallAnswer (answered a) → a ≡ Err s → s.place < 2 ^ 32
  lay-refused-place h e = (lay-refused-fits h e).0

  pub lay-refused-end : {s : Refusal} → SmallAnswer (answered a) → a ≡ Err s → s.end < 2 ^ 32
  lay-refused-end h e = (lay-refused-fits h e).1

  pub laid_as : {r : KebrawishAnswer} {w : Laid} → a ≡ Ok w → r ≡ acceptance w.length w.objects → r ≡ lay_answer (answered a)
  unfolding answered lay_answer
  laid_as e q = rw e q

  pub lay-refused-as : {r : KebrawishAnswer} {s : Refusal} → a ≡ Err s → r ≡ refusal_of (rule_number s.rule) s.place s.end → r ≡ lay_answer (answered a)
  unfolding answered lay_answer
  lay-refused-as e q = rw e q

-- what `search` is handed to close what the functions leave
pub ruleset judging = (judged-small, judged-answer, accepted-fits, refused-place, refused_end, accepted-answer, refused-answer)

pub ruleset laying = (laid-small, laid-answered, laid-length, laid-objects, lay-refused-place, lay-refused-end, laid_as, lay-refused-as)

pub ruleset numbers = (rules, refusal_is, acceptance-is, judging, laying)
