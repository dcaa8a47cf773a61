-- The rules of docs/RULES.md and their numbers.
use Rattle.std.specs.Prelude.{ℕ}
use Rattle.json_text.specs.declared.Unread.{Unread}
use Rattle.json_text.specs.declared.Unread.TheVariants.{Bad, Deep, Long, Short}
use Rattle.verdict.specs.Verdict as verdict
use Rattle.refusals.specs.declared.Broken.{Broken}
use Rattle.refusals.specs.declared.Broken.TheVariants as broken
use Rattle.refusals.specs.declared.Refusal.{Refusal}

-- "a definition that gives this paper's number .. for each case"
unfoldable pub rule_number : Broken → ℕ
rule_number broken.TooLong = 1
rule_number broken.NotUtf8 = 2
rule_number broken.NotJson = 3
rule_number broken.TooDeep = 4
rule_number broken.UnpairedSurrogate = 5
rule_number broken.RepeatedName = 6
rule_number broken.WrongKind = 7
rule_number broken.MissingMember = 8
rule_number broken.TooManyObjects = 9
rule_number broken.WrongWord = 10
rule_number broken.NotCarried = 11
rule_number broken.WrongShape = 12
rule_number broken.OutOfRange = 13
rule_number broken.NotPermitted = 14
rule_number broken.UnknownLink = 15
rule_number broken.NoParent = 16
rule_number broken.OneSidedLink = 17
rule_number broken.NoRoom = 18

-- a refusal as the verdict that it is
abbrev pub refusal : Refusal → verdict.Verdict
refusal f = verdict.refused (rule_number f.rule) f.place f.end

-- the refusal of a text that is not read: by rule 3 or 4 at its place, or by rule 1
unfoldable pub unread_as : Unread → Refusal
unread_as (Bad p) = record { rule = broken.NotJson; place = p; end = p }
unread_as (Deep p) = record { rule = broken.TooDeep; place = p; end = p }
unread_as Long = record { rule = broken.TooLong; place = 65535; end = 65535 }
unread_as Short = record { rule = broken.TooLong; place = 65535; end = 65535 }
