use Rattle.links.proofs.Level.{level}
use Rattle.links.proofs.is_second_level.Goals as goal

pub returns-in_default : goal.returns-in_default
returns-in_default c = search level

pub is_string-requires : goal.is_string-requires
is_string-requires c = search level

pub returns-then-not-is_string : goal.returns-then-not-is_string
returns-then-not-is_string c = search level

pub text_from-from-requires : goal.text_from-from-requires
text_from-from-requires c = search level

pub text_to-to-requires : goal.text_to-to-requires
text_to-to-requires c = search level

pub may_be_second_level-requires : goal.may_be_second_level-requires
may_be_second_level-requires c = search level

pub returns-then-not-may_be_second_level : goal.returns-then-not-may_be_second_level
returns-then-not-may_be_second_level c = search level

pub object_code-requires : goal.object_code-requires
object_code-requires c = search level

pub returns : goal.returns
returns c = search level
