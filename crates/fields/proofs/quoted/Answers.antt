use Rattle.fields.proofs.Rules.{fields}
use Rattle.fields.proofs.quoted.Goals as goal

pub returns-in_err-k : goal.returns-in_err-k
returns-in_err-k c = search fields

pub is_string-requires : goal.is_string-requires
is_string-requires c = search fields

pub returns-then-not-is_string : goal.returns-then-not-is_string
returns-then-not-is_string c = search fields

pub text_from-requires : goal.text_from-requires
text_from-requires c = search fields

pub text_to-requires : goal.text_to-requires
text_to-requires c = search fields

pub returns : goal.returns
returns c = search fields
