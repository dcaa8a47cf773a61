use Rattle.geometry.proofs.Strings.{strings, string-told}
use Rattle.geometry.proofs.string_that.Goals as goal

pub test-requires : goal.test-requires
test-requires g c = c.requires.callable (search strings)

pub returns-then-not-is_string : goal.returns-then-not-is_string
returns-then-not-is_string g c = λ ok m. search strings

pub returns : goal.returns
returns g c = λ ok m. string-told 10 ok c.is_string.ensures (search strings) (m _ c.test.ensures) c.unless.ensures
