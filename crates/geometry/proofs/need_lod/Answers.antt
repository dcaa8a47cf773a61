use Rattle.utf8.specs.Ascii.{ascii}
use Rattle.words.specs.Words.{is}
use Rattle.geometry.proofs.GeometryLaws.{geometric}
use Rattle.geometry.proofs.need_lod.Goals as goal

pub returns-then-found_word : goal.returns-then-found_word
unfolding is ascii
returns-then-found_word c = search geometric

pub returns : goal.returns
unfolding is ascii
returns c = search geometric
