-- `utf8::all_ascii` meets its contract.
use Rattle.utf8.proofs.Rules.{chars}
use Rattle.utf8.proofs.all_ascii.Statement.{statement}
use Rattle.utf8.proofs.all_ascii.Tie as tie

pub all_ascii_spec : {M : Type 1} → statement M
all_ascii_spec = tie.close (tie.spec (λ c κs. search chars) (λ c. search chars))
