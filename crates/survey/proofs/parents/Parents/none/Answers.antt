use Rattle.std.proofs.Common.{ℕ, None, Option}
use Rattle.std.proofs.lemmas.List.{get_or-replicate}
use Rattle.survey.proofs.parents.Parents.none.Goals as goal

pub returns : goal.returns
returns c = let no : Option ℕ = None in λ p h. get_or-replicate 1024 p no no h
