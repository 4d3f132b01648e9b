use Rattle.std.proofs.Common.{ap}
use Rattle.std.specs.Option.{option_map}
use Rattle.tree.specs.Maps.{pair}
use Rattle.tree.proofs.Searches.{search_finds_the_pair_lem}
use Rattle.paged.specs.Paged.{as_tree}
use Rattle.search.specs.Finding.{pair_with}
use Rattle.search.specs.Following.{find_pair}
use Rattle.search.proofs.Loading.{finds_in_sound}
use Rattle.search.proofs.Tree.find.Goals as goal

pub returns : goal.returns
returns g c =
    let k = c.args.key.now in
    finds_in_sound c.args.self (find_pair k) (pair_with k) c.find_down.result
    (λ d t so. ap (option_map (pair k)) (search_finds_the_pair_lem (as_tree d t) so k))
    c.find_down.ensures
