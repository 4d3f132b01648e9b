use Rattle.tree.specs.Maps.{first_above}
use Rattle.tree.proofs.Searches.{after_finds_the_next_pair_lem}
use Rattle.paged.specs.Paged.{as_tree}
use Rattle.search.specs.Following.{find_next}
use Rattle.search.proofs.Loading.{finds_in_sound}
use Rattle.search.proofs.Tree.after.Goals as goal

pub returns : goal.returns
returns g c =
    let k = c.args.key.now in
    finds_in_sound c.args.self (find_next k) (first_above k) c.after_down.result
    (λ d t so. after_finds_the_next_pair_lem (as_tree d t) so k)
    c.after_down.ensures
