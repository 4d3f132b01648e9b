use Rattle.std.proofs.Common.{refl, arith}
use Rattle.std.specs.Ordering.{is_lt, nat_cmp}
use Rattle.std.proofs.lemmas.Cmp.{same_from_slice_cmp_tested}
use Rattle.std.proofs.lemmas.Bool.Decides.{nat_tests}
use Rattle.cuts.specs.Keys.{key<}
use Rattle.cuts.proofs.compare.key_less.Goals as goal

pub returns : goal.returns
unfolding key<
returns c = same_from_slice_cmp_tested nat_cmp is_lt key< refl (λ _ _. refl) (λ _ _. refl) (λ x y xs ys o h. grind (arith, nat_tests)) c.args.a.now c.args.b.now _ c.lt.ensures
