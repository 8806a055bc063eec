use Rattle.std.proofs.lemmas.List.Sorted.{IsNonDecreasingBy-from_sort}
use Rattle.platform.proofs.ids.rising.Goals as goal

pub returns : goal.returns
returns c = record {
  same = c.in_ok-sort.ensures.permutation;
  order = IsNonDecreasingBy-from_sort (λ n. n) _ c.in_ok-sort.ensures.sorted;
}
