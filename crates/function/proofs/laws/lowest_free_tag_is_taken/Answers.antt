use Rattle.function.proofs.LowestTag.{free_tag-lowest}
use Rattle.function.proofs.laws.lowest_free_tag_is_taken.Goals as goal

pub returns : goal.returns
returns c = free_tag-lowest
