-- In every platform that was read, switches and functions are told apart by their IDs, and the top switch comes first.
use Rattle.std.specs.Prelude.{◌≡◌, ◌==◌, Bool, true, not, List, [], ◌∷◌, is_none}
use Rattle.platform.specs.declared.parts.Switch.{Switch}
use Rattle.platform.specs.declared.parts.EndpointFunction.{EndpointFunction}
use Rattle.platform.specs.Platform.{Platform}
use Rattle.layout.specs.Laws.{each_pair}

abbrev pub have_other_ids : Switch → Switch → Bool
have_other_ids one other = not (one.id == other.id)

abbrev pub are_other_functions : EndpointFunction → EndpointFunction → Bool
are_other_functions one other = not (one.id == other.id)

abbrev pub is_top_first : List Switch → Bool
is_top_first [] = true
is_top_first (first ∷ rest) = is_none first.above

pub record IsWellPlaced (platform : Platform) : Type 0 where
  pub apart : each_pair have_other_ids platform.switches ≡ true  -- two switches have different IDs
  pub top : is_top_first platform.switches ≡ true  -- the first switch is the top one
  pub functions : each_pair are_other_functions platform.functions ≡ true  -- two functions have different IDs
