use Rattle.std.proofs.Common.{◌≡◌, arith, length}
use Rattle.host_memory.proofs.Placed.{fewer, placed_more, same_pages}
use Rattle.host_memory.proofs.memory.place_of_page.Goals as goal

pub push_reserved-requires : goal.push_reserved-requires
push_reserved-requires c = let less = fewer c.args.places.now c.args.at c.requires.within c.in-None.is in omega (arith, less, c.requires.placed.all, c.requires.placed.room)

module _ (c : goal.After-push_reserved) where
  new_place : c.len-place.result ≡ length c.args.pages.now.items
  new_place = omega (arith, c.len-place.ensures)

pub returns-in-None-clause-placed : goal.returns-in-None-clause-placed
returns-in-None-clause-placed c =
    rw (c.push_reserved.ensures.items, new_place c) (placed_more c.args.places.now c.args.pages.now.items _ c.args.at c.zero.result c.requires.placed c.requires.within c.in-None.is c.zero.ensures _ c.push_reserved.ensures.capacity)

pub returns-in-None-clause-same : goal.returns-in-None-clause-same
returns-in-None-clause-same c =
    rw (c.push_reserved.ensures.items, new_place c) (same_pages c.args.places.now c.args.pages.now.items _ c.args.at c.zero.result c.requires.placed c.requires.within c.in-None.is c.zero.ensures)
