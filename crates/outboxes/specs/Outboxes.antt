-- What functions and hosts have emitted and no link has taken yet: an outbox of each, as a list of boxes.
use Rattle.std.specs.Prelude.{◌≡◌, ◌⊎◌, ℕ, ◌+◌, ◌*◌, nat_lt, Bool, false, List, [], ◌∷◌, ◌++◌, map, filter, slice_get, slice_set, Option, Some, None}
use Rattle.std.specs.List.{position, range_with_len}
use Rattle.fab_types.specs.declared.origin.Origin.{Origin}
use Rattle.fab_types.specs.declared.origin.Origin.TheVariants.{Function, Host}
use Rattle.frame_log.specs.Descriptor.{Descriptor}
use Rattle.fab_types.specs.Origins.{same_origin}
use Rattle.platform.specs.declared.parts.EndpointFunction.{EndpointFunction}
use Rattle.platform.specs.Owners.{domain_above, owns_port}
use Rattle.platform.specs.Platform.{Platform}
use Rattle.layout.specs.Views.{budget_of}
use Rattle.port_queue.specs.declared.per_class.PerClass.{PerClass}
use Rattle.port_queue.specs.PerClass.{at_class, with_class}
use Rattle.port_queue.specs.Queue.{Queue}
use Rattle.lane.specs.Lanes.{Class, class_of}
use Rattle.lane.specs.Queues.{frames_of}

-- an outbox: whose it is, what waits (with where the packet stood that was taken last), how many of each class were
-- put in all, and how many of each may be
pub record BoxView : Type 0 where
  pub origin : Origin
  pub queue : Queue Descriptor
  pub puts : PerClass ℕ
  pub places : ℕ

-- ---- one box

-- what waits in it, oldest first
abbrev pub waiting : BoxView → List Descriptor
waiting box = frames_of box.queue.waiting

-- were fewer than its places put of the class?
abbrev pub takes : BoxView → Class → Bool
takes box class = nat_lt (at_class box.puts class) box.places

-- the box, in which this waits
abbrev pub with_queue : Queue Descriptor → BoxView → BoxView
with_queue queue box = record { origin = box.origin; queue = queue; puts = box.puts; places = box.places }

-- the box with a packet behind the others, under its own class
abbrev pub with_put : Descriptor → BoxView → BoxView
with_put frame box = record {
  origin = box.origin;
  queue = record { waiting = box.queue.waiting ++ (class_of frame, frame) ∷ []; gap = None };
  puts = with_class box.puts (class_of frame) (at_class box.puts (class_of frame) + 1);
  places = box.places;
}

-- the box with so many places more for each class
abbrev pub with_more : ℕ → BoxView → BoxView
with_more places box = record { origin = box.origin; queue = box.queue; puts = box.puts; places = box.places + places }

-- ---- the box of an origin

-- the place of the box of an origin, if it has one
unfoldable pub box_place : List BoxView → Origin → Option ℕ
box_place boxes origin = position (λ box. same_origin box.origin origin) boxes

abbrev pub box_at : List BoxView → Option ℕ → Option BoxView
box_at boxes None = None
box_at boxes (Some place) = slice_get boxes place

abbrev pub box_of : List BoxView → Origin → Option BoxView
box_of boxes origin = box_at boxes (box_place boxes origin)

-- what waits in it; nothing where there is none
abbrev pub waiting_in : Option BoxView → List Descriptor
waiting_in None = []
waiting_in (Some box) = waiting box

abbrev pub waiting_of : List BoxView → Origin → List Descriptor
waiting_of boxes origin = waiting_in (box_of boxes origin)

abbrev pub queue_in : Option BoxView → Queue Descriptor
queue_in None = record { waiting = []; gap = None }
queue_in (Some box) = box.queue

abbrev pub queue_of : List BoxView → Origin → Queue Descriptor
queue_of boxes origin = queue_in (box_of boxes origin)

abbrev pub has_place_in : Option BoxView → Class → Bool
has_place_in None class = false
has_place_in (Some box) class = takes box class

-- is there a box of this origin, and were fewer than its places put of the class?
abbrev pub has_place : List BoxView → Origin → Class → Bool
has_place boxes origin class = has_place_in (box_of boxes origin) class

-- ---- a change of one box

abbrev pub changed_in : (BoxView → BoxView) → List BoxView → ℕ → Option BoxView → List BoxView
changed_in change boxes place None = boxes
changed_in change boxes place (Some box) = slice_set boxes place (change box)

abbrev pub changed_at : (BoxView → BoxView) → List BoxView → Option ℕ → List BoxView
changed_at change boxes None = boxes
changed_at change boxes (Some place) = changed_in change boxes place (slice_get boxes place)

-- the box of an origin is changed so, and all others stay as they were; nothing changes where there is none
abbrev pub changed : (BoxView → BoxView) → List BoxView → Origin → List BoxView
changed change boxes origin = changed_at change boxes (box_place boxes origin)

-- ---- what always holds

-- what waits anywhere waits in a box that is found by its origin
abbrev pub AreFound : List BoxView → Type 0
AreFound boxes = (place : ℕ) (box : BoxView) → slice_get boxes place ≡ Some box → (waiting box ≡ []) ⊎ (box_place boxes box.origin ≡ Some place)

-- ---- the start

abbrev pub empty_box : ℕ → Origin → BoxView
empty_box places origin = record {
  origin = origin;
  queue = record { waiting = []; gap = None };
  puts = record { posted = 0; non_posted = 0; completion = 0 };
  places = places;
}

-- three times the budget of a domain; none without a domain
abbrev pub places_of : Platform → Option ℕ → ℕ
places_of platform None = 0
places_of platform (Some domain) = 3 * budget_of platform.budgets domain

abbrev pub function_box : Platform → EndpointFunction → BoxView
function_box platform line = empty_box (places_of platform (domain_above platform.ports line.id)) (Function line.id)

abbrev pub host_box : Platform → ℕ → BoxView
host_box platform domain = empty_box (places_of platform (Some domain)) (Host domain)

-- of so many numbers from 1 on the host of each domain that owns a port
unfoldable pub host_boxes : Platform → ℕ → List BoxView
host_boxes platform count = map (host_box platform) (filter (owns_port platform.ports) (range_with_len 1 count))

-- empty boxes: of each function, in the layout's order, and then of the host of each domain that owns a port, rising
abbrev pub boxes_of : Platform → List BoxView
boxes_of platform = map (function_box platform) platform.functions ++ host_boxes platform 31
