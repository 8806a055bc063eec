-- What a contract sees of a plan.
use Rattle.std.specs.Prelude.{ℕ, ◌==◌, List, filter, length, map, slice_index_or, Option, Some, None}
use Rattle.std.specs.List.{filter_map}
use Rattle.platform.specs.Platform.{Platform}
use Rattle.thread_crew.specs.declared.worker_id.WorkerId.{WorkerId}
use Rattle.thread_crew.specs.declared.worker_id.WorkerId.TheVariants.{Host}
use Rattle.thread_rings.specs.declared.wire.Wire.{Wire}
use Rattle.thread_rings.specs.Wired.{AreWithin}
use Rattle.thread_plan.specs.declared.plan.Plan.TheInside.{Inside}
use Rattle.thread_plan.specs.declared.route.Route.{Route}
use Rattle.thread_plan.specs.Workers.{number_of, workers_of}
use Rattle.thread_plan.specs.Routes.{credit_routes, link_routes, pair_routes, route}

-- a wire joins workers that were found
abbrev pub wire_between : ℕ → Option ℕ → Option ℕ → Option Wire
wire_between places (Some from) (Some to) = Some (record { from = from; to = to; places = places })
wire_between places from to = None

abbrev pub wire_of : List WorkerId → ℕ → Route → Option Wire
wire_of workers places r = wire_between places (number_of workers r.from) (number_of workers r.to)

-- the routes by the numbers of their workers, each for a ring of so many places
abbrev pub wires_of : List WorkerId → ℕ → List Route → List Wire
wires_of workers places routes = filter_map (wire_of workers places) routes

-- and back: the route of a wire, by the names of its workers
abbrev pub route_of : List WorkerId → Wire → Route
route_of workers wire = route (slice_index_or workers wire.from Host) (slice_index_or workers wire.to Host)

abbrev pub routes_of : Platform → List Wire → List Route
routes_of platform wires = map (route_of (workers_of platform)) wires

-- those that lead from the worker of a number, and those that lead to it
abbrev pub wires_from : ℕ → List Wire → List Wire
wires_from number wires = filter (λ wire. wire.from == number) wires

abbrev pub wires_into : ℕ → List Wire → List Wire
wires_into number wires = filter (λ wire. wire.to == number) wires

pub record Tables : Type 0 where
  pub workers : List WorkerId  -- by their numbers
  pub links : List Wire  -- for the packets of each direction of a link
  pub credits : List Wire  -- for the credits of each direction of a link
  pub pairs : List Wire  -- for packets between ports of a switch

-- A ring along a link has as many places as a receiver can have given header credits for: 127 of each of three classes
-- (PCIe 4.0, 2.6.1).
abbrev pub plan_of : Platform → Tables
plan_of platform = record {
  workers = workers_of platform;
  links = wires_of (workers_of platform) 381 (link_routes platform);
  credits = wires_of (workers_of platform) 16 (credit_routes platform);
  pairs = wires_of (workers_of platform) 16 (pair_routes platform);
}

-- each wire joins two of the workers
pub record IsPlan (t : Tables) : Type 0 where
  pub links : AreWithin (length t.workers) t.links
  pub credits : AreWithin (length t.workers) t.credits
  pub pairs : AreWithin (length t.workers) t.pairs

abbrev pub plan_view : Inside → Tables
plan_view p = record { workers = p.workers.items; links = p.links.items; credits = p.credits.items; pairs = p.pairs.items }

abbrev pub IsSound : Inside → Type 0
IsSound p = IsPlan (plan_view p)
