-- A function takes the eligible packet of a class out of its link: what waits there, its outbox, the records that it gives out
-- and its strays before and after.
use Rattle.std.specs.Prelude.{◌≡◌, ◌==◌, ℕ, List, [], ◌∷◌, ◌++◌, Some}
use Rattle.fab_types.specs.declared.place.Place.{Place}
use Rattle.fab_types.specs.declared.place.Place.TheVariants.{Ingress}
use Rattle.fab_types.specs.declared.place.Way.TheVariants.{Down}
use Rattle.frame_log.specs.Descriptor.{Descriptor}
use Rattle.lane.specs.Lanes.{Class, eligible}
use Rattle.platform.specs.declared.parts.DownstreamPort.{DownstreamPort}
use Rattle.outboxes.specs.Outboxes.{BoxView}
use Rattle.injector.specs.declared.record_ring.RecordRing.{RecordRing}
use Rattle.thread_workers.specs.Boxes.{with_places}
use Rattle.thread_workers.specs.Ends.{EndsOwn, HasNoAlien, HasNoCase, TakesAlien}
use Rattle.received.specs.Received.{received_at_function}

-- where it takes them: down its link
abbrev pub place_at : ℕ → Place
place_at function = Ingress (record { lower = function; way = Down })

-- its home has an entry of it
pub record ArrivesAtHome (ports : List DownstreamPort) (function domain : ℕ) (class : Class) (waiting waiting' : List Descriptor) (box box' : BoxView) (ring ring' : RecordRing) (strays strays' : List Descriptor) : Type 0 where
  pub frame : Descriptor
  pub taken : eligible class waiting ≡ Some (frame, waiting')
  pub ended : EndsOwn (received_at_function ports function (frame.domain == domain) frame) frame box box' ring ring'
  pub others : strays' ≡ strays

-- its home has no case for it, and the function's domain has an entry of it
pub record ArrivesAsAlien (ports : List DownstreamPort) (locks : List ℕ) (function domain : ℕ) (class : Class) (waiting waiting' : List Descriptor) (box box' : BoxView) (strays strays' : List Descriptor) : Type 0 where
  pub frame : Descriptor
  pub taken : eligible class waiting ≡ Some (frame, waiting')
  pub no_case : HasNoCase locks (received_at_function ports function (frame.domain == domain) frame) frame
  pub ended : TakesAlien domain (place_at function) frame box box'
  pub others : strays' ≡ strays

-- nobody has a case for it, and it stands behind the other strays
pub record ArrivesAsStray (ports : List DownstreamPort) (locks : List ℕ) (function domain : ℕ) (class : Class) (waiting waiting' : List Descriptor) (box box' : BoxView) (strays strays' : List Descriptor) : Type 0 where
  pub frame : Descriptor
  pub taken : eligible class waiting ≡ Some (frame, waiting')
  pub no_case : HasNoCase locks (received_at_function ports function (frame.domain == domain) frame) frame
  pub no_alien : HasNoAlien locks domain (place_at function) frame
  pub kept : strays' ≡ strays ++ frame ∷ []
  pub places : box' ≡ with_places box'.places box

-- nothing moved; the outbox may have more places
pub record StaysThere (waiting waiting' : List Descriptor) (box box' : BoxView) (strays strays' : List Descriptor) : Type 0 where
  pub queue : waiting' ≡ waiting
  pub places : box' ≡ with_places box'.places box
  pub others : strays' ≡ strays
