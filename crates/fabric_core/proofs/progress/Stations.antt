-- Which stations a fabric has: those of its layout, whatever was done.
use Rattle.std.proofs.Common.{◌≡◌, ℕ, ◌==◌, ◌⊎◌, inl, inr, true, List, [], ◌++◌, map, get_or, Option, Some, None, refl, sym, ap, ◌∙◌, subst, eqb-true}
use Rattle.std.specs.Prelude.{Contains, filter}
use Rattle.std.specs.List.{position, range_with_len}
use Rattle.std.specs.Option.{IsSome}
use Rattle.std.proofs.lemmas.Bool.{and_parts}
use Rattle.std.proofs.lemmas.List.Elements.{Contains-append_cases, Contains-append_left, Contains-append_right, Contains-get_or}
use Rattle.std.proofs.lemmas.List.Quantifiers.{position-Some}
use Rattle.fab_types.specs.Origins.{same_origin}
use Rattle.fab_types.proofs.Origins.{one_origin}
use Rattle.fab_types.specs.declared.origin.Origin.{Origin}
use Rattle.fab_types.specs.declared.origin.Origin.TheVariants.{Function, Host}
use Rattle.fab_types.specs.declared.outcome.Outcome.{Outcome}
use Rattle.fab_types.specs.declared.place.Direction.{Direction}
use Rattle.platform.specs.declared.parts.DownstreamPort.{DownstreamPort}
use Rattle.platform.specs.declared.parts.EndpointFunction.{EndpointFunction}
use Rattle.platform.specs.declared.parts.Switch.{Switch}
use Rattle.platform.specs.Owners.{is_function, is_own_function, owns_port}
use Rattle.platform.specs.Platform.{Platform}
use Rattle.platform.specs.Share.{Share}
use Rattle.layout.specs.Laws.{IsPlatform}
use Rattle.layout.specs.Views.{share_of_domain}
use Rattle.domain.specs.Domains.{DomainView}
use Rattle.domains.specs.Domains.{fresh, place_of_function, starting_domains, starting_domains_among}
use Rattle.outboxes.specs.Outboxes.{BoxView, boxes_of, function_box, host_box, host_boxes}
use Rattle.domains.specs.Agents.{Outbox, agents_of, empty, outbox_place}
use Rattle.topology.specs.declared.links.Link.{Link}
use Rattle.topology.specs.declared.nodes.LinkEnd.{LinkEnd}
use Rattle.topology.specs.declared.places.PortPlace.{PortPlace}
use Rattle.topology.specs.Links.{link_of_function, link_of_switch, links_of, sender_of}
use Rattle.topology.specs.Places.{downstream_place, places_of, upstream_place}
use Rattle.topology.specs.Topologies.{Tree}
use Rattle.topology.proofs.Members.{mapped, mapped_from, passing}
use Rattle.topology.proofs.OwnEnds.{sender_link}
use Rattle.interconnect.specs.Passes.{index_of, no_place}
use Rattle.fabric_core.specs.declared.event.Event.{Event}
use Rattle.fabric_core.specs.declared.station.Station.{Station}
use Rattle.fabric_core.specs.declared.station.Station.TheVariants as station
use Rattle.fabric_core.specs.Runs.{Run}
use Rattle.fabric_core.specs.Soundness.{share_of}
use Rattle.fabric_core.specs.Still.{HasStation, IsStationOf}
use Rattle.fabric_core.specs.World.{World, world_of}
use Rattle.fabric_core.proofs.progress.Drained.{IsAfterRun, after_run, at_start}
use Rattle.fabric_core.proofs.progress.Starts.{origin_of}

module _ (platform : Platform) where
  abbrev functions : List ℕ
  functions = map (λ (line : EndpointFunction). line.id) platform.functions

  abbrev switches : List ℕ
  switches = map (λ (line : Switch). line.id) platform.switches

  abbrev ports : List ℕ
  ports = map (λ (line : DownstreamPort). line.id) platform.ports

  abbrev owners : List ℕ
  owners = filter (owns_port platform.ports) (range_with_len 1 31)

  -- ---- outboxes

  abbrev IsListed : Origin → Type 0
  IsListed (Function function) = Contains functions function
  IsListed (Host domain) = Contains (map (λ (d : DomainView). d.share.domain) (starting_domains platform)) domain

  host_listed : (domain : ℕ) → Contains owners domain → IsListed (Host domain)
  unfolding starting_domains_among
  host_listed domain owns =
      mapped (λ (d : DomainView). d.share.domain) (starting_domains platform) (fresh (share_of_domain platform domain))
      (mapped (λ (number : ℕ). fresh (share_of_domain platform number)) owners domain owns)

  box_listed : (box : BoxView) → Contains (boxes_of platform) box → IsListed box.origin
  unfolding host_boxes
  box_listed box within = go (Contains-append_cases (map (function_box platform) platform.functions) (map (host_box platform) owners) box within)
    where
      go : Contains (map (function_box platform) platform.functions) box ⊎ Contains (map (host_box platform) owners) box → IsListed box.origin
      go (inl listed) =
          let of = mapped_from (function_box platform) platform.functions box listed in
          subst (λ (b : BoxView). IsListed b.origin) of.2 (mapped (λ (line : EndpointFunction). line.id) platform.functions of.0 of.1)
      go (inr listed) = let of = mapped_from (host_box platform) owners box listed in subst (λ (b : BoxView). IsListed b.origin) of.2 (host_listed of.0 of.1)

  origin_listed : (origin : Origin) → Contains (map origin_of (agents_of platform).outboxes) origin → IsListed origin
  origin_listed origin within =
      let outbox = mapped_from origin_of (agents_of platform).outboxes origin within in
      let box = mapped_from empty (boxes_of platform) outbox.0 outbox.1 in
      subst IsListed (ap origin_of box.2 ∙ outbox.2) (box_listed box.0 box.1)

  outbox_listed : (boxes : List Outbox) → map origin_of boxes ≡ map origin_of (agents_of platform).outboxes → (origin : Origin) → IsSome (outbox_place boxes origin) → IsListed origin
  unfolding outbox_place
  outbox_listed boxes same origin has = go (position (λ (box : Outbox). same_origin box.origin origin) boxes) refl has
    where
      none : Outbox
      none = record { origin = origin; waiting = [] }

      go : (o : Option ℕ) → position (λ (box : Outbox). same_origin box.origin origin) boxes ≡ o → IsSome o → IsListed origin
      go None e has = absurd cc
      go (Some i) e has =
          let at = position-Some (λ (box : Outbox). same_origin box.origin origin) boxes i none e in
          let named : (get_or boxes i none).origin ≡ origin = one_origin (get_or boxes i none).origin origin at.1 in
          let there : Contains (map origin_of boxes) (get_or boxes i none).origin = mapped origin_of boxes (get_or boxes i none) (Contains-get_or boxes i none at.0) in
          origin_listed origin (subst (λ (os : List Origin). Contains os origin) same (subst (Contains (map origin_of boxes)) named there))

  -- ---- ports

  place_listed : (place : PortPlace) → Contains (places_of platform) place → Contains (switches ++ ports) place.id
  place_listed place within = go (Contains-append_cases (map (upstream_place platform) platform.switches) (map (downstream_place platform) platform.ports) place within)
    where
      go : Contains (map (upstream_place platform) platform.switches) place ⊎ Contains (map (downstream_place platform) platform.ports) place → Contains (switches ++ ports) place.id
      go (inl listed) =
          let of = mapped_from (upstream_place platform) platform.switches place listed in
          subst (λ (p : PortPlace). Contains (switches ++ ports) p.id) of.2 (Contains-append_left switches ports of.0.id (mapped (λ (line : Switch). line.id) platform.switches of.0 of.1))
      go (inr listed) =
          let of = mapped_from (downstream_place platform) platform.ports place listed in
          subst (λ (p : PortPlace). Contains (switches ++ ports) p.id) of.2 (Contains-append_right switches ports of.0.id (mapped (λ (line : DownstreamPort). line.id) platform.ports of.0 of.1))

  port_listed : (port : ℕ) → IsSome (index_of (places_of platform) port) → Contains (switches ++ ports) port
  port_listed port has = go (position (λ (place : PortPlace). place.id == port) (places_of platform)) refl has
    where
      go : (o : Option ℕ) → position (λ (place : PortPlace). place.id == port) (places_of platform) ≡ o → IsSome o → Contains (switches ++ ports) port
      go None e has = absurd cc
      go (Some i) e has =
          let at = position-Some (λ (place : PortPlace). place.id == port) (places_of platform) i no_place e in
          subst (Contains (switches ++ ports)) (eqb-true _ _ at.1) (place_listed (get_or (places_of platform) i no_place) (Contains-get_or (places_of platform) i no_place at.0))

  -- ---- links

  lower_listed : (link : Link) → Contains (links_of platform) link → Contains (switches ++ functions) link.lower
  lower_listed link within = go (Contains-append_cases (map (link_of_switch platform) platform.switches) (map (link_of_function platform) platform.functions) link within)
    where
      go : Contains (map (link_of_switch platform) platform.switches) link ⊎ Contains (map (link_of_function platform) platform.functions) link → Contains (switches ++ functions) link.lower
      go (inl listed) =
          let of = mapped_from (link_of_switch platform) platform.switches link listed in
          subst (λ (l : Link). Contains (switches ++ functions) l.lower) of.2 (Contains-append_left switches functions of.0.id (mapped (λ (line : Switch). line.id) platform.switches of.0 of.1))
      go (inr listed) =
          let of = mapped_from (link_of_function platform) platform.functions link listed in
          subst (λ (l : Link). Contains (switches ++ functions) l.lower) of.2 (Contains-append_right switches functions of.0.id (mapped (λ (line : EndpointFunction). line.id) platform.functions of.0 of.1))

  direction_listed : IsPlatform platform → (direction : Direction) → IsSome (sender_of (links_of platform) direction) → Contains (switches ++ functions) direction.lower
  direction_listed laws direction has = go (sender_of (links_of platform) direction) refl has
    where
      go : (end : Option LinkEnd) → sender_of (links_of platform) direction ≡ end → IsSome end → Contains (switches ++ functions) direction.lower
      go None e has = absurd cc
      go (Some end) e has = let from = sender_link platform laws direction end e in subst (Contains (switches ++ functions)) from.2 (lower_listed from.0 from.1)

  -- ---- functions

  -- each share of a start has all functions
  share_has : (share : Share) (function : ℕ) → Contains (map share_of (starting_domains platform)) share → is_own_function share function ≡ true → is_function platform.functions function ≡ true
  unfolding starting_domains_among
  share_has share function within owns =
      let domain = mapped_from share_of (starting_domains platform) share within in
      let number = mapped_from (λ (n : ℕ). fresh (share_of_domain platform n)) owners domain.0 domain.1 in
      let own : is_own_function (share_of_domain platform number.0) function ≡ true = subst (λ (s : Share). is_own_function s function ≡ true) (sym (ap share_of number.2 ∙ domain.2)) owns in
      (and_parts _ _ own).0

  function_listed : (domains : List DomainView) → map share_of domains ≡ map share_of (starting_domains platform) → (function : ℕ) → IsSome (place_of_function domains function) → Contains functions function
  unfolding place_of_function
  function_listed domains same function has = go (position (λ (d : DomainView). is_own_function d.share function) domains) refl has
    where
      none : DomainView
      none = fresh (share_of_domain platform 0)

      go : (o : Option ℕ) → position (λ (d : DomainView). is_own_function d.share function) domains ≡ o → IsSome o → Contains functions function
      go None e has = absurd cc
      go (Some i) e has =
          let at = position-Some (λ (d : DomainView). is_own_function d.share function) domains i none e in
          let d = get_or domains i none in
          let there : Contains (map share_of domains) (share_of d) = mapped share_of domains d (Contains-get_or domains i none at.0) in
          let line = passing (λ (f : EndpointFunction). f.id == function) platform.functions (share_has d.share function (subst (λ (shares : List Share). Contains shares d.share) same there) at.1) in
          subst (Contains functions) (eqb-true _ _ line.2) (mapped (λ (f : EndpointFunction). f.id) platform.functions line.0 line.1)

  -- ---- all of them

  listed_after : IsPlatform platform → (w : World) → IsAfterRun platform w → (s : Station) → HasStation w s → IsStationOf platform s
  listed_after laws w after (station.FunctionOutbox function) has = outbox_listed w.agents.outboxes after.boxes.origins (Function function) has
  listed_after laws w after (station.HostOutbox domain) has = outbox_listed w.agents.outboxes after.boxes.origins (Host domain) has
  listed_after laws w after (station.Port port) has = port_listed port (subst (λ (t : Tree). IsSome (index_of t.places port)) after.of_it.tree has)
  listed_after laws w after (station.Link direction) has = direction_listed laws direction (subst (λ (t : Tree). IsSome (sender_of t.links direction)) after.of_it.tree has)
  listed_after laws w after station.Host has = tt
  listed_after laws w after (station.Function function) has = function_listed w.agents.domains after.of_it.shares function has

  pub station_listed : IsPlatform platform → (events : List Event) (outcomes : List Outcome) (w : World) → Run (world_of platform) events outcomes w → (s : Station) → HasStation w s → IsStationOf platform s
  station_listed laws events outcomes w run = listed_after laws w (after_run platform (world_of platform) w events outcomes (at_start platform laws) run)
