-- In every layout each function is of a domain, and each outbox has a link that takes its packets.
use Rattle.std.proofs.Common.{◌≡◌, ℕ, zero, suc, ◌+◌, ◌*◌, ◌-◌, ◌/◌, ◌≤◌, ◌==◌, ◌⊎◌, inl, inr, true, ◌&&◌, List, [], map, get_or, Option, Some, None, refl, sym, ap, ◌∙◌, subst, arith, eqb-true, eq-eqb}
use Rattle.std.specs.Prelude.{Contains, is_some, option_map}
use Rattle.std.specs.List.{filter, position, range_with_len}
use Rattle.std.proofs.lemmas.Bool.{and_from, and_parts, leb-true}
use Rattle.std.proofs.lemmas.List.Elements.{Contains-append_cases, Contains-get_or}
use Rattle.std.proofs.lemmas.List.FromFn.{get_or-range_with_len, length-range_with_len}
use Rattle.std.proofs.lemmas.List.Quantifiers.{position-Some}
use Rattle.fab_types.specs.Id.{bus_of}
use Rattle.fab_types.specs.Origins.{same_origin}
use Rattle.fab_types.specs.declared.origin.Origin.{Origin}
use Rattle.fab_types.specs.declared.origin.Origin.TheVariants.{Function, Host}
use Rattle.fab_types.specs.declared.place.Way.TheVariants.{Down}
use Rattle.fab_types.proofs.Origins.{one_origin}
use Rattle.platform.specs.declared.parts.DownstreamPort.{DownstreamPort}
use Rattle.platform.specs.declared.parts.EndpointFunction.{EndpointFunction}
use Rattle.platform.specs.declared.parts.Switch.{Switch}
use Rattle.layout.specs.Laws.{IsPlatform, has_domain, is_placed, is_placed_below}
use Rattle.layout.specs.Views.{share_of_domain}
use Rattle.platform.specs.Owners.{is_function, is_own_function, owns_port}
use Rattle.platform.specs.Platform.{Platform}
use Rattle.platform.specs.Share.{Share}
use Rattle.platform.specs.Tree.{id_below, port_leading_to}
use Rattle.domain.specs.Domains.{DomainView}
use Rattle.domains.proofs.Lists.{position_map}
use Rattle.domains.specs.Agents.{Outbox, agents_of, empty, outbox_place, waiting_at, waiting_of}
use Rattle.domains.specs.Domains.{fresh, place_of_function, starting_domains, starting_domains_among}
use Rattle.outboxes.specs.Outboxes.{BoxView, boxes_of, function_box, host_box, host_boxes}
use Rattle.topology.specs.declared.nodes.LinkEnd.{LinkEnd}
use Rattle.topology.specs.Links.{link_at, link_of_switch, links_of, sender_of, sending_end}
use Rattle.topology.proofs.Buses.{IsAbove, IsTop, StandsOn, buses, port_stands, switch_above}
use Rattle.topology.proofs.Members.{any_found, found, kept, kept_from, mapped, mapped_from, passes, passing, some_passes}
use Rattle.topology.proofs.Outputs.{function_up}
use Rattle.topology.proofs.Standing.{link_found, link_of_listed}
use Rattle.fabric_core.specs.Events.{link_of}
use Rattle.fabric_core.specs.Arrivals.{from_host}
use Rattle.fabric_core.specs.Soundness.{share_of}
use Rattle.fabric_core.proofs.progress.Starts.{origin_of}

-- ---- the domain of a function

bus_below : (secondary : ℕ) → (secondary * 256 + 0 * 8 + 0) / 256 ≡ secondary
bus_below secondary = omega arith

-- a number of a domain is among those that are tried
tried : (n : ℕ) → 1 ≤ n → n ≤ 31 → Contains (range_with_len 1 31) n
tried n least most =
    let long = length-range_with_len 1 31 in
    (n - 1, omega (arith, long, least, most), get_or-range_with_len 1 31 (n - 1) n (omega (arith, least, most)) ∙ omega (arith, least))

module _ (platform : Platform) (laws : IsPlatform platform) where
  over : (line : EndpointFunction) (o : Option DownstreamPort) → port_leading_to platform.ports line.id ≡ o → is_placed_below o line ≡ true → (port : DownstreamPort) × Contains platform.ports port × (id_below port ≡ line.id)
  over line None e h = absurd cc
  over line (Some port) e h = let at = found (λ (p : DownstreamPort). id_below p == line.id) platform.ports port e in (port, at.0, eqb-true _ _ at.1)

  -- a function stands below a port
  function_over : (function : ℕ) → is_function platform.functions function ≡ true → (port : DownstreamPort) × Contains platform.ports port × (id_below port ≡ function)
  function_over function listed =
      let line = passing (λ (f : EndpointFunction). f.id == function) platform.functions listed in
      let at = over line.0 (port_leading_to platform.ports line.0.id) refl (passes (is_placed platform.ports) platform.functions line.0 laws.placed line.1) in
      (at.0, at.1, at.2 ∙ eqb-true _ _ line.2)

  owned : (function : ℕ) → is_function platform.functions function ≡ true → (port : DownstreamPort) → Contains platform.ports port → id_below port ≡ function → is_own_function (share_of_domain platform port.owner) function ≡ true
  owned function listed port within same =
      let bus : port.secondary ≡ bus_of function = sym (bus_below port.secondary) ∙ ap bus_of same in
      and_from _ _ listed
      (some_passes (λ (p : DownstreamPort). (p.owner == port.owner) && (p.secondary == bus_of function)) platform.ports port within (and_from _ _ (eq-eqb port.owner port.owner refl) (eq-eqb port.secondary (bus_of function) bus)))

  starts_with : (function : ℕ) → is_function platform.functions function ≡ true → position (λ (d : DomainView). is_own_function d.share function) (starting_domains platform) ≡ None → ⊥
  unfolding starting_domains_among
  starts_with function listed none =
      let over = function_over function listed in
      let range = and_parts _ _ (passes has_domain platform.ports over.0 laws.owners over.1) in
      let owns : owns_port platform.ports over.0.owner ≡ true = some_passes (λ (p : DownstreamPort). p.owner == over.0.owner) platform.ports over.0 over.1 (eq-eqb over.0.owner over.0.owner refl) in
      let number = kept (owns_port platform.ports) (range_with_len 1 31) over.0.owner (tried over.0.owner (leb-true _ _ range.0) (leb-true _ _ range.1)) owns in
      any_found (λ (d : DomainView). is_own_function d.share function) (starting_domains platform)
      (some_passes (λ (d : DomainView). is_own_function d.share function) (starting_domains platform) (fresh (share_of_domain platform over.0.owner))
      (mapped (λ (n : ℕ). fresh (share_of_domain platform n)) (filter (owns_port platform.ports) (range_with_len 1 31)) over.0.owner number) (owned function listed over.0 over.1 over.2)) none

  -- and so it does wherever the shares are those of the start
  pub has_home : (domains : List DomainView) → map share_of domains ≡ map share_of (starting_domains platform) → (function : ℕ) → is_function platform.functions function ≡ true → is_some (place_of_function domains function) ≡ true
  unfolding place_of_function
  has_home domains shares function listed = go (position (λ (d : DomainView). is_own_function d.share function) domains) refl
    where
      same : position (λ (d : DomainView). is_own_function d.share function) (starting_domains platform) ≡ position (λ (d : DomainView). is_own_function d.share function) domains
      same =
          sym (position_map (λ (s : Share). is_own_function s function) share_of (starting_domains platform))
          ∙ (ap (position (λ (s : Share). is_own_function s function)) (sym shares) ∙ position_map (λ (s : Share). is_own_function s function) share_of domains)

      go : (o : Option ℕ) → position (λ (d : DomainView). is_own_function d.share function) domains ≡ o → is_some o ≡ true
      go None e = absurd (starts_with function listed (same ∙ e))
      go (Some i) e = refl

  -- ---- the link of an outbox

  record Top : Type 0 where
    switch : Switch
    listed : Contains platform.switches switch
    named : switch.id ≡ 256

  -- above each port stands the top switch
  top_from : (n : ℕ) (port : DownstreamPort) → Contains platform.ports port → bus_of port.id ≤ n → Top
  top_from zero port within few = let own = (buses platform laws port within).own in absurd (omega (arith, own, few))
  top_from (suc n) port within few = go (port_stands platform laws port within) (λ above listed less. top_from n above listed less)
    where
      on_switch : (switch : Switch) → StandsOn platform port switch → ((above : DownstreamPort) → Contains platform.ports above → bus_of above.id ≤ n → Top) → IsTop platform.ports switch ⊎ ((above : DownstreamPort) × IsAbove platform.ports switch above) → Top
      on_switch switch on further (inl top) = record { switch = switch; listed = on.listed; named = top.id }
      on_switch switch on further (inr (above, is)) =
          let bus = on.bus in
          let first : bus_of switch.id ≡ above.secondary = ap bus_of is.below ∙ bus_below above.secondary in
          let after = (buses platform laws above is.listed).after in
          further above is.listed (omega (arith, bus, first, after, few))

      go : (switch : Switch) × StandsOn platform port switch → ((above : DownstreamPort) → Contains platform.ports above → bus_of above.id ≤ n → Top) → Top
      go (switch, on) further = on_switch switch on further (switch_above platform laws switch on.listed)

  top_link : Top → (end : LinkEnd) × (sender_of (links_of platform) from_host ≡ Some end)
  top_link top = (
    sending_end Down (link_of_switch platform top.switch),
    ap (option_map (sending_end Down)) (ap (link_at (links_of platform)) (sym top.named) ∙ link_found platform laws (link_of_switch platform top.switch) (link_of_listed platform top.switch top.listed)),
  )

  abbrev HasLink : Origin → Type 0
  HasLink origin = (end : LinkEnd) × (sender_of (links_of platform) (link_of origin) ≡ Some end)

  function_link : (line : EndpointFunction) → Contains platform.functions line → HasLink (Function line.id)
  function_link line listed = (_, function_up platform laws line listed)

  host_link : (n : ℕ) → Contains (filter (owns_port platform.ports) (range_with_len 1 31)) n → HasLink (Host n)
  host_link n listed =
      let port = passing (λ (p : DownstreamPort). p.owner == n) platform.ports (kept_from (owns_port platform.ports) (range_with_len 1 31) n listed).1 in
      top_link (top_from (bus_of port.0.id) port.0 port.1 (omega arith))

  box_link : (box : BoxView) → Contains (boxes_of platform) box → HasLink box.origin
  unfolding host_boxes
  box_link box within = go (Contains-append_cases (map (function_box platform) platform.functions) (map (host_box platform) (filter (owns_port platform.ports) (range_with_len 1 31))) box within)
    where
      go : Contains (map (function_box platform) platform.functions) box ⊎ Contains (map (host_box platform) (filter (owns_port platform.ports) (range_with_len 1 31))) box → HasLink box.origin
      go (inl listed) =
          let of = mapped_from (function_box platform) platform.functions box listed in
          subst (λ (b : BoxView). HasLink b.origin) of.2 (function_link of.0 of.1)
      go (inr listed) =
          let of = mapped_from (host_box platform) (filter (owns_port platform.ports) (range_with_len 1 31)) box listed in
          subst (λ (b : BoxView). HasLink b.origin) of.2 (host_link of.0 of.1)

  outbox_link : (origin : Origin) → Contains (map origin_of (agents_of platform).outboxes) origin → HasLink origin
  outbox_link origin within =
      let outbox = mapped_from origin_of (agents_of platform).outboxes origin within in
      let box = mapped_from empty (boxes_of platform) outbox.0 outbox.1 in
      subst HasLink (ap origin_of box.2 ∙ outbox.2) (box_link box.0 box.1)

  -- nothing waits of an origin, or a link takes what it has waiting
  pub has_link : (boxes : List Outbox) → map origin_of boxes ≡ map origin_of (agents_of platform).outboxes → (origin : Origin) → (waiting_of boxes origin ≡ []) ⊎ HasLink origin
  unfolding outbox_place
  has_link boxes same origin = go (position (λ (box : Outbox). same_origin box.origin origin) boxes) refl
    where
      none : Outbox
      none = record { origin = origin; waiting = [] }

      go : (o : Option ℕ) → position (λ (box : Outbox). same_origin box.origin origin) boxes ≡ o → (waiting_at boxes (position (λ (box : Outbox). same_origin box.origin origin) boxes) ≡ []) ⊎ HasLink origin
      go None e = inl (ap (waiting_at boxes) e)
      go (Some i) e =
          let at = position-Some (λ (box : Outbox). same_origin box.origin origin) boxes i none e in
          let named : (get_or boxes i none).origin ≡ origin = one_origin (get_or boxes i none).origin origin at.1 in
          let there : Contains (map origin_of boxes) (get_or boxes i none).origin = mapped origin_of boxes (get_or boxes i none) (Contains-get_or boxes i none at.0) in
          inr (outbox_link origin (subst (λ (os : List Origin). Contains os origin) same (subst (Contains (map origin_of boxes)) named there)))
