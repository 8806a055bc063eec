-- The domain of the requester of a sound packet.
use Rattle.std.proofs.Common.{◌≡◌, ℕ, ◌<◌, ◌≤◌, ◌==◌, Bool, true, false, Option, Some, List, option_map, refl, sym, ap, ◌∙◌, arith, nat_le, ne_eqb}
use Rattle.std.proofs.lemmas.Bool.{and_parts, leb-true, eq-eqb, cond-true}
use Rattle.fab_types.specs.Id.{bus_of, device_of, function_of, host_of}
use Rattle.fab_types.specs.declared.head.AddressType.{AddressType}
use Rattle.fab_types.specs.declared.head.Header.{Header}
use Rattle.fab_types.specs.declared.head.Header.TheVariants as header
use Rattle.fab_types.specs.declared.origin.Origin.{Origin}
use Rattle.frame_log.specs.Descriptor.{Descriptor}
use Rattle.platform.specs.declared.parts.DownstreamPort.{DownstreamPort}
use Rattle.layout.specs.Laws.{has_domain}
use Rattle.platform.specs.Owners.{holds_bus, owner_of, owner_of_bus, owner_of_parts, owns_port}
use Rattle.platform.specs.Platform.{Platform}
use Rattle.platform.specs.Reach.{holds_bus_if_any}
use Rattle.switch_output.specs.Vetted.{is_own, requester_owner}
use Rattle.bridge.specs.declared.target.Target.TheVariants.{Bus}
use Rattle.guarded_routes.specs.Guarded.{IsFunctionOf, IsGuarded, has_id}
use Rattle.guarded_routes.specs.Sound.{Reaches}
use Rattle.guarded_routes.proofs.Finds.{any_found, find_all, find_any, find_passes, some}
use Rattle.guarded_routes.proofs.Trees.{IsPort, is_port}
use Rattle.guarded_routes.proofs.Below.{not_first, one_owner}
use Rattle.guarded_routes.proofs.Nodes.{First, first_of}

other_parts : (ports : List DownstreamPort) (bus device function : ℕ) → (bus == 0) ≡ false → owner_of_parts ports bus device function ≡ owner_of_bus ports bus
other_parts ports bus device function e = rw e refl

host_parts : (ports : List DownstreamPort) (bus device function d : ℕ) → bus ≡ 0 → function ≡ 0 → device ≡ d → owns_port ports d ≡ true → owner_of_parts ports bus device function ≡ Some d
host_parts ports bus device function d e f same owned = rw (e, f, same) (cond-true (owns_port ports d) (some d) (owner_of_bus ports 0) owned)

not_zero : (n : ℕ) → 0 < n → (n == 0) ≡ false
not_zero n l = ne_eqb n 0 (λ e. omega (arith, l, e))

module _ (platform : Platform) (g : IsGuarded platform) where
  -- the bus below a port is of the port's owner
  pub bus_owner : (p : DownstreamPort) → IsPort platform p → (bus : ℕ) → holds_bus p bus ≡ true → owner_of_bus platform.ports bus ≡ Some p.owner
  bus_owner p port bus held =
      let f = any_found (λ (q : DownstreamPort). holds_bus q bus) platform.ports (find_any (λ (q : DownstreamPort). q.id == p.id) (λ (q : DownstreamPort). holds_bus q bus) platform.ports p port held) in
      let other : IsPort platform f.found = is_port platform g.laws (λ (q : DownstreamPort). holds_bus q bus) f.found f.is in
      let held' : holds_bus f.found bus ≡ true = find_passes (λ (q : DownstreamPort). holds_bus q bus) platform.ports f.found f.is in
      ap (option_map (λ (q : DownstreamPort). q.owner)) f.is ∙ ap some (one_owner platform g.laws f.found p other port (Bus bus) held' held)

  pub id_owner : (p : DownstreamPort) → IsPort platform p → (id : ℕ) → holds_bus p (bus_of id) ≡ true → owner_of platform.ports id ≡ Some p.owner
  id_owner p port id held =
      let more = not_first platform g.laws p port in
      let le : p.secondary ≤ bus_of id = leb-true p.secondary (bus_of id) (and_parts _ _ held).0 in
      other_parts platform.ports (bus_of id) (device_of id) (function_of id) (not_zero (bus_of id) (omega arith)) ∙ bus_owner p port (bus_of id) held

  -- a domain with a function has a number up to 31
  pub small : (d f : ℕ) → First platform d f → d ≤ 31
  small d f first =
      let within = find_all (λ (q : DownstreamPort). q.id == first.port.id) has_domain platform.ports first.port first.listed g.laws.owners in
      let le : first.port.owner ≤ 31 = leb-true first.port.owner 31 (and_parts (nat_le 1 first.port.owner) (nat_le first.port.owner 31) within).1 in
      let owner = first.owner in
      omega (arith, le, owner)

  pub host_owner : (d f : ℕ) → First platform d f → owner_of platform.ports (host_of d) ≡ Some d
  host_owner d f first =
      let le = small d f first in
      let owned = find_any (λ (q : DownstreamPort). q.id == first.port.id) (λ (q : DownstreamPort). q.owner == d) platform.ports first.port first.listed (eq-eqb first.port.owner d first.owner) in
      host_parts platform.ports (bus_of (host_of d)) (device_of (host_of d)) (function_of (host_of d)) d (omega (arith, le)) (omega arith) (omega (arith, le)) owned

  pub held_by : (d f : ℕ) (first : First platform d f) (bus : ℕ) (o : Option DownstreamPort) → o ≡ Some first.port → holds_bus_if_any o bus ≡ true → holds_bus first.port bus ≡ true
  held_by d f first bus o is held = ap (λ (o : Option DownstreamPort). holds_bus_if_any o bus) (sym is) ∙ held

  -- an ID below the first port of a function is of the function's domain
  pub below_owner : (d f id : ℕ) → IsFunctionOf platform d f → has_id platform f id ≡ true → owner_of platform.ports id ≡ Some d
  below_owner d f id own held =
      let first = first_of platform g.laws d f own in
      id_owner first.port first.listed id (held_by d f first (bus_of id) _ first.is held) ∙ ap some first.owner

  -- so is each ID that completions reach in it
  pub reached_owner : (d f id : ℕ) (x : Option Origin) → IsFunctionOf platform d f → Reaches platform d id x → owner_of platform.ports id ≡ Some d
  reached_owner d f id x own (Reaches.ByHost same) = ap (owner_of platform.ports) same ∙ host_owner d f (first_of platform g.laws d f own)
  reached_owner d f id x own (Reaches.ByBus h of held) = below_owner d h id of held

  -- a memory request in the name of an ID of its domain may go on
  pub owned_memory : (frame : Descriptor) (h : Header) (requester address : ℕ) (address_type : AddressType) → h ≡ header.Memory requester address_type address → frame.head.header ≡ h → owner_of platform.ports requester ≡ Some frame.domain
      → is_own (requester_owner platform.ports frame.head.header) frame ≡ true
  owned_memory frame h requester address address_type is same owned = rw (same, is, owned) (eq-eqb frame.domain frame.domain refl)

  -- and each completion may
  pub owned_reply : (frame : Descriptor) (target : ℕ) (relaxed_ordering : Bool) → frame.head.header ≡ header.Completion target relaxed_ordering → is_own (requester_owner platform.ports frame.head.header) frame ≡ true
  owned_reply frame target relaxed_ordering is = rw is refl
