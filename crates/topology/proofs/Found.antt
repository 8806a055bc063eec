-- The place of a port is found by the port's ID.
use Rattle.std.proofs.Common.{◌≡◌, ℕ, ◌<◌, ◌==◌, ◌⊎◌, inl, inr, Bool, true, false, length, map, get_or, Option, Some, refl, sym, ap, ◌∙◌, eqb-true, eq-eqb}
use Rattle.std.specs.Prelude.{not, Contains}
use Rattle.std.specs.List.{position}
use Rattle.std.proofs.lemmas.List.Elements.{Contains-append_cases, Contains-append_left, Contains-append_right}
use Rattle.platform.specs.declared.parts.DownstreamPort.{DownstreamPort}
use Rattle.platform.specs.declared.parts.Switch.{Switch}
use Rattle.layout.specs.Laws.{IsPlatform, are_apart, each_pair}
use Rattle.layout.specs.Places.{IsWellPlaced, have_other_ids}
use Rattle.platform.specs.Platform.{Platform}
use Rattle.platform.specs.Tree.{port_above}
use Rattle.platform.proofs.Bools.{and-first}
use Rattle.topology.specs.declared.places.PortPlace.{PortPlace}
use Rattle.topology.specs.Links.{end_above}
use Rattle.topology.specs.Nodes.{upstream_end}
use Rattle.topology.specs.Places.{downstream_place, place_at, places_of, upstream_place}
use Rattle.topology.proofs.Buses.{IsAbove, IsTop, one_below, switch_above}
use Rattle.topology.proofs.Members.{found_alone, mapped, mapped_from, pair_at, pairs_appended, pairs_mapped, position_is}
use Rattle.topology.proofs.OwnEnds.{one_id}
use Rattle.topology.proofs.Standing.{ids_apart, not_top}

-- a place is of an upstream port or of a downstream port
pub place_cases : (platform : Platform) (place : PortPlace) → Contains (places_of platform) place
    → ((switch : Switch) × Contains platform.switches switch × (upstream_place platform switch ≡ place)) ⊎ ((port : DownstreamPort) × Contains platform.ports port × (downstream_place platform port ≡ place))
place_cases platform place within = go (Contains-append_cases (map (upstream_place platform) platform.switches) (map (downstream_place platform) platform.ports) place within)
  where
    go : Contains (map (upstream_place platform) platform.switches) place ⊎ Contains (map (downstream_place platform) platform.ports) place
        → ((switch : Switch) × Contains platform.switches switch × (upstream_place platform switch ≡ place)) ⊎ ((port : DownstreamPort) × Contains platform.ports port × (downstream_place platform port ≡ place))
    go (inl listed) = inl (mapped_from (upstream_place platform) platform.switches place listed)
    go (inr listed) = inr (mapped_from (downstream_place platform) platform.ports place listed)

have_other_places : PortPlace → PortPlace → Bool
have_other_places one other = not (one.id == other.id)

other_test : (a b : ℕ) → (a ≡ b → ⊥) → not (a == b) ≡ true
other_test a b apart = go (a == b) refl
  where
    go : (t : Bool) → t ≡ (a == b) → not t ≡ true
    go true e = absurd (apart (eqb-true a b (sym e)))
    go false e = refl

test_false : (t : Bool) → not t ≡ true → t ≡ false
test_false true h = absurd cc
test_false false h = refl

module _ (platform : Platform) (laws : IsPlatform platform) where
  -- switches of one ID stand below one port
  same_above : (one other : Switch) → Contains platform.switches one → Contains platform.switches other → one.id ≡ other.id → port_above platform.ports one ≡ port_above platform.ports other
  same_above one other one_listed other_listed same = go (switch_above platform laws one one_listed) (switch_above platform laws other other_listed)
    where
      go : IsTop platform.ports one ⊎ ((port : DownstreamPort) × IsAbove platform.ports one port) → IsTop platform.ports other ⊎ ((port : DownstreamPort) × IsAbove platform.ports other port) → port_above platform.ports one ≡ port_above platform.ports other
      go (inl top) (inl also) = top.found ∙ sym also.found
      go (inl top) (inr (port, is)) = absurd (not_top platform laws port is.listed (sym top.id ∙ same ∙ is.below))
      go (inr (port, is)) (inl top) = absurd (not_top platform laws port is.listed (sym top.id ∙ sym same ∙ is.below))
      go (inr (port, is)) (inr (again, also)) = is.found ∙ ap Some (one_below platform laws port again is.listed also.listed (sym is.below ∙ same ∙ also.below)) ∙ sym also.found

  same_place : (one other : Switch) → Contains platform.switches one → Contains platform.switches other → one.id ≡ other.id → upstream_place platform one ≡ upstream_place platform other
  same_place one other one_listed other_listed same =
      ap (λ (n : ℕ). record { id = n; node = (upstream_end platform n).node; input = Some (end_above platform (port_above platform.ports one)) }) same
      ∙ ap (λ (o : Option DownstreamPort). record { id = other.id; node = (upstream_end platform other.id).node; input = Some (end_above platform o) }) (same_above one other one_listed other_listed same)

  pub upstream_found : (switch : Switch) → Contains platform.switches switch → place_at (places_of platform) switch.id ≡ Some (upstream_place platform switch)
  upstream_found switch within =
      found_alone (λ place. place.id == switch.id) (places_of platform) (upstream_place platform switch)
      (Contains-append_left (map (upstream_place platform) platform.switches) (map (downstream_place platform) platform.ports) (upstream_place platform switch) (mapped (upstream_place platform) platform.switches switch within))
      (eq-eqb switch.id switch.id refl)
      (λ place listed is. go place (eqb-true _ _ is) (place_cases platform place listed))
    where
      go : (place : PortPlace) → place.id ≡ switch.id
          → ((other : Switch) × Contains platform.switches other × (upstream_place platform other ≡ place)) ⊎ ((port : DownstreamPort) × Contains platform.ports port × (downstream_place platform port ≡ place)) → place ≡ upstream_place platform switch
      go place same (inl (other, listed, is)) = sym is ∙ same_place other switch listed within (ap (λ (p : PortPlace). p.id) is ∙ same)
      go place same (inr (port, listed, is)) = absurd (ids_apart platform laws switch port within listed (sym same ∙ sym (ap (λ (p : PortPlace). p.id) is)))

  pub downstream_found : (port : DownstreamPort) → Contains platform.ports port → place_at (places_of platform) port.id ≡ Some (downstream_place platform port)
  downstream_found port within =
      found_alone (λ place. place.id == port.id) (places_of platform) (downstream_place platform port)
      (Contains-append_right (map (upstream_place platform) platform.switches) (map (downstream_place platform) platform.ports) (downstream_place platform port) (mapped (downstream_place platform) platform.ports port within))
      (eq-eqb port.id port.id refl)
      (λ place listed is. go place (eqb-true _ _ is) (place_cases platform place listed))
    where
      go : (place : PortPlace) → place.id ≡ port.id
          → ((switch : Switch) × Contains platform.switches switch × (upstream_place platform switch ≡ place)) ⊎ ((other : DownstreamPort) × Contains platform.ports other × (downstream_place platform other ≡ place)) → place ≡ downstream_place platform port
      go place same (inl (switch, listed, is)) = absurd (ids_apart platform laws switch port listed within (ap (λ (p : PortPlace). p.id) is ∙ same))
      go place same (inr (other, listed, is)) = sym is ∙ ap (downstream_place platform) (one_id platform laws other port listed within (ap (λ (p : PortPlace). p.id) is ∙ same))

  places_apart : IsWellPlaced platform → each_pair have_other_places (places_of platform) ≡ true
  unfolding have_other_places
  places_apart placed =
      pairs_appended have_other_places (map (upstream_place platform) platform.switches) (map (downstream_place platform) platform.ports)
      (pairs_mapped (upstream_place platform) have_other_ids have_other_places platform.switches (λ one other h. h) placed.apart)
      (pairs_mapped (downstream_place platform) are_apart have_other_places platform.ports (λ one other h. and-first _ _ (and-first _ _ h)) laws.apart)
      (λ one other upstream downstream. go one other (mapped_from (upstream_place platform) platform.switches one upstream) (mapped_from (downstream_place platform) platform.ports other downstream))
    where
      go : (one other : PortPlace) → (switch : Switch) × Contains platform.switches switch × (upstream_place platform switch ≡ one) → (port : DownstreamPort) × Contains platform.ports port × (downstream_place platform port ≡ other)
          → have_other_places one other ≡ true
      go one other (switch, switch_listed, is) (port, port_listed, also) =
          other_test one.id other.id (λ same. ids_apart platform laws switch port switch_listed port_listed (ap (λ (p : PortPlace). p.id) is ∙ same ∙ sym (ap (λ (p : PortPlace). p.id) also)))

  -- no two places have one ID
  pub place_position : (k : ℕ) (d : PortPlace) → IsWellPlaced platform → k < length (places_of platform) → position (λ place. place.id == (get_or (places_of platform) k d).id) (places_of platform) ≡ Some k
  unfolding have_other_places
  place_position k d placed less =
      position_is (λ place. place.id == (get_or (places_of platform) k d).id) (places_of platform) k d less (eq-eqb (get_or (places_of platform) k d).id (get_or (places_of platform) k d).id refl)
      (λ j before. test_false _ (pair_at have_other_places (places_of platform) j k d (places_apart placed) before less))
