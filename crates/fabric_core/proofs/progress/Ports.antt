-- The port of an ID in a fabric of a platform, whichever controls are set.
use Rattle.std.proofs.Common.{◌≡◌, ℕ, ◌==◌, length, get_or, Option, Some, None, refl, sym, ap, ◌∙◌, subst, arith, eqb-true, eq-eqb}
use Rattle.std.specs.Prelude.{Contains}
use Rattle.std.proofs.lemmas.List.Elements.{Contains-append_left, Contains-append_right}
use Rattle.std.proofs.lemmas.List.Quantifiers.{position-Some}
use Rattle.std.proofs.lemmas.Option.{same_Some}
use Rattle.platform.specs.declared.parts.DownstreamPort.{DownstreamPort}
use Rattle.platform.specs.declared.parts.Switch.{Switch}
use Rattle.layout.specs.Laws.{IsPlatform}
use Rattle.platform.specs.Platform.{Platform}
use Rattle.bridge.specs.Routes.{switch_at}
use Rattle.port.specs.Configs.{downstream_config, upstream_config}
use Rattle.topology.specs.declared.places.PortPlace.{PortPlace}
use Rattle.topology.specs.Places.{downstream_place, places_of, upstream_place}
use Rattle.topology.specs.Topologies.{Tree}
use Rattle.topology.proofs.Members.{any_found, found, found_alone, mapped, some_passes}
use Rattle.topology.proofs.OwnEnds.{one_id}
use Rattle.topology.proofs.Standing.{ids_apart}
use Rattle.interconnect.specs.Passes.{index_of, no_place}
use Rattle.guarded_routes.proofs.Trees.{IsPort}
use Rattle.fabric_core.specs.Passing.{port_number}
use Rattle.fabric_core.specs.Soundness.{IsOfPlatform}
use Rattle.fabric_core.specs.World.{World}
use Rattle.fabric_core.proofs.progress.Takers.{IsThere}
use Rattle.fabric_core.proofs.soundness.Sites.{Standing, standing}

module _ (platform : Platform) (laws : IsPlatform platform) where
  -- a downstream port is found by its ID
  pub listed_port : (q : DownstreamPort) → Contains platform.ports q → IsPort platform q
  listed_port q within = found_alone (λ (p : DownstreamPort). p.id == q.id) platform.ports q within (eq-eqb q.id q.id refl) (λ p listed same. one_id platform laws p q listed within (eqb-true p.id q.id same))

  pub listed_switch : (switch : Switch) → switch_at platform.switches switch.id ≡ Some switch → Contains platform.switches switch
  listed_switch switch at = (found (λ (s : Switch). s.id == switch.id) platform.switches switch at).0

  module _ (w : World) (of_it : IsOfPlatform platform w) (many : length w.ports ≡ length w.tree.places) where
    -- which port is found
    record IsFound (id : ℕ) : Type 0 where
      number : ℕ
      index : index_of w.tree.places id ≡ Some number
      named : (get_or w.tree.places number no_place).id ≡ id
      is : Standing platform (get_or w.tree.places number no_place) (port_number w number).config

    find_it : (id : ℕ) (p : PortPlace) → Contains (places_of platform) p → p.id ≡ id → IsFound id
    find_it id p within same = go (index_of w.tree.places id) refl
      where
        go : (o : Option ℕ) → index_of w.tree.places id ≡ o → IsFound id
        go None e =
            let there : Contains w.tree.places p = subst (λ (t : Tree). Contains t.places p) (sym of_it.tree) within in
            absurd (any_found (λ (place : PortPlace). place.id == id) w.tree.places (some_passes (λ (place : PortPlace). place.id == id) w.tree.places p there (eq-eqb p.id id same)) e)
        go (Some i) e =
            let at = position-Some (λ (place : PortPlace). place.id == id) w.tree.places i no_place e in
            record {
              number = i;
              index = e;
              named = eqb-true _ _ at.1;
              is = standing platform w id i of_it (let less = at.0 in omega (arith, less, many)) e;
            }

    pub there_port : (q : DownstreamPort) → Contains platform.ports q → IsThere w q.id (downstream_place platform q) (downstream_config platform q)
    there_port q within = go (find_it q.id (downstream_place platform q) (Contains-append_right _ _ (downstream_place platform q) (mapped (downstream_place platform) platform.ports q within)) refl)
      where
        by : (at : IsFound q.id) → Standing platform (get_or w.tree.places at.number no_place) (port_number w at.number).config → IsThere w q.id (downstream_place platform q) (downstream_config platform q)
        by at (Standing.Upstream switch listed place configured) =
            absurd (ids_apart platform laws switch q (listed_switch switch listed) within (sym (ap (λ (p : PortPlace). p.id) place) ∙ at.named))
        by at (Standing.Downstream line listed place configured) =
            let is : line ≡ q = one_id platform laws line q (found (λ (x : DownstreamPort). x.id == line.id) platform.ports line listed).0 within (sym (ap (λ (p : PortPlace). p.id) place) ∙ at.named) in
            record { number = at.number; index = at.index; place_is = place ∙ ap (downstream_place platform) is; config_is = configured ∙ ap (downstream_config platform) is }

        go : IsFound q.id → IsThere w q.id (downstream_place platform q) (downstream_config platform q)
        go at = by at at.is

    pub there_switch : (switch : Switch) → switch_at platform.switches switch.id ≡ Some switch → IsThere w switch.id (upstream_place platform switch) (upstream_config platform switch)
    there_switch switch at_it = go (find_it switch.id (upstream_place platform switch) (Contains-append_left _ _ (upstream_place platform switch) (mapped (upstream_place platform) platform.switches switch (listed_switch switch at_it))) refl)
      where
        by : (at : IsFound switch.id) → Standing platform (get_or w.tree.places at.number no_place) (port_number w at.number).config → IsThere w switch.id (upstream_place platform switch) (upstream_config platform switch)
        by at (Standing.Upstream other listed place configured) =
            let same : other.id ≡ switch.id = sym (ap (λ (p : PortPlace). p.id) place) ∙ at.named in
            let is : other ≡ switch = same_Some other switch (sym listed ∙ (ap (switch_at platform.switches) same ∙ at_it)) in
            record { number = at.number; index = at.index; place_is = place ∙ ap (upstream_place platform) is; config_is = configured ∙ ap (upstream_config platform) is }
        by at (Standing.Downstream line listed place configured) =
            absurd (ids_apart platform laws switch line (listed_switch switch at_it) (found (λ (x : DownstreamPort). x.id == line.id) platform.ports line listed).0 (sym at.named ∙ ap (λ (p : PortPlace). p.id) place))

        go : IsFound switch.id → IsThere w switch.id (upstream_place platform switch) (upstream_config platform switch)
        go at = by at at.is
