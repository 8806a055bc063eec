-- The functions of a domain: each listed function is of one, and the peers that a domain's mappings lead to are its own.
use Rattle.std.proofs.Common.{◌≡◌, ℕ, ◌==◌, Bool, true, false, cond, ◌&&◌, Option, Some, None, List, [], ◌∷◌, option_map, refl, sym, ap, ◌∙◌, arith}
use Rattle.std.specs.List.{find, filter, list_all}
use Rattle.std.proofs.lemmas.Bool.{and_parts, and_from, eqb-true, eq-eqb, false≢true}
use Rattle.fab_types.specs.Id.{bus_of}
use Rattle.platform.specs.declared.parts.Access.{Access}
use Rattle.platform.specs.declared.parts.EndpointFunction.{EndpointFunction}
use Rattle.platform.specs.declared.parts.Mapping.{Mapping}
use Rattle.platform.specs.declared.parts.MapTarget.TheVariants.{Peer}
use Rattle.platform.specs.declared.parts.DownstreamPort.{DownstreamPort}
use Rattle.layout.specs.Laws.{IsPlatform, is_home_map, is_home_target, is_known, is_known_map, is_placed, is_placed_below}
use Rattle.platform.specs.Owners.{first_port, is_function}
use Rattle.platform.specs.Platform.{Platform}
use Rattle.platform.specs.Tables.{fits, target_of}
use Rattle.platform.specs.Tree.{domain_of, id_below, owner_or_none, port_leading_to}
use Rattle.layout.specs.Views.{is_map_of, maps_of}
use Rattle.guarded_routes.specs.Guarded.{IsFunctionOf}
use Rattle.guarded_routes.proofs.Finds.{any_found, find_all, find_any, find_passes, some, some_is}
use Rattle.guarded_routes.proofs.Trees.{IsPort, is_port}

kept_first : {X : Type 0} (p q : X → Bool) (b : Bool) (x : X) (kept : List X) → p x ≡ b → q x ≡ true → list_all (λ x. p x && q x) kept ≡ true → list_all (λ x. p x && q x) (cond b (x ∷ kept) kept) ≡ true
kept_first p q true x kept e h rest = and_from _ _ (and_from (p x) (q x) e h) rest
kept_first p q false x kept e h rest = rest

-- what holds of all holds of those that pass a test, and they pass it
all_kept : {X : Type 0} (p q : X → Bool) (xs : List X) → list_all q xs ≡ true → list_all (λ x. p x && q x) (filter p xs) ≡ true
all_kept p q [] h = refl
all_kept p q (x ∷ xs) h = kept_first p q (p x) x (filter p xs) refl (and_parts (q x) (list_all q xs) h).0 (all_kept p q xs (and_parts (q x) (list_all q xs) h).1)

module _ (platform : Platform) (laws : IsPlatform platform) where
  -- a function stands directly below a port
  pub placed_over : (f : ℕ) → is_function platform.functions f ≡ true → (p : DownstreamPort) × IsPort platform p × (f ≡ id_below p)
  placed_over f listed =
      let line = any_found (λ (line : EndpointFunction). line.id == f) platform.functions listed in
      let same = eqb-true line.found.id f (find_passes (λ (line : EndpointFunction). line.id == f) platform.functions line.found line.is) in
      go line.found same (port_leading_to platform.ports line.found.id) refl (find_all (λ (line : EndpointFunction). line.id == f) (is_placed platform.ports) platform.functions line.found line.is laws.placed)
    where
      go : (line : EndpointFunction) → line.id ≡ f → (o : Option DownstreamPort) → port_leading_to platform.ports line.id ≡ o → is_placed_below o line ≡ true → (p : DownstreamPort) × IsPort platform p × (f ≡ id_below p)
      go line same None e h = absurd (false≢true h)
      go line same (Some p) e h =
          (p, is_port platform laws (λ (q : DownstreamPort). id_below q == line.id) p e, sym (eqb-true (id_below p) line.id (find_passes (λ (q : DownstreamPort). id_below q == line.id) platform.ports p e) ∙ same))

  -- so it has a first port
  pub has_first : (f : ℕ) → is_function platform.functions f ≡ true → (p : DownstreamPort) × (first_port platform.ports f ≡ Some p)
  has_first f listed =
      let over = placed_over f listed in
      let e = over.2 in
      let bus : over.0.secondary ≡ bus_of f = omega (arith, e) in
      let any = find_any (λ (q : DownstreamPort). q.id == over.0.id) (λ (q : DownstreamPort). q.secondary == bus_of f) platform.ports over.0 over.1 (eq-eqb over.0.secondary (bus_of f) bus) in
      let found = any_found (λ (q : DownstreamPort). q.secondary == bus_of f) platform.ports any in
      (found.found, found.is)

  -- and is of a domain
  pub home_of : (f : ℕ) → is_function platform.functions f ≡ true → (d : ℕ) × IsFunctionOf platform d f
  home_of f listed = let first = has_first f listed in (first.0.owner, record { listed = listed; owner = ap (option_map (λ (p : DownstreamPort). p.owner)) first.1 })

  of_home : (f d : ℕ) → is_function platform.functions f ≡ true → domain_of platform.ports f ≡ d → IsFunctionOf platform d f
  unfolding domain_of
  of_home f d listed is =
      let first = has_first f listed in
      let owner : first.0.owner ≡ d = ap owner_or_none (sym first.1) ∙ is in
      record { listed = listed; owner = ap (option_map (λ (p : DownstreamPort). p.owner)) first.1 ∙ ap some owner }

  -- the peer of a domain's mapping is a function of the domain
  pub peer_of : (d requester page : ℕ) (access : Access) (h : ℕ) → target_of (maps_of platform d) requester page access ≡ Some (Peer h) → IsFunctionOf platform d h
  peer_of d requester page access h e = go (find (fits requester page access) (maps_of platform d)) refl e
    where
      all : list_all (λ line. is_map_of platform.ports d line && (is_known_map platform.functions platform.frames line && is_home_map platform.ports line)) (maps_of platform d) ≡ true
      all = all_kept (is_map_of platform.ports d) (λ line. is_known_map platform.functions platform.frames line && is_home_map platform.ports line) platform.maps (both platform.maps laws.known laws.home)
        where
          both : (maps : List Mapping) → list_all (is_known_map platform.functions platform.frames) maps ≡ true → list_all (is_home_map platform.ports) maps ≡ true → list_all (λ line. is_known_map platform.functions platform.frames line && is_home_map platform.ports line) maps ≡ true
          both [] h k = refl
          both (line ∷ maps) h k =
              let h' = and_parts (is_known_map platform.functions platform.frames line) _ h in
              let k' = and_parts (is_home_map platform.ports line) _ k in
              and_from _ _ (and_from _ _ h'.0 k'.0) (both maps h'.1 k'.1)

      of_line : (line : Mapping) → line.target ≡ Peer h → (is_map_of platform.ports d line && (is_known_map platform.functions platform.frames line && is_home_map platform.ports line)) ≡ true → IsFunctionOf platform d h
      of_line line peer tests =
          let tests' = and_parts (is_map_of platform.ports d line) _ tests in
          let more = and_parts (is_known_map platform.functions platform.frames line) (is_home_map platform.ports line) tests'.1 in
          let home : domain_of platform.ports line.requester ≡ d = eqb-true (domain_of platform.ports line.requester) d tests'.0 in
          let known : is_known platform.functions platform.frames line.target ≡ true = (and_parts (is_function platform.functions line.requester) _ more.0).1 in
          let listed : is_function platform.functions h ≡ true = ap (is_known platform.functions platform.frames) (sym peer) ∙ known in
          let same : (domain_of platform.ports h == domain_of platform.ports line.requester) ≡ true = ap (is_home_target platform.ports (domain_of platform.ports line.requester)) (sym peer) ∙ more.1 in
          of_home h d listed (eqb-true (domain_of platform.ports h) (domain_of platform.ports line.requester) same ∙ home)

      go : (o : Option Mapping) → find (fits requester page access) (maps_of platform d) ≡ o → option_map (λ (line : Mapping). line.target) o ≡ Some (Peer h) → IsFunctionOf platform d h
      go None found e = absurd cc
      go (Some line) found e = of_line line (some_is line.target (Peer h) e) (find_all (fits requester page access) (λ line. is_map_of platform.ports d line && (is_known_map platform.functions platform.frames line && is_home_map platform.ports line)) (maps_of platform d) line found all)
