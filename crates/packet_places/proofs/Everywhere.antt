-- What stands anywhere stands at one of the places that are visited.
use Rattle.std.proofs.Common.{◌≡◌, ℕ, ◌==◌, ◌<◌, Bool, true, false, List, [], ◌∷◌, length, map, get_or, Option, Some, None, refl, sym, ap, ◌∙◌, subst, lit<}
use Rattle.std.specs.Prelude.{◌||◌, cond, option_map}
use Rattle.std.specs.List.{flat_map, list_any}
use Rattle.std.proofs.Math.ListN.{get_or-map}
use Rattle.std.proofs.lemmas.Bool.{eqb-true}
use Rattle.std.proofs.lemmas.List.{length-map}
use Rattle.std.proofs.lemmas.List.Folds.{list_any-append, list_any_at}
use Rattle.std.proofs.lemmas.List.Quantifiers.{position-Some}
use Rattle.fab_types.specs.Origins.{same_origin}
use Rattle.fab_types.proofs.Origins.{one_origin}
use Rattle.fab_types.specs.declared.origin.Origin.{Origin}
use Rattle.fab_types.specs.declared.place.Direction.{Direction}
use Rattle.fab_types.specs.declared.place.Place.{Place}
use Rattle.fab_types.specs.declared.place.Place.TheVariants as place
use Rattle.fab_types.specs.declared.place.Place.TheVariants.{Egress, Wire, Ingress}
use Rattle.fab_types.specs.declared.place.Way.{Way}
use Rattle.fab_types.specs.declared.place.Way.TheVariants.{Up, Down}
use Rattle.frame_log.specs.Descriptor.{Descriptor}
use Rattle.domains.specs.Agents.{Outbox, outbox_place, waiting_at}
use Rattle.link.specs.Channels.{Channel}
use Rattle.topology.specs.Links.{link_at, sending_end}
use Rattle.topology.specs.declared.links.Link.{Link}
use Rattle.interconnect.specs.Moves.{channel_at}
use Rattle.packet_places.specs.Standing.{channel_in, down, egress_of, ingress_of, standing_in, up, wire_of}
use Rattle.packet_places.specs.PacketPlaces.{all_packet_places, places_of_link}

or_first : (a b : Bool) → a ≡ true → (a || b) ≡ true
or_first true b h = refl
or_first false b h = absurd cc

or_second : (a b : Bool) → b ≡ true → (a || b) ≡ true
or_second true b h = refl
or_second false b h = h

-- the link of an ID, among several
module _ (passes : Place → Bool) (id : ℕ) (here : (link : Link) → link.lower ≡ id → list_any passes (places_of_link link) ≡ true) where
  by_link : (link : Link) (links : List Link) (rest : (link_at links id ≡ None → ⊥) → list_any passes (flat_map places_of_link links) ≡ true) (b : Bool) → (link.lower == id) ≡ b → (link_at (link ∷ links) id ≡ None → ⊥)
      → (list_any passes (places_of_link link) || list_any passes (flat_map places_of_link links)) ≡ true
  by_link link links rest true same some = or_first (list_any passes (places_of_link link)) (list_any passes (flat_map places_of_link links)) (here link (eqb-true link.lower id same))
  by_link link links rest false other some =
      or_second (list_any passes (places_of_link link)) (list_any passes (flat_map places_of_link links))
      (rest (λ none. some (ap (λ (b : Bool). cond b (Some link) (link_at links id)) other ∙ none)))

  of_links : (links : List Link) → (link_at links id ≡ None → ⊥) → list_any passes (flat_map places_of_link links) ≡ true
  of_links [] some = absurd (some refl)
  of_links (link ∷ links) some = list_any-append passes (places_of_link link) (flat_map places_of_link links) ∙ by_link link links (of_links links) (link.lower == id) refl some

module _ (links : List Link) (channels : List (List Channel)) (boxes : List Outbox) (test : List Descriptor → Bool) (empty : test [] ≡ false) where
  abbrev passes : Place → Bool
  passes place = test (standing_in links channels boxes place)

  -- ---- outboxes

  abbrev outboxes : List Place
  outboxes = map place.Outbox (map (λ box. box.origin) boxes)

  at_place : (origin : Origin) (i : ℕ) → outbox_place boxes origin ≡ Some i → passes (place.Outbox origin) ≡ true → list_any passes outboxes ≡ true
  unfolding outbox_place
  at_place origin i is own =
      let d : Outbox = record { origin = origin; waiting = [] } in
      let found = position-Some (λ (box : Outbox). same_origin box.origin origin) boxes i d is in
      let here : get_or outboxes i (place.Outbox origin) ≡ place.Outbox origin =
      get_or-map place.Outbox (map (λ (box : Outbox). box.origin) boxes) i origin
      ∙ ap place.Outbox (get_or-map (λ (box : Outbox). box.origin) boxes i d ∙ one_origin (get_or boxes i d).origin origin found.1) in
      let long : length outboxes ≡ length boxes = length-map (map (λ (box : Outbox). box.origin) boxes) place.Outbox ∙ length-map boxes (λ (box : Outbox). box.origin) in
      let less : i < length outboxes = subst (λ (n : ℕ). i < n) (sym long) found.0 in
      list_any_at passes outboxes i (place.Outbox origin) less (ap passes here ∙ own)

  waiting : (origin : Origin) (o : Option ℕ) → outbox_place boxes origin ≡ o → test (waiting_at boxes o) ≡ true → passes (place.Outbox origin) ≡ true → list_any passes outboxes ≡ true
  waiting origin None is h own = let never : false ≡ true = sym empty ∙ h in absurd cc
  waiting origin (Some i) is h own = at_place origin i is own

  -- ---- links

  abbrev of_all_links : List Place
  of_all_links = flat_map places_of_link links

  -- one of the places of a link
  one_of : (link : Link) (i : ℕ) (other : Place) → i < 6 → passes (get_or (places_of_link link) i other) ≡ true → list_any passes (places_of_link link) ≡ true
  one_of link i other less h = list_any_at passes (places_of_link link) i other less h

  at_ingress : (way : Way) (lower : ℕ) → passes (Ingress (record { lower = lower; way = way })) ≡ true → (link : Link) → link.lower ≡ lower → list_any passes (places_of_link link) ≡ true
  at_ingress Up lower h link same = one_of link 0 (Ingress (up lower)) (lit< tt) (ap (λ (n : ℕ). passes (Ingress (up n))) same ∙ h)
  at_ingress Down lower h link same = one_of link 3 (Ingress (up lower)) (lit< tt) (ap (λ (n : ℕ). passes (Ingress (down n))) same ∙ h)

  at_wire : (way : Way) (lower : ℕ) → passes (Wire (record { lower = lower; way = way })) ≡ true → (link : Link) → link.lower ≡ lower → list_any passes (places_of_link link) ≡ true
  at_wire Up lower h link same = one_of link 1 (Wire (up lower)) (lit< tt) (ap (λ (n : ℕ). passes (Wire (up n))) same ∙ h)
  at_wire Down lower h link same = one_of link 4 (Wire (up lower)) (lit< tt) (ap (λ (n : ℕ). passes (Wire (down n))) same ∙ h)

  at_egress : (way : Way) (lower : ℕ) → passes (Egress (record { lower = lower; way = way })) ≡ true → (link : Link) → link.lower ≡ lower → list_any passes (places_of_link link) ≡ true
  at_egress Up lower h link same = one_of link 2 (Egress (up lower)) (lit< tt) (ap (λ (n : ℕ). passes (Egress (up n))) same ∙ h)
  at_egress Down lower h link same = one_of link 5 (Egress (up lower)) (lit< tt) (ap (λ (n : ℕ). passes (Egress (down n))) same ∙ h)

  -- there is a link, since something stands on it
  linked : (direction : Direction) (part : Option Channel → List Descriptor) → part None ≡ [] → test (part (channel_in links channels direction)) ≡ true → link_at links direction.lower ≡ None → ⊥
  linked direction part none h is =
      let nothing : part (channel_in links channels direction) ≡ [] =
      ap (λ (o : Option Link). part (option_map (channel_at channels) (option_map (sending_end direction.way) o))) is ∙ none in
      let never : false ≡ true = sym empty ∙ (ap test (sym nothing) ∙ h) in absurd cc

  pub somewhere : (place : Place) → passes place ≡ true → list_any passes (all_packet_places links boxes) ≡ true
  somewhere (place.Outbox origin) h =
      list_any-append passes outboxes of_all_links ∙ or_first (list_any passes outboxes) (list_any passes of_all_links) (waiting origin (outbox_place boxes origin) refl h h)
  somewhere (Ingress d) h =
      list_any-append passes outboxes of_all_links
      ∙ or_second (list_any passes outboxes) (list_any passes of_all_links) (of_links passes d.lower (at_ingress d.way d.lower h) links (linked d ingress_of refl h))
  somewhere (Wire d) h =
      list_any-append passes outboxes of_all_links
      ∙ or_second (list_any passes outboxes) (list_any passes of_all_links) (of_links passes d.lower (at_wire d.way d.lower h) links (linked d wire_of refl h))
  somewhere (Egress d) h =
      list_any-append passes outboxes of_all_links
      ∙ or_second (list_any passes outboxes) (list_any passes of_all_links) (of_links passes d.lower (at_egress d.way d.lower h) links (linked d egress_of refl h))
