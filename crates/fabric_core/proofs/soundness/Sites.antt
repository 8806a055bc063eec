-- The ports of a platform's fabric: which port stands at a place, and where its outputs lead.
use Rattle.std.proofs.Common.{◌≡◌, ℕ, zero, suc, ◌+◌, ◌<◌, ◌==◌, ◌⊎◌, inl, inr, not, Bool, true, false, cond, List, [], ◌∷◌, ◌++◌, length, map, get_or, Option, Some, None, refl, sym, ap, ◌∙◌, subst, arith, eqb-true}
use Rattle.std.specs.Prelude.{Contains, option_map, slice_get}
use Rattle.std.specs.List.{find, position, position_from}
use Rattle.std.specs.Option.{option_map_or}
use Rattle.std.proofs.lemmas.Bool.{eq-eqb, false≢true}
use Rattle.std.proofs.lemmas.Iterator.Adapters.{position_from-zero}
use Rattle.std.proofs.lemmas.List.{get_or-map, length-map}
use Rattle.std.proofs.lemmas.List.Elements.{Contains-get_or}
use Rattle.std.proofs.lemmas.List.Quantifiers.{position-Some}
use Rattle.std.proofs.lemmas.Option.{get_or_from_slice_get, same_Some, slice_get_within}
use Rattle.fab_types.specs.Id.{bus_of}
use Rattle.fab_types.specs.declared.place.Direction.{Direction}
use Rattle.frame_log.specs.Descriptor.{Descriptor}
use Rattle.platform.specs.declared.parts.DownstreamPort.{DownstreamPort}
use Rattle.platform.specs.declared.parts.Switch.{Switch}
use Rattle.layout.specs.Laws.{IsPlatform, are_apart}
use Rattle.platform.specs.Platform.{Platform}
use Rattle.platform.specs.Tree.{is_on_bus}
use Rattle.platform.proofs.Bools.{and-first}
use Rattle.platform.specs.Tree.{id_below, is_taken, internal_bus, port_at}
use Rattle.bridge.specs.Routes.{switch_at}
use Rattle.port.specs.Configs.{Config, downstream_config, exit_of, is_of_port, upstream_config}
use Rattle.port.specs.Turns.{PortView}
use Rattle.topology.specs.Links.{links_of, sender_of}
use Rattle.topology.specs.Nodes.{downstream_end, ports_on, upstream_end}
use Rattle.topology.specs.Places.{downstream_place, places_of, upstream_place}
use Rattle.topology.specs.Topologies.{Tree}
use Rattle.topology.specs.declared.nodes.LinkEnd.{LinkEnd}
use Rattle.topology.specs.declared.places.PortPlace.{PortPlace}
use Rattle.topology.proofs.Outputs.{output_at, lane_to, own_end, switch_up}
use Rattle.topology.proofs.Members.{found, found_alone, kept_from, paired}
use Rattle.interconnect.specs.Passes.{index_of, no_place, no_port}
use Rattle.interconnect.specs.Starts.{idle_port, ports_of}
use Rattle.guarded_routes.specs.Guarded.{IsGuarded}
use Rattle.guarded_routes.specs.Sound.{Falling, IsSound}
use Rattle.guarded_routes.specs.Ways.{direction_out, down_from, up_from}
use Rattle.guarded_routes.proofs.Below.{Under}
use Rattle.guarded_routes.proofs.Nodes.{At, leads_on}
use Rattle.guarded_routes.proofs.Passing.{first_leads, first_port_of, under}
use Rattle.guarded_routes.proofs.Trees.{IsPort, switch_of}
use Rattle.fabric_core.specs.Passing.{port_number}
use Rattle.fabric_core.specs.Soundness.{IsOfPlatform, config_of}
use Rattle.fabric_core.specs.World.{World}

-- ---- the first of two lists' images that passes

module _ {A B C D : Type 0} (p : C → Bool) (f : A → C) (f' : A → D) (h : B → C) (h' : B → D) where
  -- it is the image of an element of one of them, and the other image is that of the same element
  pub data Found (xs : List A) (ys : List B) (x : C) (y : D) : Type 0 where
    First : (a : A) → find (λ (a : A). p (f a)) xs ≡ Some a → x ≡ f a → y ≡ f' a → Found xs ys x y
    Second : (b : B) → find (λ (b : B). p (h b)) ys ≡ Some b → x ≡ h b → y ≡ h' b → Found xs ys x y

  second : (xs : List A) (ys : List B) (i : ℕ) (c : C) (d : D) → i < length (map h ys) → p (get_or (map h ys) i c) ≡ true → ((k : ℕ) → k < i → p (get_or (map h ys) k c) ≡ false) → Found [] ys (get_or (map h ys) i c) (get_or (map h' ys) i d)
  second xs [] i c d less is first = absurd (omega (arith, less))
  second xs (y ∷ ys) zero c d less is first = Found.Second y (ap (λ (b : Bool). cond b (Some y) (find (λ (b : B). p (h b)) ys)) is) refl refl
  second xs (y ∷ ys) (suc i) c d less is first = behind (second xs ys i c d (omega (arith, less)) is (λ k before. first (suc k) (omega (arith, before))))
    where
      behind : Found [] ys (get_or (map h ys) i c) (get_or (map h' ys) i d) → Found [] (y ∷ ys) (get_or (map h ys) i c) (get_or (map h' ys) i d)
      behind (Found.First a e at at') = absurd cc
      behind (Found.Second b e at at') = Found.Second b (ap (λ (b : Bool). cond b (Some y) (find (λ (b : B). p (h b)) ys)) (first 0 (omega arith)) ∙ e) at at'

  pub found_first : (xs : List A) (ys : List B) (i : ℕ) (c : C) (d : D) → i < length (map f xs ++ map h ys) → p (get_or (map f xs ++ map h ys) i c) ≡ true → ((k : ℕ) → k < i → p (get_or (map f xs ++ map h ys) k c) ≡ false)
      → Found xs ys (get_or (map f xs ++ map h ys) i c) (get_or (map f' xs ++ map h' ys) i d)
  found_first [] ys i c d less is first = second [] ys i c d less is first
  found_first (x ∷ xs) ys zero c d less is first = Found.First x (ap (λ (b : Bool). cond b (Some x) (find (λ (a : A). p (f a)) xs)) is) refl refl
  found_first (x ∷ xs) ys (suc i) c d less is first = behind (found_first xs ys i c d (omega (arith, less)) is (λ k before. first (suc k) (omega (arith, before))))
    where
      behind : Found xs ys (get_or (map f xs ++ map h ys) i c) (get_or (map f' xs ++ map h' ys) i d) → Found (x ∷ xs) ys (get_or (map f xs ++ map h ys) i c) (get_or (map f' xs ++ map h' ys) i d)
      behind (Found.First a e at at') = Found.First a (ap (λ (b : Bool). cond b (Some x) (find (λ (a : A). p (f a)) xs)) (first 0 (omega arith)) ∙ e) at at'
      behind (Found.Second b e at at') = Found.Second b e at at'

-- the place of an image
position_map_from : {X Y : Type 0} (p : Y → Bool) (f : X → Y) (xs : List X) (i : ℕ) → position_from p i (map f xs) ≡ position_from (λ (x : X). p (f x)) i xs
position_map_from p f [] i = refl
position_map_from p f (x ∷ xs) i = ap (λ (o : Option ℕ). cond (p (f x)) (Some i) o) (position_map_from p f xs (i + 1))

position_map : {X Y : Type 0} (p : Y → Bool) (f : X → Y) (xs : List X) → position p (map f xs) ≡ position (λ (x : X). p (f x)) xs
position_map {X} p f xs = position_from-zero p (map f xs) ∙ (position_map_from p f xs 0 ∙ sym (position_from-zero (λ (x : X). p (f x)) xs))

module _ (platform : Platform) where
  -- ---- which port stands at a place

  pub data Standing (place : PortPlace) (config : Config) : Type 0 where
    Upstream : (switch : Switch) → switch_at platform.switches switch.id ≡ Some switch → place ≡ upstream_place platform switch → config ≡ upstream_config platform switch → Standing place config
    Downstream : (line : DownstreamPort) → IsPort platform line → place ≡ downstream_place platform line → config ≡ downstream_config platform line → Standing place config

  abbrev is_of : ℕ → PortPlace → Bool
  is_of port place = place.id == port

  standing_by : (port i : ℕ) (config : Config) → config ≡ config_of (get_or (ports_of platform) i no_port)
      → Found (is_of port) (upstream_place platform) (λ (s : Switch). idle_port (upstream_config platform s)) (downstream_place platform) (λ (q : DownstreamPort). idle_port (downstream_config platform q)) platform.switches platform.ports
      (get_or (places_of platform) i no_place) (get_or (ports_of platform) i no_port)
      → Standing (get_or (places_of platform) i no_place) config
  standing_by port i config same (Found.First s e at at') =
      let id = eqb-true s.id port (found (λ (x : Switch). x.id == port) platform.switches s e).1 in
      Standing.Upstream s (ap (switch_at platform.switches) id ∙ e) at (same ∙ ap config_of at')
  standing_by port i config same (Found.Second q e at at') =
      let id = eqb-true q.id port (found (λ (x : DownstreamPort). x.id == port) platform.ports q e).1 in
      Standing.Downstream q (ap (port_at platform.ports) id ∙ e) at (same ∙ ap config_of at')

  standing_at : (port i : ℕ) (config : Config) → config ≡ config_of (get_or (ports_of platform) i no_port) → index_of (places_of platform) port ≡ Some i → Standing (get_or (places_of platform) i no_place) config
  standing_at port i config same e =
      let at = position-Some (is_of port) (places_of platform) i no_place e in
      standing_by port i config same
      (found_first (is_of port) (upstream_place platform) (λ (s : Switch). idle_port (upstream_config platform s)) (downstream_place platform) (λ (q : DownstreamPort). idle_port (downstream_config platform q)) platform.switches platform.ports i no_place no_port at.0 at.1 at.2)

  same_config : (views : List PortView) (i : ℕ) → map config_of views ≡ map config_of (ports_of platform) → i < length views → (get_or views i no_port).config ≡ config_of (get_or (ports_of platform) i no_port)
  same_config views i same less =
      let long : length (map config_of views) ≡ length (map config_of (ports_of platform)) = ap length same in
      let less' : i < length (ports_of platform) = omega (arith, less, long, length-map views config_of, length-map (ports_of platform) config_of) in
      sym (get_or-map config_of views i no_port (config_of no_port) less) ∙ (ap (λ (cs : List Config). get_or cs i (config_of no_port)) same ∙ get_or-map config_of (ports_of platform) i no_port (config_of no_port) less')

  -- the port of an ID
  pub standing : (w : World) (port i : ℕ) → IsOfPlatform platform w → i < length w.ports → index_of w.tree.places port ≡ Some i → Standing (get_or w.tree.places i no_place) (port_number w i).config
  standing w port i of less e =
      subst (λ (t : Tree). Standing (get_or t.places i no_place) (port_number w i).config) (sym of.tree)
      (standing_at port i (port_number w i).config (same_config w.ports i of.configs less) (ap (λ (t : Tree). index_of t.places port) (sym of.tree) ∙ e))

module _ (platform : Platform) (laws : IsPlatform platform) where
  -- ---- where outputs lead

  abbrev pub output_of_switch : Switch → ℕ → LinkEnd
  output_of_switch switch output = record { node = (upstream_end platform switch.id).node; output = output }

  -- the port at a place among those of a switch sends down from the output after it
  down_port : (switch : Switch) (k : ℕ) (q : DownstreamPort) → Contains platform.switches switch → slice_get (ports_on platform.ports (internal_bus switch)) k ≡ Some q → Contains platform.ports q × (downstream_end platform q ≡ output_of_switch switch (suc k))
  down_port switch k q within at =
      let ports = ports_on platform.ports (internal_bus switch) in
      let less = slice_get_within ports k q at in
      let here : get_or ports k q ≡ q = get_or_from_slice_get ports k q q at in
      let one : 1 + k ≡ suc k = omega arith in (
        subst (Contains platform.ports) here (kept_from (is_on_bus (internal_bus switch)) platform.ports (get_or ports k q) (Contains-get_or ports k q less)).0,
        ap (downstream_end platform) (sym here) ∙ (output_at platform laws switch k q within less ∙ ap (output_of_switch switch) one),
      )

  -- ---- what stands below a port

  clash : (a b : ℕ) → not (a == b) ≡ true → a ≡ b → ⊥
  clash a b other same = false≢true (sym (ap not (eq-eqb a b same)) ∙ other)

  listed_port : (q : DownstreamPort) → Contains platform.ports q → IsPort platform q
  listed_port q within =
      found_alone (λ (p : DownstreamPort). p.id == q.id) platform.ports q within (eq-eqb q.id q.id refl) (λ p listed same. by p (eqb-true p.id q.id same) (paired are_apart platform.ports p q laws.apart listed within))
    where
      by : (p : DownstreamPort) → p.id ≡ q.id → (p ≡ q) ⊎ ((are_apart p q ≡ true) ⊎ (are_apart q p ≡ true)) → p ≡ q
      by p same (inl is) = is
      by p same (inr (inl apart)) = absurd (clash p.id q.id (and-first _ _ (and-first _ _ apart)) same)
      by p same (inr (inr apart)) = absurd (clash q.id p.id (and-first _ _ (and-first _ _ apart)) (sym same))

  -- a downstream port's own output
  pub own_output_end : (line : DownstreamPort) → IsPort platform line → record { node = (downstream_end platform line).node; output = (downstream_config platform line).own } ≡ downstream_end platform line
  own_output_end line listed =
      let s = switch_of platform laws line listed in
      let on = found (λ (x : Switch). internal_bus x == bus_of line.id) platform.switches s.0 s.1 in
      let end = own_end platform laws s.0 line on.0 (sym (eqb-true (internal_bus s.0) (bus_of line.id) on.1)) in
      let own : (downstream_config platform line).own ≡ (downstream_end platform line).output =
      ap (λ (o : Option ℕ). option_map_or suc o 0) (position_map (is_of_port line.id) (exit_of platform) (ports_on platform.ports (bus_of line.id))) ∙ sym (ap (λ (e : LinkEnd). e.output) end) in
      λ i. record { node = (downstream_end platform line).node; output = own i }

-- ---- in a guarded layout

module _ (platform : Platform) (g : IsGuarded platform) where
  -- where a packet falls something stands below
  leads_below : (q : DownstreamPort) (frame : Descriptor) → IsPort platform q → Falling platform (id_below q) frame → is_taken platform.switches platform.functions (id_below q) ≡ true
  leads_below q frame listed r =
      let first = first_port_of platform g frame.domain r.function r.own in
      let u : Under platform first.port (Some q) = under platform g frame.domain r.function (id_below q) (Some q) first (At.Over q listed refl) r.below in
      leads_on platform g.laws first.port (Some q) q u refl (first_leads platform g frame.domain r.function r.own first)

  -- a downstream port sends what falls there
  pub sent_below : (q : DownstreamPort) (frame : Descriptor) → IsPort platform q → Falling platform (id_below q) frame → sender_of (links_of platform) (down_from q) ≡ Some (downstream_end platform q)
  sent_below q frame listed r = lane_to platform g.laws q (found (λ (x : DownstreamPort). x.id == q.id) platform.ports q listed).0 (leads_below q frame listed r)

  sent_down : (switch : Switch) (k : ℕ) (at : Option DownstreamPort) (direction : Direction) (frame : Descriptor) → Contains platform.switches switch → slice_get (ports_on platform.ports (internal_bus switch)) k ≡ at → option_map down_from at ≡ Some direction
      → IsSound platform direction frame → sender_of (links_of platform) direction ≡ Some (output_of_switch platform g.laws switch (suc k))
  sent_down switch k None direction frame within at leads sound = absurd cc
  sent_down switch k (Some q) direction frame within at leads sound =
      let is = down_port platform g.laws switch k q within at in
      let same = same_Some (down_from q) direction leads in
      ap (sender_of (links_of platform)) (sym same)
      ∙ (sent_below q frame (listed_port platform g.laws q is.0) (subst (λ (d : Direction). IsSound platform d frame) (sym same) sound) ∙ ap (λ (e : LinkEnd). Some e) is.1)

  -- an output of a switch sends what is sound in the direction that it leads into
  pub output_sends : (switch : Switch) (output : ℕ) (direction : Direction) (frame : Descriptor) → Contains platform.switches switch → direction_out platform switch output ≡ Some direction → IsSound platform direction frame
      → sender_of (links_of platform) direction ≡ Some (output_of_switch platform g.laws switch output)
  output_sends switch zero direction frame within leads sound = ap (sender_of (links_of platform)) (sym (same_Some (up_from switch) direction leads)) ∙ switch_up platform g.laws switch within
  output_sends switch (suc k) direction frame within leads sound = sent_down switch k (slice_get (ports_on platform.ports (internal_bus switch)) k) direction frame within refl leads sound
