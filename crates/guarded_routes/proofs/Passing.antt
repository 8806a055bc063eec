-- The ports of a guarded layout send each sound packet on to where it is sound.
use Rattle.std.proofs.Common.{◌≡◌, ℕ, suc, ◌≤◌, ◌==◌, ◌⊎◌, inl, inr, Bool, true, false, Option, Some, None, refl, sym, ap, ◌∙◌, subst, arith}
use Rattle.std.specs.Prelude.{◌<◌, ◌||◌, Ok}
use Rattle.std.specs.List.{find}
use Rattle.std.proofs.lemmas.Bool.{and_parts, leb-true, eqb-true, false≢true}
use Rattle.fab_types.specs.Id.{bus_of}
use Rattle.fab_types.specs.declared.head.AddressType.{AddressType}
use Rattle.fab_types.specs.declared.head.AddressType.TheVariants.{Untranslated}
use Rattle.fab_types.specs.declared.head.Answerer.{Answerer}
use Rattle.fab_types.specs.declared.head.Answerer.TheVariants as by
use Rattle.fab_types.specs.declared.head.Header.{Header}
use Rattle.fab_types.specs.declared.head.Header.TheVariants as header
use Rattle.fab_types.specs.declared.head.Parties.TheVariants.{Upward, Answer}
use Rattle.fab_types.specs.declared.origin.Origin.{Origin}
use Rattle.fab_types.specs.declared.origin.Origin.TheVariants.{Function}
use Rattle.frame_log.specs.Descriptor.{Descriptor}
use Rattle.platform.specs.declared.parts.DownstreamPort.{DownstreamPort}
use Rattle.platform.specs.declared.parts.Switch.{Switch}
use Rattle.layout.specs.Laws.{is_hung, is_nested_on}
use Rattle.platform.specs.Egress.{direct_at, direct_to}
use Rattle.platform.specs.Owners.{first_port, holds_address, holds_bus, is_function}
use Rattle.platform.specs.Platform.{Platform}
use Rattle.platform.specs.Reach.{holds_bus_if_any}
use Rattle.platform.specs.Share.{is_guarded_port}
use Rattle.platform.specs.Tree.{id_below, internal_bus, is_switch, is_taken, port_above, port_leading_to, switch_on}
use Rattle.bridge.specs.declared.route.Route.TheVariants as to
use Rattle.bridge.specs.declared.target.Target.{Target}
use Rattle.bridge.specs.declared.target.Target.TheVariants.{Bus, Address}
use Rattle.bridge.specs.Bridges.{of_platform}
use Rattle.bridge.specs.Routes.{holder_on, route_of, target_of, is_holder}
use Rattle.acs.specs.declared.vetting.Verdict.TheVariants as verdict
use Rattle.acs.specs.Redirection.{redirected}
use Rattle.switch_output.specs.Vetted.{is_own, requester_owner}
use Rattle.acs.specs.Vetting.{verdict_of}
use Rattle.port.specs.Configs.{downstream_config}
use Rattle.port.specs.Courses.{course_of}
use Rattle.guarded_routes.specs.Guarded.{IsFunctionOf, IsGuarded, has_id, holds_if_any, is_below}
use Rattle.guarded_routes.specs.Sound.{Falling, IsAsked, IsCleared, IsMeantFor, Reaches, Replying, Rising, is_reply, let_by}
use Rattle.guarded_routes.specs.FirstPorts.{route_left}
use Rattle.guarded_routes.specs.Ways.{GoesOn, IsRelaxed, LeavesBy, Passes, down_from, up_from}
use Rattle.guarded_routes.proofs.Controls.{Set, set_of}
use Rattle.guarded_routes.proofs.Requests.{left_to, left_up, request_left}
use Rattle.guarded_routes.proofs.Peers.{direct_is, passed_on, peer_at, some_line}
use Rattle.guarded_routes.proofs.Homes.{home_of}
use Rattle.guarded_routes.proofs.Finds.{find_all, find_passes, some, some_is}
use Rattle.guarded_routes.proofs.Trees.{IsPort, bus_under, is_port, parent, stands, switch_of}
use Rattle.guarded_routes.proofs.Below.{Under, holds_own, lift, not_first}
use Rattle.guarded_routes.proofs.Nodes.{At, First, at_under, first_of, holder_above, leads_on, over_is, switch_at, under_at}
use Rattle.guarded_routes.proofs.Owners.{below_owner, owned_memory, owned_reply, small}
use Rattle.guarded_routes.proofs.Ports as port

module _ (platform : Platform) (g : IsGuarded platform) where
  pub set_at : (line : DownstreamPort) → IsPort platform line → Set line
  set_at line listed = set_of line (find_all (λ (q : DownstreamPort). q.id == line.id) is_guarded_port platform.ports line listed g.controls)

  -- the first port of a function of the domain, and what lies there
  pub first_port_of : (d f : ℕ) → IsFunctionOf platform d f → First platform d f
  first_port_of d f own = first_of platform g.laws d f own

  pub first_leads : (d f : ℕ) (own : IsFunctionOf platform d f) (first : First platform d f) → is_function platform.functions (id_below first.port) ≡ true
  first_leads d f own first = subst (λ (n : ℕ). is_function platform.functions n ≡ true) first.below own.listed

  pub first_held : (d f id : ℕ) (first : First platform d f) → has_id platform f id ≡ true → holds_bus first.port (bus_of id) ≡ true
  first_held d f id first held = subst (λ (o : Option DownstreamPort). holds_bus_if_any o (bus_of id) ≡ true) first.is held

  pub holds_first : (d f id : ℕ) (first : First platform d f) → holds_bus first.port (bus_of id) ≡ true → has_id platform f id ≡ true
  holds_first d f id first held = subst (λ (o : Option DownstreamPort). holds_bus_if_any o (bus_of id) ≡ true) (sym first.is) held

  -- a function below a lower end lies under its port
  pub under : (d f lower : ℕ) (s : Option DownstreamPort) (first : First platform d f) → At platform lower s → is_below platform lower f ≡ true → Under platform first.port s
  under d f lower s first at below = at_under platform g.laws lower s first.port at first.listed (subst (λ (n : ℕ). is_below platform lower n ≡ true) first.below below)

  pub below : (d f lower : ℕ) (s : Option DownstreamPort) (first : First platform d f) → At platform lower s → Under platform first.port s → is_below platform lower f ≡ true
  below d f lower s first at u = subst (λ (n : ℕ). is_below platform lower n ≡ true) (sym first.below) (under_at platform g.laws lower s first.port at first.listed u)

  -- ---- down to a function

  -- a completion for a function of the domain, wherever that is at or below
  pub reply_falls : (frame : Descriptor) (target : ℕ) (relaxed_ordering : Bool) (f lower : ℕ) (answerer : Answerer) → frame.head.header ≡ header.Completion target relaxed_ordering → IsFunctionOf platform frame.domain f → has_id platform f target ≡ true
      → frame.head.parties ≡ Answer answerer (Some (Function f)) → is_below platform lower f ≡ true → Falling platform lower frame
  reply_falls frame target relaxed_ordering f lower answerer reply own held parties below = record {
    function = f;
    own = own;
    below = below;
    held = held_so (first_port platform.ports f) held;
    meant = subst (λ (h : Header). IsMeantFor platform frame.domain f frame.head.parties h) (sym reply) (answerer, parties);
  }
    where
      held_so : (o : Option DownstreamPort) → holds_bus_if_any o (bus_of target) ≡ true → holds_if_any o (target_of frame.head.header) ≡ true
      held_so None h = absurd (false≢true h)
      held_so (Some p) h = subst (λ (k : Header). holds_if_any (Some p) (target_of k) ≡ true) (sym reply) h

  -- a completion at the port of a switch that holds its target
  pub record Turned (frame : Descriptor) (bus : ℕ) (q : DownstreamPort) : Type 0 where
    pub listed : IsPort platform q
    pub on : bus_of q.id ≡ bus
    pub taken : is_taken platform.switches platform.functions (id_below q) ≡ true
    pub falling : Falling platform (id_below q) frame

  pub turned : (frame : Descriptor) (target : ℕ) (relaxed_ordering : Bool) (bus : ℕ) (q : DownstreamPort) (g' : ℕ) (x : Option Origin) → IsFunctionOf platform frame.domain g' → frame.head.header ≡ header.Completion target relaxed_ordering
      → holder_on platform.ports bus (Some (Bus (bus_of target))) ≡ Some q → frame.head.parties ≡ Answer (by.Function g') x → Reaches platform frame.domain target x → Turned frame bus q
  turned frame target relaxed_ordering bus q g' x own reply found parties (Reaches.ByHost same) =
      let listed = is_port platform g.laws (is_holder bus (Some (Bus (bus_of target)))) q found in
      let passes = and_parts (bus_of q.id == bus) (holds_bus q (bus_of target)) (find_passes (is_holder bus (Some (Bus (bus_of target)))) platform.ports q found) in
      let le : q.secondary ≤ bus_of target = leb-true q.secondary (bus_of target) (and_parts _ _ passes.1).0 in
      let more = not_first platform g.laws q listed in
      let few = small platform g frame.domain g' (first_port_of frame.domain g' own) in
      absurd (omega (arith, le, more, few, same))
  turned frame target relaxed_ordering bus q g' x own reply found parties (Reaches.ByBus f other held) =
      let listed = is_port platform g.laws (is_holder bus (Some (Bus (bus_of target)))) q found in
      let passes = and_parts (bus_of q.id == bus) (holds_bus q (bus_of target)) (find_passes (is_holder bus (Some (Bus (bus_of target)))) platform.ports q found) in
      let first = first_port_of frame.domain f other in
      let leads = first_leads frame.domain f other first in
      let u = holder_above platform g q first.port listed first.listed leads (Bus (bus_of target)) passes.1 (first_held frame.domain f target first held) in
      record {
        listed = listed;
        on = eqb-true (bus_of q.id) bus passes.0;
        taken = leads_on platform g.laws first.port (Some q) q u refl leads;
        falling = reply_falls frame target relaxed_ordering f (id_below q) (by.Function g') reply other held parties (below frame.domain f (id_below q) (Some q) first (At.Over q listed refl) u);
      }

  -- ---- up through a port

  -- the switch of a port
  pub record SwitchAbove (line : DownstreamPort) : Type 0 where
    pub switch : Switch
    pub on : switch_on platform.switches (bus_of line.id) ≡ Some switch
    pub bus : internal_bus switch ≡ bus_of line.id
    pub above : parent platform line ≡ port_above platform.ports switch
    pub at : At platform switch.id (port_above platform.ports switch)

  pub switch_over : (line : DownstreamPort) → IsPort platform line → SwitchAbove line
  unfolding parent
  switch_over line listed = go (switch_of platform g.laws line listed)
    where
      go : (s : Switch) × (switch_on platform.switches (bus_of line.id) ≡ Some s) × (is_nested_on platform.ports (Some s) line ≡ true) → SwitchAbove line
      go s =
          let hung : is_hung platform.ports s.0 ≡ true = find_all (λ (s : Switch). internal_bus s == bus_of line.id) (is_hung platform.ports) platform.switches s.0 s.1 g.laws.hung in
          record {
            switch = s.0;
            on = s.1;
            bus = eqb-true (internal_bus s.0) (bus_of line.id) (find_passes (λ (s : Switch). internal_bus s == bus_of line.id) platform.switches s.0 s.1);
            above = above_is s.0 s.1;
            at = switch_at platform g.laws s.0 hung;
          }
        where
          above_is : (switch : Switch) → switch_on platform.switches (bus_of line.id) ≡ Some switch → parent platform line ≡ port_above platform.ports switch
          above_is switch on = rw on refl

  -- what is below a port is below the switch of that port
  pub below_switch : (d f : ℕ) (line : DownstreamPort) (listed : IsPort platform line) (s : SwitchAbove line) (first : First platform d f) → is_below platform (id_below line) f ≡ true → is_below platform s.switch.id f ≡ true
  below_switch d f line listed s first h =
      below d f s.switch.id (port_above platform.ports s.switch) first s.at (Under.Step listed s.above (under d f (id_below line) (Some line) first (At.Over line listed refl) h))

  -- the bus of a function at or below a port is below that port
  pub bus_held : (d f : ℕ) (line : DownstreamPort) → IsPort platform line → (first : First platform d f) → Under platform first.port (Some line) → holds_bus line (bus_of f) ≡ true
  bus_held d f line listed first u =
      let at = first.below in
      let bus : bus_of f ≡ first.port.secondary = omega (arith, at) in
      ap (holds_bus line) bus ∙ (lift platform g.laws first.listed u line refl).holds (Bus first.port.secondary) (holds_own platform g.laws first.port first.listed)

  -- a function directly below a port is of the port's owner
  pub function_below : (q : DownstreamPort) → IsPort platform q → (domain : ℕ) → q.owner ≡ domain → is_function platform.functions (id_below q) ≡ true → IsFunctionOf platform domain (id_below q) × (first_port platform.ports (id_below q) ≡ Some q)
  function_below q port domain owner leads =
      let home = home_of platform g.laws (id_below q) leads in
      let first = first_port_of home.0 (id_below q) home.1 in
      let same : first.port ≡ q = one_below_id first.port q first.listed port (sym first.below) in
      let owned : home.0 ≡ domain = sym first.owner ∙ (ap (λ (r : DownstreamPort). r.owner) same ∙ owner) in
      (subst (λ (d : ℕ). IsFunctionOf platform d (id_below q)) owned home.1, first.is ∙ ap some same)
    where
      one_below_id : (p q : DownstreamPort) → IsPort platform p → IsPort platform q → id_below p ≡ id_below q → p ≡ q
      one_below_id p q port other e = some_is p q (sym (over_is platform g.laws p port) ∙ (ap (port_leading_to platform.ports) e ∙ over_is platform g.laws q other))

  -- a function to which another one's requests go directly is of the domain of that
  pub peer_own : (domain sender peer address : ℕ) → IsFunctionOf platform domain sender → direct_to platform.ports sender address ≡ Some peer → IsFunctionOf platform domain peer
  peer_own domain sender peer address own direct =
      let there = some_line platform g.laws sender address peer direct in
      let line = there.0 in
      let p = peer_at platform g.laws line there.1 address peer there.3 in
      let first = first_port_of domain sender own in
      let at = first.below in
      let bus : bus_of sender ≡ first.port.secondary = omega (arith, at) in
      let u = holder_above platform g line first.port there.1 first.listed (first_leads domain sender own first) (Bus (bus_of sender)) there.2 (ap (holds_bus first.port) bus ∙ holds_own platform g.laws first.port first.listed) in
      let owner : line.owner ≡ domain = sym (lift platform g.laws first.listed u line refl).owner ∙ first.owner in
      subst (IsFunctionOf platform domain) (sym p.below) (function_below p.port p.listed domain (p.owner ∙ owner) p.leads).0

  module _ (line : DownstreamPort) (listed : IsPort platform line) (frame : Descriptor) where
    abbrev Goes : Type 0
    Goes = Passes platform line frame (course_of (of_platform platform) (downstream_config platform line) frame.head)

    -- a request that its first port lets pass, as the header has it
    module _ (r : Rising platform (id_below line) frame) (requester address : ℕ) (address_type : AddressType) (same : frame.head.header ≡ header.Memory requester address_type address) (cleared : IsCleared platform r.function (header.Memory requester address_type address)) where
      first : First platform frame.domain r.function
      first = first_port_of frame.domain r.function r.own

      u : Under platform first.port (Some line)
      u = under frame.domain r.function (id_below line) (Some line) first (At.Over line listed refl) r.below

      plain : frame.head.header ≡ header.Memory requester Untranslated address
      plain = same ∙ ap (λ (t : AddressType). header.Memory requester t address) cleared.0

      held : holds_bus line (bus_of r.function) ≡ true
      held = bus_held frame.domain r.function line listed first u

      passes_here : verdict_of line (header.Memory requester Untranslated address) ≡ verdict.Pass
      passes_here = port.passes_memory line requester address ((lift platform g.laws first.listed u line refl).holds (Bus (bus_of requester)) (first_held frame.domain r.function requester first cleared.1))

      left : redirected line (route_of platform.switches platform.ports line.id (header.Memory requester Untranslated address)) (header.Memory requester Untranslated address) ≡ Ok (route_left platform.ports line address)
      left = request_left line (set_at line listed) platform.switches platform.ports listed requester address Untranslated

      owned : is_own (requester_owner platform.ports frame.head.header) frame ≡ true
      owned = owned_memory platform g frame (header.Memory requester address_type address) requester address address_type refl same (below_owner platform g frame.domain r.function requester r.own cleared.1)

      -- no port below this one let it through
      passed_by : (p : DownstreamPort) → IsPort platform p → holds_bus p (bus_of r.function) ≡ true → line.secondary < p.secondary → direct_at platform.ports address p ≡ None
      passed_by p port at less =
          let bus : bus_of (id_below line) ≡ line.secondary = omega arith in
          subst (λ (h : Header). let_by platform p h ≡ None) same (r.passed p port at (omega (arith, less, bus)))

      goes_up_so : direct_at platform.ports address line ≡ None → Goes
      goes_up_so none =
          let s = switch_over line listed in
          let course = port.course_up platform line frame.head (header.Memory requester Untranslated address) (Address address) plain passes_here refl (left ∙ ap Ok (left_up platform.ports line address none)) in
          let here : let_by platform line frame.head.header ≡ None = ap (let_by platform line) same ∙ none in
          let sound : Rising platform s.switch.id frame = record {
            function = r.function;
            own = r.own;
            parties = r.parties;
            request = r.request;
            below = below_switch frame.domain r.function line listed s first r.below;
            cleared = inr (subst (λ (h : Header). IsCleared platform r.function h) (sym same) cleared);
            passed = λ p port at less. passed_above s p port at less (passed_on platform g.laws line p listed port (bus_of r.function) held at (behind s p less)) here;
          } in
          let goes : GoesOn platform s.switch frame 0 = record { direction = up_from s.switch; leads = refl; sound = inl sound; owned = owned } in
          subst (Passes platform line frame) (sym course) (s.switch, s.on, goes, LeavesBy.Rises refl here)
        where
          behind : (s : SwitchAbove line) (p : DownstreamPort) → bus_of s.switch.id < p.secondary → bus_under (parent platform line) < p.secondary
          behind s p less =
              let stands = (stands platform g.laws line listed).bus in
              let bus = s.bus in
              omega (arith, stands, bus, less)

          passed_above : (s : SwitchAbove line) (p : DownstreamPort) → IsPort platform p → holds_bus p (bus_of r.function) ≡ true → bus_of s.switch.id < p.secondary → (p ≡ line) ⊎ (line.secondary < p.secondary) → let_by platform line frame.head.header ≡ None → let_by platform p frame.head.header ≡ None
          passed_above s p port at less (inl is) here = subst (λ (q : DownstreamPort). let_by platform q frame.head.header ≡ None) (sym is) here
          passed_above s p port at less (inr later) here = let bus : bus_of (id_below line) ≡ line.secondary = omega arith in r.passed p port at (omega (arith, later, bus))

      turns_so : (peer : ℕ) → direct_at platform.ports address line ≡ Some peer → Goes
      turns_so peer e =
          let s = switch_over line listed in
          let p = peer_at platform g.laws line listed address peer e in
          let q = p.port in
          let at = port.output_down platform s.switch (bus_of line.id) q s.bus p.listed p.on (or_second (is_switch platform.switches (id_below q)) (is_function platform.functions (id_below q)) p.leads) in
          let course = port.course_down platform line frame.head (header.Memory requester Untranslated address) (Address address) q.id (suc at.place) plain passes_here refl
          (left ∙ ap Ok (left_to platform.ports line q address p.outside p.beside p.lets)) at.output in
          let line_owner : line.owner ≡ frame.domain = sym (lift platform g.laws first.listed u line refl).owner ∙ first.owner in
          let home = function_below q p.listed frame.domain (p.owner ∙ line_owner) p.leads in
          let direct : direct_to platform.ports r.function address ≡ Some (id_below q) = direct_is platform g.laws r.function line listed address peer held e passed_by ∙ ap some p.below in
          let goes : GoesOn platform s.switch frame (suc at.place) = record { direction = down_from q; leads = at.leads; sound = falls_to q p.listed p.held home.0 home.1 direct; owned = owned } in
          subst (Passes platform line frame) (sym course)
          (s.switch, s.on, goes, LeavesBy.Turns r.function (id_below q) requester address address_type held r.parties same cleared (e ∙ ap some p.below) direct refl)
        where
          or_second : (a b : Bool) → b ≡ true → (a || b) ≡ true
          or_second true b h = refl
          or_second false b h = h

          falls_to : (q : DownstreamPort) → IsPort platform q → holds_address q address ≡ true → IsFunctionOf platform frame.domain (id_below q) → first_port platform.ports (id_below q) ≡ Some q → direct_to platform.ports r.function address ≡ Some (id_below q) → Falling platform (id_below q) frame
          falls_to q port at own is direct =
              let to = first_port_of frame.domain (id_below q) own in
              record {
                function = id_below q;
                own = own;
                below = below frame.domain (id_below q) (id_below q) (Some to.port) to (At.Over to.port to.listed to.below) Under.Here;
                held = subst (λ (o : Option DownstreamPort). holds_if_any o (target_of frame.head.header) ≡ true) (sym is) (subst (λ (h : Header). holds_if_any (Some q) (target_of h) ≡ true) (sym same) at);
                meant = subst (λ (h : Header). IsMeantFor platform frame.domain (id_below q) frame.head.parties h) (sym same)
                    (IsAsked.Directly r.function r.own r.parties cleared direct, Some (Function r.function), Reaches.ByBus r.function r.own cleared.1);
              }

      cleared_memory : Goes
      cleared_memory = go (direct_at platform.ports address line) refl
        where
          go : (o : Option ℕ) → direct_at platform.ports address line ≡ o → Goes
          go None e = goes_up_so e
          go (Some peer) e = turns_so peer e

    -- it goes up, or directly to the function to which the port lets it through
    cleared_up : (r : Rising platform (id_below line) frame) (h : Header) → frame.head.header ≡ h → IsCleared platform r.function h → Goes
    cleared_up r header.Malformed same cleared = absurd cleared
    cleared_up r (header.OtherRequest requester) same cleared = absurd cleared
    cleared_up r (header.Completion target relaxed_ordering) same cleared = absurd cleared
    cleared_up r (header.Memory requester address_type address) same cleared = cleared_memory r requester address address_type same cleared

    -- what a first port lets pass is cleared
    clears : (f requester address : ℕ) (address_type : AddressType) (first : First platform frame.domain f) → id_below line ≡ f → verdict_of line (header.Memory requester address_type address) ≡ verdict.Pass → IsCleared platform f (header.Memory requester address_type address)
    clears f requester address address_type first same pass =
        let plain = port.plain_of line requester address address_type (set_at line listed) pass in
        let one : line ≡ first.port = same_port (same ∙ first.below) in
        (plain.untranslated, holds_first frame.domain f requester first (subst (λ (q : DownstreamPort). holds_bus q (bus_of requester) ≡ true) one plain.held))
      where
        same_port : id_below line ≡ id_below first.port → line ≡ first.port
        same_port e = some_is line first.port (sym (over line listed) ∙ (ap (λ (n : ℕ). find (λ (q : DownstreamPort). id_below q == n) platform.ports) e ∙ over first.port first.listed))
          where
            over : (p : DownstreamPort) → IsPort platform p → find (λ (q : DownstreamPort). id_below q == id_below p) platform.ports ≡ Some p
            over p port = over_is platform g.laws p port

    tested : (r : Rising platform (id_below line) frame) (x : Target) (h : Header) → frame.head.header ≡ h → is_reply h ≡ false → id_below line ≡ r.function → verdict_of line h ≡ verdict.Pass → target_of h ≡ Some x → Passes platform line frame (course_of (of_platform platform) (downstream_config platform line) frame.head)
    tested r x header.Malformed same request e pass i = absurd cc
    tested r x (header.OtherRequest requester) same request e pass i = absurd cc
    tested r x (header.Completion target relaxed_ordering) same request e pass i = absurd cc
    tested r x (header.Memory requester address_type address) same request e pass i =
        cleared_up r (header.Memory requester address_type address) same (clears r.function requester address address_type (first_port_of frame.domain r.function r.own) e pass)

    first_passes : (r : Rising platform (id_below line) frame) → id_below line ≡ r.function → port.First platform line frame.head → Passes platform line frame (course_of (of_platform platform) (downstream_config platform line) frame.head)
    first_passes r e (port.First.Stops report course) = subst (Passes platform line frame) (sym course) (r.parties ∙ ap (λ (n : ℕ). Upward n) (sym e))
    first_passes r e (port.First.Tests x pass i) = tested r x frame.head.header refl r.request e pass i

    rising : (r : Rising platform (id_below line) frame) → (id_below line ≡ r.function) ⊎ IsCleared platform r.function frame.head.header → Passes platform line frame (course_of (of_platform platform) (downstream_config platform line) frame.head)
    rising r (inl e) = first_passes r e (port.at_first platform line frame.head (r.parties ∙ ap (λ (n : ℕ). Upward n) (sym e)))
    rising r (inr cleared) = cleared_up r frame.head.header refl cleared

    -- a completion goes up, or turns down to the function that its target reaches
    reply_up : (r : Replying platform (id_below line) frame) → redirected line (route_of platform.switches platform.ports line.id (header.Completion r.target r.relaxed_ordering)) (header.Completion r.target r.relaxed_ordering) ≡ Ok to.Up
        → Passes platform line frame (course_of (of_platform platform) (downstream_config platform line) frame.head)
    reply_up r up =
        let s = switch_over line listed in
        let first = first_port_of frame.domain r.function r.own in
        let course = port.course_up platform line frame.head (header.Completion r.target r.relaxed_ordering) (Bus (bus_of r.target)) r.reply (port.passes_reply line r.target r.relaxed_ordering) refl up in
        let sound : Replying platform s.switch.id frame = record {
          function = r.function;
          own = r.own;
          below = below_switch frame.domain r.function line listed s first r.below;
          target = r.target;
          relaxed_ordering = r.relaxed_ordering;
          reply = r.reply;
          addressee = r.addressee;
          parties = r.parties;
          reaches = r.reaches;
        } in
        let goes : GoesOn platform s.switch frame 0 = record { direction = up_from s.switch; leads = refl; sound = inr sound; owned = owned_reply platform g frame r.target r.relaxed_ordering r.reply } in
        subst (Passes platform line frame) (sym course) (s.switch, s.on, goes, LeavesBy.Rises refl (ap (let_by platform line) r.reply))

    turn_down : (r : Replying platform (id_below line) frame) (q : DownstreamPort) → r.relaxed_ordering ≡ true → holder_on platform.ports (bus_of line.id) (Some (Bus (bus_of r.target))) ≡ Some q
        → redirected line (route_of platform.switches platform.ports line.id (header.Completion r.target r.relaxed_ordering)) (header.Completion r.target r.relaxed_ordering) ≡ Ok (to.Port q.id)
        → Passes platform line frame (course_of (of_platform platform) (downstream_config platform line) frame.head)
    turn_down r q relaxed held down =
        let s = switch_over line listed in
        let t = turned frame r.target r.relaxed_ordering (bus_of line.id) q r.function r.addressee r.own r.reply held r.parties r.reaches in
        let at = port.output_down platform s.switch (bus_of line.id) q s.bus t.listed t.on t.taken in
        let course = port.course_down platform line frame.head (header.Completion r.target r.relaxed_ordering) (Bus (bus_of r.target)) q.id (suc at.place) r.reply (port.passes_reply line r.target r.relaxed_ordering) refl down at.output in
        let goes : GoesOn platform s.switch frame (suc at.place) = record { direction = down_from q; leads = at.leads; sound = t.falling; owned = owned_reply platform g frame r.target r.relaxed_ordering r.reply } in
        subst (Passes platform line frame) (sym course) (s.switch, s.on, goes, LeavesBy.Crosses (subst IsRelaxed (sym r.reply) relaxed))

    replying : (r : Replying platform (id_below line) frame) → port.Reply platform line r.target r.relaxed_ordering → Passes platform line frame (course_of (of_platform platform) (downstream_config platform line) frame.head)
    replying r (port.Reply.Rises up) = reply_up r up
    replying r (port.Reply.Turns q relaxed held down) = turn_down r q relaxed held down

    pub passes : Rising platform (id_below line) frame ⊎ Replying platform (id_below line) frame → Passes platform line frame (course_of (of_platform platform) (downstream_config platform line) frame.head)
    passes (inl r) = rising r r.cleared
    passes (inr r) = replying r (port.reply_at platform line listed (set_at line listed) r.target r.relaxed_ordering)
