-- The way from a link up to the host: it is there, it is one, and its buses fall.
use Rattle.std.proofs.Common.{◌≡◌, ℕ, zero, suc, ◌<◌, ◌≤◌, ◌==◌, true, List, [], ◌∷◌, ◌++◌, All, slice_get, Option, Some, None, option_and_then, option_map, refl, sym, ap, ◌∙◌, subst, arith}
use Rattle.std.proofs.lemmas.Bool.{eqb-true}
use Rattle.std.proofs.lemmas.List.Elements.{All-cons, All-nil}
use Rattle.std.proofs.lemmas.Option.{get_or_from_slice_get, slice_get_within}
use Rattle.fab_types.specs.Id.{bus_of}
use Rattle.platform.specs.declared.parts.DownstreamPort.{DownstreamPort}
use Rattle.platform.specs.declared.parts.Switch.{Switch}
use Rattle.platform.specs.Owners.{holds_bus}
use Rattle.platform.specs.Platform.{Platform}
use Rattle.platform.specs.Tree.{id_below, port_above, port_leading_to}
use Rattle.guarded_routes.specs.Guarded.{IsFunctionOf, IsGuarded, top_id}
use Rattle.guarded_routes.specs.Links.{IsPath, IsWay, link_above, link_above_port}
use Rattle.bridge.specs.declared.target.Target.TheVariants.{Bus}
use Rattle.guarded_routes.proofs.Below.{Under, holds_own, later, not_first}
use Rattle.guarded_routes.proofs.Finds.{find_passes, some, some_is}
use Rattle.guarded_routes.proofs.Nodes.{At, holder_above, over_is}
use Rattle.guarded_routes.proofs.Passing.{SwitchAbove, first_leads, first_port_of, switch_over}
use Rattle.guarded_routes.proofs.Trees.{IsPort, is_port, parent, stands}

-- ---- the buses of a way fall

-- the bus at a link's lower end comes before this one
abbrev IsBefore : ℕ → ℕ → Type 0
IsBefore bus link = bus_of link < bus

pub all_before : (platform : Platform) (last bus lower : ℕ) (links : List ℕ) → IsPath platform last lower links → bus_of lower < bus → All (λ (link : ℕ). bus_of link < bus) links
all_before platform last bus _ _ IsPath.AtLast less = All-cons (IsBefore bus) last [] less (All-nil (IsBefore bus))
all_before platform last bus _ _ (IsPath.Above lower above links e falls way) less = All-cons (IsBefore bus) lower links less (all_before platform last bus above links way (omega (arith, falls, less)))

-- the last link of a path has the least bus
pub last_least : (platform : Platform) (last lower : ℕ) (links : List ℕ) → IsPath platform last lower links → bus_of last ≤ bus_of lower
last_least platform last _ _ IsPath.AtLast = omega arith
last_least platform last _ _ (IsPath.Above lower above links e falls way) = let least = last_least platform last above links way in omega (arith, falls, least)

pub none_after_last : (platform : Platform) (last lower : ℕ) (links : List ℕ) → IsPath platform last lower links → All (λ (link : ℕ). bus_of last ≤ bus_of link) links
none_after_last platform last _ _ IsPath.AtLast = All-cons (λ (link : ℕ). bus_of last ≤ bus_of link) last [] (omega arith) (All-nil (λ (link : ℕ). bus_of last ≤ bus_of link))
none_after_last platform last _ _ (IsPath.Above lower above links e falls way) =
    let least = last_least platform last above links way in
    All-cons (λ (link : ℕ). bus_of last ≤ bus_of link) lower links (omega (arith, falls, least)) (none_after_last platform last above links way)

pub starts : (platform : Platform) (lower first : ℕ) (links : List ℕ) → IsWay platform lower (first ∷ links) → first ≡ lower
starts platform _ _ _ IsPath.AtLast = refl
starts platform _ _ _ (IsPath.Above lower above links e falls way) = refl

pub buses_fall : (platform : Platform) (lower first : ℕ) (links : List ℕ) → IsWay platform lower (first ∷ links) → All (λ (link : ℕ). bus_of link < bus_of first) links
buses_fall platform _ _ _ IsPath.AtLast = All-nil (IsBefore (bus_of top_id))
buses_fall platform _ _ _ (IsPath.Above lower above links e falls way) = all_before platform top_id (bus_of lower) above links way falls

-- behind the first link of a way comes the way of the one above
pub tails : (platform : Platform) (lower first next : ℕ) (links : List ℕ) → IsWay platform lower (first ∷ next ∷ links) → (link_above platform first ≡ Some next) × IsWay platform next (next ∷ links)
tails platform _ _ next links (IsPath.Above lower above _ e falls way) =
    let same = starts platform above next links way in
    (e ∙ ap some (sym same), subst (λ (n : ℕ). IsWay platform n (next ∷ links)) (sym same) way)

-- of two places of a way the later has the lower bus
pub later_lower : (platform : Platform) (lower : ℕ) (links : List ℕ) → IsWay platform lower links → (i j one other : ℕ) → i < j → slice_get links i ≡ Some one → slice_get links j ≡ Some other → bus_of other < bus_of one
later_lower platform lower links way i zero one other order here there = absurd (omega arith)
later_lower platform _ _ IsPath.AtLast i (suc j) one other order here there = absurd cc
later_lower platform _ _ (IsPath.Above lower above links e falls way) zero (suc j) one other order here there =
    let all = all_before platform top_id (bus_of lower) above links way falls in
    let at : bus_of other < bus_of lower = subst (λ (n : ℕ). bus_of n < bus_of lower) (get_or_from_slice_get links j other other there) (all j other (slice_get_within links j other there)) in
    subst (λ (n : ℕ). bus_of other < bus_of n) (some_is lower one here) at
later_lower platform _ _ (IsPath.Above lower above links e falls way) (suc i) (suc j) one other order here there = later_lower platform above links way i j one other (omega arith) here there

module _ (platform : Platform) (g : IsGuarded platform) where
  -- ---- the link above a port

  -- a link with another above it: the port over it, and that port's switch
  pub record Joined (lower above : ℕ) : Type 0 where
    pub port : DownstreamPort
    pub listed : IsPort platform port
    pub below : lower ≡ id_below port
    pub over : SwitchAbove platform g port
    pub is : over.switch.id ≡ above

  pub joined : (lower above : ℕ) → link_above platform lower ≡ Some above → Joined lower above
  joined lower above e = go (port_leading_to platform.ports lower) refl e
    where
      go : (o : Option DownstreamPort) → port_leading_to platform.ports lower ≡ o → option_and_then (link_above_port platform) o ≡ Some above → Joined lower above
      go None found e = absurd cc
      go (Some p) found e =
          let listed = is_port platform g.laws (λ (q : DownstreamPort). id_below q == lower) p found in
          let over = switch_over platform g p listed in
          record {
            port = p;
            listed = listed;
            below = sym (eqb-true (id_below p) lower (find_passes (λ (q : DownstreamPort). id_below q == lower) platform.ports p found));
            over = over;
            is = some_is over.switch.id above (ap (option_map (λ (switch : Switch). switch.id)) (sym over.on) ∙ e);
          }

  -- the link below a port has that of the port's switch above it
  pub above_is : (port : DownstreamPort) → IsPort platform port → (switch : Switch) → link_above_port platform port ≡ Some switch.id → link_above platform (id_below port) ≡ Some switch.id
  above_is port listed switch e = ap (option_and_then (link_above_port platform)) (over_is platform g.laws port listed) ∙ e

  pub above_switch : (port : DownstreamPort) (listed : IsPort platform port) (s : SwitchAbove platform g port) → link_above platform (id_below port) ≡ Some s.switch.id
  above_switch port listed s = above_is port listed s.switch (ap (option_map (λ (switch : Switch). switch.id)) s.on)

  -- the host's link has none above it
  pub none_above : link_above platform top_id ≡ None
  none_above = go (port_leading_to platform.ports top_id) refl
    where
      go : (o : Option DownstreamPort) → port_leading_to platform.ports top_id ≡ o → option_and_then (link_above_port platform) o ≡ None
      go None found = refl
      go (Some p) found =
          let listed = is_port platform g.laws (λ (q : DownstreamPort). id_below q == top_id) p found in
          let below : id_below p ≡ top_id = eqb-true (id_below p) top_id (find_passes (λ (q : DownstreamPort). id_below q == top_id) platform.ports p found) in
          let more = not_first platform g.laws p listed in
          absurd (omega (arith, below, more))

  -- ---- the way

  way_from : (n lower : ℕ) (o : Option DownstreamPort) → At platform lower o → bus_of lower ≤ n → (links : List ℕ) × IsWay platform lower links
  way_from n lower _ (At.Top e) le = (top_id ∷ [], subst (λ (l : ℕ). IsWay platform l (top_id ∷ [])) (sym e) IsPath.AtLast)
  way_from zero lower _ (At.Over p listed e) le = let more = not_first platform g.laws p listed in absurd (omega (arith, e, more, le))
  way_from (suc n) lower _ (At.Over p listed e) le =
      let s = switch_over platform g p listed in
      let bus = s.bus in
      let after = (stands platform g.laws p listed).after in
      let falls : bus_of s.switch.id < bus_of lower = omega (arith, e, bus, after) in
      let rest = way_from n s.switch.id (port_above platform.ports s.switch) s.at (omega (arith, falls, le)) in
      let above : link_above platform lower ≡ Some s.switch.id = ap (link_above platform) e ∙ above_switch p listed s in
      (lower ∷ rest.0, IsPath.Above lower s.switch.id rest.0 above falls rest.1)

  pub way_of : (domain function : ℕ) → IsFunctionOf platform domain function → (links : List ℕ) × IsWay platform function links
  way_of domain function own =
      let first = first_port_of platform g domain function own in
      way_from (bus_of function) function (Some first.port) (At.Over first.port first.listed first.below) (omega arith)

  -- a path ends at its last link, or goes on above its first
  data Goes (last lower : ℕ) (links : List ℕ) : Type 0 where
    Ends : lower ≡ last → last ∷ [] ≡ links → Goes last lower links
    On : (above : ℕ) (rest : List ℕ) → link_above platform lower ≡ Some above → bus_of last < bus_of lower → IsPath platform last above rest → lower ∷ rest ≡ links → Goes last lower links

  goes : (last lower : ℕ) (links : List ℕ) → IsPath platform last lower links → Goes last lower links
  goes last _ _ IsPath.AtLast = Goes.Ends refl refl
  goes last _ _ (IsPath.Above lower above links e falls way) = let least = last_least platform last above links way in Goes.On above links e (omega (arith, falls, least)) way refl

  -- a link has one path to another
  pub one_path : (last lower : ℕ) (one other : List ℕ) → IsPath platform last lower one → IsPath platform last lower other → one ≡ other
  one_path last _ _ other IsPath.AtLast way = go (goes last last other way)
    where
      go : Goes last last other → last ∷ [] ≡ other
      go (Goes.Ends e is) = is
      go (Goes.On above rest e less further is) = absurd (omega (arith, less))
  one_path last _ _ other (IsPath.Above lower above links e falls further) way = go (goes last lower other way) (λ rest more. one_path last above links rest further more)
    where
      least : bus_of last ≤ bus_of above
      least = last_least platform last above links further

      go : Goes last lower other → ((rest : List ℕ) → IsPath platform last above rest → links ≡ rest) → lower ∷ links ≡ other
      go (Goes.Ends top is) same = let bus = ap bus_of top in let after = least in absurd (omega (arith, bus, after, falls))
      go (Goes.On next rest i less more is) same =
          let one : next ≡ above = some_is next above (sym i ∙ e) in
          ap (λ (l : List ℕ). lower ∷ l) (same rest (subst (λ (n : ℕ). IsPath platform last n rest) one more)) ∙ is

  -- so it has one way
  pub one_way : (lower : ℕ) (one other : List ℕ) → IsWay platform lower one → IsWay platform lower other → one ≡ other
  one_way lower one other way also = one_path top_id lower one other way also

  -- ---- the path from a function to a port above it

  -- one link more at its end
  extended : (last above lower : ℕ) (links : List ℕ) → IsPath platform last lower links → link_above platform last ≡ Some above → bus_of above < bus_of last → IsPath platform above lower (links ++ above ∷ [])
  extended last above _ _ IsPath.AtLast e less = IsPath.Above last above (above ∷ []) e less IsPath.AtLast
  extended last above _ _ (IsPath.Above lower next links i falls further) e less = IsPath.Above lower next (links ++ above ∷ []) i falls (extended last above next links further e less)

  at_over : (lower : ℕ) (o : Option DownstreamPort) (p : DownstreamPort) → At platform lower o → o ≡ Some p → lower ≡ id_below p
  at_over lower _ p (At.Top e) is = absurd cc
  at_over lower _ p (At.Over q listed e) is = e ∙ ap id_below (some_is q p is)

  step_up : (q line : DownstreamPort) → IsPort platform q → parent platform q ≡ Some line → (link_above platform (id_below q) ≡ Some (id_below line)) × (bus_of (id_below line) < bus_of (id_below q))
  step_up q line port over =
      let s = switch_over platform g q port in
      let is : s.switch.id ≡ id_below line = at_over s.switch.id (port_above platform.ports s.switch) line s.at (sym s.above ∙ over) in
      let less = later platform g.laws q line port over in
      (above_switch q port s ∙ ap (λ (n : ℕ). Some n) is, omega (arith, less))

  path_under : (f : DownstreamPort) {o : Option DownstreamPort} → Under platform f o → (line : DownstreamPort) → o ≡ Some line → (links : List ℕ) × IsPath platform (id_below line) (id_below f) links
  path_under f Under.Here line is =
      let same : id_below f ≡ id_below line = ap id_below (some_is f line is) in
      (id_below line ∷ [], subst (λ (n : ℕ). IsPath platform (id_below line) n (id_below line ∷ [])) (sym same) IsPath.AtLast)
  path_under f (Under.Step {q = q} port e u) line is =
      let rest = path_under f u q refl in
      let up = step_up q line port (e ∙ is) in
      (rest.0 ++ id_below line ∷ [], extended (id_below q) (id_below line) (id_below f) rest.0 rest.1 up.0 up.1)

  pub path_to : (domain function : ℕ) → IsFunctionOf platform domain function → (line : DownstreamPort) → IsPort platform line → holds_bus line (bus_of function) ≡ true → (links : List ℕ) × IsPath platform (id_below line) function links
  path_to domain function own line listed held =
      let first = first_port_of platform g domain function own in
      let at = first.below in
      let bus : bus_of function ≡ first.port.secondary = omega (arith, at) in
      let u = holder_above platform g line first.port listed first.listed (first_leads platform g domain function own first) (Bus (bus_of function)) held (ap (holds_bus first.port) bus ∙ holds_own platform g.laws first.port first.listed) in
      let path = path_under first.port u line refl in
      (path.0, subst (λ (n : ℕ). IsPath platform (id_below line) n path.0) (sym first.below) path.1)
