-- What functions and hosts begin is sound on the link that it enters.
use Rattle.std.proofs.Common.{◌≡◌, ℕ, ◌+◌, ◌*◌, ◌^◌, ◌<◌, ◌≤◌, ◌==◌, inl, Bool, true, false, cond, not, Option, Some, None, List, length, option_map, refl, sym, ap, ◌∙◌, subst, arith, nat_lt, nat_le, slice_index}
use Rattle.std.specs.Option.{is_none}
use Rattle.std.proofs.lemmas.Bool.{and_parts, and_from, leb-true, le-leb, ltb-true}
use Rattle.fab_types.specs.Id.{bus_of, host_of}
use Rattle.fab_types.specs.declared.faults.begin.MmioFault.{MmioFault}
use Rattle.fab_types.specs.declared.faults.begin.SubmitFault.{SubmitFault}
use Rattle.fab_types.specs.declared.faults.begin.TickFault.{TickFault}
use Rattle.fab_types.specs.declared.faults.malformed.Malformed.{Malformed}
use Rattle.fab_types.specs.declared.head.AddressType.{AddressType}
use Rattle.fab_types.specs.declared.head.Header.{Header}
use Rattle.fab_types.specs.declared.head.Header.TheVariants as header
use Rattle.fab_types.specs.declared.head.Parties.{Parties}
use Rattle.fab_types.specs.declared.head.Parties.TheVariants.{Upward, Downward}
use Rattle.fab_types.specs.declared.origin.Origin.{Origin}
use Rattle.fab_types.specs.declared.origin.Origin.TheVariants.{Host}
use Rattle.function.specs.declared.plan.Plan.{Plan}
use Rattle.function.specs.declared.plan.Plan.TheVariants.{Nothing, Halt, Fault, Pass, Emit}
use Rattle.function.specs.declared.tags.OpenTag.{OpenTag}
use Rattle.function.specs.Plans.{emitted_read, fence_plan, line_plan, plan_of, read_plan, write_plan}
use Rattle.function.specs.Program.{is_good, line_at, read_of, write_of}
use Rattle.function.specs.Registers.{counter_of, status_of}
use Rattle.function.specs.Tags.{awaits_line, free_tag}
use Rattle.host_memory.specs.Pages.{page_of}
use Rattle.platform.specs.declared.parts.EndpointFunction.{EndpointFunction}
use Rattle.platform.specs.declared.parts.DownstreamPort.{DownstreamPort}
use Rattle.layout.specs.Laws.{ends_low}
use Rattle.platform.specs.Owners.{bar_of, first_port, holds_bus, is_own_function}
use Rattle.platform.specs.Platform.{Platform}
use Rattle.platform.specs.Share.{Share}
use Rattle.layout.specs.Views.{share_of_domain}
use Rattle.bridge.specs.declared.target.Target.TheVariants.{Address}
use Rattle.bridge.specs.Routes.{target_of}
use Rattle.tlp_view.specs.Bytes.{packet_of}
use Rattle.tlp_view.specs.Kinds.{is_completion, has_address}
use Rattle.tlp_view.specs.Malformed.{malformed}
use Rattle.tlp_view.specs.Packet.{Packet}
use Rattle.tlp_view.specs.Requests.{packet_bytes}
use Rattle.fab_types.specs.declared.host_access.HostAccess.{HostAccess}
use Rattle.fab_types.specs.declared.host_access.Operation.{Operation as Access}
use Rattle.fab_types.specs.declared.host_access.Operation.TheVariants as access
use Rattle.domain.specs.declared.entry.Entry.TheVariants.{Submit, Tick, Mmio}
use Rattle.request_handling.specs.Answers.{page_at}
use Rattle.request_handling.specs.Heads.{descriptor_of, header_unless, packet_header}
use Rattle.domain_state.specs.HostAccesses.{host_emission, host_request, is_in_page, mmio_fault, mmio_unless, mmio_with, size_of, tag_for}
use Rattle.domain.specs.Machine.{change}
use Rattle.request_handling.specs.Emissions.{Emission}
use Rattle.domain_state.specs.State.{Alone, Change}
use Rattle.domain.specs.Submits.{submit_fault, submit_unless}
use Rattle.domain_state.specs.Tags.{completes, is_completion_unless}
use Rattle.domain.specs.Ticks.{sent_by, tick_fault, tick_unless, ticks, ticks_by}
use Rattle.request_handling.specs.WellMade.{IsWellMade}
use Rattle.guarded_routes.specs.Guarded.{IsFunctionOf, IsGuarded, holds_if_any, top_id}
use Rattle.guarded_routes.specs.Sound.{Falling, IsAsked, IsMeantFor, Reaches, Rising, is_reply}
use Rattle.guarded_routes.proofs.Finds.{find_all, some, some_is}
use Rattle.guarded_routes.proofs.Below.{Under, under_root}
use Rattle.guarded_routes.proofs.Nodes.{At, First}
use Rattle.guarded_routes.proofs.Passing.{below, first_port_of}
use Rattle.guarded_routes.proofs.Reaching.{own_of}
use Rattle.guarded_routes.proofs.Spelled.{no_reply, request_read}

-- ---- what functions begin

-- a packet of a kind that is no completion has no completion's header
packet_no_reply : (p : Parties) (t : Packet) → is_completion t.kind ≡ false → is_reply (packet_header p t) ≡ false
packet_no_reply p t other = go (has_address t.kind) refl
  where
    go : (m : Bool) → has_address t.kind ≡ m → is_reply (packet_header p t) ≡ false
    go true e = rw (other, e) refl
    go false e = rw (other, e) refl

no_completion : (p : Parties) (bytes : List ℕ) → completes bytes ≡ false → is_reply (header_unless (malformed bytes) p bytes) ≡ false
no_completion p bytes other = go (malformed bytes) refl other
  where
    go : (m : Option Malformed) → malformed bytes ≡ m → is_completion_unless m bytes ≡ false → is_reply (header_unless m p bytes) ≡ false
    go None e other = packet_no_reply p (packet_of bytes) other
    go (Some cause) e other = refl

good_submit : (own long completing : Bool) (a b c : SubmitFault) (rest : Option SubmitFault) → cond (not own) (some a) (cond long (some b) (cond completing (some c) rest)) ≡ None → (own ≡ true) × (completing ≡ false)
good_submit false long completing a b c rest e = absurd cc
good_submit true true completing a b c rest e = absurd cc
good_submit true false true a b c rest e = absurd cc
good_submit true false false a b c rest e = (refl, refl)

-- what an entry emits
emission_is : (c d : Change) (e : Emission) (o : Option Emission) → some d ≡ some c → c.emission ≡ Some e → d.emission ≡ o → o ≡ Some e
emission_is c d e o made sent is = sym is ∙ (ap (λ (x : Change). x.emission) (some_is d c made) ∙ sent)

pub record Submitted (share : Share) (f : ℕ) (bytes : List ℕ) (e : Emission) : Type 0 where
  pub own : is_own_function share f ≡ true
  pub other : completes bytes ≡ false
  pub is : e ≡ record { parties = Upward f; bytes = bytes }

submitted_by : (share : Share) (s : Alone) (f : ℕ) (bytes : List ℕ) (c : Change) (e : Emission) (o : Option SubmitFault) → submit_fault share s f bytes ≡ o → submit_unless o s f bytes ≡ Some c → c.emission ≡ Some e → Submitted share f bytes e
submitted_by share s f bytes c e (Some fault) fine made sent = absurd cc
submitted_by share s f bytes c e None fine made sent =
    let good = good_submit (is_own_function share f) (nat_lt 272 (length bytes)) (completes bytes) _ _ _ _ fine in
    let is = some_is _ e (emission_is c _ e _ made sent refl) in
    record { own = good.0; other = good.1; is = sym is }

module _ (platform : Platform) (g : IsGuarded platform) where
  -- what a function sends is sound below its first port
  pub rising_at : (d f number : ℕ) (e : Emission) (bytes : List ℕ) → is_own_function (share_of_domain platform d) f ≡ true → e ≡ record { parties = Upward f; bytes = bytes } → is_reply (header_unless (malformed bytes) (Upward f) bytes) ≡ false
      → Rising platform f (descriptor_of d number e)
  rising_at d f number e bytes own is other =
      let home = own_of platform g d f own in
      let first = first_port_of platform g d f home in
      record {
        function = f;
        own = home;
        parties = ap (λ (e : Emission). e.parties) is;
        request = ap (λ (e : Emission). is_reply (header_unless (malformed e.bytes) e.parties e.bytes)) is ∙ other;
        below = below platform g d f f (Some first.port) first (At.Over first.port first.listed first.below) Under.Here;
        cleared = inl refl;
        passed = λ port listed held less. let high : port.secondary ≤ bus_of f = held_low port held in absurd (omega (arith, less, high));
      }
    where
      held_low : (port : DownstreamPort) → holds_bus port (bus_of f) ≡ true → port.secondary ≤ bus_of f
      held_low port held = leb-true port.secondary (bus_of f) (and_parts _ _ held).0

  pub submits : (d f number : ℕ) (bytes : List ℕ) (s : Alone) (c : Change) (e : Emission) → change (share_of_domain platform d) s (Submit f bytes) ≡ Some c → c.emission ≡ Some e → Rising platform f (descriptor_of d number e)
  submits d f number bytes s c e made sent =
      let share = share_of_domain platform d in
      let by = submitted_by share s f bytes c e (submit_fault share s f bytes) refl made sent in
      rising_at d f number e bytes by.own by.is (no_completion (Upward f) bytes by.other)

-- what a plan sends is no completion
abbrev Sends : ℕ → Plan → Type 0
Sends f Nothing = Unit {0}
Sends f Halt = Unit {0}
Sends f Fault = Unit {0}
Sends f Pass = Unit {0}
Sends f (Emit packet opened) = is_reply (header_unless (malformed (packet_bytes packet)) (Upward f) (packet_bytes packet)) ≡ false

write_sends : (f : ℕ) (page : List ℕ) (n : ℕ) → Sends f (write_plan f page (line_at page n))
write_sends f page n = go (is_good (line_at page n))
  where
    go : (b : Bool) → Sends f (cond b (Emit (write_of f page (line_at page n)) None) Fault)
    go true = let t = write_of f page (line_at page n) in no_reply t.kind t.attributes t.address_type t.length t.requester t.tag _ _ t.payload refl (Upward f) t.has_4dw_header
    go false = tt

read_sends : (f : ℕ) (page : List ℕ) (tags : List OpenTag) (n : ℕ) → Sends f (read_plan f tags (line_at page n))
read_sends f page tags n = go (is_good (line_at page n)) (free_tag tags f)
  where
    go : (b : Bool) (tag : Option ℕ) → Sends f (cond b (emitted_read f (line_at page n) tag) Fault)
    go true None = tt
    go true (Some tag) = let t = read_of f tag (line_at page n) in no_reply t.kind t.attributes t.address_type t.length t.requester t.tag _ _ t.payload refl (Upward f) t.has_4dw_header
    go false tag = tt

fence_sends : (f : ℕ) (tags : List OpenTag) → Sends f (fence_plan f tags)
fence_sends f tags = go (awaits_line tags f)
  where
    go : (b : Bool) → Sends f (cond b Nothing Pass)
    go true = tt
    go false = tt

line_sends : (f : ℕ) (page : List ℕ) (tags : List OpenTag) (n : ℕ) → Sends f (line_plan f page tags (line_at page n))
line_sends f page tags n = go (code == 0) (code == 1) (code == 2) (code == 3) refl refl refl refl
  where
    code : ℕ
    code = slice_index page (0x100 + 16 * n)

    go : (halt write read fence : Bool) → (slice_index page (0x100 + 16 * n) == 0) ≡ halt → (slice_index page (0x100 + 16 * n) == 1) ≡ write → (slice_index page (0x100 + 16 * n) == 2) ≡ read → (slice_index page (0x100 + 16 * n) == 3) ≡ fence
        → Sends f (line_plan f page tags (line_at page n))
    go true write read fence h i j k = rw h tt
    go false true read fence h i j k = rw (h, i) (write_sends f page n)
    go false false true fence h i j k = rw (h, i, j) (read_sends f page tags n)
    go false false false true h i j k = rw (h, i, j, k) (fence_sends f tags)
    go false false false false h i j k = rw (h, i, j, k) tt

plan_sends : (f : ℕ) (page : List ℕ) (tags : List OpenTag) → Sends f (plan_of f page tags)
plan_sends f page tags = go (status_of page == 1)
  where
    go : (b : Bool) → Sends f (cond b (line_plan f page tags (line_at page (counter_of page))) Nothing)
    go true = line_sends f page tags (counter_of page)
    go false = tt

good_tick : (own spent : Bool) (a b : TickFault) → cond (not own) (some a) (cond spent (some b) None) ≡ None → own ≡ true
good_tick false spent a b e = absurd cc
good_tick true spent a b e = refl

-- the request of a tick
record Ticked (share : Share) (f : ℕ) (e : Emission) : Type 0 where
  bytes : List ℕ
  own : is_own_function share f ≡ true
  is : e ≡ record { parties = Upward f; bytes = bytes }
  other : is_reply (header_unless (malformed bytes) (Upward f) bytes) ≡ false

sent_is : (share : Share) (f : ℕ) (plan : Plan) (e : Emission) → is_own_function share f ≡ true → Sends f plan → sent_by f plan ≡ Some e → Ticked share f e
sent_is share f Nothing e own sends sent = absurd cc
sent_is share f Halt e own sends sent = absurd cc
sent_is share f Fault e own sends sent = absurd cc
sent_is share f Pass e own sends sent = absurd cc
sent_is share f (Emit packet opened) e own sends sent = record { bytes = packet_bytes packet; own = own; is = sym (some_is _ e sent); other = sends }

ticks_is : (share : Share) (s : Alone) (f : ℕ) (page : Option (List ℕ)) (c : Change) (e : Emission) → is_own_function share f ≡ true → ticks s f page ≡ Some c → c.emission ≡ Some e → Ticked share f e
ticks_is share s f None c e own made sent = absurd cc
ticks_is share s f (Some page) c e own made sent = sent_is share f (plan_of f page s.open_tags) e own (plan_sends f page s.open_tags) (emission_is c (ticks_by s f (plan_of f page s.open_tags)) e _ made sent refl)

ticked_by : (share : Share) (s : Alone) (f : ℕ) (c : Change) (e : Emission) (o : Option TickFault) → tick_fault share s f ≡ o → tick_unless o s f ≡ Some c → c.emission ≡ Some e → Ticked share f e
ticked_by share s f c e (Some fault) fine made sent = absurd cc
ticked_by share s f c e None fine made sent = ticks_is share s f (page_of s.registers f) c e (good_tick (is_own_function share f) (nat_le share.budget s.counts.begins) _ _ fine) made sent

module _ (platform : Platform) (g : IsGuarded platform) where
  pub ticks_up : (d f number : ℕ) (s : Alone) (c : Change) (e : Emission) → change (share_of_domain platform d) s (Tick f) ≡ Some c → c.emission ≡ Some e → Rising platform f (descriptor_of d number e)
  ticks_up d f number s c e made sent =
      let share = share_of_domain platform d in
      let by = ticked_by share s f c e (tick_fault share s f) refl made sent in
      rising_at platform g d f number e by.bytes by.own by.is by.other

-- ---- what hosts begin

-- the page of a function is in the window of its first port
record InWindow (line : DownstreamPort) (address : ℕ) : Type 0 where
  after : line.base ≤ address
  before : address ≤ line.limit

module _ (platform : Platform) (g : IsGuarded platform) where
  bar_in : (d f bar offset : ℕ) (first : First platform d f) → bar_of platform.functions f ≡ Some bar → offset < 4096 → InWindow first.port (page_at bar + offset)
  bar_in d f bar offset first found less =
      let same : first.line.bar ≡ bar = some_is first.line.bar bar (sym (ap (option_map (λ (line : EndpointFunction). line.bar)) first.found) ∙ found) in
      let whole = first.whole in
      let base = first.base in
      let limit = first.limit in
      record { after = omega (arith, same, whole, base, less); before = omega (arith, same, whole, limit, less) }

  -- so it has 32 bits
  bar_low : (d f address : ℕ) (first : First platform d f) → InWindow first.port address → address < 2 ^ 64
  bar_low d f address first within =
      let low : first.port.limit < 2 ^ 32 = ltb-true first.port.limit (2 ^ 32) (find_all (λ (q : DownstreamPort). q.id == first.port.id) ends_low platform.ports first.port first.listed g.laws.windows) in
      let before = within.before in
      omega (arith, low, before)

  -- a request to the register page of a function of the domain falls from the host
  pub falls_from_host : (d f requester bar offset number : ℕ) (x : Option Origin) (e : Emission) (kind_address : AddressType) → IsFunctionOf platform d f → bar_of platform.functions f ≡ Some bar → offset < 4096 → Reaches platform d requester x
      → e.parties ≡ Downward f → (descriptor_of d number e).head.header ≡ header.Memory requester kind_address (page_at bar + offset) → Falling platform top_id (descriptor_of d number e)
  falls_from_host d f requester bar offset number x e kind_address own found less reaches parties is =
      let first = first_port_of platform g d f own in
      let within = bar_in d f bar offset first found less in
      record {
        function = f;
        own = own;
        below = below platform g d f top_id None first (At.Top refl) (under_root platform g.laws first.port first.listed);
        held = subst (λ (h : Header). holds_if_any (first_port platform.ports f) (target_of h) ≡ true) (sym is) (held (first_port platform.ports f) first.port first.is within);
        meant = subst (λ (h : Header). IsMeantFor platform d f e.parties h) (sym is) (IsAsked.ByHost parties, x, reaches);
      }
    where
      held : (o : Option DownstreamPort) (line : DownstreamPort) → o ≡ Some line → InWindow line (page_at bar + offset) → holds_if_any o (Some (Address (page_at bar + offset))) ≡ true
      held o line same within =
          subst (λ (o : Option DownstreamPort). holds_if_any o (Some (Address (page_at bar + offset))) ≡ true) (sym same)
          (and_from _ _ (le-leb line.base (page_at bar + offset) within.after) (le-leb (page_at bar + offset) line.limit within.before))

  pub low_at : (d f bar offset : ℕ) → IsFunctionOf platform d f → bar_of platform.functions f ≡ Some bar → offset < 4096 → page_at bar + offset < 2 ^ 64
  low_at d f bar offset own found less = let first = first_port_of platform g d f own in bar_low d f (page_at bar + offset) first (bar_in d f bar offset first found less)

  -- the header of an access of the host
  access_header : (d tag address : ℕ) (operation : Access) (p : Parties) → address < 2 ^ 64 → malformed (packet_bytes (host_request d tag address operation)) ≡ None
      → (kind_address : AddressType) × (header_unless (malformed (packet_bytes (host_request d tag address operation))) p (packet_bytes (host_request d tag address operation)) ≡ header.Memory (host_of d) kind_address address)
  access_header d tag address (access.Read count) p low well = let t = host_request d tag address (access.Read count) in request_read t.kind t.attributes t.address_type t.length t.requester t.tag _ address t.payload refl p t.has_4dw_header refl low well
  access_header d tag address (access.Write bytes) p low well = let t = host_request d tag address (access.Write bytes) in request_read t.kind t.attributes t.address_type t.length t.requester t.tag _ address t.payload refl p t.has_4dw_header refl low well

  good_access : (own within none spent : Bool) (a b c h : MmioFault) → cond (not own) (some a) (cond (not within) (some b) (cond none (some c) (cond spent (some h) None))) ≡ None → (own ≡ true) × (within ≡ true)
  good_access false within none spent a b c h e = absurd cc
  good_access true false none spent a b c h e = absurd cc
  good_access true true none spent a b c h e = (refl, refl)

  in_page : (offset size : ℕ) → is_in_page offset size ≡ true → offset < 4096
  in_page offset size h =
      let last = and_parts _ (nat_le (offset + size) 4096) h in
      let most = and_parts _ (nat_le size 256) last.0 in
      let least = and_parts _ (nat_le 4 size) most.0 in
      let a : offset + size ≤ 4096 = leb-true (offset + size) 4096 last.1 in
      let b : 4 ≤ size = leb-true 4 size least.1 in
      omega arith

  access_by : (d number : ℕ) (s : Alone) (x : HostAccess) (c : Change) (e : Emission) (tag bar : Option ℕ) → is_own_function (share_of_domain platform d) x.function ≡ true → x.offset < 4096 → bar_of platform.functions x.function ≡ bar
      → mmio_with (share_of_domain platform d) s x tag bar ≡ Some c → c.emission ≡ Some e → IsWellMade e.parties e.bytes → Falling platform top_id (descriptor_of d number e)
  access_by d number s x c e None bar own less found made sent well = absurd cc
  access_by d number s x c e (Some tag) None own less found made sent well = absurd cc
  access_by d number s x c e (Some tag) (Some bar) own less found made sent well =
      let home = own_of platform g d x.function own in
      let is : host_emission d tag bar x ≡ e = some_is _ e (emission_is c _ e _ made sent refl) in
      let well' : IsWellMade (Downward x.function) (packet_bytes (host_request d tag (page_at bar + x.offset) x.operation)) = subst (λ (e : Emission). IsWellMade e.parties e.bytes) (sym is) well in
      let h = access_header d tag (page_at bar + x.offset) x.operation (Downward x.function) (low_at d x.function bar x.offset home found less) well'.0 in
      subst (λ (e : Emission). Falling platform top_id (descriptor_of d number e)) is
      (falls_from_host d x.function (host_of d) bar x.offset number (Some (Host d)) (host_emission d tag bar x) h.0 home found less (Reaches.ByHost refl) refl h.1)

  accessed_by : (d number : ℕ) (s : Alone) (x : HostAccess) (c : Change) (e : Emission) (o : Option MmioFault) → mmio_fault (share_of_domain platform d) s x ≡ o → mmio_unless o (share_of_domain platform d) s x ≡ Some c → c.emission ≡ Some e → IsWellMade e.parties e.bytes
      → Falling platform top_id (descriptor_of d number e)
  accessed_by d number s x c e (Some fault) fine made sent well = absurd cc
  accessed_by d number s x c e None fine made sent well =
      let share = share_of_domain platform d in
      let good = good_access (is_own_function share x.function) (is_in_page x.offset (size_of x.operation)) (is_none (tag_for s.open_tags d x.operation)) (nat_le share.budget s.counts.begins) _ _ _ _ fine in
      access_by d number s x c e (tag_for s.open_tags d x.operation) (bar_of platform.functions x.function) good.0 (in_page x.offset (size_of x.operation) good.1) refl made sent well

  -- an access of the host is sound on the host's link
  pub accesses_down : (d number : ℕ) (s : Alone) (x : HostAccess) (c : Change) (e : Emission) → change (share_of_domain platform d) s (Mmio x) ≡ Some c → c.emission ≡ Some e → IsWellMade e.parties e.bytes → Falling platform top_id (descriptor_of d number e)
  accesses_down d number s x c e made sent well = accessed_by d number s x c e (mmio_fault (share_of_domain platform d) s x) refl made sent well
