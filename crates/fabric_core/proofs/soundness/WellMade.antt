-- What the machine of a domain makes is well made, and its pages keep their size.
use Rattle.std.proofs.Common.{◌≡◌, ℕ, zero, suc, ◌+◌, ◌/◌, ◌%◌, ◌≤◌, ◌&&◌, ◌||◌, Bool, true, false, not, cond, nat_le, nat_lt, List, [], ◌∷◌, length, Option, Some, None, refl, sym, ap, ◌∙◌, subst, arith}
use Rattle.std.specs.Prelude.{All, is_none, option_map}
use Rattle.std.proofs.lemmas.Bool.{ltb-false}
use Rattle.std.proofs.lemmas.List.Elements.{All-head, All-tail}
use Rattle.std.proofs.lemmas.Option.{same_Some}
use Rattle.fab_types.specs.declared.class.Class.{Class}
use Rattle.fab_types.specs.declared.class.Class.TheVariants.{Completion, NonPosted, Posted}
use Rattle.fab_types.specs.declared.faults.begin.MmioFault.{MmioFault}
use Rattle.fab_types.specs.declared.faults.begin.SubmitFault.{SubmitFault}
use Rattle.fab_types.specs.declared.faults.begin.TickFault.{TickFault}
use Rattle.fab_types.specs.declared.faults.malformed.Malformed.{Malformed}
use Rattle.fab_types.specs.declared.head.Answerer.{Answerer}
use Rattle.fab_types.specs.declared.head.Answerer.TheVariants as by
use Rattle.fab_types.specs.declared.head.Parties.{Parties}
use Rattle.fab_types.specs.declared.head.Parties.TheVariants.{Answer, Downward, Upward}
use Rattle.fab_types.specs.declared.origin.Origin.{Origin}
use Rattle.fab_types.specs.declared.origin.Origin.TheVariants.{Function, Host}
use Rattle.fab_types.specs.declared.status.Status.{Status}
use Rattle.fab_types.specs.declared.status.Status.TheVariants.{UR}
use Rattle.function.specs.declared.plan.Plan.{Plan}
use Rattle.function.specs.declared.plan.Plan.TheVariants.{Nothing, Halt, Fault, Pass, Emit}
use Rattle.function.specs.Accesses.{IsAccess, accessed, read_data}
use Rattle.function.specs.Closings.{closed_by}
use Rattle.function.specs.Plans.{page_after, plan_of}
use Rattle.host_memory.specs.Pages.{page_of}
use Rattle.platform.specs.declared.parts.Access.TheVariants.{Read, Write}
use Rattle.platform.specs.declared.parts.MapTarget.{MapTarget}
use Rattle.platform.specs.declared.parts.MapTarget.TheVariants.{Frame, Peer}
use Rattle.platform.specs.declared.parts.DownstreamPort.{DownstreamPort}
use Rattle.platform.specs.Egress.{direct_to}
use Rattle.platform.specs.Owners.{bar_of, first_port, is_own_function}
use Rattle.platform.specs.Platform.{Platform}
use Rattle.platform.specs.Reach.{reach}
use Rattle.platform.specs.Share.{Share}
use Rattle.platform.specs.Tables.{target_of}
use Rattle.layout.specs.Views.{share_of_domain}
use Rattle.tlp_view.specs.Bytes.{packet_of}
use Rattle.tlp_view.specs.Completions.{read_completion}
use Rattle.tlp_view.specs.Kinds.{class_of_kind, has_address, is_fetch_add, is_memory}
use Rattle.tlp_view.specs.Malformed.{malformed}
use Rattle.tlp_view.specs.Packet.{Packet, dw_count, status_in}
use Rattle.tlp_view.specs.Requests.{packet_bytes}
use Rattle.tlp_view.specs.Runs.{is_write, runs}
use Rattle.fab_types.specs.declared.host_access.HostAccess.{HostAccess}
use Rattle.domain.specs.declared.entry.Entry.{Entry}
use Rattle.domain.specs.declared.entry.Entry.TheVariants.{Alien, Carry, Deliver, Mmio, Refuse, Submit, Tick}
use Rattle.request_handling.specs.declared.fate.Fate.{Fate}
use Rattle.request_handling.specs.declared.fate.Fate.TheVariants.{Vanish, Refused, ToHost, Direct}
use Rattle.request_handling.specs.declared.handling.Handling.{Handling}
use Rattle.request_handling.specs.Answers.{address_of, answered_by, forwarded, function_answer, function_refusal, host_data, host_operand, host_refusal, page_at, port_answer, shown}
use Rattle.request_handling.specs.AtFunctions.{access_of, discarded, is_access, lies_in, or_discarded, request_at_function, unserved}
use Rattle.request_handling.specs.Carries.{add_if, answer_refusal, carriage_by, carriage_of, forward, frame_for, is_carried, port_id, read_from, refusal_by, refusal_of, refused_by_host, serve, serve_add, serve_read, write_to}
use Rattle.domain.specs.Deliveries.{arrival_at, arrival_of, arrived, is_awaited, recorded, unexpected}
use Rattle.function.specs.Tags.{use_of}
use Rattle.domain_state.specs.Closings.{completed}
use Rattle.domain.specs.Domains.{DomainView}
use Rattle.domain_state.specs.Ends.{conclude, replied, with_access}
use Rattle.request_handling.specs.Fates.{fate, fate_below, fate_unless, goes_to, stopped}
use Rattle.domain_state.specs.HostAccesses.{host_emission, is_in_page, mmio_fault, mmio_unless, mmio_with, size_of, tag_for}
use Rattle.domain.specs.Machine.{carry, change, deliver, refuse}
use Rattle.request_handling.specs.Emissions.{Emission}
use Rattle.domain_state.specs.State.{Alone, Change, Delivery, emits_nothing, item_at, without}
use Rattle.domain.specs.Submits.{submit_fault, submit_unless}
use Rattle.domain.specs.Ticks.{sent_by, tick_fault, tick_unless, ticked, ticks}
use Rattle.request_handling.specs.WellMade.{IsWellMade}
use Rattle.request_handling.proofs.Discarding.{answer_discarded}
use Rattle.request_handling.proofs.WellMadeLemmas.{is_an_access, left_memory, write_access, write_memory}
use Rattle.domain.proofs.FunctionFits.{both-first}
use Rattle.guarded_routes.specs.Guarded.{IsFunctionOf, IsGuarded}
use Rattle.guarded_routes.proofs.Begins.{low_at}
use Rattle.guarded_routes.proofs.Homes.{peer_of}
use Rattle.guarded_routes.proofs.Reaching.{own_of}
use Rattle.fabric_core.specs.Soundness.{IsPage, IsWellKept, IsWellMadeIfAny}
use Rattle.fabric_core.proofs.soundness.LongPages.{all_added, all_changed, all_stored, keeps_access, keeps_closing, keeps_plan}
use Rattle.fabric_core.proofs.soundness.SoundDomains.{IsFine, IsOwnShare}
use Rattle.fabric_core.proofs.soundness.WellReplied.{access_made, data_made, in_page_low, moved_made, operand_made, page_long, read_few, read_long, refusal_made, shown_long}

-- an entry of the fabric's own events
abbrev pub IsOwn : Entry → Type 0
IsOwn (Alien place sender bytes) = ⊥
IsOwn entry = Unit {0}

-- the pages of a state have 4,096 bytes
record AreLong (s : Alone) : Type 0 where
  frames : All IsPage s.frames
  registers : All IsPage s.registers

-- what is emitted, if anything, is well made
abbrev IsMade : Option Emission → Type 0
IsMade o = (e : Emission) → o ≡ Some e → IsWellMade e.parties e.bytes

made_nothing : IsMade None
made_nothing e is = absurd cc

made_so : (x : Emission) → IsWellMade x.parties x.bytes → IsMade (Some x)
made_so x well e is = subst (λ (e : Emission). IsWellMade e.parties e.bytes) (same_Some x e is) well

-- a state with a reply in flight, or without
fine_replied : (s : Alone) (o : Option Emission) → AreLong s → IsMade o → IsFine (record { state = replied s o; emission = o })
fine_replied s None long well = record { frames = long.frames; registers = long.registers; well = well }
fine_replied s (Some e) long well = record { frames = long.frames; registers = long.registers; well = well }

-- what is made of an image
mapped_twice : {A B C : Type 0} (f : B → C) (h : A → B) (o : Option A) (c : C) (P : C → Type 0) → option_map f (option_map h o) ≡ Some c → ((a : A) → o ≡ Some a → P (f (h a))) → P c
mapped_twice f h None c P e each = absurd cc
mapped_twice f h (Some a) c P e each = subst P (same_Some (f (h a)) c e) (each a refl)

is_fine : (x c : Change) → Some x ≡ Some c → IsFine x → IsFine c
is_fine x c e fine = subst IsFine (same_Some x c e) fine

-- ---- begins

fine_submit : (s : Alone) (f : ℕ) (b : List ℕ) (o : Option SubmitFault) (c : Change) → AreLong s → submit_unless o s f b ≡ Some c → IsFine c
fine_submit s f b None c long e = is_fine _ c e (record { frames = long.frames; registers = long.registers; well = made_so (record { parties = Upward f; bytes = b }) tt })
fine_submit s f b (Some fault) c long e = absurd cc

made_by_plan : (f : ℕ) (plan : Plan) → IsMade (sent_by f plan)
made_by_plan f Nothing e is = absurd cc
made_by_plan f Halt e is = absurd cc
made_by_plan f Fault e is = absurd cc
made_by_plan f Pass e is = absurd cc
made_by_plan f (Emit packet opened) e is = made_so (record { parties = Upward f; bytes = packet_bytes packet }) tt e is

fine_ticks : (s : Alone) (f : ℕ) (page : Option (List ℕ)) (c : Change) → AreLong s → ticks s f page ≡ Some c → IsFine c
fine_ticks s f None c long e = absurd cc
fine_ticks s f (Some page) c long e =
    let plan = plan_of f page s.open_tags in
    is_fine _ c e (fine_replied (ticked s f plan) (sent_by f plan) (record { frames = long.frames; registers = all_changed s.registers f (page_after plan) (keeps_plan plan) long.registers }) (made_by_plan f plan))

fine_tick : (s : Alone) (f : ℕ) (o : Option TickFault) (c : Change) → AreLong s → tick_unless o s f ≡ Some c → IsFine c
fine_tick s f None c long e = fine_ticks s f (page_of s.registers f) c long e
fine_tick s f (Some fault) c long e = absurd cc

good_access : (own within none spent : Bool) (a b c h : MmioFault) → cond (not own) (Some a) (cond (not within) (Some b) (cond none (Some c) (cond spent (Some h) None))) ≡ None → (own ≡ true) × (within ≡ true)
good_access false within none spent a b c h e = absurd cc
good_access true false none spent a b c h e = absurd cc
good_access true true none spent a b c h e = (refl, refl)

module _ (platform : Platform) (g : IsGuarded platform) (domain : ℕ) where
  abbrev share : Share
  share = share_of_domain platform domain

  fine_access : (s : Alone) (x : HostAccess) (tag bar : Option ℕ) (c : Change) → AreLong s → is_own_function share x.function ≡ true → is_in_page x.offset (size_of x.operation) ≡ true → bar_of platform.functions x.function ≡ bar
      → mmio_with share s x tag bar ≡ Some c → IsFine c
  fine_access s x None bar c long own within found e = absurd cc
  fine_access s x (Some tag) None c long own within found e = absurd cc
  fine_access s x (Some tag) (Some bar) c long own within found e =
      let small = low_at platform g domain x.function bar x.offset (own_of platform g domain x.function own) found (in_page_low x.offset (size_of x.operation) within) in
      is_fine _ c e (record {
        frames = long.frames;
        registers = long.registers;
        well = made_so (host_emission domain tag bar x) (access_made x.function domain tag bar x.offset x.operation within small);
      })

  fine_mmio : (s : Alone) (x : HostAccess) (o : Option MmioFault) (c : Change) → AreLong s → mmio_fault share s x ≡ o → mmio_unless o share s x ≡ Some c → IsFine c
  fine_mmio s x (Some fault) c long fault_is e = absurd cc
  fine_mmio s x None c long fault_is e =
      let good = good_access (is_own_function share x.function) (is_in_page x.offset (size_of x.operation)) (is_none (tag_for s.open_tags domain x.operation)) (nat_le share.budget s.counts.begins) _ _ _ _ fault_is in
      fine_access s x (tag_for s.open_tags domain x.operation) (bar_of platform.functions x.function) c long good.0 good.1 refl e

  -- ---- at a first port

  fine_refused_by : (s : Alone) (n port f : ℕ) (bytes : List ℕ) (x : Fate) (c : Change) → AreLong s → option_map (conclude s n bytes) (refusal_by port f bytes x) ≡ Some c → IsFine c
  fine_refused_by s n port f bytes Vanish c long e = is_fine _ c e (record { frames = long.frames; registers = long.registers; well = made_nothing })
  fine_refused_by s n port f bytes (Refused status) c long e =
      is_fine _ c e (record {
        frames = long.frames;
        registers = long.registers;
        well = made_so (port_answer port f status (packet_of bytes)) (refusal_made by.Port (Some (Function f)) port status (packet_of bytes));
      })
  fine_refused_by s n port f bytes ToHost c long e = absurd cc
  fine_refused_by s n port f bytes (Direct peer) c long e = absurd cc

  fine_discarded : (s : Alone) (n : ℕ) (bytes : List ℕ) (o : Option Handling) (c : Change) → AreLong s → ((a : Handling) → o ≡ Some a → a ≡ discarded) → option_map (conclude s n bytes) o ≡ Some c → IsFine c
  fine_discarded s n bytes None c long is e = absurd cc
  fine_discarded s n bytes (Some a) c long is e =
      let same : option_map (conclude s n bytes) (Some discarded) ≡ Some c = ap (λ (a : Handling). option_map (conclude s n bytes) (Some a)) (sym (is a refl)) ∙ e in
      is_fine _ c same (record { frames = long.frames; registers = long.registers; well = made_nothing })

  fine_refused : (s : Alone) (n : ℕ) (bytes : List ℕ) (parties : Parties) (c : Change) → AreLong s → option_map (conclude s n bytes) (refusal_of share bytes parties) ≡ Some c → IsFine c
  fine_refused s n bytes (Upward f) c long e = fine_refused_by s n (port_id (first_port share.ports f)) f bytes (fate share.ports f bytes) c long e
  fine_refused s n bytes (Downward f) c long e = absurd cc
  fine_refused s n bytes (Answer answerer addressee) c long e =
      fine_discarded s n bytes (answer_refusal share (malformed bytes) answerer (packet_of bytes)) c long (λ a is. answer_discarded share (malformed bytes) answerer (packet_of bytes) a is) e

  fine_refuse : (s : Alone) (n : ℕ) (item : Option Emission) (c : Change) → AreLong s → refuse share s n item ≡ Some c → IsFine c
  fine_refuse s n None c long e = absurd cc
  fine_refuse s n (Some x) c long e = fine_refused s n x.bytes x.parties c long e

  -- ---- at the host

  module _ (s : Alone) (n : ℕ) (bytes : List ℕ) (long : AreLong s) (well : malformed bytes ≡ None) (addressed : has_address (packet_of bytes).kind ≡ true) where
    abbrev t : Packet
    t = packet_of bytes

    fine_forward : (h : ℕ) (bar : Option ℕ) (c : Change) → is_memory t.kind ≡ true → IsAccess t → IsFunctionOf platform domain h → bar_of platform.functions h ≡ bar → option_map (conclude s n bytes) (forward h t bar) ≡ Some c → IsFine c
    fine_forward h None c memory access own found e = absurd cc
    fine_forward h (Some bar) c memory access own found e =
        let address = page_at bar + address_of t % 4096 in
        let small = low_at platform g domain h bar (address_of t % 4096) own found (omega arith) in
        is_fine _ c e (record {
          frames = long.frames;
          registers = long.registers;
          well = made_so (forwarded h bar t) (moved_made bytes address well memory access (omega arith) small);
        })

    fine_write : (o : Option MapTarget) (c : Change) → is_memory t.kind ≡ true → IsAccess t → ((h : ℕ) → o ≡ Some (Peer h) → IsFunctionOf platform domain h) → option_map (conclude s n bytes) (write_to share t o) ≡ Some c → IsFine c
    fine_write None c memory access peers e = is_fine _ c e (record { frames = long.frames; registers = long.registers; well = made_nothing })
    fine_write (Some (Frame k)) c memory access peers e =
        is_fine _ c e (record { frames = all_stored (runs t) s.frames k (address_of t % 4096) long.frames; registers = long.registers; well = made_nothing })
    fine_write (Some (Peer h)) c memory access peers e = fine_forward h (bar_of platform.functions h) c memory access (peers h refl) refl e

    fine_read : (o : Option MapTarget) (c : Change) → is_memory t.kind ≡ true → IsAccess t → dw_count t.length ≤ 64 → ((h : ℕ) → o ≡ Some (Peer h) → IsFunctionOf platform domain h) → option_map (conclude s n bytes) (read_from share s.frames t o) ≡ Some c → IsFine c
    fine_read None c memory access few peers e = is_fine _ c e (record { frames = long.frames; registers = long.registers; well = made_so (host_refusal share t) (refusal_made by.Host (reach share t.requester) 0 UR t) })
    fine_read (Some (Frame k)) c memory access few peers e =
        is_fine _ c e (record {
          frames = long.frames;
          registers = long.registers;
          well = made_so (host_data share t (shown s.frames k t)) (data_made by.Host (reach share t.requester) 0 t (shown s.frames k t) few (shown_long s.frames k t long.frames));
        })
    fine_read (Some (Peer h)) c memory access few peers e = fine_forward h (bar_of platform.functions h) c memory access (peers h refl) refl e

    fine_add : (to_read to_write : Option ℕ) (c : Change) → is_fetch_add t.kind ≡ true → option_map (conclude s n bytes) (Some (add_if share s.frames t to_read to_write)) ≡ Some c → IsFine c
    fine_add None to_write c f e = is_fine _ c e (record { frames = long.frames; registers = long.registers; well = made_so (host_refusal share t) (refusal_made by.Host (reach share t.requester) 0 UR t) })
    fine_add (Some k) None c f e = is_fine _ c e (record { frames = long.frames; registers = long.registers; well = made_so (host_refusal share t) (refusal_made by.Host (reach share t.requester) 0 UR t) })
    fine_add (Some k) (Some m) c f e =
        is_fine _ c e (record {
          frames = all_added s.frames m (address_of t % 4096) t.payload long.frames;
          registers = long.registers;
          well = made_so (host_operand share t (shown s.frames m t)) (operand_made by.Host (reach share t.requester) 0 bytes (shown s.frames m t) well f (shown_long s.frames m t long.frames));
        })

    fine_served_read : (many : Bool) (c : Change) → is_memory t.kind ≡ true → is_write t.kind ≡ false → nat_lt 64 (dw_count t.length) ≡ many
        → option_map (conclude s n bytes) (cond many (Some (refused_by_host share t)) (read_from share s.frames t (target_of share.maps t.requester (address_of t / 4096) Read))) ≡ Some c → IsFine c
    fine_served_read true c memory read is e = is_fine _ c e (record { frames = long.frames; registers = long.registers; well = made_so (host_refusal share t) (refusal_made by.Host (reach share t.requester) 0 UR t) })
    fine_served_read false c memory read is e =
        fine_read (target_of share.maps t.requester (address_of t / 4096) Read) c memory (is_an_access t (rw (memory, read, is) refl)) (ltb-false 64 (dw_count t.length) is)
        (λ h same. peer_of platform g.laws domain t.requester (address_of t / 4096) Read h same) e

    fine_served_other : (adds : Bool) (c : Change) → is_write t.kind ≡ false → is_fetch_add t.kind ≡ adds
        → option_map (conclude s n bytes) (cond adds (Some (serve_add share s.frames t)) (serve_read share s.frames t)) ≡ Some c → IsFine c
    fine_served_other true c read is e = fine_add (frame_for share t Read) (frame_for share t Write) c is e
    fine_served_other false c read is e = fine_served_read (nat_lt 64 (dw_count t.length)) c (left_memory t.kind addressed is) read refl e

    fine_served : (writes : Bool) (c : Change) → is_write t.kind ≡ writes
        → option_map (conclude s n bytes) (cond writes (write_to share t (target_of share.maps t.requester (address_of t / 4096) Write)) (cond (is_fetch_add t.kind) (Some (serve_add share s.frames t)) (serve_read share s.frames t))) ≡ Some c → IsFine c
    fine_served true c is e =
        fine_write (target_of share.maps t.requester (address_of t / 4096) Write) c (write_memory t.kind is) (write_access t is) (λ h same. peer_of platform g.laws domain t.requester (address_of t / 4096) Write h same) e
    fine_served false c is e = fine_served_other (is_fetch_add t.kind) c is refl e

  -- only a well-formed request that has an address goes to the host
  no_host : (status : Status) (x : Class) → stopped status x ≡ ToHost → ⊥
  no_host status Posted e = cc
  no_host status NonPosted e = cc
  no_host status Completion e = cc

  by_tests : (fails memory back blocked : Bool) (x : Class) (one other : Status) (direct : Option ℕ) → cond fails (stopped one x) (cond (not memory || back) (stopped other x) (cond blocked (stopped one x) (goes_to direct))) ≡ ToHost → memory ≡ true
  by_tests true memory back blocked x one other direct e = absurd (no_host one x e)
  by_tests false true back blocked x one other direct e = refl
  by_tests false false back blocked x one other direct e = absurd (no_host other x e)

  goes_to_host : (m : Option Malformed) (f : ℕ) (line : DownstreamPort) (bytes : List ℕ) → malformed bytes ≡ m → fate_unless m share.ports f line bytes ≡ ToHost → (malformed bytes ≡ None) × (has_address (packet_of bytes).kind ≡ true)
  goes_to_host None f line bytes is e = (is, by_tests _ (has_address (packet_of bytes).kind) _ _ (class_of_kind (packet_of bytes).kind) _ _ (direct_to share.ports f (address_of (packet_of bytes))) e)
  goes_to_host (Some cause) f line bytes is e = absurd cc

  goes_below : (f : ℕ) (line : Option DownstreamPort) (bytes : List ℕ) → fate_below share.ports f line bytes ≡ ToHost → (malformed bytes ≡ None) × (has_address (packet_of bytes).kind ≡ true)
  goes_below f None bytes e = absurd cc
  goes_below f (Some line) bytes e = goes_to_host (malformed bytes) f line bytes refl e

  -- only well-formed bytes go directly to a function
  well_formed : (m : Option Malformed) (f : ℕ) (line : DownstreamPort) (bytes : List ℕ) (peer : ℕ) → malformed bytes ≡ m → fate_unless m share.ports f line bytes ≡ Direct peer → malformed bytes ≡ None
  well_formed None f line bytes peer is e = is
  well_formed (Some cause) f line bytes peer is e = absurd cc

  direct_below : (f : ℕ) (line : Option DownstreamPort) (bytes : List ℕ) (peer : ℕ) → fate_below share.ports f line bytes ≡ Direct peer → malformed bytes ≡ None
  direct_below f None bytes peer e = absurd cc
  direct_below f (Some line) bytes peer e = well_formed (malformed bytes) f line bytes peer refl e

  fine_carried_if : (s : Alone) (n : ℕ) (bytes : List ℕ) (own : Bool) (c : Change) → AreLong s → (malformed bytes ≡ None) × (has_address (packet_of bytes).kind ≡ true)
      → option_map (conclude s n bytes) (cond own (serve share s.frames (packet_of bytes)) None) ≡ Some c → IsFine c
  fine_carried_if s n bytes true c long h e = fine_served s n bytes long h.0 h.1 (is_write (packet_of bytes).kind) c refl e
  fine_carried_if s n bytes false c long h e = absurd cc

  -- ---- at a function

  made_answer : (h : ℕ) (bytes page : List ℕ) (writes : Bool) → malformed bytes ≡ None → IsAccess (packet_of bytes) → length page ≡ 4096 → is_write (packet_of bytes).kind ≡ writes
      → IsMade (option_map (answered_by share h (packet_of bytes)) (cond writes None (Some (read_completion h (packet_of bytes) (read_data page (packet_of bytes))))))
  made_answer h bytes page true well access long is = made_nothing
  made_answer h bytes page false well access long is =
      let t = packet_of bytes in
      let few = read_few t.kind (dw_count t.length) is access in
      made_so _ (data_made (by.Function h) (reach share t.requester) h t (read_data page t) few (read_long bytes page well few long))

  fine_accessed : (s : Alone) (n h : ℕ) (bytes : List ℕ) (c : Change) → AreLong s → malformed bytes ≡ None → IsAccess (packet_of bytes) → option_map (conclude s n bytes) (access_of share s.registers h (packet_of bytes)) ≡ Some c → IsFine c
  fine_accessed s n h bytes c long well access e =
      let t = packet_of bytes in
      mapped_twice (conclude s n bytes) _ (page_of s.registers h) c IsFine e
      (λ page found.
      fine_replied (with_access (without s n) h t) (function_answer share h page t) (record { frames = long.frames; registers = all_changed s.registers h (λ page. accessed page t) (keeps_access t) long.registers })
      (made_answer h bytes page (is_write t.kind) well access (page_long s.registers h page long.registers found) refl))

  -- what came directly to a function

  fine_or_discarded : (s : Alone) (n : ℕ) (bytes : List ℕ) (o : Option Handling) (c : Change) → AreLong s → ((c : Change) → option_map (conclude s n bytes) o ≡ Some c → IsFine c) → option_map (conclude s n bytes) (Some (or_discarded o)) ≡ Some c → IsFine c
  fine_or_discarded s n bytes None c long each e = is_fine _ c e (record { frames = long.frames; registers = long.registers; well = made_nothing })
  fine_or_discarded s n bytes (Some a) c long each e = each c e

  fine_unserved : (s : Alone) (n : ℕ) (bytes : List ℕ) (class : Class) (reply : Emission) (c : Change) → AreLong s → IsWellMade reply.parties reply.bytes → option_map (conclude s n bytes) (Some (unserved class reply)) ≡ Some c → IsFine c
  fine_unserved s n bytes Posted reply c long well e = is_fine _ c e (record { frames = long.frames; registers = long.registers; well = made_nothing })
  fine_unserved s n bytes NonPosted reply c long well e = is_fine _ c e (record { frames = long.frames; registers = long.registers; well = made_so reply well })
  fine_unserved s n bytes Completion reply c long well e = is_fine _ c e (record { frames = long.frames; registers = long.registers; well = made_nothing })

  fine_there : (s : Alone) (n h : ℕ) (bytes : List ℕ) (test : Bool) (c : Change) → AreLong s → malformed bytes ≡ None → (test ≡ true → IsAccess (packet_of bytes))
      → option_map (conclude s n bytes) (Some (cond test (or_discarded (access_of share s.registers h (packet_of bytes))) (unserved (class_of_kind (packet_of bytes).kind) (function_refusal share h (packet_of bytes))))) ≡ Some c → IsFine c
  fine_there s n h bytes true c long well access e =
      fine_or_discarded s n bytes (access_of share s.registers h (packet_of bytes)) c long (λ c e. fine_accessed s n h bytes c long well (access refl) e) e
  fine_there s n h bytes false c long well access e =
      let t = packet_of bytes in
      fine_unserved s n bytes (class_of_kind t.kind) (function_refusal share h t) c long (refusal_made (by.Function h) (reach share t.requester) h UR t) e

  fine_direct : (s : Alone) (n h : ℕ) (bytes : List ℕ) (own : Bool) (c : Change) → AreLong s → malformed bytes ≡ None
      → option_map (conclude s n bytes) (cond own (Some (request_at_function share s.registers h (packet_of bytes))) None) ≡ Some c → IsFine c
  fine_direct s n h bytes true c long well e =
      let t = packet_of bytes in
      let lies = lies_in (bar_of share.functions h) (address_of t) in
      fine_there s n h bytes (is_access t && lies) c long well (λ is. is_an_access t (both-first (is_access t) lies is)) e
  fine_direct s n h bytes false c long well e = absurd cc

  -- ---- what a function sent

  fine_carried_by : (s : Alone) (n f : ℕ) (bytes : List ℕ) (x : Fate) (c : Change) → AreLong s → fate share.ports f bytes ≡ x → option_map (conclude s n bytes) (carriage_by share s.frames s.registers bytes x) ≡ Some c → IsFine c
  fine_carried_by s n f bytes Vanish c long is e = absurd cc
  fine_carried_by s n f bytes (Refused status) c long is e = absurd cc
  fine_carried_by s n f bytes ToHost c long is e = fine_carried_if s n bytes (is_carried share (packet_of bytes)) c long (goes_below f (first_port share.ports f) bytes is) e
  fine_carried_by s n f bytes (Direct peer) c long is e = fine_direct s n peer bytes (is_carried share (packet_of bytes)) c long (direct_below f (first_port share.ports f) bytes peer is) e

  fine_carried : (s : Alone) (n : ℕ) (bytes : List ℕ) (parties : Parties) (c : Change) → AreLong s → IsWellMade parties bytes → option_map (conclude s n bytes) (carriage_of share s.frames s.registers bytes parties) ≡ Some c → IsFine c
  fine_carried s n bytes (Upward f) c long well e = fine_carried_by s n f bytes (fate share.ports f bytes) c long refl e
  fine_carried s n bytes (Downward h) c long well e = fine_accessed s n h bytes c long well.0 well.1 e
  fine_carried s n bytes (Answer answerer addressee) c long well e = absurd cc

  fine_carry : (s : Alone) (n : ℕ) (item : Option Emission) (c : Change) → AreLong s → IsWellMadeIfAny item → carry share s n item ≡ Some c → IsFine c
  fine_carry s n None c long well e = absurd cc
  fine_carry s n (Some x) c long well e = fine_carried s n x.bytes x.parties c long well e

-- ---- a delivery

fine_arrived : (s : Alone) (d : Delivery) (awaited : Bool) → AreLong s → IsFine (emits_nothing (cond awaited (recorded s d) (unexpected s)))
fine_arrived s d false long = record { frames = long.frames; registers = long.registers; well = made_nothing }
fine_arrived s d true long = record { frames = long.frames; registers = by d.owner; well = made_nothing }
  where
    by : (owner : Origin) → All IsPage (completed s.registers (use_of s.open_tags d.owner d.tag) owner d.status (packet_of d.bytes).payload)
    by (Function f) = let usage = use_of s.open_tags d.owner d.tag in all_changed s.registers f (λ page. closed_by page usage d.status (packet_of d.bytes).payload) (keeps_closing usage d.status (packet_of d.bytes).payload) long.registers
    by (Host number) = long.registers

fine_arrival : (s : Alone) (n : ℕ) (bytes : List ℕ) (answerer : Answerer) (addressee : Option Origin) (c : Change) → AreLong s → option_map (λ a. emits_nothing (arrived (without s n) a)) (arrival_of s.open_tags bytes (Answer answerer addressee)) ≡ Some c → IsFine c
fine_arrival s n bytes answerer None c long e = absurd cc
fine_arrival s n bytes answerer (Some owner) c long e = by (status_in (packet_of bytes).body) e
  where
    by : (o : Option Status) → option_map (λ a. emits_nothing (arrived (without s n) a)) (option_map (arrival_at s.open_tags (packet_of bytes) bytes answerer owner) o) ≡ Some c → IsFine c
    by None e = absurd cc
    by (Some status) e =
        is_fine _ c e (fine_arrived (without s n) (arrival_at s.open_tags (packet_of bytes) bytes answerer owner status).delivery (is_awaited s.open_tags answerer owner (packet_of bytes)) (record { frames = long.frames; registers = long.registers }))

fine_delivered : (s : Alone) (n : ℕ) (bytes : List ℕ) (parties : Parties) (c : Change) → AreLong s → option_map (λ a. emits_nothing (arrived (without s n) a)) (arrival_of s.open_tags bytes parties) ≡ Some c → IsFine c
fine_delivered s n bytes (Upward f) c long e = absurd cc
fine_delivered s n bytes (Downward h) c long e = absurd cc
fine_delivered s n bytes (Answer answerer addressee) c long e = fine_arrival s n bytes answerer addressee c long e

fine_deliver : (s : Alone) (n : ℕ) (item : Option Emission) (c : Change) → AreLong s → deliver s n item ≡ Some c → IsFine c
fine_deliver s n None c long e = absurd cc
fine_deliver s n (Some x) c long e = fine_delivered s n x.bytes x.parties c long e

-- ---- each entry

well_at : (flight : List (Option Emission)) (n : ℕ) → All IsWellMadeIfAny flight → IsWellMadeIfAny (item_at flight n)
well_at [] n all = tt
well_at (x ∷ xs) zero all = All-head IsWellMadeIfAny x xs all
well_at (x ∷ xs) (suc n) all = well_at xs n (All-tail IsWellMadeIfAny x xs all)

fine_entry : (platform : Platform) (g : IsGuarded platform) (domain : ℕ) (s : Alone) (entry : Entry) (c : Change) → AreLong s → All IsWellMadeIfAny s.flight → IsOwn entry → change (share_of_domain platform domain) s entry ≡ Some c → IsFine c
fine_entry platform g domain s (Submit f b) c long well own e = fine_submit s f b (submit_fault (share_of_domain platform domain) s f b) c long e
fine_entry platform g domain s (Tick f) c long well own e = fine_tick s f (tick_fault (share_of_domain platform domain) s f) c long e
fine_entry platform g domain s (Mmio x) c long well own e = fine_mmio platform g domain s x (mmio_fault (share_of_domain platform domain) s x) c long refl e
fine_entry platform g domain s (Refuse n) c long well own e = fine_refuse platform g domain s n (item_at s.flight n) c long e
fine_entry platform g domain s (Carry n) c long well own e = fine_carry platform g domain s n (item_at s.flight n) c long (well_at s.flight n well) e
fine_entry platform g domain s (Deliver n) c long well own e = fine_deliver s n (item_at s.flight n) c long e
fine_entry platform g domain s (Alien place sender bytes) c long well own e = absurd own

-- an entry of the fabric's own leaves a domain with pages of 4,096 bytes, and emits only what is well made
pub stays_fine : (platform : Platform) (g : IsGuarded platform) (d : DomainView) (entry : Entry) (c : Change) → IsOwnShare platform d.share → IsWellKept d → IsOwn entry → change d.share d.state entry ≡ Some c → IsFine c
stays_fine platform g d entry c share old own legal =
    fine_entry platform g d.share.domain d.state entry c (record { frames = old.frames; registers = old.registers }) old.well_made own (subst (λ (s : Share). change s d.state entry ≡ Some c) share legal)
