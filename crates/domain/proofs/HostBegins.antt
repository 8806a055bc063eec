-- A request of a domain's host is what the machine says of its entry.
use Rattle.std.proofs.Common.{◌≡◌, ℕ, ◌+◌, ◌*◌, ◌<◌, List, ◌∷◌, [], ◌++◌, length, Option, Some, None, sym, ap, ◌∙◌, subst}
use Rattle.fab_types.specs.declared.faults.begin.MmioFault.{MmioFault}
use Rattle.fab_types.specs.declared.head.Parties.TheVariants.{Downward}
use Rattle.frame_log.specs.Descriptor.{Descriptor}
use Rattle.function.specs.declared.tags.OpenTag.{OpenTag}
use Rattle.platform.specs.Share.{Share}
use Rattle.platform.specs.Owners.{bar_of}
use Rattle.tlp_view.specs.Packet.{Packet}
use Rattle.tlp_view.specs.Requests.{packet_bytes}
use Rattle.fab_types.specs.declared.host_access.HostAccess.{HostAccess}
use Rattle.domain.specs.declared.entry.Entry.{Entry}
use Rattle.domain.specs.declared.entry.Entry.TheVariants.{Mmio}
use Rattle.request_handling.specs.Answers.{page_at}
use Rattle.domain.specs.Domains.{DomainView, Makes}
use Rattle.request_handling.specs.Heads.{descriptor_of}
use Rattle.domain_state.specs.HostAccesses.{host_emission, host_request, mmio_fault, mmio_unless, mmio_with, opened_for, tag_for}
use Rattle.domain.specs.Machine.{aliens_in, change, replay}
use Rattle.domain_state.specs.State.{Alone, begun, with_emission}
use Rattle.domain.proofs.Accounting.{accounted, mmio_budget, room_to_begin}
use Rattle.domain.proofs.Keeping.{makes_end, makes_seen}

abbrev some : {A : Type 0} → A → Option A
some x = Some x

-- an access that a domain admits, with its Tag and the function's BAR
pub record Admitted (share : Share) (s : Alone) (x : HostAccess) (tag bar : ℕ) : Type 0 where
  pub accepted : mmio_fault share s x ≡ None
  pub tag_is : tag_for s.open_tags share.domain x.operation ≡ Some tag
  pub bar_is : bar_of share.functions x.function ≡ Some bar

pub admitted : (v w : DomainView) (x : HostAccess) (tag bar : ℕ) → v ≡ w → mmio_fault w.share w.state x ≡ None → tag_for w.state.open_tags w.share.domain x.operation ≡ Some tag
    → bar_of w.share.functions x.function ≡ Some bar → Admitted v.share v.state x tag bar
admitted v w x tag bar same accepted tag_is bar_is =
    subst (λ (u : DomainView). Admitted u.share u.state x tag bar) (sym same) (record { accepted = accepted; tag_is = tag_is; bar_is = bar_is })

pub mmio_room : (share : Share) (s : Alone) (js : List Entry) (x : HostAccess) (tag bar : ℕ) → replay share js ≡ Some s → Admitted share s x tag bar → length js < 4 * share.budget + 3 * aliens_in js
mmio_room share s js x tag bar was h = room_to_begin share s (length js) (aliens_in js) (accounted share js s was) (mmio_budget share s x h.accepted)

-- the emission of a request that was made so
made_so : (domain tag bar : ℕ) (x : HostAccess) (d : ℕ) (packet : Packet) → d ≡ domain → packet ≡ host_request d tag (page_at bar + x.offset) x.operation
    → record { parties = Downward x.function; bytes = packet_bytes packet } ≡ host_emission domain tag bar x
made_so domain tag bar x d packet of is = ap (λ (p : Packet). record { parties = Downward x.function; bytes = packet_bytes p }) (is ∙ ap (λ (k : ℕ). host_request k tag (page_at bar + x.offset) x.operation) of)

pub mmio_legal : (share : Share) (s t : Alone) (x : HostAccess) (tag bar d : ℕ) (packet : Packet) (opened : Option OpenTag) → Admitted share s x tag bar → d ≡ share.domain
    → packet ≡ host_request d tag (page_at bar + x.offset) x.operation → opened ≡ opened_for d tag x.operation → t ≡ with_emission (begun s opened) (record { parties = Downward x.function; bytes = packet_bytes packet })
    → change share s (Mmio x) ≡ Some (record { state = t; emission = Some (host_emission share.domain tag bar x) })
mmio_legal share s t x tag bar d packet opened h of is opens state =
    let e = host_emission share.domain tag bar x in
    let left : t ≡ with_emission (begun s (opened_for share.domain tag x.operation)) e =
    state ∙ ap (with_emission (begun s opened)) (made_so share.domain tag bar x d packet of is)
    ∙ ap (λ (o : Option OpenTag). with_emission (begun s o) e) (opens ∙ ap (λ (k : ℕ). opened_for k tag x.operation) of) in
    ap (λ (o : Option MmioFault). mmio_unless o share s x) h.accepted ∙ ap (λ (o : Option ℕ). mmio_with share s x o (bar_of share.functions x.function)) h.tag_is
    ∙ ap (mmio_with share s x (Some tag)) h.bar_is ∙ ap (λ (u : Alone). some (record { state = u; emission = Some e })) (sym left)

-- the journal with a copy of the access
pub mmio_copied : (js js' : List Entry) (x copy : HostAccess) → copy ≡ x → js' ≡ js ++ Mmio copy ∷ [] → js' ≡ js ++ Mmio x ∷ []
mmio_copied js js' x copy same grown = grown ∙ ap (λ (y : HostAccess). js ++ Mmio y ∷ []) same

pub makes_mmio : (v w new : DomainView) (x : HostAccess) (tag bar d : ℕ) (packet : Packet) (opened : Option OpenTag) (frame : Descriptor) → v ≡ w → Admitted v.share v.state x tag bar → d ≡ v.share.domain
    → packet ≡ host_request d tag (page_at bar + x.offset) x.operation → opened ≡ opened_for d tag x.operation → new.share ≡ v.share → new.journal ≡ v.journal ++ Mmio x ∷ []
    → new.state ≡ with_emission (begun v.state opened) (record { parties = Downward x.function; bytes = packet_bytes packet })
    → frame ≡ descriptor_of d (length v.state.flight) (record { parties = Downward x.function; bytes = packet_bytes packet }) → Makes w (Mmio x) new (Some frame)
makes_mmio v w new x tag bar d packet opened frame same h of is opens share journal state is_frame =
    let e = host_emission v.share.domain tag bar x in
    makes_seen v w new (Mmio x) (Some frame) same
    (makes_end v new (Mmio x) (Some e) (Some frame) share journal (mmio_legal v.share v.state new.state x tag bar d packet opened h of is opens state)
    (ap some (is_frame ∙ ap (descriptor_of d (length v.state.flight)) (made_so v.share.domain tag bar x d packet of is) ∙ ap (λ (k : ℕ). descriptor_of k (length v.state.flight) e) of)))
