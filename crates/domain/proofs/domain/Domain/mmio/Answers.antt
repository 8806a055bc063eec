use Rattle.std.proofs.Common.{◌+◌, ◌*◌, ◌<◌, length, refl, ap, ◌∙◌, Some, arith}
use Rattle.domain.specs.declared.entry.Entry.TheVariants.{Mmio}
use Rattle.domain_state.specs.HostAccesses.{host_emission, host_request}
use Rattle.domain.specs.Kept.{domain_view}
use Rattle.domain.specs.Machine.{aliens_in}
use Rattle.domain.proofs.Keeping.{replays_more, room_stays}
use Rattle.domain.proofs.HostBegins.{admitted, makes_mmio, mmio_copied, mmio_legal, mmio_room}
use Rattle.domain.proofs.domain.Domain.mmio.Goals as goal

pub push_reserved-requires : goal.push_reserved-requires
push_reserved-requires c =
    let d = c.self.inside in
    let x = c.args.access.now in
    let h = admitted (domain_view d) c.args.self.now x c.in_ok-tag.tag c.in_ok-tag.bar c.self.view_is c.in_ok-tag.ensures.accepted c.in_ok-tag.ensures.tag c.in_ok-tag.ensures.bar in
    let room : length d.journal.items < 4 * d.start.budget + 3 * aliens_in d.journal.items = mmio_room d.start d.state d.journal.items x c.in_ok-tag.tag c.in_ok-tag.bar c.self.invariant.replays h in
    omega (arith, d.journal.ok, c.self.invariant.room, c.self.invariant.entries, room)

pub invariant_of-self-2 : goal.invariant_of-self-2
invariant_of-self-2 c =
    let d = c.self.inside in
    let x = c.args.access.now in
    let tag = c.in_ok-tag.tag in
    let bar = c.in_ok-tag.bar in
    let h = admitted (domain_view d) c.args.self.now x tag bar c.self.view_is c.in_ok-tag.ensures.accepted c.in_ok-tag.ensures.tag c.in_ok-tag.ensures.bar in
    record {
      share = c.self.invariant.share;
      table = c.self.invariant.table;
      replays = replays_more d.start d.state c.request.new.self d.journal.items _ (Mmio x) (Some (host_emission d.start.domain tag bar x)) c.self.invariant.replays
          (mmio_copied d.journal.items _ x c.in-Ok.copy c.in-Ok.ensures c.push_reserved.ensures.items)
          (mmio_legal d.start d.state c.request.new.self x tag bar _ _ _ h c.domain-domain.ensures (c.host_request-packet.ensures.value ∙ ap (λ a. host_request c.domain-domain.result tag a x.operation) c.register_address-address.ensures) c.opened_for-opened.ensures c.in-Ok-request.ensures.state);
      entries = room_stays d.entries d.start.budget d.journal.items _ (Mmio x) (mmio_copied d.journal.items _ x c.in-Ok.copy c.in-Ok.ensures c.push_reserved.ensures.items) refl c.self.invariant.entries;
      room = omega (arith, c.self.invariant.room, c.push_reserved.ensures.capacity);
    }

pub returns-clause-ok : goal.returns-clause-ok
returns-clause-ok c =
    let d = c.self.inside in
    let x = c.args.access.now in
    let tag = c.in_ok-tag.tag in
    let bar = c.in_ok-tag.bar in
    let h = admitted (domain_view d) c.args.self.now x tag bar c.self.view_is c.in_ok-tag.ensures.accepted c.in_ok-tag.ensures.tag c.in_ok-tag.ensures.bar in
    makes_mmio (domain_view d) c.args.self.now _ x tag bar _ _ _ c.in-Ok-request.frame c.self.view_is h c.domain-domain.ensures (c.host_request-packet.ensures.value ∙ ap (λ a. host_request c.domain-domain.result tag a x.operation) c.register_address-address.ensures) c.opened_for-opened.ensures refl
    (mmio_copied d.journal.items _ x c.in-Ok.copy c.in-Ok.ensures c.push_reserved.ensures.items) c.in-Ok-request.ensures.state c.in-Ok-request.ensures.frame
