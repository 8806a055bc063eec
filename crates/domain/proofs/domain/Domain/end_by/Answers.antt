use Rattle.std.proofs.Common.{◌+◌, ◌*◌, ◌<◌, length, arith, refl}
use Rattle.domain.specs.Kept.{domain_view}
use Rattle.domain.specs.Machine.{aliens_in}
use Rattle.domain.specs.Domains.{disposed}
use Rattle.domain.proofs.Keeping.{blocks_fit, end_room, ended_so, ends_seen, makes_end, makes_seen, replays_more, room_stays}
use Rattle.domain.proofs.domain.Domain.end_by.Goals as goal

pub conclude-requires-clause-blocks : goal.conclude-requires-clause-blocks
conclude-requires-clause-blocks c =
    let d = c.self.inside in
    blocks_fit d.start d.state d.journal.items c.self.invariant.replays (omega (arith, d.journal.ok, d.journal.small))

pub push_reserved-requires : goal.push_reserved-requires
push_reserved-requires c =
    let d = c.self.inside in
    let h = ends_seen (domain_view d) c.args.self.now c.args.entry c.args.number c.args.disposition c.self.view_is c.requires in
    let room : length d.journal.items < 4 * d.start.budget + 3 * aliens_in d.journal.items = end_room d.start d.state d.journal.items c.args.number h.emission c.self.invariant.replays h.waits in
    omega (arith, d.journal.ok, c.self.invariant.room, c.self.invariant.entries, room)

pub invariant_of-self-2 : goal.invariant_of-self-2
invariant_of-self-2 c =
    let d = c.self.inside in
    let h = ends_seen (domain_view d) c.args.self.now c.args.entry c.args.number c.args.disposition c.self.view_is c.requires in
    record {
      share = c.self.invariant.share;
      table = c.self.invariant.table;
      replays = replays_more d.start d.state c.conclude.new.self d.journal.items _ c.args.entry _ c.self.invariant.replays c.push_reserved.ensures.items
          (ended_so (domain_view d) c.args.entry c.args.number c.args.disposition c.conclude.new.self h c.in-Ok.ensures.state);
      entries = room_stays d.entries d.start.budget d.journal.items _ c.args.entry c.push_reserved.ensures.items (h.own (aliens_in d.journal.items)) c.self.invariant.entries;
      room = omega (arith, c.self.invariant.room, c.push_reserved.ensures.capacity);
    }

pub returns-clause-ok : goal.returns-clause-ok
returns-clause-ok c =
    let d = c.self.inside in
    let h = ends_seen (domain_view d) c.args.self.now c.args.entry c.args.number c.args.disposition c.self.view_is c.requires in
    makes_seen (domain_view d) c.args.self.now _ c.args.entry c.in-Ok.sent c.self.view_is
    (makes_end (domain_view d) _ c.args.entry (disposed d.start d.state h.emission c.args.disposition).reply c.in-Ok.sent refl c.push_reserved.ensures.items
    (ended_so (domain_view d) c.args.entry c.args.number c.args.disposition c.conclude.new.self h c.in-Ok.ensures.state) (c.in-Ok.ensures.sent h.emission h.waits))
