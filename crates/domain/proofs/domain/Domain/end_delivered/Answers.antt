use Rattle.std.proofs.Common.{◌+◌, ◌*◌, ◌<◌, length, None, refl, arith}
use Rattle.domain.specs.declared.entry.Entry.TheVariants.{Deliver}
use Rattle.domain.specs.Machine.{aliens_in}
use Rattle.domain.specs.Kept.{domain_view}
use Rattle.domain.proofs.EndLemmas.{arrives_so, delivered_so}
use Rattle.domain.proofs.Keeping.{end_room, makes_end, makes_seen, replays_more, room_stays, strays_fit}
use Rattle.domain.proofs.domain.Domain.end_delivered.Goals as goal

pub deliver-requires : goal.deliver-requires
deliver-requires c =
    let d = c.self.inside in
    strays_fit d.start d.state d.journal.items c.self.invariant.replays (omega (arith, d.journal.ok, d.journal.small))

pub push_reserved-requires : goal.push_reserved-requires
push_reserved-requires c =
    let d = c.self.inside in
    let h = c.in-Some.ensures in
    let room : length d.journal.items < 4 * d.start.budget + 3 * aliens_in d.journal.items = end_room d.start d.state d.journal.items c.args.number h.emission c.self.invariant.replays h.waits in
    omega (arith, d.journal.ok, c.self.invariant.room, c.self.invariant.entries, room)

pub invariant_of-self-2 : goal.invariant_of-self-2
invariant_of-self-2 c =
    let d = c.self.inside in
    record {
      share = c.self.invariant.share;
      table = c.self.invariant.table;
      replays = replays_more d.start d.state c.deliver.new.self d.journal.items _ (Deliver c.args.number) None c.self.invariant.replays c.push_reserved.ensures.items
          (delivered_so d.start d.state c.deliver.new.self c.args.number c.in-Some.is_recorded c.in-Some.ensures);
      entries = room_stays d.entries d.start.budget d.journal.items _ (Deliver c.args.number) c.push_reserved.ensures.items refl c.self.invariant.entries;
      room = omega (arith, c.self.invariant.room, c.push_reserved.ensures.capacity);
    }

pub returns-clause-ok : goal.returns-clause-ok
returns-clause-ok c =
    let d = c.self.inside in
    let n = c.args.number in
    let h = c.in-Some.ensures in (
      makes_seen (domain_view d) c.args.self.now _ (Deliver n) None c.self.view_is
          (makes_end (domain_view d) _ (Deliver n) None None refl c.push_reserved.ensures.items (delivered_so d.start d.state c.deliver.new.self n c.in-Some.is_recorded h) refl),
      arrives_so (domain_view d) c.args.self.now n _ c.in-Some.is_recorded c.self.view_is h,
    )
