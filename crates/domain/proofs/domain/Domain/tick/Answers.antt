use Rattle.std.proofs.Common.{◌+◌, ◌*◌, ◌<◌, length, refl, arith}
use Rattle.domain.specs.declared.entry.Entry.TheVariants.{Tick}
use Rattle.domain.specs.Kept.{domain_view}
use Rattle.domain.specs.Machine.{aliens_in}
use Rattle.domain.specs.Ticks.{sent_by}
use Rattle.domain.proofs.Keeping.{replays_more, room_stays}
use Rattle.domain.proofs.Ticking.{has_plan, makes_tick, no_tick_fault, tick_emits, tick_legal, tick_room}
use Rattle.domain.proofs.domain.Domain.tick.Goals as goal

pub unreachable-requires : goal.unreachable-requires
unreachable-requires c =
    let d = c.self.inside in
    let none = no_tick_fault (domain_view d) c.args.self.now c.args.function _ c.self.view_is c.in_default.is c.tick_fault.ensures in
    has_plan d.start d.journal.items d.state c.args.function _ c.self.invariant.replays none c.planned-planned.ensures.value c.in_default-planned.is

pub push_reserved-requires : goal.push_reserved-requires
push_reserved-requires c =
    let d = c.self.inside in
    let none = no_tick_fault (domain_view d) c.args.self.now c.args.function _ c.self.view_is c.in_default.is c.tick_fault.ensures in
    let room : length d.journal.items < 4 * d.start.budget + 3 * aliens_in d.journal.items = tick_room d.start d.state d.journal.items c.args.function c.self.invariant.replays none in
    omega (arith, d.journal.ok, c.self.invariant.room, c.self.invariant.entries, room)

pub invariant_of-self-2 : goal.invariant_of-self-2
invariant_of-self-2 c =
    let d = c.self.inside in
    let none = no_tick_fault (domain_view d) c.args.self.now c.args.function _ c.self.view_is c.in_default.is c.tick_fault.ensures in
    let plan = c.in-Some-planned.plan in
    record {
      share = c.self.invariant.share;
      table = c.self.invariant.table;
      replays = replays_more d.start d.state c.tick.new.self d.journal.items _ (Tick c.args.function) (sent_by c.args.function plan) c.self.invariant.replays c.push_reserved.ensures.items
          (tick_legal d.start d.state c.tick.new.self c.args.function _ plan none c.planned-planned.ensures.value c.in-Some-planned.is c.in-Ok.ensures.state);
      entries = room_stays d.entries d.start.budget d.journal.items _ (Tick c.args.function) c.push_reserved.ensures.items refl c.self.invariant.entries;
      room = omega (arith, c.self.invariant.room, c.push_reserved.ensures.capacity);
    }

pub returns-clause-ok : goal.returns-clause-ok
returns-clause-ok c =
    let d = c.self.inside in
    let none = no_tick_fault (domain_view d) c.args.self.now c.args.function _ c.self.view_is c.in_default.is c.tick_fault.ensures in
    makes_tick (domain_view d) c.args.self.now _ c.args.function _ c.in-Some-planned.plan _ c.in-Ok.sent c.self.view_is none c.planned-planned.ensures.value c.in-Some-planned.is refl c.push_reserved.ensures.items c.in-Ok.ensures.state c.domain.ensures c.in-Ok.ensures.sent

pub returns-in_default-tick-clause-memory : goal.returns-in_default-tick-clause-memory
returns-in_default-tick-clause-memory c refused =
    let d = c.self.inside in
    let none = no_tick_fault (domain_view d) c.args.self.now c.args.function _ c.self.view_is c.in_default.is c.tick_fault.ensures in
    tick_emits (domain_view d) c.args.self.now c.args.function _ c.in-Some-planned.plan c.self.view_is none c.planned-planned.ensures.value c.in-Some-planned.is c.in_default-tick.ensures.err.1
