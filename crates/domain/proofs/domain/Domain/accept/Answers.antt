use Rattle.std.proofs.Common.{ℕ, ◌+◌, ◌*◌, ◌<◌, length, ap, refl, ◌∙◌, arith}
use Rattle.domain.specs.declared.entry.Entry.TheVariants.{Submit}
use Rattle.request_handling.specs.Heads.{descriptor_of}
use Rattle.domain.specs.Kept.{domain_view}
use Rattle.domain.specs.Machine.{aliens_in}
use Rattle.domain.proofs.Keeping.{upward, makes_seen, replays_more, submit_legal, submit_copied, not_refused, journal_room, room_stays, makes_submit}
use Rattle.domain.proofs.domain.Domain.accept.Goals as goal

pub push_reserved-requires : goal.push_reserved-requires
push_reserved-requires c =
    let d = c.self.inside in
    let none = not_refused (domain_view d) c.args.self.now c.args.function c.args.packet.now _ c.self.view_is c.requires.accepted refl in
    let room : length d.journal.items < 4 * d.start.budget + 3 * aliens_in d.journal.items = journal_room d.start d.state d.journal.items c.args.function c.args.packet.now c.self.invariant.replays none in
    omega (arith, d.journal.ok, c.self.invariant.room, c.self.invariant.entries, room)

pub invariant_of-self-2 : goal.invariant_of-self-2
invariant_of-self-2 c =
    let d = c.self.inside in
    let none = not_refused (domain_view d) c.args.self.now c.args.function c.args.packet.now _ c.self.view_is c.requires.accepted refl in
    let legal = submit_legal d.start d.state c.submit.new.self c.args.function c.args.packet.now none c.in-Ok-submit.ensures.state in
    let grown = submit_copied d.journal.items _ c.args.function c.args.packet.now c.args.bytes c.requires.same c.push_reserved.ensures.items in
    record {
      share = c.self.invariant.share;
      table = c.self.invariant.table;
      replays = replays_more d.start d.state _ d.journal.items _ (Submit c.args.function c.args.packet.now) _ c.self.invariant.replays grown legal;
      entries = room_stays d.entries d.start.budget d.journal.items _ (Submit c.args.function c.args.packet.now) grown refl c.self.invariant.entries;
      room = omega (arith, c.self.invariant.room, c.push_reserved.ensures.capacity);
    }

pub returns-clause-ok : goal.returns-clause-ok
returns-clause-ok c =
    let d = c.self.inside in
    let none = not_refused (domain_view d) c.args.self.now c.args.function c.args.packet.now _ c.self.view_is c.requires.accepted refl in
    let grown = submit_copied d.journal.items _ c.args.function c.args.packet.now c.args.bytes c.requires.same c.push_reserved.ensures.items in
    makes_seen (domain_view d) c.args.self.now _ _ _ c.self.view_is (makes_submit (domain_view d) _ c.args.function c.args.packet.now _ none refl c.in-Ok-submit.ensures.state grown (c.in-Ok-submit.ensures.frame ∙ ap (λ (k : ℕ). descriptor_of k (length d.state.flight) (upward c.args.function c.args.packet.now)) c.domain-domain.ensures))
