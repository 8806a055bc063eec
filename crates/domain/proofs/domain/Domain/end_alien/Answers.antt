use Rattle.std.proofs.Common.{◌+◌, ◌<◌, ◌^◌, List, [], ◌∷◌, ◌++◌, length, refl, sym, ap, ◌∙◌, subst, arith, option_map}
use Rattle.domain.specs.declared.entry.Entry.{Entry}
use Rattle.domain.specs.declared.entry.Entry.TheVariants.{Alien}
use Rattle.request_handling.specs.Heads.{descriptor_of}
use Rattle.domain.specs.Kept.{domain_view}
use Rattle.domain.specs.Machine.{aliens_in}
use Rattle.domain.specs.Receptions.{IsReceivable, received}
use Rattle.domain_state.specs.State.{Alone}
use Rattle.domain.proofs.Accounting.{accounted, room_held}
use Rattle.domain.proofs.AlienLemmas.{alien_copied, alien_legal, found, found_fits, makes_alien, room_grows}
use Rattle.domain.proofs.Keeping.{blocks_fit, replays_more, strays_fit}
use Rattle.domain.proofs.domain.Domain.end_alien.Goals as goal

pub room_for_entries-requires-clause-len : goal.room_for_entries-requires-clause-len
room_for_entries-requires-clause-len c =
    let d = c.self.inside in
    let js = d.journal.items in
    omega (arith, d.journal.ok, c.self.invariant.entries, room_held d.start d.state (length js) (aliens_in js) (accounted d.start js d.state c.self.invariant.replays))

pub receive-requires-clause-blocks : goal.receive-requires-clause-blocks
receive-requires-clause-blocks c =
    let d = c.self.inside in
    subst (λ (u : Alone). u.counts.blocked + 1 < 2 ^ 64) (sym c.make_room.ensures) (blocks_fit d.start d.state d.journal.items c.self.invariant.replays (omega (arith, d.journal.ok, d.journal.small)))

pub receive-requires-clause-counts : goal.receive-requires-clause-counts
receive-requires-clause-counts c =
    let d = c.self.inside in
    subst (λ (u : Alone). u.counts.unexpected + 1 < 2 ^ 64) (sym c.make_room.ensures) (strays_fit d.start d.state d.journal.items c.self.invariant.replays (omega (arith, d.journal.ok, d.journal.small)))

pub receive-requires-clause-fits : goal.receive-requires-clause-fits
receive-requires-clause-fits c =
    let d = c.self.inside in
    let b = c.args.bytes.now in
    let is = found (domain_view d) c.args.self.now c.args.place c.args.sender b _ c.in-Some.reception c.self.view_is c.in-Some.is c.reception.ensures.value in
    subst (λ (u : Alone). IsReceivable u.open_tags b c.in-Some.reception) (sym c.make_room.ensures) (found_fits d.start d.state c.args.place c.args.sender b c.in-Some.reception is)

pub push_reserved-requires : goal.push_reserved-requires
push_reserved-requires c =
    let d = c.self.inside in
    let js = d.journal.items in
    let held = room_held d.start d.state (length js) (aliens_in js) (accounted d.start js d.state c.self.invariant.replays) in
    omega (arith, c.room_for_entries.new.journal.ok, ap length c.room_for_entries.ensures.items, held, c.self.invariant.entries, c.in-Ok.ensures.room, c.in-Ok.ensures.value)

pub invariant_of-self-2 : goal.invariant_of-self-2
invariant_of-self-2 c =
    let d = c.self.inside in
    let js = d.journal.items in
    let b = c.args.bytes.now in
    let r = c.in-Some.reception in
    let is = found (domain_view d) c.args.self.now c.args.place c.args.sender b _ r c.self.view_is c.in-Some.is c.reception.ensures.value in
    let grown = alien_copied js _ c.args.place c.args.sender b c.in-Ok-copy_of.copy c.in-Ok-copy_of.ensures.value (c.push_reserved.ensures.items ∙ ap (λ (es : List Entry). es ++ Alien c.args.place c.args.sender c.in-Ok-copy_of.copy ∷ []) c.room_for_entries.ensures.items) in
    let left = c.in-Ok-receive.ensures.state ∙ ap (λ (u : Alone). (received u b r).state) c.make_room.ensures in
    record {
      share = c.self.invariant.share;
      table = c.self.invariant.table;
      replays = replays_more d.start d.state c.receive.new.self js _ (Alien c.args.place c.args.sender b) (received d.state b r).emission c.self.invariant.replays grown
          (alien_legal d.start d.state c.receive.new.self c.args.place c.args.sender b r is left);
      entries = room_grows d.entries c.in-Ok.entries d.start.budget js _ c.args.place c.args.sender b grown c.in-Ok.ensures.value c.self.invariant.entries;
      room = omega (arith, c.in-Ok.ensures.room, c.push_reserved.ensures.capacity);
    }

pub returns-clause-ok : goal.returns-clause-ok
returns-clause-ok c =
    let d = c.self.inside in
    let b = c.args.bytes.now in
    let r = c.in-Some.reception in
    let is = found (domain_view d) c.args.self.now c.args.place c.args.sender b _ r c.self.view_is c.in-Some.is c.reception.ensures.value in
    let grown = alien_copied d.journal.items _ c.args.place c.args.sender b c.in-Ok-copy_of.copy c.in-Ok-copy_of.ensures.value (c.push_reserved.ensures.items ∙ ap (λ (es : List Entry). es ++ Alien c.args.place c.args.sender c.in-Ok-copy_of.copy ∷ []) c.room_for_entries.ensures.items) in
    let left = c.in-Ok-receive.ensures.state ∙ ap (λ (u : Alone). (received u b r).state) c.make_room.ensures in
    makes_alien (domain_view d) c.args.self.now _ c.args.place c.args.sender b r c.domain-domain.result c.in-Ok-receive.sent c.self.view_is is refl grown left c.domain-domain.ensures
    (c.in-Ok-receive.ensures.sent ∙ ap (λ (u : Alone). option_map (descriptor_of c.domain-domain.result (length u.flight)) (received u b r).emission) c.make_room.ensures)
