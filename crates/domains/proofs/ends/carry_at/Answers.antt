use Rattle.std.proofs.Common.{get_or}
use Rattle.std.proofs.lemmas.Option.{slice_get-get_or}
use Rattle.domain.specs.declared.entry.Entry.TheVariants.{Carry}
use Rattle.domains.proofs.Making.{end_made, given_back}
use Rattle.domains.proofs.Indexed.{places_stay, share_kept}
use Rattle.domains.proofs.ends.carry_at.Goals as goal

pub returns-clause-ok : goal.returns-clause-ok
returns-clause-ok c =
    let ds = c.args.domains.now in let i = c.args.place in let read = c.index-domains-place.result in
    end_made ds i (get_or ds i read) c.carry.new.self (Carry c.args.frame.number) c.args.frame c.carry.result (slice_get-get_or ds i read c.requires.within) c.carry.ensures.ok

pub returns-clause-fault : goal.returns-clause-fault
returns-clause-fault c =
    let ds = c.args.domains.now in let i = c.args.place in let read = c.index-domains-place.result in
    given_back ds i (get_or ds i read) (Carry c.args.frame.number) c.args.frame c.carry.result (slice_get-get_or ds i read c.requires.within) c.requires.home c.carry.ensures.fault

pub returns-clause-places : goal.returns-clause-places
returns-clause-places c =
    let ds = c.args.domains.now in let i = c.args.place in let read = c.index-domains-place.result in
    places_stay ds i read c.carry.new.self (share_kept _ (get_or ds i read) c.carry.new.self c.carry.result (λ x m. m.1.share) c.carry.ensures.ok c.carry.ensures.err)
