use Rattle.std.proofs.Common.{get_or}
use Rattle.domains.proofs.Indexed.{places_stay, share_kept}
use Rattle.domains.proofs.aliens.taken_at.Goals as goal

pub returns-clause-places : goal.returns-clause-places
returns-clause-places c =
    let ds = c.args.domains.now in let i = c.args.at in let read = c.index-domains-at-2.result in
    places_stay ds i read c.alien.new.self (share_kept _ (get_or ds i read) c.alien.new.self c.alien.result (λ x m. m.share) c.alien.ensures.ok c.alien.ensures.err)
