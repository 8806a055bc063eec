use Rattle.std.proofs.Common.{get_or}
use Rattle.domains.proofs.Indexed.{places_stay, share_kept}
use Rattle.domains.proofs.begins.tick_at.Goals as goal

pub returns-clause-places : goal.returns-clause-places
returns-clause-places c =
    let ds = c.args.domains.now in let i = c.args.place in let read = c.index-domains-place.result in
    places_stay ds i read c.tick.new.self (share_kept _ (get_or ds i read) c.tick.new.self c.tick.result (λ x m. m.share) c.tick.ensures.ok c.tick.ensures.err)
