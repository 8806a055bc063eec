use Rattle.std.proofs.Common.{get_or}
use Rattle.domains.proofs.Indexed.{places_stay, share_kept}
use Rattle.domains.proofs.ends.refuse_at.Goals as goal

pub returns-clause-places : goal.returns-clause-places
returns-clause-places c =
    let ds = c.args.domains.now in let i = c.args.place in let read = c.index-domains-place.result in
    places_stay ds i read c.refuse.new.self (share_kept _ (get_or ds i read) c.refuse.new.self c.refuse.result (λ x m. m.1.share) c.refuse.ensures.ok c.refuse.ensures.err)
