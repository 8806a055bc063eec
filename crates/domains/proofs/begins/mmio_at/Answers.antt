use Rattle.std.proofs.Common.{Option, sym, ap, ◌∙◌, get_or}
use Rattle.std.proofs.lemmas.Option.{slice_get-get_or}
use Rattle.domain.specs.declared.entry.Entry.TheVariants.{Mmio}
use Rattle.domain.specs.Domains.{DomainView}
use Rattle.domains.specs.Domains.{mmio_refusal_by}
use Rattle.domains.proofs.Making.{frame_made}
use Rattle.domains.proofs.Indexed.{places_stay, share_kept}
use Rattle.domains.proofs.begins.mmio_at.Goals as goal

pub returns-clause-ok : goal.returns-clause-ok
returns-clause-ok c =
    let ds = c.args.domains.now in let i = c.args.place in let read = c.index-domains-place.result in
    frame_made ds i (get_or ds i read) c.mmio.new.self (Mmio c.args.access.now) c.mmio.result (slice_get-get_or ds i read c.requires) c.mmio.ensures.ok

pub returns-clause-refused : goal.returns-clause-refused
returns-clause-refused c =
    let at = slice_get-get_or c.args.domains.now c.args.place c.index-domains-place.result c.requires in
    λ fault told. c.mmio.ensures.refused fault (sym (ap (λ (o : Option DomainView). mmio_refusal_by o c.args.access.now) at) ∙ told)

pub returns-clause-accepted : goal.returns-clause-accepted
returns-clause-accepted c =
    let at = slice_get-get_or c.args.domains.now c.args.place c.index-domains-place.result c.requires in
    λ told. c.mmio.ensures.accepted (sym (ap (λ (o : Option DomainView). mmio_refusal_by o c.args.access.now) at) ∙ told)

pub returns-clause-places : goal.returns-clause-places
returns-clause-places c =
    let ds = c.args.domains.now in let i = c.args.place in let read = c.index-domains-place.result in
    places_stay ds i read c.mmio.new.self (share_kept _ (get_or ds i read) c.mmio.new.self c.mmio.result (λ x m. m.share) c.mmio.ensures.ok c.mmio.ensures.err)
