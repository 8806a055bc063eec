use Rattle.std.proofs.Common.{get_or, refl, rules}
use Rattle.std.proofs.lemmas.Option.{slice_get-get_or}
use Rattle.thread_workers.proofs.host.end_here.end_as_alien.Goals as goal

pub returns-in-Some-clause-alien : goal.returns-in-Some-clause-alien
returns-in-Some-clause-alien g c = λ is_alien.
    let taken = c.end_alien.ensures.alien is_alien in (
      record {
        place = c.in-Some.place;
        found = search rules;
        host = get_or c.args.hosts.now c.in-Some.place c.index-hosts-place.result;
        was = slice_get-get_or c.args.hosts.now c.in-Some.place c.index-hosts-place.result (search rules);
        host' = record { outbox = c.end_alien.new.outbox; ends = (get_or c.args.hosts.now c.in-Some.place c.index-hosts-place.result).ends };
        change = (search rules, refl);
        is = refl;
      },
      taken.1,
      taken.2,
    )
