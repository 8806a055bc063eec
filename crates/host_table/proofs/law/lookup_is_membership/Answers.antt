use Rattle.platform.specs.Tables.{MapsOnce, fits}
use Rattle.host_table.proofs.Membership.{found_leads, leads_found, one_fits}
use Rattle.host_table.proofs.law.lookup_is_membership.Goals as goal

pub returns : goal.returns
returns c = λ requester page access target.
    let maps = c.args.table.now in
    let p = fits requester page access in
    let once : MapsOnce maps = rw (← c.table.view_is) c.table.invariant.once in
    (found_leads p target maps, leads_found p target maps (one_fits maps requester page access once))
