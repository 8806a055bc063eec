use Rattle.std.proofs.Common.{◌≡◌, ap}
use Rattle.std.specs.List.{flat_map}
use Rattle.fabric_core.specs.declared.station.Station.{Station}
use Rattle.fabric_core.specs.Stations.{events_at}
use Rattle.sweeps.specs.Sweeps.{Places, stations_of}
use Rattle.sweeps.proofs.Events.{grouped}
use Rattle.sweeps.proofs.order.stations.Goals as goal

pub returns : goal.returns
returns c =
    let places : Places = record { functions = c.in_ok-functions.functions.items; ports = c.in_ok-ports_of.field-0.items; links = c.in_ok-links_of.field-0.items } in
    let all : c.add_functions.new.stations.items ≡ stations_of places c.args.domains.now =
    grouped {X = Station} _ _ _ _ _ _ _ _ _ _ _ _ _ c.new-stations.ensures.items (rw c.deref.ensures.value at c.in_ok-add_outboxes.ensures) c.in_ok-add_hosts.ensures
    (rw c.deref-2.ensures.value at c.in_ok-add_ports.ensures) (rw c.deref-3.ensures.value at c.in_ok-add_links.ensures) c.in_ok-push.ensures.items
    (rw c.deref-4.ensures.value at c.in_ok-add_functions.ensures) in
    record { places = places; functions = c.in_ok-functions.ensures; ports = c.in_ok-ports_of.ensures; links = c.in_ok-links_of.ensures; all = ap (flat_map events_at) all }
