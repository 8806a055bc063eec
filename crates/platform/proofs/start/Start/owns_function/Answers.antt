use Rattle.std.proofs.Common.{◌≡◌, ◌∙◌, Some, ap, sym, true}
use Rattle.fab_types.specs.Id.{bus_of}
use Rattle.platform.specs.declared.parts.EndpointFunction.{EndpointFunction}
use Rattle.platform.specs.Owners.{first_port, is_function}
use Rattle.platform.specs.Buses.{is_below, leads_to}
use Rattle.platform.specs.declared.start.buses.BusEntry.{BusEntry}
use Rattle.platform.specs.Reach.{function_at, holds_bus_if_any, line_at}
use Rattle.platform.proofs.Bools.{and-both}
use Rattle.platform.proofs.Led.{found-is-function, led-to}
use Rattle.platform.proofs.start.Start.owns_function.Goals as goal

-- the function that the bus leads to is one of the layout's
pub returns-then-leads_to : goal.returns-then-leads_to
returns-then-leads_to c =
    let share = c.args.self.now in
    let id = c.args.id in
    let entry = c.bus-entry.ensures in
    let leads : leads_to (line_at share.ports share.functions c.bus.result) id ≡ true = ap (λ (e : BusEntry). leads_to e.function id) (sym entry) ∙ sym c.leads_to.ensures ∙ c.if-leads_to.true in
    let at : function_at share.ports share.functions c.bus.result ≡ Some id = led-to (line_at share.ports share.functions c.bus.result) id leads in
    let known : is_function share.functions id ≡ true = found-is-function (λ (line : EndpointFunction). holds_bus_if_any (first_port share.ports line.id) c.bus.result) share.functions id at in
    let own : is_below share.ports share.domain (bus_of id) ≡ true = ap (is_below share.ports share.domain) (sym c.bus.ensures) ∙ ap (λ (e : BusEntry). e.is_own) (sym entry) ∙ c.if-entry.true in
    c.if-leads_to.true ∙ sym (and-both (is_function share.functions id) (is_below share.ports share.domain (bus_of id)) known own)
