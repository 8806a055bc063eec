use Rattle.std.proofs.Common.{◌≡◌, ◌∙◌, Some, None, true, sym, ap}
use Rattle.std.specs.Prelude.{option_map}
use Rattle.std.specs.List.{find}
use Rattle.platform.specs.declared.parts.DownstreamPort.{DownstreamPort}
use Rattle.platform.specs.Owners.{holds_address}
use Rattle.bridge.specs.Windows.{megabyte_of, reaches}
use Rattle.bridge.proofs.Addresses.{holder-none, holder-some}
use Rattle.bridge.proofs.windows.WindowedPorts.port_to_address.Goals as goal

pub returns-in_err-port : goal.returns-in_err-port
returns-in_err-port c =
    let none : find (reaches (megabyte_of c.args.address)) c.args.self.now ≡ None = sym c.in_err-port.ensures in
    c.from_residual.ensures ∙ sym (ap (option_map (λ (port : DownstreamPort). port.id)) (holder-none c.args.self.now c.args.address none))

pub returns-then-holds_address : goal.returns-then-holds_address
returns-then-holds_address c =
    let found : find (reaches (megabyte_of c.args.address)) c.args.self.now ≡ Some c.in_ok-port.port.now = sym c.in_ok-port.ensures in
    let holds : holds_address c.in_ok-port.port.now c.args.address ≡ true = sym c.if-holds_address.ensures in
    sym (ap (option_map (λ (port : DownstreamPort). port.id)) (holder-some c.args.self.now c.args.address c.in_ok-port.port.now found holds))
