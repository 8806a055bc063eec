-- Ports that have a control clear (PCIe 4.0, 7.7.8.3).
use Rattle.std.specs.Prelude.{ℕ, ◌==◌, ◌&&◌, Bool, not, List}
use Rattle.std.specs.List.{list_any}
use Rattle.fab_types.specs.Controls.{is_set}
use Rattle.fab_types.specs.declared.controls.Control.{Control}
use Rattle.platform.specs.declared.parts.DownstreamPort.{DownstreamPort}

-- the port of this ID has the control clear
abbrev pub is_clear : List DownstreamPort → ℕ → Control → Bool
is_clear ports id control = list_any (λ port. (port.id == id) && not (is_set port.controls control)) ports
