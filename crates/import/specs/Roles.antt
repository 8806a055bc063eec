-- What a device is to a layout, and what window a layout takes of it.
use Rattle.std.specs.Prelude.{ℕ, ◌^◌, ◌==◌, Bool, true, false, ◌&&◌, ◌||◌, not, nat_lt, List, Option, Some, None, is_some, if◌then◌else◌}
use Rattle.lspci.specs.declared.capabilities.PortType.{PortType}
use Rattle.lspci.specs.declared.capabilities.PortType.TheVariants as port
use Rattle.lspci.specs.declared.header.HeaderKind.{HeaderKind}
use Rattle.lspci.specs.declared.header.HeaderKind.TheVariants as kind
use Rattle.lspci.specs.declared.header.Window.{Window}
use Rattle.lspci.specs.Acs.{is_number, passes}
use Rattle.lspci.specs.Capabilities.{port_type_of}
use Rattle.lspci.specs.Headers.{class_of, device_of, kind_of, memory_window, prefetchable_window, vendor_of}
use Rattle.import.specs.declared.role.LowWindow.{LowWindow}
use Rattle.import.specs.declared.role.Role.{Role}
use Rattle.import.specs.declared.role.Role.TheVariants as role

abbrev pub bridge_role : Option PortType → Role
bridge_role (Some port.RootPort) = role.RootPort
bridge_role (Some port.Downstream) = role.Downstream
bridge_role (Some port.Upstream) = role.Upstream
bridge_role _ = role.Other

-- a bridge has class 0604h
abbrev pub role_of_kind : List ℕ → Option HeaderKind → Role
role_of_kind bytes (Some kind.Endpoint) = role.Endpoint
role_of_kind bytes (Some kind.Bridge) = if is_number 0x0604 (class_of bytes) then bridge_role (port_type_of bytes) else role.Other
role_of_kind bytes _ = role.Other

abbrev pub role_of : List ℕ → Role
role_of bytes = role_of_kind bytes (kind_of bytes)

abbrev pub is_port : Role → Bool
is_port role.RootPort = true
is_port role.Downstream = true
is_port _ = false

abbrev pub is_root : Role → Bool
is_root role.RootPort = true
is_root _ = false

abbrev pub is_upstream : Role → Bool
is_upstream role.Upstream = true
is_upstream _ = false

-- a window that begins at 0 was never set
abbrev pub set_window : Option Window → Option Window
set_window None = None
set_window (Some window) = if window.base == 0 then None else Some window

-- a window below 4 GB
abbrev pub low_window : Option Window → Option LowWindow
low_window None = None
low_window (Some window) = if nat_lt window.base (2 ^ 32) && nat_lt window.limit (2 ^ 32) then Some (record { base = window.base; limit = window.limit }) else None

abbrev pub first_window : Option Window → Option Window → Option LowWindow
first_window None prefetchable = low_window prefetchable
first_window (Some window) prefetchable = low_window (Some window)

-- the window for memory, or, where the bridge has none, the prefetchable one
abbrev pub port_window : List ℕ → Option LowWindow
port_window bytes = first_window (set_window (memory_window bytes)) (set_window (prefetchable_window bytes))

-- there is a second window, which no layout has
abbrev pub has_further_window : List ℕ → Bool
has_further_window bytes = is_some (set_window (memory_window bytes)) && is_some (set_window (prefetchable_window bytes))

-- ---- functions that are no bridges

abbrev pub is_plain : Option HeaderKind → Bool
is_plain (Some kind.Endpoint) = true
is_plain _ = false

-- a virtual function has no IDs of its own (PCIe 4.0, 9.3.4)
abbrev pub is_virtual : List ℕ → Bool
is_virtual bytes = is_plain (kind_of bytes) && is_number 0xffff (vendor_of bytes) && is_number 0xffff (device_of bytes)

-- a host bridge, an ISA bridge, an SMBus controller
abbrev pub is_board_class : ℕ → Bool
is_board_class class = (class == 0x0600) || (class == 0x0601) || (class == 0x0c05)

-- somebody may want it isolated: it is no bridge, and no part of the board
abbrev pub is_endpoint : List ℕ → Bool
is_endpoint bytes = is_plain (kind_of bytes) && passes (λ class. not (is_board_class class)) (class_of bytes)
