-- The groups in which Linux puts devices (`pci_device_group` of Linux 6.1). A layout has no root port: it counts as one that has all
-- controls, and each control as one that the port's capability has.
use Rattle.std.specs.Prelude.{ℕ, ◌==◌, ◌++◌, Bool, false, ◌&&◌, ◌||◌, not, List, Option, Some, None, map}
use Rattle.std.specs.List.{find, list_all, list_any}
use Rattle.fab_types.specs.Controls.{validates_source, redirects_requests, redirects_completions, forwards_upstream}
use Rattle.fab_types.specs.Id.{bus_of}
use Rattle.fab_types.specs.declared.controls.AcsControl.{AcsControl}
use Rattle.platform.specs.declared.parts.DownstreamPort.{DownstreamPort}
use Rattle.platform.specs.Owners.{domain_above, holds_bus}
use Rattle.platform.specs.Platform.{Platform}
use Rattle.iommu_groups.specs.declared.member.Member.{Member}

-- what Linux asks of a port (`REQ_ACS_FLAGS`); Translation Blocking isn't among that
abbrev pub has_required : AcsControl → Bool
has_required controls = validates_source controls && redirects_requests controls && redirects_completions controls && forwards_upstream controls

-- each port above what is on a bus has it (`pci_acs_path_enabled`). Nothing is asked of upstream ports and functions, which are the
-- only functions of their devices (`pci_acs_enabled`)
abbrev pub is_path_enabled : List DownstreamPort → ℕ → Bool
is_path_enabled ports bus = list_all (λ port. not (holds_bus port bus) || has_required port.controls) ports

-- the walk up from what is on the bus ends at this port: the path from it isn't enabled, and the one above it is
abbrev pub is_stop : List DownstreamPort → ℕ → DownstreamPort → Bool
is_stop ports bus port = holds_bus port bus && not (has_required port.controls) && is_path_enabled ports (bus_of port.id)

abbrev pub id_or : ℕ → Option DownstreamPort → ℕ
id_or device None = device
id_or device (Some port) = port.id

-- the device whose group this one is in: the port where the walk ends, or itself, where the path above it is enabled
abbrev pub group_of : List DownstreamPort → ℕ → ℕ
group_of ports device = id_or device (find (is_stop ports (bus_of device)) ports)

-- ---- of a whole tree

abbrev pub member_of : List DownstreamPort → ℕ → Option ℕ → Member
member_of ports device owner = record { device = device; group = group_of ports device; owner = owner }

-- upstream ports, downstream ports and functions, in the order of their lines
abbrev pub members_of : Platform → List Member
members_of platform =
    map (λ line. member_of platform.ports line.id None) platform.switches ++ map (λ line. member_of platform.ports line.id None) platform.ports
    ++ map (λ line. member_of platform.ports line.id (domain_above platform.ports line.id)) platform.functions

abbrev pub is_owner : ℕ → Option ℕ → Bool
is_owner domain None = false
is_owner domain (Some owner) = owner == domain

abbrev pub is_of : ℕ → Member → Bool
is_of domain m = is_owner domain m.owner

-- a function of the domain has the group of this device
abbrev pub is_with : List Member → ℕ → Member → Bool
is_with members domain one = list_any (λ m. is_of domain m && (m.group == one.group)) members

-- a function of the one domain is in a group with one of the other
abbrev pub have_common_group : List Member → ℕ → ℕ → Bool
have_common_group members one other = list_any (λ m. is_of one m && is_with members other m) members
