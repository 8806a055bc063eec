-- IDs of functions and ports as 16 bits (PCIe 4.0, 2.2.4.2 and 2.2.6.2).
use Rattle.std.specs.Prelude.{ℕ, ◌+◌, ◌*◌, ◌/◌, ◌%◌}

-- 8 bits of bus, 5 of device, 3 of function
abbrev pub id_of : ℕ → ℕ → ℕ → ℕ
id_of bus device function = bus * 256 + device * 8 + function

abbrev pub bus_of : ℕ → ℕ
bus_of id = id / 256

abbrev pub device_of : ℕ → ℕ
device_of id = id / 8 % 32

abbrev pub function_of : ℕ → ℕ
function_of id = id % 8

-- the host of a domain is the device of the domain's number on bus 00
abbrev pub host_of : ℕ → ℕ
host_of domain = domain * 8
