-- Who sends packets: a function, or the host of a domain (PCIe 4.0, 2.2.6.2).
use Rattle.std.specs.Prelude.{ℕ, ◌==◌, Bool, false}
use Rattle.fab_types.specs.Id.{host_of}
use Rattle.fab_types.specs.declared.origin.Origin.{Origin}
use Rattle.fab_types.specs.declared.origin.Origin.TheVariants.{Function, Host}

abbrev pub same_origin : Origin → Origin → Bool
same_origin (Function f) (Function g) = f == g
same_origin (Function f) (Host d) = false
same_origin (Host d) (Function g) = false
same_origin (Host d) (Host e) = d == e

-- the ID under which an origin makes requests
abbrev pub origin_id : Origin → ℕ
origin_id (Function f) = f
origin_id (Host d) = host_of d
