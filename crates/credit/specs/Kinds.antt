-- The six kinds of credits (PCIe 4.0, 2.6.1): header and data credits of each class.
use Rattle.std.specs.Prelude.{ℕ}
pub use Rattle.fab_types.specs.declared.class.Class.{Class}
pub use Rattle.fab_types.specs.declared.cost.Cost.{Cost}

pub data Kind : Type 0 where
  Headers : Class → Kind
  Data : Class → Kind

-- counters of headers have 8 bits, counters of data 12
abbrev pub size_of : Kind → ℕ
size_of (Kind.Headers c) = 256
size_of (Kind.Data c) = 4096

-- n where the classes are the same, else 0
abbrev pub where_same : Class → Class → ℕ → ℕ
where_same Class.Posted Class.Posted n = n
where_same Class.NonPosted Class.NonPosted n = n
where_same Class.Completion Class.Completion n = n
where_same _ _ n = 0

-- what a packet of a class costs of a kind: one header credit, and n data credits
abbrev pub amount_of : Class → ℕ → Kind → ℕ
amount_of class n (Kind.Headers c) = where_same class c 1
amount_of class n (Kind.Data c) = where_same class c n

abbrev pub cost_of : Cost → Kind → ℕ
cost_of cost k = amount_of cost.class cost.data k
