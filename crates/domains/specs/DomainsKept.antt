-- What a clause sees of the domains of a fabric.
use Rattle.std.specs.Prelude.{List}
use Rattle.domain.specs.Domains.{DomainView}
use Rattle.domains.specs.declared.domains.Domains.TheInside.{Inside}
use Rattle.domains.specs.Indexes.{IsIndexOf}

abbrev pub domains_of : Inside → List DomainView
domains_of t = t.domains.items

-- its fields: the index is of its domains
abbrev pub IsIndexed : Inside → Type 0
IsIndexed t = IsIndexOf t.index t.domains.items
