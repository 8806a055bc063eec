-- Which domains own a function.
use Rattle.std.specs.Prelude.{ℕ, ◌==◌, Bool, List, count_by, nat_lt}
use Rattle.std.specs.List.{list_any, range_with_len}
use Rattle.platform.specs.declared.parts.DownstreamPort.{DownstreamPort}
use Rattle.platform.specs.declared.parts.EndpointFunction.{EndpointFunction}
use Rattle.platform.specs.Platform.{Platform}
use Rattle.platform.specs.Tree.{domain_of}

-- the domain of this number owns one of these functions
abbrev pub owns_function : List DownstreamPort → List EndpointFunction → ℕ → Bool
owns_function ports functions number = list_any (λ line. domain_of ports line.id == number) functions

-- how many of the domains, 1 to 31, own a function
abbrev pub owners_count : Platform → ℕ
owners_count platform = count_by (owns_function platform.ports platform.functions) (range_with_len 1 31)

-- no domain has another that it could harm
abbrev pub has_nothing_to_keep : Platform → Bool
has_nothing_to_keep platform = nat_lt (owners_count platform) 2
