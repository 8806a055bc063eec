-- What a platform gives: credits of a link, and the share of a domain.
use Rattle.std.specs.Prelude.{ℕ, ◌==◌, Bool, List, Option, Some, None, if◌then◌else◌}
use Rattle.std.specs.List.{find, filter, list_any, range_with_len}
use Rattle.platform.specs.declared.parts.Mapping.{Mapping}
use Rattle.platform.specs.declared.parts.BudgetLine.{BudgetLine}
use Rattle.platform.specs.declared.parts.CreditLimits.{CreditLimits}
use Rattle.platform.specs.declared.parts.CreditLine.{CreditLine}
use Rattle.platform.specs.declared.parts.DownstreamPort.{DownstreamPort}
use Rattle.platform.specs.Share.{Share}
use Rattle.platform.specs.Owners.{owns_port}
use Rattle.platform.specs.Platform.{Platform}
use Rattle.platform.specs.Tree.{is_taken, domain_of}
use Rattle.layout.specs.Rules.{is_mapping_of}

-- the credits of a link without a `credit` line
abbrev pub usual_limits : CreditLimits
usual_limits = record { posted_headers = 16; posted_data = 64; non_posted_headers = 16; non_posted_data = 16; completion_headers = 16; completion_data = 64 }

abbrev pub limits_or_usual : Option CreditLine → CreditLimits
limits_or_usual None = usual_limits
limits_or_usual (Some line) = line.limits

-- the credits of the link whose lower end this is, if there is one
abbrev pub credits_of : Platform → ℕ → Option CreditLimits
credits_of platform id =
    if is_taken platform.switches platform.functions id then Some (limits_or_usual (find (λ line. line.id == id) platform.credits)) else None

-- 256 begins without a `budget` line
abbrev pub begins_or_usual : Option BudgetLine → ℕ
begins_or_usual None = 256
begins_or_usual (Some line) = line.begins

abbrev pub budget_of : List BudgetLine → ℕ → ℕ
budget_of budgets domain = begins_or_usual (find (λ line. line.domain == domain) budgets)

-- the mappings of a domain's functions
abbrev pub is_map_of : List DownstreamPort → ℕ → Mapping → Bool
is_map_of ports domain line = domain_of ports line.requester == domain

abbrev pub maps_of : Platform → ℕ → List Mapping
maps_of platform domain = filter (is_map_of platform.ports domain) platform.maps

abbrev pub is_frame_of : List Mapping → ℕ → Bool
is_frame_of maps frame = list_any (λ line. is_mapping_of frame line.target) maps

-- the numbers of the frames that these mappings lead to, rising
abbrev pub frames_of : ℕ → List Mapping → List ℕ
frames_of frames maps = filter (is_frame_of maps) (range_with_len 0 frames)

-- what a domain starts from, if it owns a port
abbrev pub share_of_domain : Platform → ℕ → Share
share_of_domain platform domain = record {
  domain = domain;
  budget = budget_of platform.budgets domain;
  frames = frames_of platform.frames (maps_of platform domain);
  maps = maps_of platform domain;
  switches = platform.switches;
  ports = platform.ports;
  functions = platform.functions;
}

abbrev pub share_of_owner : Platform → ℕ → Option Share
share_of_owner platform domain = if owns_port platform.ports domain then Some (share_of_domain platform domain) else None
