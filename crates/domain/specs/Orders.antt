-- Which two packets of a domain keep their order on the way (PCIe 4.0, 2.4.1): a posted one, and a later one that was put
-- in the same outbox and goes the same way.
use Rattle.std.specs.Prelude.{◌≡◌, ℕ, ◌⊎◌, ⊤, false, List, Option, Some, None}
use Rattle.fab_types.specs.declared.class.Class.TheVariants.{Posted}
use Rattle.fab_types.specs.declared.head.Header.{Header}
use Rattle.fab_types.specs.declared.head.Header.TheVariants.{Malformed, Memory, OtherRequest, Completion}
use Rattle.fab_types.specs.declared.head.Parties.{Parties}
use Rattle.fab_types.specs.declared.head.Parties.TheVariants.{Upward, Downward, Answer}
use Rattle.fab_types.specs.declared.origin.Origin.{Origin}
use Rattle.fab_types.specs.declared.origin.Origin.TheVariants.{Function, Host}
use Rattle.platform.specs.declared.parts.DownstreamPort.{DownstreamPort}
use Rattle.request_handling.specs.declared.fate.Fate.TheVariants.{ToHost}
use Rattle.request_handling.specs.Fates.{direct_in, fate}
use Rattle.request_handling.specs.Heads.{head_of}
use Rattle.domain.specs.Sent.{Sent}
use Rattle.request_handling.specs.Emissions.{Emission}

-- ---- of one packet

-- bytes that spell no packet count as a posted one
abbrev pub IsPosted : Emission → Type 0
IsPosted e = (head_of e).cost.class ≡ Posted

abbrev pub IsCompletion : Header → Type 0
IsCompletion Malformed = ⊥
IsCompletion (Memory requester address_type address) = ⊥
IsCompletion (OtherRequest requester) = ⊥
IsCompletion (Completion target relaxed_ordering) = ⊤

-- all but a completion with Relaxed Ordering, which ports may send another way than up (PCIe 4.0, 6.12.5)
abbrev pub IsUnrelaxed : Header → Type 0
IsUnrelaxed Malformed = ⊤
IsUnrelaxed (Memory requester address_type address) = ⊤
IsUnrelaxed (OtherRequest requester) = ⊤
IsUnrelaxed (Completion target relaxed_ordering) = relaxed_ordering ≡ false

abbrev pub IsPassed : List DownstreamPort → List ℕ → Parties → Type 0
IsPassed ports bytes (Upward function) = fate ports function bytes ≡ ToHost
IsPassed ports bytes (Downward function) = ⊥
IsPassed ports bytes (Answer answerer addressee) = ⊥

-- a request that its sender's first port lets pass, to the host
abbrev pub GoesToHost : List DownstreamPort → Emission → Type 0
GoesToHost ports e = IsPassed ports e.bytes e.parties

abbrev pub IsOf : ℕ → Origin → Type 0
IsOf function (Function other) = other ≡ function
IsOf function (Host domain) = ⊥

-- a request or a completion to this function
abbrev pub IsTo : ℕ → Parties → Type 0
IsTo function (Upward sender) = ⊥
IsTo function (Downward completer) = completer ≡ function
IsTo function (Answer answerer None) = ⊥
IsTo function (Answer answerer (Some addressee)) = IsOf function addressee

-- ---- of two, by whom they were sent

-- to which function a packet goes directly that this one sent, if it goes so to any
abbrev pub direct_from : List DownstreamPort → ℕ → Emission → Option ℕ
direct_from ports function e = direct_in (fate ports function e.bytes)

-- from one function, both directly to one other or neither directly to any, and the later one isn't stopped at a port that
-- the earlier one passes
pub record FromFunction (ports : List DownstreamPort) (first second : Sent) : Type 0 where
  pub function : ℕ
  pub first_source : first.source ≡ Some (Function function)
  pub second_source : second.source ≡ Some (Function function)
  pub same_way : direct_from ports function first.emission ≡ direct_from ports function second.emission
  pub posted : IsPosted first.emission
  pub unrelaxed : IsUnrelaxed (head_of second.emission).header
  pub further : IsCompletion (head_of second.emission).header ⊎ GoesToHost ports second.emission ⊎ (GoesToHost ports first.emission → ⊥)

-- from the host to one function
pub record FromHost (domain : ℕ) (first second : Sent) : Type 0 where
  pub function : ℕ
  pub first_source : first.source ≡ Some (Host domain)
  pub second_source : second.source ≡ Some (Host domain)
  pub posted : IsPosted first.emission
  pub first_to : IsTo function first.emission.parties
  pub second_to : IsTo function second.emission.parties

-- two packets of this domain that do, the first of them made before the second
pub data KeepOrder (ports : List DownstreamPort) (domain : ℕ) (first second : Sent) : Type 0 where
  UpFromFunction : FromFunction ports first second → KeepOrder ports domain first second
  DownFromHost : FromHost domain first second → KeepOrder ports domain first second
