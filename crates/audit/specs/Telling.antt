-- What an audit tells: of each two domains, for each way of harm, the first request that lands.
use Rattle.std.specs.Prelude.{◌≡◌, ⊤, ℕ, ◌==◌, ◌++◌, Bool, true, false, List, [], ◌∷◌, Option, Some, None, All, map, if◌then◌else◌}
use Rattle.std.specs.List.{flat_map}
use Rattle.std.specs.Option.{option_to_list}
use Rattle.platform.specs.Platform.{Platform}
use Rattle.platform.specs.Share.{Share}
use Rattle.domain.specs.Domains.{DomainView}
use Rattle.fabric_core.specs.TakenOut.{NoneCanTell}
use Rattle.fabric_core.specs.World.{world_of}
use Rattle.tlp_view.specs.Requests.{packet_bytes}
use Rattle.attacks.specs.Packets.{packet_of}
use Rattle.attacks.specs.Tries.{own_ids, tries}
use Rattle.attacks.specs.declared.attack.Attack.{Attack}
use Rattle.attacks.specs.declared.attack.Way.{Way}
use Rattle.attacks.specs.declared.attack.Way.TheVariants as way
use Rattle.attacks.specs.declared.findings.Findings.{Findings}
use Rattle.attacks.specs.declared.findings.Findings.TheVariants.{NothingToKeep, Guarded, Unguarded}
use Rattle.attacks.specs.declared.findings.Pair.{Pair}
use Rattle.attacks.specs.declared.findings.Witness.{Witness}
use Rattle.audit.specs.Landing.{Fails, Lands}

-- all ways of harm, the worst first
abbrev pub ways : List Way
ways = way.FrameWritten ∷ way.FrameRead ∷ way.RegistersWritten ∷ way.RegistersRead ∷ way.TagClosed ∷ way.Completion ∷ way.Counts ∷ way.AnswersReads ∷ []

-- a request of one domain against another, as a witness tells it
abbrev pub witness_by : ℕ → ℕ → Attack → Witness
witness_by attacker victim attack = record {
  attacker = attacker;
  victim = victim;
  harm = attack.harm;
  function = attack.function;
  port = attack.port;
  control = attack.control;
  bytes = packet_bytes (packet_of attack);
}

-- what each of these functions tries against a domain in one way
abbrev pub attempts : Platform → Way → List ℕ → Share → List Attack
attempts platform way functions victim = flat_map (λ function. tries platform way function victim) functions

abbrev pub is_answer : Way → Bool
is_answer way.AnswersReads = true
is_answer _ = false

-- whose functions try: the attacker's, or, where that only answers, the victim's
abbrev pub trier : Way → Share → Share → Share
trier way attacker victim = if is_answer way then victim else attacker

-- against whom: the other
abbrev pub target : Way → Share → Share → Share
target way attacker victim = if is_answer way then attacker else victim

-- what they try
abbrev pub candidates : Platform → Share → Share → Way → List Witness
candidates platform attacker victim way =
    map (witness_by attacker.domain victim.domain) (attempts platform way (own_ids (trier way attacker victim)) (target way attacker victim))

-- it is one of these, and lands; those before it don't
pub record IsFirst (platform : Platform) (ws : List Witness) (w : Witness) : Type 0 where
  pub before : List Witness
  pub after : List Witness
  pub all : ws ≡ before ++ w ∷ after
  pub fail : All (Fails platform) before
  pub lands : Lands platform w

-- the first of these that lands, or none, where none does
abbrev pub IsFound : Platform → List Witness → Option Witness → Type 0
IsFound platform ws None = All (Fails platform) ws
IsFound platform ws (Some w) = IsFirst platform ws w

-- what is found of these was added
pub record AddsFound (platform : Platform) (ws : List Witness) (old new : List Witness) : Type 0 where
  pub found : Option Witness
  pub is : IsFound platform ws found
  pub all : new ≡ old ++ option_to_list found

-- for each of these ways in turn what is found
abbrev pub AreFound : Platform → Share → Share → List Way → List Witness → Type 0
AreFound platform attacker victim [] told = told ≡ []
AreFound platform attacker victim (way ∷ ways) told =
    (found : Option Witness) × (rest : List Witness) × IsFound platform (candidates platform attacker victim way) found
    × AreFound platform attacker victim ways rest
    × (told ≡ option_to_list found ++ rest)

-- two domains, if they are different
abbrev pub couple_of : DomainView → DomainView → List (DomainView × DomainView)
couple_of attacker victim = if attacker.share.domain == victim.share.domain then [] else (attacker, victim) ∷ []

abbrev pub couples_of : List DomainView → DomainView → List (DomainView × DomainView)
couples_of domains attacker = flat_map (couple_of attacker) domains

-- each two different domains, in either order
abbrev pub couples : List DomainView → List (DomainView × DomainView)
couples domains = flat_map (couples_of domains) domains

-- it is of these two domains, and has what is found in all ways
pub record IsPairOf (platform : Platform) (attacker victim : Share) (pair : Pair) : Type 0 where
  pub attacker_is : pair.attacker ≡ attacker.domain
  pub victim_is : pair.victim ≡ victim.domain
  pub found : AreFound platform attacker victim ways pair.witnesses.items

-- each of these couples has its pair, in turn
abbrev pub ArePairsOf : Platform → List (DomainView × DomainView) → List Pair → Type 0
ArePairsOf platform [] pairs = pairs ≡ []
ArePairsOf platform (couple ∷ couples) pairs =
    (pair : Pair) × (rest : List Pair) × IsPairOf platform couple.0.share couple.1.share pair × ArePairsOf platform couples rest × (pairs ≡ pair ∷ rest)

-- those of these couples were added
pub record Adds (platform : Platform) (couples : List (DomainView × DomainView)) (old new : List Pair) : Type 0 where
  pub added : List Pair
  pub of : ArePairsOf platform couples added
  pub all : new ≡ old ++ added

-- what findings say: no domain can tell the others from none, or of each two domains what was seen, if two own a function
abbrev pub Tell : Platform → Findings → Type 0
Tell platform NothingToKeep = ⊤
Tell platform Guarded = NoneCanTell (world_of platform)
Tell platform (Unguarded pairs) = ArePairsOf platform (couples (world_of platform).agents.domains) pairs.items
