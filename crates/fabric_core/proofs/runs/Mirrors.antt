-- A fabric that has of another what is one domain's, and at least the credits: the fabric without the other domains.
use Rattle.std.proofs.Common.{◌≡◌, ℕ, ◌≤◌, Bool, true, false, cond, List, map, Option, Some, None, refl, subst}
use Rattle.std.specs.Prelude.{⊤, filter, option_map}
use Rattle.std.specs.Option.{option_and_then}
use Rattle.fab_types.specs.declared.violation.Violation.{Violation}
use Rattle.frame_log.specs.Descriptor.{Descriptor}
use Rattle.credit.specs.Kinds.{Kind}
use Rattle.credit.specs.Limits.{at}
use Rattle.domain.specs.Domains.{DomainView}
use Rattle.domains.specs.Agents.{AgentsView, Outbox}
use Rattle.link.specs.Channels.{Channel}
use Rattle.domains.specs.Domains.{Made}
use Rattle.fabric_core.specs.Arrivals.{Taken}
use Rattle.fabric_core.specs.Isolation.{own}
use Rattle.fabric_core.specs.Soundness.{config_of, share_of}
use Rattle.fabric_core.specs.World.{World}
use Rattle.fabric_core.proofs.runs.OwnOnes.{IsOwn}
use Rattle.fabric_core.proofs.runs.Pairwise.{Pairwise}
use Rattle.fabric_core.proofs.apart.Sparing.{numbered}

-- ---- two results

-- where there is a first, there is a second, and they are related
abbrev pub Follows : {X Y : Type 0} → (X → Y → Type 0) → Option X → Option Y → Type 0
Follows R None second = ⊤
Follows R (Some x) None = ⊥
Follows R (Some x) (Some y) = R x y

-- and there is none where there is no first
abbrev pub Alike : {X Y : Type 0} → (X → Y → Type 0) → Option X → Option Y → Type 0
Alike R None None = ⊤
Alike R (Some x) (Some y) = R x y
Alike R None (Some y) = ⊥
Alike R (Some x) None = ⊥

pub followed : {X Y : Type 0} (R : X → Y → Type 0) (first : Option X) (second : Option Y) → Alike R first second → Follows R first second
followed R None second alike = tt
followed R (Some x) None alike = absurd alike
followed R (Some x) (Some y) alike = alike

module _ {X Y U V : Type 0} (R : X → Y → Type 0) (S : U → V → Type 0) where
  pub follows_mapped : (f : X → U) (g : Y → V) → ((x : X) (y : Y) → R x y → S (f x) (g y)) → (o : Option X) (p : Option Y) → Follows R o p → Follows S (option_map f o) (option_map g p)
  follows_mapped f g both None p so = tt
  follows_mapped f g both (Some x) None so = absurd so
  follows_mapped f g both (Some x) (Some y) so = both x y so

  pub alike_mapped : (f : X → U) (g : Y → V) → ((x : X) (y : Y) → R x y → S (f x) (g y)) → (o : Option X) (p : Option Y) → Alike R o p → Alike S (option_map f o) (option_map g p)
  alike_mapped f g both None None so = tt
  alike_mapped f g both None (Some y) so = absurd so
  alike_mapped f g both (Some x) None so = absurd so
  alike_mapped f g both (Some x) (Some y) so = both x y so

  pub follows_then : (f : X → Option U) (g : Y → Option V) → ((x : X) (y : Y) → R x y → Follows S (f x) (g y)) → (o : Option X) (p : Option Y) → Follows R o p → Follows S (option_and_then f o) (option_and_then g p)
  follows_then f g both None p so = tt
  follows_then f g both (Some x) None so = absurd so
  follows_then f g both (Some x) (Some y) so = both x y so

-- what stops the second stops the first
pub follows_unless : {X Y : Type 0} (R : X → Y → Type 0) (one other : Bool) (x : X) (y : Y) → (one ≡ false → other ≡ false) → R x y → Follows R (cond one None (Some x)) (cond other None (Some y))
follows_unless R true other x y free so = tt
follows_unless R false true x y free so = absurd (let no : true ≡ false = free refl in cc)
follows_unless R false false x y free so = so

pub follows_some : {X Y : Type 0} (R : X → Y → Type 0) (o : Option X) (p : Option Y) (x : X) → Follows R o p → o ≡ Some x → (y : Y) × (p ≡ Some y) × R x y
follows_some R None p x so is = absurd cc
follows_some R (Some z) None x so is = absurd so
follows_some R (Some z) (Some y) x so is = (y, refl, let same : z ≡ x = cc in subst (λ u. R u y) same so)

-- ---- on links

pub record MirrorsLink (d : ℕ) (one other : Channel) : Type 0 where
  pub start : other.start ≡ one.start
  pub left : (k : Kind) → at one.left k ≤ at other.left k
  pub egress : other.egress ≡ own d one.egress
  pub wire : other.wire ≡ own d one.wire
  pub ingress : other.ingress ≡ own d one.ingress

abbrev pub MirrorsLinks : ℕ → List (List Channel) → List (List Channel) → Type 0
MirrorsLinks d ones others = Pairwise (Pairwise (MirrorsLink d)) ones others

-- a packet of the domain was taken in both
pub record MirrorsTaken (d : ℕ) (one other : Taken) : Type 0 where
  pub own : IsOwn d one.frame
  pub channels : List (List Channel)
  pub links : MirrorsLinks d one.channels channels
  pub is : record { frame = one.frame; channels = channels } ≡ other

-- ---- at the agents

pub record MirrorsDomains (d : ℕ) (ones others : List DomainView) : Type 0 where
  pub shares : map share_of others ≡ map share_of ones
  pub home : numbered others d ≡ numbered ones d

abbrev pub own_box : ℕ → Outbox → Outbox
own_box d box = record { origin = box.origin; waiting = own d box.waiting }

pub record MirrorsAgents (d : ℕ) (one other : AgentsView) : Type 0 where
  pub domains : MirrorsDomains d one.domains other.domains
  pub boxes : other.outboxes ≡ map (own_box d) one.outboxes

-- an entry of the domain made both
pub record MirrorsMade (d : ℕ) (one other : Made) : Type 0 where
  pub sent : other.sent ≡ one.sent
  pub own : (frame : Descriptor) → one.sent ≡ Some frame → IsOwn d frame
  pub domains : MirrorsDomains d one.domains other.domains

-- ---- all of it

-- both have the same violations of those that this test finds
pub record Mirrors (d : ℕ) (is_told : Violation → Bool) (one other : World) : Type 0 where
  pub tree : other.tree ≡ one.tree
  pub routes : other.routes ≡ one.routes
  pub configs : map config_of other.ports ≡ map config_of one.ports
  pub links : MirrorsLinks d one.channels other.channels
  pub agents : MirrorsAgents d one.agents other.agents
  pub violations : filter is_told other.violations ≡ filter is_told one.violations
