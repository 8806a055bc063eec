-- A packet that harms a domain: what a witness shows.
use Rattle.std.specs.Prelude.{◌≡◌, ◌≢◌, ◌⊎◌, ℕ, Bool, true, false, MatchBool, List, Option, Some, None, if◌then◌else◌}
use Rattle.fab_types.specs.declared.faults.begin.BeginFault.{BeginFault}
use Rattle.fab_types.specs.declared.outcome.Outcome.{Outcome}
use Rattle.fab_types.specs.declared.outcome.Outcome.TheVariants.{Moved}
use Rattle.platform.specs.Platform.{Platform}
use Rattle.domain.specs.Domains.{DomainView}
use Rattle.fabric_core.specs.declared.event.Event.{Event}
use Rattle.fabric_core.specs.declared.event.Event.TheVariants.{Submit}
use Rattle.fabric_core.specs.Events.{StepsTo, refusal}
use Rattle.fabric_core.specs.Isolation.{domain_of, home}
use Rattle.fabric_core.specs.World.{World, world_of}
use Rattle.sweeps.specs.Sweeps.{IsSweep, SweepsUpTo}
use Rattle.attacks.specs.Controls.{is_clear}
use Rattle.attacks.specs.Packets.{own_bytes, own_read}
use Rattle.attacks.specs.declared.attack.Harm.{Harm}
use Rattle.attacks.specs.declared.findings.Witness.{Witness}
use Rattle.attacks.specs.declared.own_read.OwnRead.{OwnRead}
use Rattle.audit.specs.Harms.{IsAnother, IsSeen, closing, is_answering}

-- up to 1,000 sweeps are made, until nothing moves
pub record ComesToRest (sweep : List Event) (old new : World) : Type 0 where
  pub most : ℕ
  pub most_is : most ≡ 1000
  pub swept : SweepsUpTo sweep most old new

-- From the layout's start a function submits the bytes, and the fabric comes to rest, as a script of the two lines `submit` and
-- `sweep 1000` has it. Nothing else is begun
pub record IsRun (platform : Platform) (function : ℕ) (bytes : List ℕ) (end : World) : Type 0 where
  pub sweep : List Event
  pub is_sweep : IsSweep platform (world_of platform).agents.domains sweep
  pub mid : World
  pub submitted : StepsTo (world_of platform) (Submit function bytes) Moved mid
  pub rested : ComesToRest sweep mid end

-- The victim hasn't the state and the journal with which it began, and what of it changed shows the harm
pub record Shows (start end : World) (attacker victim : ℕ) (harm : Harm) (function : ℕ) (bytes : List ℕ) : Type 0 where
  pub old : DomainView
  pub before : domain_of start victim ≡ Some old
  pub new : DomainView
  pub after : domain_of end victim ≡ Some new
  pub by : DomainView
  pub attacked : domain_of end attacker ≡ Some by
  pub changed : new.journal ≢ old.journal
  pub seen : IsSeen harm function bytes old new by

-- after a run of the packet harm is seen
pub record IsHarmful (platform : Platform) (w : Witness) : Type 0 where
  pub end : World
  pub run : IsRun platform w.function w.bytes end
  pub shown : Shows (world_of platform) end w.attacker w.victim w.harm w.function w.bytes

-- ---- a read of the victim's own

-- From the layout's start a function submits the bytes. Some sweeps later the read is submitted, and the fabric comes to rest, as
-- a script of the four lines `submit`, `sweep`, `submit` and `sweep 1000` has it, which goes on whether the read is refused or not
pub record IsRace (platform : Platform) (function : ℕ) (bytes : List ℕ) (read : OwnRead) (end : World) : Type 0 where
  pub sweep : List Event
  pub is_sweep : IsSweep platform (world_of platform).agents.domains sweep
  pub ahead : World
  pub submitted : StepsTo (world_of platform) (Submit function bytes) Moved ahead
  pub later : World
  pub swept : SweepsUpTo sweep read.sweeps ahead later
  pub mid : World
  pub asked : (outcome : Outcome) × StepsTo later (Submit read.function (own_bytes read)) outcome mid
  pub rested : ComesToRest sweep mid end

-- in both the victim's function has its request closed, and by two different completions
pub record IsClosedByAnother (alone raced : World) (victim function : ℕ) : Type 0 where
  pub own : DomainView
  pub by_itself : domain_of alone victim ≡ Some own
  pub other : DomainView
  pub behind : domain_of raced victim ≡ Some other
  pub another : IsAnother (closing function own) (closing function other)

-- The victim's function submits the read; by itself it is closed by its completion, and some sweeps behind the packet by another
pub record Closes (platform : Platform) (w : Witness) (read : OwnRead) : Type 0 where
  pub own : home (world_of platform) (Submit read.function (own_bytes read)) ≡ Some w.victim
  pub alone : World
  pub run : IsRun platform read.function (own_bytes read) alone
  pub raced : World
  pub race : IsRace platform w.function w.bytes read raced
  pub closed : IsClosedByAnother alone raced w.victim read.function

-- ---- witnesses

-- the domain whose function submits the packet: the attacker, or, where that only answers, the victim
abbrev pub submitter : Witness → ℕ
submitter w = if is_answering w.harm then w.victim else w.attacker

-- harm is seen: of a read that is closed by two runs, of any other by one
abbrev pub Harms : Platform → Witness → Option OwnRead → Type 0
Harms platform w None = IsHarmful platform w
Harms platform w (Some read) = Closes platform w read

-- The submitter's function submits the packet, and after that run harm is seen of the victim, which is another domain than the
-- attacker. The control is clear at the port
pub record Lands (platform : Platform) (w : Witness) : Type 0 where
  pub other : w.attacker ≢ w.victim
  pub own : home (world_of platform) (Submit w.function w.bytes) ≡ Some (submitter w)
  pub clear : is_clear platform.ports w.port w.control ≡ true
  pub harms : Harms platform w (own_read w.harm)

-- the packet isn't begun: its function isn't this domain's, or the fabric refuses it
abbrev pub IsRefused : Platform → ℕ → ℕ → List ℕ → Type 0
IsRefused platform domain function bytes =
    (home (world_of platform) (Submit function bytes) ≢ Some domain) ⊎ ((fault : BeginFault) × (refusal (world_of platform) (Submit function bytes) ≡ Some fault))

-- after a run of the packet no harm is seen
pub record IsHarmless (platform : Platform) (w : Witness) : Type 0 where
  pub end : World
  pub run : IsRun platform w.function w.bytes end
  pub unseen : Shows (world_of platform) end w.attacker w.victim w.harm w.function w.bytes → ⊥

-- the read isn't closed by another completion behind the packet than by itself
pub record IsUnclosed (platform : Platform) (w : Witness) (read : OwnRead) : Type 0 where
  pub alone : World
  pub run : IsRun platform read.function (own_bytes read) alone
  pub raced : World
  pub race : IsRace platform w.function w.bytes read raced
  pub unseen : IsClosedByAnother alone raced w.victim read.function → ⊥

-- no harm is seen: not after the run, or not by the two, or the read by itself isn't begun
abbrev pub Spares : Platform → Witness → Option OwnRead → Type 0
Spares platform w None = IsHarmless platform w
Spares platform w (Some read) = IsRefused platform w.victim read.function (own_bytes read) ⊎ IsUnclosed platform w read

-- the packet isn't begun, or no harm is seen
abbrev pub Misses : Platform → Witness → Option OwnRead → Type 0
Misses platform w read = IsRefused platform (submitter w) w.function w.bytes ⊎ Spares platform w read

-- whether it was begun and harm is seen
abbrev pub IsTried : Bool → Platform → Witness → Option OwnRead → Type 0
IsTried lands platform w read = MatchBool lands ((home (world_of platform) (Submit w.function w.bytes) ≡ Some (submitter w)) × Harms platform w read) (Misses platform w read)

-- the packet doesn't land: its control isn't clear at the port, or it isn't begun, or no harm is seen
abbrev pub Fails : Platform → Witness → Type 0
Fails platform w = (is_clear platform.ports w.port w.control ≡ false) ⊎ Misses platform w (own_read w.harm)
