-- The turn of a port among all directions of links.
use Rattle.std.specs.List.{position}
use Rattle.std.specs.Prelude.{◌≡◌, ◌≢◌, ◌==◌, ℕ, Bool, true, false, List, [], ◌∷◌, map, slice_index_or, slice_set, Option, Some, None}
use Rattle.std.specs.Option.{IfSome}
use Rattle.fab_types.specs.declared.outcome.Outcome.{Outcome}
use Rattle.fab_types.specs.declared.outcome.Outcome.TheVariants.{Idle, Moved, NoMemory}
use Rattle.fab_types.specs.declared.violation.Violation.{Violation}
use Rattle.frame_log.specs.Descriptor.{Descriptor}
use Rattle.bridge.specs.Bridges.{Routes}
use Rattle.link.specs.Channels.{Channel, is_full, with_egress}
use Rattle.link.specs.Simplexes.{Before, Behind, SimplexView, channel}
use Rattle.port.specs.Blocked.{is_blocked, may_refuse_at}
use Rattle.lane.specs.Lanes.{Class, class_of}
use Rattle.lane.specs.Queues.{frames_of}
use Rattle.port.specs.Steps.{IsOfTurn}
use Rattle.port.specs.Turns.{Moves, PortView, Rests, Sight, sight_with}
use Rattle.port.specs.Wants.{WantsMemory}
use Rattle.topology.specs.declared.nodes.LinkEnd.{LinkEnd}
use Rattle.topology.specs.declared.places.PortPlace.{PortPlace}
use Rattle.interconnect.specs.Views.{InterconnectView, IsSameRest, channels}
use Rattle.interconnect.specs.Moves.{channel_at, left_at}

-- all but what waits at the receiver
abbrev pub behind : SimplexView → Behind
behind s = record { start = s.start; left = s.left; egress = frames_of s.egress.queue.waiting; wire = s.wire }

-- all but what waits at the sender
abbrev pub before : SimplexView → Before
before s = record { start = s.start; left = s.left; wire = s.wire; ingress = frames_of s.ingress.queue.waiting }

-- what waits at the sender
abbrev pub sent_by : SimplexView → List Descriptor
sent_by s = frames_of s.egress.queue.waiting

abbrev pub received_by : SimplexView → List Descriptor
received_by s = frames_of s.ingress.queue.waiting

abbrev pub may_refuse_of : SimplexView → Class → Bool
may_refuse_of s class = is_full class (channel s)

-- What a turn of a port does, where its outputs are those of links: it moves one packet, or rests. It is idle exactly where
-- it is blocked, if it began with nothing held and nothing kept.
pub record Turned {K : Type 0} (refuses : K → Descriptor → ℕ → Option Descriptor → K → Type 0) (unknown wants : K → Descriptor → ℕ → Type 0) (is_sure : Bool) (routes : Routes) (class : Class) (outcome : Outcome) (port port' : PortView)
    (refusing : List (Class → Bool)) (s t : Sight K) : Type 0 where
  pub moved : outcome ≡ Moved → Moves refuses unknown routes port.config class s t
  pub rests : outcome ≢ Moved → Rests port.config.own s t
  pub waits : (v : Violation) → port.held ≡ Some v → (t.waiting ≡ s.waiting) × (t.outs ≡ s.outs)
  pub blocked : port.held ≡ None → port.kept ≡ None → outcome ≡ Idle → is_blocked routes port.config refusing class s.waiting ≡ true
  pub free : port.held ≡ None → port.kept ≡ None → outcome ≢ Idle → is_blocked routes port.config refusing class s.waiting ≡ false
  pub memory : outcome ≡ NoMemory → WantsMemory wants unknown routes port.config s.known class s.waiting
  pub kept : port.kept ≡ None → IfSome port'.kept (λ answer. may_refuse_at refusing port.config.own (class_of answer) ≡ true)
  pub held : is_sure ≡ true → port.held ≡ None → port'.held ≡ None
  pub answer : IsOfTurn outcome
  pub config : port'.config ≡ port.config

-- the same between two nodes: one output of the first is another, and what waits at the senders of the second
pub record NodesTurned {K : Type 0} (refuses : K → Descriptor → ℕ → Option Descriptor → K → Type 0) (unknown wants : K → Descriptor → ℕ → Type 0) (is_sure : Bool) (routes : Routes) (class : Class) (outcome : Outcome) (output : ℕ)
    (known known' : K) (reported reported' : List Violation) (port port' : PortView) (from from' to to' : List SimplexView) : Type 0 where
  pub input : SimplexView
  pub input' : SimplexView
  pub was : input ≡ slice_index_or from output input
  pub left : from' ≡ slice_set from output input'
  pub behind_it : behind input' ≡ behind input
  pub before_them : map before to' ≡ map before to
  pub turned : Turned refuses unknown wants is_sure routes class outcome port port' (map may_refuse_of to) (sight_with (received_by input) (map sent_by to) known reported port) (sight_with (received_by input') (map sent_by to') known' reported' port')

-- ---- among all directions

abbrev pub egress_of : Channel → List Descriptor
egress_of c = c.egress

-- what an output has no place for
abbrev pub refused_by : Channel → Class → Bool
refused_by c class = is_full class c

-- what waits at the senders of these directions is replaced
abbrev pub with_sent : List Channel → List (List Descriptor) → List Channel
with_sent [] outs = []
with_sent (c ∷ cs) [] = c ∷ cs
with_sent (c ∷ cs) (sent ∷ outs) = with_egress c sent ∷ with_sent cs outs

-- what a port at this node sees, into which packets come that are sent from this end
abbrev pub sight_at : {K : Type 0} → List (List Channel) → ℕ → LinkEnd → K → List Violation → PortView → Sight K
sight_at nodes node input known reported port = sight_with (channel_at nodes input).ingress (map egress_of (slice_index_or nodes node [])) known reported port

-- what it sees is replaced, and all else of each direction stays
abbrev pub passed_over : List (List Channel) → ℕ → LinkEnd → List Descriptor → List (List Descriptor) → List (List Channel)
passed_over nodes node input waiting outs = left_at (slice_set nodes node (with_sent (slice_index_or nodes node []) outs)) input waiting

-- ---- the port of an ID

abbrev pub no_port : PortView
no_port = record { config = record { id = 0; line = None; exits = []; own = 0 }; held = None; kept = None; strays = [] }

abbrev pub port_at : InterconnectView → ℕ → PortView
port_at h i = slice_index_or h.ports i no_port

abbrev pub no_place : PortPlace
no_place = record { id = 0; node = 0; input = None }

abbrev pub place_number : InterconnectView → ℕ → PortPlace
place_number h i = slice_index_or h.tree.places i no_place

-- which of the ports has an ID
abbrev pub index_of : List PortPlace → ℕ → Option ℕ
index_of places id = position (λ place. place.id == id) places

abbrev pub input_number : List PortPlace → Option ℕ → Option LinkEnd
input_number places None = None
input_number places (Some i) = (slice_index_or places i no_place).input

-- where the packets that come into the port of an ID are sent from
abbrev pub input_of : List PortPlace → ℕ → Option LinkEnd
input_of places id = input_number places (index_of places id)

module _ {K : Type 0} (refuses : K → Descriptor → ℕ → Option Descriptor → K → Type 0) (unknown wants : K → Descriptor → ℕ → Type 0) (is_sure : Bool) (class : Class) (outcome : Outcome) (known known' : K) (reported reported' : List Violation) (old new : InterconnectView) where
  -- the port of this number had its turn, at this node and with packets that are sent from this end; all else stays
  pub record HasTurn (i : ℕ) (node : ℕ) (input : LinkEnd) : Type 0 where
    pub turned : Turned refuses unknown wants is_sure old.routes class outcome (port_at old i) (port_at new i) (map refused_by (slice_index_or (channels old) node []))
        (sight_at (channels old) node input known reported (port_at old i)) (sight_at (channels new) node input known' reported' (port_at new i))
    pub passed : channels new ≡ passed_over (channels old) node input (channel_at (channels new) input).ingress (map egress_of (slice_index_or (channels new) node []))
    pub others : new.ports ≡ slice_set old.ports i (port_at new i)
    pub tree : new.tree ≡ old.tree
    pub routes : new.routes ≡ old.routes

  -- no port had its turn
  pub record IsIdle : Type 0 where
    pub idle : outcome ≡ Idle
    pub same : channels new ≡ channels old
    pub rest : IsSameRest old new
    pub known_same : known' ≡ known
    pub reported_same : reported' ≡ reported

  abbrev pub PassesFrom : ℕ → ℕ → Option LinkEnd → Type 0
  PassesFrom i node None = IsIdle
  PassesFrom i node (Some input) = HasTurn i node input

  -- the port of this number had its turn, if there is one and something comes into it
  abbrev pub Passes : Option ℕ → Type 0
  Passes None = IsIdle
  Passes (Some i) = PassesFrom i (place_number old i).node (place_number old i).input
