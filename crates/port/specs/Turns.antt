-- What a turn of a port changes.
use Rattle.std.specs.Prelude.{◌≡◌, ℕ, ◌⊎◌, true, false, List, [], ◌∷◌, ◌++◌, Option, Some, None, option_to_list, map}
use Rattle.fab_types.specs.declared.class.Class.{Class}
use Rattle.fab_types.specs.declared.violation.Violation.{Violation}
use Rattle.frame_log.specs.Descriptor.{Descriptor}
use Rattle.bridge.specs.Bridges.{Routes}
use Rattle.port.specs.declared.turn.TurnParts.{TurnParts}
use Rattle.port.specs.declared.course.Forwarding.TheVariants.{To, Stop, NoCase}
use Rattle.lane.specs.Lanes.{eligible}
use Rattle.switch_output.specs.Vetted.{may_go_on}
use Rattle.port.specs.Configs.{Config}
use Rattle.port.specs.Courses.{course_of}
use Rattle.port.specs.Steps.{with_put}

-- A port as a contract sees it: what it is, the report that the queue gave back, the answer that the lane gave back, and
-- the packets that it has no case for.
pub record PortView : Type 0 where
  pub config : Config
  pub held : Option Violation
  pub kept : Option Descriptor
  pub strays : List Descriptor

-- all that a turn may change: what waits, what was put into each lane out, what the desk knows, what was reported, and
-- what the port holds
pub record Sight (K : Type 0) : Type 0 where
  pub waiting : List Descriptor
  pub outs : List (List Descriptor)
  pub known : K
  pub reported : List Violation
  pub held : Option Violation
  pub kept : Option Descriptor
  pub strays : List Descriptor

module _ {K : Type 0} where
  -- the report that was held was taken
  pub record Told (s t : Sight K) : Type 0 where
    pub violation : Violation
    pub was_held : s.held ≡ Some violation
    pub told : t.reported ≡ s.reported ++ violation ∷ []
    pub held : t.held ≡ None
    pub same : (t.waiting ≡ s.waiting) × (t.outs ≡ s.outs) × (t.known ≡ s.known) × (t.kept ≡ s.kept) × (t.strays ≡ s.strays)

  -- the answer that was kept, if any, was put into the port's own lane
  pub record Settled (own : ℕ) (s t : Sight K) : Type 0 where
    pub put : t.outs ≡ with_put s.outs own (option_to_list s.kept)
    pub kept : t.kept ≡ None
    pub same : (t.waiting ≡ s.waiting) × (t.known ≡ s.known) × (t.reported ≡ s.reported) × (t.held ≡ s.held) × (t.strays ≡ s.strays)

  -- nothing moved, but that answer perhaps
  abbrev pub Rests : ℕ → Sight K → Sight K → Type 0
  Rests own s t = (t ≡ s) ⊎ Settled own s t

  -- the eligible packet went down the lane that its course names
  pub record Forwarded (tree : Routes) (config : Config) (class : Class) (s t : Sight K) : Type 0 where
    pub lane : ℕ
    pub frame : Descriptor
    pub taken : eligible class s.waiting ≡ Some (frame, t.waiting)
    pub course : course_of tree config frame.head ≡ To lane
    pub own : may_go_on tree.ports frame ≡ true
    pub put : t.outs ≡ with_put s.outs lane (frame ∷ [])
    pub same : (t.known ≡ s.known) × (t.reported ≡ s.reported) × (t.held ≡ s.held) × (t.kept ≡ s.kept) × (t.strays ≡ s.strays)

  -- The eligible packet was given to the desk to be refused. What answers it was put into the port's own lane or is kept,
  -- and a violation was reported or is held.
  pub record Stopped (refuses : K → Descriptor → ℕ → Option Descriptor → K → Type 0) (tree : Routes) (config : Config) (class : Class) (s t : Sight K) : Type 0 where
    pub frame : Descriptor
    pub report : Option Violation
    pub answer : Option Descriptor
    pub put : List Descriptor
    pub taken : eligible class s.waiting ≡ Some (frame, t.waiting)
    pub course : course_of tree config frame.head ≡ Stop report
    pub refused : refuses s.known frame config.id answer t.known
    pub outs : t.outs ≡ with_put s.outs config.own put
    pub answered : put ++ option_to_list t.kept ≡ option_to_list answer
    pub told : s.reported ++ option_to_list report ≡ t.reported ++ option_to_list t.held
    pub strays : t.strays ≡ s.strays

  -- why a port has no case for a packet: it has no course, it would go on and its Requester ID is another domain's, or it
  -- is stopped and the desk knows none
  abbrev pub IsStray : (K → Descriptor → ℕ → Type 0) → Routes → Config → K → Descriptor → Type 0
  IsStray unknown tree config known frame =
      (course_of tree config frame.head ≡ NoCase)
      ⊎ (((lane : ℕ) × (course_of tree config frame.head ≡ To lane) × (may_go_on tree.ports frame ≡ false))
      ⊎ ((report : Option Violation) × (course_of tree config frame.head ≡ Stop report) × unknown known frame config.id))

  -- the eligible packet is kept as one that the port has no case for
  pub record Strayed (unknown : K → Descriptor → ℕ → Type 0) (tree : Routes) (config : Config) (class : Class) (s t : Sight K) : Type 0 where
    pub frame : Descriptor
    pub taken : eligible class s.waiting ≡ Some (frame, t.waiting)
    pub stray : IsStray unknown tree config s.known frame
    pub strays : t.strays ≡ s.strays ++ frame ∷ []
    pub same : (t.outs ≡ s.outs) × (t.known ≡ s.known) × (t.reported ≡ s.reported) × (t.held ≡ s.held) × (t.kept ≡ s.kept)

module _ {K : Type 0} where
  -- the eligible packet was refused, with this report, or the desk knew none
  pub record Refused (refuses : K → Descriptor → ℕ → Option Descriptor → K → Type 0) (config : Config) (class : Class) (report : Option Violation) (s t : Sight K) : Type 0 where
    pub frame : Descriptor
    pub answer : Option Descriptor
    pub put : List Descriptor
    pub taken : eligible class s.waiting ≡ Some (frame, t.waiting)
    pub refused : refuses s.known frame config.id answer t.known
    pub outs : t.outs ≡ with_put s.outs config.own put
    pub answered : put ++ option_to_list t.kept ≡ option_to_list answer
    pub told : s.reported ++ option_to_list report ≡ t.reported ++ option_to_list t.held
    pub strays : t.strays ≡ s.strays

  pub record Unknown (unknown : K → Descriptor → ℕ → Type 0) (config : Config) (class : Class) (s t : Sight K) : Type 0 where
    pub frame : Descriptor
    pub taken : eligible class s.waiting ≡ Some (frame, t.waiting)
    pub unknown_there : unknown s.known frame config.id
    pub strays : t.strays ≡ s.strays ++ frame ∷ []
    pub same : (t.outs ≡ s.outs) × (t.known ≡ s.known) × (t.reported ≡ s.reported) × (t.held ≡ s.held) × (t.kept ≡ s.kept)

  abbrev pub Stops : (K → Descriptor → ℕ → Option Descriptor → K → Type 0) → (K → Descriptor → ℕ → Type 0) → Config → Class → Option Violation → Sight K → Sight K → Type 0
  Stops refuses unknown config class report s t = Refused refuses config class report s t ⊎ Unknown unknown config class s t

-- how often each lane and the reporter said no
pub record Counts : Type 0 where
  pub misses : ℕ
  pub outs : List ℕ
  pub reports : ℕ

-- A turn: the report that was held was taken, and nothing else; or, after an answer that was kept, the eligible packet
-- went on, was stopped, or is kept.
abbrev pub Advanced : {K : Type 0} → (K → Descriptor → ℕ → Option Descriptor → K → Type 0) → (K → Descriptor → ℕ → Type 0) → Routes → Config → Class → Sight K → Sight K → Type 0
Advanced refuses unknown tree config class s t =
    Forwarded tree config class s t ⊎ (Stopped refuses tree config class s t ⊎ Strayed unknown tree config class s t)

pub record Progress {K : Type 0} (refuses : K → Descriptor → ℕ → Option Descriptor → K → Type 0) (unknown : K → Descriptor → ℕ → Type 0) (tree : Routes) (config : Config) (class : Class) (s t : Sight K) : Type 0 where
  pub free : s.held ≡ None
  pub between : Sight K
  pub settled : Settled config.own s between
  pub advanced : Advanced refuses unknown tree config class between t

abbrev pub Moves : {K : Type 0} → (K → Descriptor → ℕ → Option Descriptor → K → Type 0) → (K → Descriptor → ℕ → Type 0) → Routes → Config → Class → Sight K → Sight K → Type 0
Moves refuses unknown tree config class s t = Told s t ⊎ Progress refuses unknown tree config class s t

module _ {K : Type 0} where
  -- the sight of a port and its lanes
  abbrev pub sight_with : List Descriptor → List (List Descriptor) → K → List Violation → PortView → Sight K
  sight_with waiting outs known reported port = record {
    waiting = waiting;
    outs = outs;
    known = known;
    reported = reported;
    held = port.held;
    kept = port.kept;
    strays = port.strays;
  }

  abbrev pub sight_of : {I O D R : Type 0} → (I → List Descriptor) → (O → List Descriptor) → (D → K) → (R → List Violation) → PortView → TurnParts I O D R → Sight K
  sight_of waiting sent known reported port lanes = sight_with (waiting lanes.input.now) (map sent lanes.outs.now) (known lanes.desk.now) (reported lanes.reporter.now) port

abbrev pub counts_of : {I O D R : Type 0} → (I → ℕ) → (O → ℕ) → (R → ℕ) → TurnParts I O D R → Counts
counts_of misses refusals reports lanes = record { misses = misses lanes.input.now; outs = map refusals lanes.outs.now; reports = reports lanes.reporter.now }
