-- What is seen of a domain after an attack.
use Rattle.std.specs.Prelude.{◌≡◌, ◌≢◌, ℕ, ◌==◌, ◌&&◌, ◌<◌, Bool, true, false, List, Option, Some, None, bytes_eq}
use Rattle.std.specs.List.{find, list_any}
use Rattle.fab_types.specs.Origins.{same_origin}
use Rattle.fab_types.specs.declared.head.Parties.{Parties}
use Rattle.fab_types.specs.declared.head.Parties.TheVariants.{Upward, Downward, Answer}
use Rattle.fab_types.specs.declared.origin.Origin.TheVariants.{Function}
use Rattle.fab_types.specs.declared.status.Status.{Status}
use Rattle.fab_types.specs.declared.status.Status.TheVariants.{SC, UR, CRS, CA}
use Rattle.host_memory.specs.Pages.{page_of}
use Rattle.domain_state.specs.State.{Delivery}
use Rattle.domain.specs.declared.entry.Entry.{Entry}
use Rattle.domain.specs.declared.entry.Entry.TheVariants.{Alien}
use Rattle.domain.specs.Domains.{DomainView}
use Rattle.attacks.specs.declared.attack.Harm.{Harm}
use Rattle.attacks.specs.declared.attack.Harm.TheVariants.{FrameWritten, FrameRead, RegistersWritten, RegistersRead, TagClosed, Completion, Counts, AnswersFrame, AnswersRegisters}

abbrev pub is_successful : Status → Bool
is_successful SC = true
is_successful UR = false
is_successful CRS = false
is_successful CA = false

-- a successful completion of a request of this function
abbrev pub is_success : ℕ → Delivery → Bool
is_success function d = same_origin d.owner (Function function) && is_successful d.status

abbrev pub is_sent_by : ℕ → Parties → Bool
is_sent_by function (Upward sender) = sender == function
is_sent_by function (Downward receiver) = false
is_sent_by function (Answer answerer receiver) = false

-- the entry of a packet with these bytes that the function of another domain submitted
abbrev pub is_served : ℕ → List ℕ → Entry → Bool
is_served function bytes (Alien place sender others) = is_sent_by function sender && bytes_eq others bytes
is_served function bytes _ = false

-- the one domain carried the packet, and the function of the other got a successful completion
abbrev pub is_answered : ℕ → List ℕ → DomainView → DomainView → Bool
is_answered function bytes victim attacker = list_any (is_served function bytes) victim.journal && list_any (is_success function) attacker.state.deliveries

-- What of the domain's old and new state, and of the attacker's new one, shows the harm; that a read is closed is shown by two runs. Of a read
-- of the domain's own the attacker gave the data
abbrev pub IsSeen : Harm → ℕ → List ℕ → DomainView → DomainView → DomainView → Type 0
IsSeen (FrameWritten frame) function bytes old new attacker = page_of new.state.frames frame ≢ page_of old.state.frames frame
IsSeen (FrameRead frame) function bytes old new attacker = is_answered function bytes new attacker ≡ true
IsSeen (RegistersWritten peer) function bytes old new attacker = page_of new.state.registers peer ≢ page_of old.state.registers peer
IsSeen (RegistersRead peer) function bytes old new attacker = is_answered function bytes new attacker ≡ true
IsSeen (TagClosed read) function bytes old new attacker = ⊥
IsSeen Completion function bytes old new attacker = old.state.counts.unexpected < new.state.counts.unexpected
IsSeen Counts function bytes old new attacker = new.state.counts ≢ old.state.counts
IsSeen (AnswersFrame frame) function bytes old new attacker = is_answered function bytes attacker new ≡ true
IsSeen (AnswersRegisters peer) function bytes old new attacker = is_answered function bytes attacker new ≡ true

-- the attacker only answers
abbrev pub is_answering : Harm → Bool
is_answering (AnswersFrame frame) = true
is_answering (AnswersRegisters peer) = true
is_answering _ = false

-- the completion that closed a request of the function
abbrev pub closing : ℕ → DomainView → Option Delivery
closing function domain = find (λ d. same_origin d.owner (Function function)) domain.state.deliveries

-- one completion here, and another there
abbrev pub IsAnother : Option Delivery → Option Delivery → Type 0
IsAnother (Some own) (Some other) = other.bytes ≢ own.bytes
IsAnother (Some own) None = ⊥
IsAnother None other = ⊥
