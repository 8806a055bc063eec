-- What a clause sees of a domain, and what a call makes of it.
use Rattle.std.specs.Prelude.{◌≡◌, ℕ, Bool, false, is_some, List, [], ◌∷◌, ◌++◌, length, Option, Some, None, IsSome, option_map}
use Rattle.frame_log.specs.Descriptor.{Descriptor}
use Rattle.frame_log.specs.declared.fault.FrameFault.{FrameFault}
use Rattle.frame_log.specs.declared.fault.FrameFault.TheVariants.{Stray, NoMemory}
use Rattle.platform.specs.Share.{Share}
use Rattle.domain.specs.declared.consume.EntryFault.{EntryFault}
use Rattle.domain.specs.declared.consume.EntryFault.TheVariants.{Illegal}
use Rattle.domain.specs.declared.consume.EntryFault.TheVariants as end
use Rattle.domain.specs.declared.entry.Entry.{Entry}
use Rattle.request_handling.specs.declared.disposition.Disposition.{Disposition}
use Rattle.request_handling.specs.declared.handling.Handling.{Handling}
use Rattle.request_handling.specs.Dispositions.{Suits, effect_of, handling}
use Rattle.tlp_view.specs.Bytes.{packet_of}
use Rattle.domain.specs.Deliveries.{Arrival, arrival, record_of_arrival}
use Rattle.domain_state.specs.Ends.{EffectFits, conclude, replied}
use Rattle.request_handling.specs.Emissions.{Emission}
use Rattle.domain_state.specs.State.{Alone, Change, Delivery, item_at}
use Rattle.request_handling.specs.Heads.{descriptor_of}
use Rattle.domain.specs.Machine.{change, with_alien}

-- what is done about a packet in flight that ends so
abbrev pub disposed : Share → Alone → Emission → Disposition → Handling
disposed share s e d = handling share s.frames s.registers (packet_of e.bytes) d

-- What answers a packet in flight that ends so, if anything does, went into flight, and was sent
pub record IsAnswered (share : Share) (old : Alone) (e : Emission) (d : Disposition) (new : Alone) (sent : Option Descriptor) : Type 0 where
  pub state : new ≡ replied old (disposed share old e d).reply
  pub frame : sent ≡ option_map (descriptor_of share.domain (length old.flight)) (disposed share old e d).reply

-- what the layout gives the domain, its state, and its journal
pub record DomainView : Type 0 where
  pub share : Share
  pub state : Alone
  pub journal : List Entry

-- The entry was legal, and is the last of the journal now. The state is what the machine makes of it, and
-- the frame is that of the emission that it made, if any
pub record Makes (old : DomainView) (entry : Entry) (new : DomainView) (sent : Option Descriptor) : Type 0 where
  pub share : new.share ≡ old.share
  pub journal : new.journal ≡ old.journal ++ entry ∷ []
  pub emission : Option Emission
  pub step : change old.share old.state entry ≡ Some (record { state = new.state; emission = emission })
  pub frame : sent ≡ option_map (descriptor_of old.share.domain (length old.state.flight)) emission

-- the entry emits
pub record Emits (old : DomainView) (entry : Entry) : Type 0 where
  pub made : Change
  pub legal : change old.share old.state entry ≡ Some made
  pub emits : IsSome made.emission

-- the same as a test of what the machine makes of the entry
abbrev pub is_emitting : Option Change → Bool
is_emitting None = false
is_emitting (Some c) = is_some c.emission

-- Why a frame was not taken: it is of another domain, or the entry is illegal; or memory was refused to an
-- entry that emits. The frame is given back.
abbrev pub IsRefused : DomainView → Entry → Descriptor → FrameFault → Type 0
IsRefused old entry frame (Stray given) = (given ≡ frame) × (frame.domain ≡ old.share.domain → change old.share old.state entry ≡ None)
IsRefused old entry frame (NoMemory given) = (given ≡ frame) × (frame.domain ≡ old.share.domain) × Emits old entry

-- the same of a number alone
abbrev pub IsEntryFault : DomainView → Entry → EntryFault → Type 0
IsEntryFault old entry Illegal = change old.share old.state entry ≡ None
IsEntryFault old entry end.NoMemory = Emits old entry

-- the only fault of a call that takes no memory
abbrev pub IsStray : DomainView → Entry → Descriptor → FrameFault → Type 0
IsStray old entry frame (Stray given) = (given ≡ frame) × (frame.domain ≡ old.share.domain → change old.share old.state entry ≡ None)
IsStray old entry frame (NoMemory given) = ⊥

-- the packet in flight may end so, which is what the machine says that it does
pub record Disposes (share : Share) (s : Alone) (item : Option Emission) (d : Disposition) (end : Option Handling) : Type 0 where
  pub emission : Emission
  pub waits : item ≡ Some emission
  pub suits : Suits emission.bytes d
  pub is : end ≡ Some (disposed share s emission d)

-- a packet in flight ends so, which is what the machine says of the entry
pub record EndsBy (old : DomainView) (entry : Entry) (n : ℕ) (d : Disposition) : Type 0 where
  pub emission : Emission
  pub waits : item_at old.state.flight n ≡ Some emission
  pub suits : Suits emission.bytes d
  pub fits : EffectFits emission (effect_of d)
  pub step : change old.share old.state entry ≡ Some (conclude old.state n emission.bytes (disposed old.share old.state emission d))
  pub own : (aliens : ℕ) → with_alien entry aliens ≡ aliens

-- the record is the one that the delivery of this number makes
pub record Delivers (old : DomainView) (n : ℕ) (given : Option Delivery) : Type 0 where
  pub arrived : Arrival
  pub arrival_is : arrival old.state.open_tags (item_at old.state.flight n) ≡ Some arrived
  pub given_is : given ≡ record_of_arrival arrived
