-- What answers a refused packet has the header of a completion.
use Rattle.std.proofs.Common.{◌≡◌, ℕ, List, length, Option, Some, None, refl, sym, subst}
use Rattle.std.specs.Prelude.{option_map}
use Rattle.std.specs.Option.{IfSome}
use Rattle.fab_types.specs.declared.head.Parties.{Parties}
use Rattle.fab_types.specs.declared.head.Parties.TheVariants.{Upward, Downward, Answer}
use Rattle.fab_types.specs.declared.status.Status.{Status}
use Rattle.frame_log.specs.Descriptor.{Descriptor, IsCompletion}
use Rattle.platform.specs.Owners.{first_port}
use Rattle.platform.specs.Share.{Share}
use Rattle.tlp_view.specs.Bytes.{packet_of}
use Rattle.tlp_view.specs.Malformed.{malformed}
use Rattle.tlp_view.specs.Packet.{Packet}
use Rattle.request_handling.specs.declared.fate.Fate.{Fate}
use Rattle.request_handling.specs.declared.fate.Fate.TheVariants.{Vanish, Refused, ToHost, Direct}
use Rattle.request_handling.specs.declared.handling.Handling.{Handling}
use Rattle.request_handling.specs.Answers.{port_answer}
use Rattle.request_handling.specs.Carries.{port_id, refusal_by, refusal_end, refusal_of}
use Rattle.request_handling.specs.Emissions.{Emission}
use Rattle.request_handling.specs.Fates.{fate}
use Rattle.request_handling.specs.Heads.{descriptor_of, target_for}
use Rattle.request_handling.proofs.Discarding.{answer_discarded}
use Rattle.domain_state.specs.Ends.{conclude}
use Rattle.domain_state.specs.State.{Alone, Change, item_at}
use Rattle.domain.specs.declared.entry.Entry.TheVariants.{Refuse}
use Rattle.domain.specs.Domains.{DomainView, Makes}
use Rattle.domain.specs.Machine.{change, ended}
use Rattle.domain.proofs.CompletionsRead.{refusal_read, refusal_well}

some_is : {A : Type 0} (x y : A) → Some x ≡ Some y → x ≡ y
some_is x y e = cc

-- what is made of it is a completion, in whatever domain and under whatever number
abbrev pub AreCompletions : Option Emission → Type 0
AreCompletions reply = (domain number : ℕ) → IfSome reply (λ e. IsCompletion (descriptor_of domain number e))

of_port : (port function : ℕ) (status : Status) (t : Packet) (domain number : ℕ) → IsCompletion (descriptor_of domain number (port_answer port function status t))
of_port port function status t domain number =
    let made = port_answer port function status t in
    let r = refusal_read made.parties port status t (refusal_well port status t) in
    (target_for made.parties t.requester, r.0, r.1)

of_fate : (port function : ℕ) (bytes : List ℕ) (f : Fate) (a : Handling) → refusal_by port function bytes f ≡ Some a → AreCompletions a.reply
of_fate port function bytes Vanish a e = subst (λ (a : Handling). AreCompletions a.reply) (some_is _ a e) (λ domain number. tt)
of_fate port function bytes (Refused status) a e = subst (λ (a : Handling). AreCompletions a.reply) (some_is _ a e) (of_port port function status (packet_of bytes))
of_fate port function bytes ToHost a e = absurd cc
of_fate port function bytes (Direct peer) a e = absurd cc

of_refusal : (share : Share) (bytes : List ℕ) (p : Parties) (a : Handling) → refusal_of share bytes p ≡ Some a → AreCompletions a.reply
of_refusal share bytes (Upward function) a e = of_fate (port_id (first_port share.ports function)) function bytes (fate share.ports function bytes) a e
of_refusal share bytes (Downward function) a e = absurd cc
of_refusal share bytes (Answer answerer addressee) a e = subst (λ (a : Handling). AreCompletions a.reply) (sym (answer_discarded share (malformed bytes) answerer (packet_of bytes) a e)) (λ domain number. tt)

concluded : (s : Alone) (n : ℕ) (e : Emission) (r : Option Handling) (c : Change) → ((a : Handling) → r ≡ Some a → AreCompletions a.reply) → ended s n (Some e) r ≡ Some c → AreCompletions c.emission
concluded s n e None c each h = absurd cc
concluded s n e (Some a) c each h = subst (λ (c : Change). AreCompletions c.emission) (some_is (conclude s n e.bytes a) c h) (each a refl)

of_item : (share : Share) (s : Alone) (n : ℕ) (o : Option Emission) (c : Change) → ended s n o (refusal_end share o) ≡ Some c → AreCompletions c.emission
of_item share s n None c h = absurd cc
of_item share s n (Some e) c h = concluded s n e (refusal_of share e.bytes e.parties) c (of_refusal share e.bytes e.parties) h

-- what answers a packet at its sender's first port is a completion
pub refusal_replies : (share : Share) (s : Alone) (n : ℕ) (c : Change) → change share s (Refuse n) ≡ Some c → AreCompletions c.emission
refusal_replies share s n c h = of_item share s n (item_at s.flight n) c h

framed : (domain number : ℕ) (reply : Option Emission) → IfSome reply (λ e. IsCompletion (descriptor_of domain number e)) → IfSome (option_map (descriptor_of domain number) reply) IsCompletion
framed domain number None is = tt
framed domain number (Some e) is = is

-- the same of its frame
pub refusal_sends : (old new : DomainView) (n : ℕ) (sent : Option Descriptor) → Makes old (Refuse n) new sent → IfSome sent IsCompletion
refusal_sends old new n sent made =
    let number = length old.state.flight in
    subst (λ (sent : Option Descriptor). IfSome sent IsCompletion) (sym made.frame) (framed old.share.domain number made.emission (refusal_replies old.share old.state n _ made.step old.share.domain number))
