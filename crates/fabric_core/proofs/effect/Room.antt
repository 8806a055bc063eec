-- A sender that has a place for a class has one for each packet of the class.
use Rattle.std.proofs.Common.{◌≡◌, Bool, false, List, Some, sym, ap, ◌∙◌, subst}
use Rattle.std.specs.Prelude.{◌==◌}
use Rattle.fab_types.specs.declared.class.Class.{Class}
use Rattle.frame_log.specs.Descriptor.{Descriptor}
use Rattle.link.specs.Channels.{Channel, count_in, is_full}
use Rattle.lane.specs.Lanes.{class_of, eligible}
use Rattle.lane.proofs.Waiting.{class_of-taken}
use Rattle.topology.specs.declared.nodes.LinkEnd.{LinkEnd}
use Rattle.interconnect.specs.Moves.{channel_at, left_at}
use Rattle.interconnect.proofs.Room.{egress_left}

pub place_for : (class : Class) (waiting left : List Descriptor) (frame : Descriptor) (end : LinkEnd) (cs cs' : List (List Channel)) (full : Bool) → eligible class waiting ≡ Some (frame, left)
    → full ≡ is_full class (channel_at cs end) → cs' ≡ cs → full ≡ false → is_full (class_of frame) (channel_at cs' end) ≡ false
place_for class waiting left frame end cs cs' full found is same free =
    subst (λ (k : Class). is_full k (channel_at cs' end) ≡ false) (sym (class_of-taken class waiting left frame found))
    (subst (λ (l : List (List Channel)). is_full class (channel_at l end) ≡ false) (sym same) (sym is ∙ free))

-- the same where a packet was taken at another end before
pub place_left : (class : Class) (waiting left : List Descriptor) (frame : Descriptor) (end exit : LinkEnd) (cs cs' cs'' : List (List Channel)) (full : Bool) → eligible class waiting ≡ Some (frame, left)
    → full ≡ is_full class (channel_at cs exit) → cs' ≡ cs → full ≡ false → cs'' ≡ left_at cs' end left → is_full (class_of frame) (channel_at cs'' exit) ≡ false
place_left class waiting left frame end exit cs cs' cs'' full found is same free taken =
    let sent : (channel_at cs'' exit).egress ≡ (channel_at cs' exit).egress = ap (λ (l : List (List Channel)). (channel_at l exit).egress) taken ∙ egress_left cs' end exit left in
    ap (λ (l : List Descriptor). count_in (class_of frame) l == 16) sent ∙ place_for class waiting left frame exit cs cs' full found is same free
