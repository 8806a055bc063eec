-- A completion that ends at a first port is discarded there.
use Rattle.std.proofs.Common.{◌≡◌, sym}
use Rattle.std.specs.Prelude.{Bool, true, false, Option, Some, None, cond}
use Rattle.fab_types.specs.declared.faults.malformed.Malformed.{Malformed}
use Rattle.fab_types.specs.declared.head.Answerer.{Answerer}
use Rattle.platform.specs.Share.{Share}
use Rattle.tlp_view.specs.Packet.{Packet}
use Rattle.request_handling.specs.declared.handling.Handling.{Handling}
use Rattle.request_handling.specs.AtFunctions.{discarded}
use Rattle.request_handling.specs.Carries.{answer_refusal, is_returned}

some_is : (x y : Handling) → Some x ≡ Some y → x ≡ y
some_is x y e = cc

if_returned : (b : Bool) (a : Handling) → cond b (Some discarded) None ≡ Some a → a ≡ discarded
if_returned true a e = sym (some_is _ a e)
if_returned false a e = absurd cc

pub answer_discarded : (share : Share) (cause : Option Malformed) (answerer : Answerer) (t : Packet) (a : Handling) → answer_refusal share cause answerer t ≡ Some a → a ≡ discarded
answer_discarded share None answerer t a e = if_returned (is_returned share answerer t) a e
answer_discarded share (Some cause) answerer t a e = absurd cc
