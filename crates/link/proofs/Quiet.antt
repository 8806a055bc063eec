-- The oldest packet of a queue may leave it, whatever its class. So where none may leave, none waits.
use Rattle.std.proofs.Common.{◌≡◌, ◌==◌, Bool, true, false, ◌&&◌, List, [], ◌∷◌, Option, length, refl, sym, ap, ◌∙◌, arith}
use Rattle.std.specs.Prelude.{is_none}
use Rattle.std.proofs.lemmas.Bool.{ne_eqb}
use Rattle.frame_log.specs.Descriptor.{Descriptor}
use Rattle.lane.specs.Lanes.{Class, class_of, eligible}
use Rattle.ordering.specs.Ordering.{at_item, behind, passes, same_class}
use Rattle.link.specs.Quiet.{none_eligible}

never : (b : Bool) → (b && false) ≡ false
never true = refl
never false = refl

-- one of the three is taken, that of the oldest packet's class
oldest : (c : Class) (w : Descriptor) (ws : List Descriptor) (p n k : Option (Descriptor × List Descriptor)) → (is_none (at_item (same_class Class.Posted c) (passes Class.Posted c) w ws p)
    && (is_none (at_item (same_class Class.NonPosted c) (passes Class.NonPosted c) w ws n) && is_none (at_item (same_class Class.Completion c) (passes Class.Completion c) w ws k))) ≡ false
oldest Class.Posted w ws p n k = refl
oldest Class.NonPosted w ws p n k = never (is_none (behind w p))
oldest Class.Completion w ws p n k = ap (λ (b : Bool). is_none (behind w p) && b) (never (is_none (behind w n))) ∙ never (is_none (behind w p))

pub none_waits : (waiting : List Descriptor) → none_eligible waiting ≡ (length waiting == 0)
none_waits [] = refl
none_waits (w ∷ ws) =
    oldest (class_of w) w ws (eligible Class.Posted ws) (eligible Class.NonPosted ws) (eligible Class.Completion ws)
    ∙ sym (ne_eqb (length (w ∷ ws)) 0 (λ none. omega arith))
