use Rattle.std.proofs.Common.{◌≡◌, ◌+◌, length, refl, ap, arith}
use Rattle.port_queue.specs.PerClass.{Class, at_class}
use Rattle.port_queue.specs.Outgoing.{IsRoomy}
use Rattle.port_queue.proofs.Reserving.{reserved_len, reserved_same}
use Rattle.port_queue.proofs.reserved.Outbox.more.Goals as goal

pub overflow_sub-places : goal.overflow_sub-places
overflow_sub-places g c = (let len = reserved_len c.self.inside.queues c.self.inside.puts c.self.inside.places c.self.inside.gap c.self.invariant Class.Posted in omega arith)

pub overflow_sub-places-2 : goal.overflow_sub-places-2
overflow_sub-places-2 g c = (let len = reserved_len c.self.inside.queues c.self.inside.puts c.self.inside.places c.self.inside.gap c.self.invariant Class.NonPosted in omega arith)

pub overflow_sub-places-3 : goal.overflow_sub-places-3
overflow_sub-places-3 g c = (let len = reserved_len c.self.inside.queues c.self.inside.puts c.self.inside.places c.self.inside.gap c.self.invariant Class.Completion in omega arith)

pub invariant_of-self : goal.invariant_of-self
invariant_of-self g c = reserved_same c.self.inside.queues (record { posted = c.reserve.new.self; non_posted = c.self.inside.queues.non_posted; completion = c.self.inside.queues.completion }) c.self.inside.puts c.self.inside.places c.self.inside.places c.self.inside.gap c.self.invariant same (omega arith) (let small = c.self.invariant.kept.small in omega arith) roomy
  where
    same : (d : Class) → (at_class (record { posted = c.reserve.new.self; non_posted = c.self.inside.queues.non_posted; completion = c.self.inside.queues.completion }) d).items ≡ (at_class c.self.inside.queues d).items
    same Class.Posted = c.in_err-reserve.ensures.items
    same Class.NonPosted = refl
    same Class.Completion = refl

    roomy : (d : Class) → IsRoomy c.self.inside.places (at_class (record { posted = c.reserve.new.self; non_posted = c.self.inside.queues.non_posted; completion = c.self.inside.queues.completion }) d)
    roomy Class.Posted = (let before = (c.self.invariant.roomy Class.Posted).reserved in let long = (c.self.invariant.roomy Class.Posted).long in let capacity = c.in_err-reserve.ensures.capacity in let len = c.in_err-reserve.ensures.len in let size = ap length c.in_err-reserve.ensures.items in record { reserved = omega arith; long = omega arith })
    roomy Class.NonPosted = c.self.invariant.roomy Class.NonPosted
    roomy Class.Completion = c.self.invariant.roomy Class.Completion

pub invariant_of-self-in_err-reserve-2 : goal.invariant_of-self-in_err-reserve-2
invariant_of-self-in_err-reserve-2 g c = reserved_same c.self.inside.queues (record { posted = c.reserve.new.self; non_posted = c.reserve-2.new.self; completion = c.self.inside.queues.completion }) c.self.inside.puts c.self.inside.places c.self.inside.places c.self.inside.gap c.self.invariant same (omega arith) (let small = c.self.invariant.kept.small in omega arith) roomy
  where
    same : (d : Class) → (at_class (record { posted = c.reserve.new.self; non_posted = c.reserve-2.new.self; completion = c.self.inside.queues.completion }) d).items ≡ (at_class c.self.inside.queues d).items
    same Class.Posted = c.in_ok-reserve.ensures.items
    same Class.NonPosted = c.in_err-reserve-2.ensures.items
    same Class.Completion = refl

    roomy : (d : Class) → IsRoomy c.self.inside.places (at_class (record { posted = c.reserve.new.self; non_posted = c.reserve-2.new.self; completion = c.self.inside.queues.completion }) d)
    roomy Class.Posted = (let before = (c.self.invariant.roomy Class.Posted).reserved in let long = (c.self.invariant.roomy Class.Posted).long in let capacity = c.in_ok-reserve.ensures.capacity in let len = c.in_ok-reserve.ensures.len in let size = ap length c.in_ok-reserve.ensures.items in record { reserved = omega arith; long = omega arith })
    roomy Class.NonPosted = (let before = (c.self.invariant.roomy Class.NonPosted).reserved in let long = (c.self.invariant.roomy Class.NonPosted).long in let capacity = c.in_err-reserve-2.ensures.capacity in let len = c.in_err-reserve-2.ensures.len in let size = ap length c.in_err-reserve-2.ensures.items in record { reserved = omega arith; long = omega arith })
    roomy Class.Completion = c.self.invariant.roomy Class.Completion

pub invariant_of-self-in_err-reserve-3 : goal.invariant_of-self-in_err-reserve-3
invariant_of-self-in_err-reserve-3 g c = reserved_same c.self.inside.queues (record { posted = c.reserve.new.self; non_posted = c.reserve-2.new.self; completion = c.reserve-3.new.self }) c.self.inside.puts c.self.inside.places c.self.inside.places c.self.inside.gap c.self.invariant same (omega arith) (let small = c.self.invariant.kept.small in omega arith) roomy
  where
    same : (d : Class) → (at_class (record { posted = c.reserve.new.self; non_posted = c.reserve-2.new.self; completion = c.reserve-3.new.self }) d).items ≡ (at_class c.self.inside.queues d).items
    same Class.Posted = c.in_ok-reserve.ensures.items
    same Class.NonPosted = c.in_ok-reserve-2.ensures.items
    same Class.Completion = c.in_err-reserve-3.ensures.items

    roomy : (d : Class) → IsRoomy c.self.inside.places (at_class (record { posted = c.reserve.new.self; non_posted = c.reserve-2.new.self; completion = c.reserve-3.new.self }) d)
    roomy Class.Posted = (let before = (c.self.invariant.roomy Class.Posted).reserved in let long = (c.self.invariant.roomy Class.Posted).long in let capacity = c.in_ok-reserve.ensures.capacity in let len = c.in_ok-reserve.ensures.len in let size = ap length c.in_ok-reserve.ensures.items in record { reserved = omega arith; long = omega arith })
    roomy Class.NonPosted = (let before = (c.self.invariant.roomy Class.NonPosted).reserved in let long = (c.self.invariant.roomy Class.NonPosted).long in let capacity = c.in_ok-reserve-2.ensures.capacity in let len = c.in_ok-reserve-2.ensures.len in let size = ap length c.in_ok-reserve-2.ensures.items in record { reserved = omega arith; long = omega arith })
    roomy Class.Completion = (let before = (c.self.invariant.roomy Class.Completion).reserved in let long = (c.self.invariant.roomy Class.Completion).long in let capacity = c.in_err-reserve-3.ensures.capacity in let len = c.in_err-reserve-3.ensures.len in let size = ap length c.in_err-reserve-3.ensures.items in record { reserved = omega arith; long = omega arith })

pub invariant_of-self-2 : goal.invariant_of-self-2
invariant_of-self-2 g c = reserved_same c.self.inside.queues (record { posted = c.reserve.new.self; non_posted = c.reserve-2.new.self; completion = c.reserve-3.new.self }) c.self.inside.puts c.self.inside.places (c.self.inside.places + c.args.n) c.self.inside.gap c.self.invariant same (omega arith) (let small = c.self.invariant.kept.small in omega arith) roomy
  where
    same : (d : Class) → (at_class (record { posted = c.reserve.new.self; non_posted = c.reserve-2.new.self; completion = c.reserve-3.new.self }) d).items ≡ (at_class c.self.inside.queues d).items
    same Class.Posted = c.in_ok-reserve.ensures.items
    same Class.NonPosted = c.in_ok-reserve-2.ensures.items
    same Class.Completion = c.in_ok-reserve-3.ensures.items

    roomy : (d : Class) → IsRoomy (c.self.inside.places + c.args.n) (at_class (record { posted = c.reserve.new.self; non_posted = c.reserve-2.new.self; completion = c.reserve-3.new.self }) d)
    roomy Class.Posted = (let before = (c.self.invariant.roomy Class.Posted).reserved in let long = (c.self.invariant.roomy Class.Posted).long in let capacity = c.in_ok-reserve.ensures.capacity in let len = c.in_ok-reserve.ensures.len in let size = ap length c.in_ok-reserve.ensures.items in let ok = c.in_ok-reserve.ensures.ok in let old = c.len.ensures in record { reserved = omega arith; long = omega arith })
    roomy Class.NonPosted = (let before = (c.self.invariant.roomy Class.NonPosted).reserved in let long = (c.self.invariant.roomy Class.NonPosted).long in let capacity = c.in_ok-reserve-2.ensures.capacity in let len = c.in_ok-reserve-2.ensures.len in let size = ap length c.in_ok-reserve-2.ensures.items in let ok = c.in_ok-reserve-2.ensures.ok in let old = c.len-2.ensures in record { reserved = omega arith; long = omega arith })
    roomy Class.Completion = (let before = (c.self.invariant.roomy Class.Completion).reserved in let long = (c.self.invariant.roomy Class.Completion).long in let capacity = c.in_ok-reserve-3.ensures.capacity in let len = c.in_ok-reserve-3.ensures.len in let size = ap length c.in_ok-reserve-3.ensures.items in let ok = c.in_ok-reserve-3.ensures.ok in let old = c.len-3.ensures in record { reserved = omega arith; long = omega arith })
