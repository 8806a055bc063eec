-- What a packet that is stopped wants memory for.
use Rattle.std.proofs.Common.{◌≡◌, ℕ, ◌⊎◌, inl, inr, ⊎_elim, List, Option, Some, None, refl, sym, ap, ◌∙◌, subst}
use Rattle.std.specs.Prelude.{IsSome, option_map}
use Rattle.fab_types.specs.declared.class.Class.{Class}
use Rattle.fab_types.specs.declared.head.Head.{Head}
use Rattle.fab_types.specs.declared.violation.Violation.{Violation}
use Rattle.frame_log.specs.Descriptor.{Descriptor}
use Rattle.bridge.specs.Bridges.{Routes}
use Rattle.port.specs.declared.course.Forwarding.TheVariants.{Stop}
use Rattle.port.specs.Configs.{Config}
use Rattle.port.specs.Courses.{course_of}
use Rattle.lane.specs.Lanes.{eligible}
use Rattle.port.specs.Wants.{Awaits, CourseWants, WantsMemory}

-- the packet whose head was lent
awaits : (class : Class) (waiting : List Descriptor) (h : Head) (found : Option (Descriptor × List Descriptor)) → eligible class waiting ≡ found → Some h ≡ option_map (λ taken. taken.0.head) found → Awaits class waiting (λ f. f.head ≡ h)
awaits class waiting h None e lent = absurd cc
awaits class waiting h (Some taken) e lent = record { frame = taken.0; rest = taken.1; taken = e; is_such = cc }

same_head : (class : Class) (waiting : List Descriptor) (h : Head) (such : Descriptor → Type 0) → Some h ≡ option_map (λ taken. taken.0.head) (eligible class waiting) → (w : Awaits class waiting such) → w.frame.head ≡ h
same_head class waiting h such lent w =
    let same : Some h ≡ Some w.frame.head = lent ∙ ap (option_map (λ taken. taken.0.head)) w.taken in cc

module _ {K : Type 0} (wants unknown : K → Descriptor → ℕ → Type 0) (tree : Routes) (config : Config) (known : K) where
  wants_stop : (report : Option Violation) (frame : Descriptor) → IsSome report ⊎ (wants known frame config.id ⊎ unknown known frame config.id) → CourseWants wants unknown tree config known frame (Stop report)
  wants_stop None frame h = ⊎_elim (λ some. absurd cc) (λ w. w) h
  wants_stop (Some report) frame h = tt

  -- it is the one that wants memory
  pub stopped_wants : (class : Class) (was waiting : List Descriptor) (h : Head) (report : Option Violation) → Some h ≡ option_map (λ taken. taken.0.head) (eligible class was) → waiting ≡ was → Stop report ≡ course_of tree config h
      → IsSome report ⊎ Awaits class waiting (λ f. wants known f config.id ⊎ unknown known f config.id) → WantsMemory wants unknown tree config known class was
  stopped_wants class was waiting h report lent same course (inl some) =
      let w = awaits class was h _ refl lent in
      record {
        frame = w.frame;
        rest = w.rest;
        taken = w.taken;
        is_such = subst (CourseWants wants unknown tree config known w.frame) (course ∙ ap (course_of tree config) (sym w.is_such)) (wants_stop report w.frame (inl some));
      }
  stopped_wants class was waiting h report lent same course (inr wanted) =
      let w = subst (λ (l : List Descriptor). Awaits class l (λ f. wants known f config.id ⊎ unknown known f config.id)) same wanted in
      record {
        frame = w.frame;
        rest = w.rest;
        taken = w.taken;
        is_such = subst (CourseWants wants unknown tree config known w.frame) (course ∙ ap (course_of tree config) (sym (same_head class was h _ lent w))) (wants_stop report w.frame (inr w.is_such));
      }
