-- What the steps of a refusal give together.
use Rattle.std.proofs.Common.{◌≡◌, ℕ, List, ◌++◌, Option, Some, None, is_some, false, option_to_list, inl, inr, refl, sym, ap, ◌∙◌, subst}
use Rattle.std.specs.Option.{option_map}
use Rattle.fab_types.specs.declared.class.Class.{Class}
use Rattle.fab_types.specs.declared.head.Head.{Head}
use Rattle.fab_types.specs.declared.violation.Violation.{Violation}
use Rattle.frame_log.specs.Descriptor.{Descriptor}
use Rattle.bridge.specs.Bridges.{Routes}
use Rattle.port.specs.declared.course.Forwarding.TheVariants.{Stop}
use Rattle.port.specs.Configs.{Config}
use Rattle.port.specs.Courses.{course_of}
use Rattle.lane.specs.Lanes.{eligible}
use Rattle.port.specs.Steps.{RefusesAt, with_put}
use Rattle.port.specs.Turns.{Advanced, PortView, Refused, Sight, Stops, sight_with}

module _ {K : Type 0} (refuses : K → Descriptor → ℕ → Option Descriptor → K → Type 0) where
  pub refused_of : (config : Config) (class : Class) (report : Option Violation) (s t : Sight K) (asked : List (List Descriptor)) (ready : List Violation) → RefusesAt class (λ f a. refuses s.known f config.id a t.known) config.own s.waiting asked t.waiting t.outs t.kept
      → asked ≡ s.outs → t.strays ≡ s.strays → ready ≡ s.reported → ready ++ option_to_list report ≡ t.reported ++ option_to_list t.held → Refused refuses config class report s t
  refused_of config class report s t asked ready w outs strays same told = record {
    frame = w.frame;
    answer = w.answer;
    put = w.put;
    taken = w.taken;
    refused = w.given;
    outs = w.added ∙ ap (λ (l : List (List Descriptor)). with_put l config.own w.put) outs;
    answered = w.answered;
    told = ap (λ (l : List Violation). l ++ option_to_list report) (sym same) ∙ told;
    strays = strays;
  }

pub none_held : {T : Type 0} (o : Option T) → is_some o ≡ false → o ≡ None
none_held None e = refl
none_held (Some x) e = cc

-- ---- a packet that was stopped went on its course

head_is : (head : Head) (o : Option (Descriptor × List Descriptor)) (frame : Descriptor) (left : List Descriptor) → Some head ≡ option_map (λ taken. taken.0.head) o → o ≡ Some (frame, left) → frame.head ≡ head
head_is head o frame left found is =
    let e : ◌≡◌ {A = Option Head} (Some frame.head) (Some head) = sym (found ∙ ap (option_map (λ (taken : Descriptor × List Descriptor). taken.0.head)) is) in
    cc

module _ {K : Type 0} (refuses : K → Descriptor → ℕ → Option Descriptor → K → Type 0) (unknown : K → Descriptor → ℕ → Type 0) where
  stops_at : (tree : Routes) (config : Config) (class : Class) (report : Option Violation) (head : Head) (s t : Sight K) → Some head ≡ option_map (λ taken. taken.0.head) (eligible class s.waiting) → course_of tree config head ≡ Stop report
      → Stops refuses unknown config class report s t → Advanced refuses unknown tree config class s t
  stops_at tree config class report head s t found course (inl r) = inr (inl (record {
    frame = r.frame;
    report = report;
    answer = r.answer;
    put = r.put;
    taken = r.taken;
    course = ap (course_of tree config) (head_is head (eligible class s.waiting) r.frame t.waiting found r.taken) ∙ course;
    refused = r.refused;
    outs = r.outs;
    answered = r.answered;
    told = r.told;
    strays = r.strays;
  }))
  stops_at tree config class report head s t found course (inr u) = inr (inr (record {
    frame = u.frame;
    taken = u.taken;
    stray = inr (inr (report, ap (course_of tree config) (head_is head (eligible class s.waiting) u.frame t.waiting found u.taken) ∙ course, u.unknown_there));
    strays = u.strays;
    same = u.same;
  }))

  -- also where its head was looked at before
  pub stops_advance : (tree : Routes) (config : Config) (class : Class) (report : Option Violation) (head : Head) (waiting waiting' : List Descriptor) (outs : List (List Descriptor)) (known : K) (reported : List Violation) (port : PortView) (t : Sight K)
      → Some head ≡ option_map (λ taken. taken.0.head) (eligible class waiting) → course_of tree config head ≡ Stop report → waiting' ≡ waiting
      → Stops refuses unknown config class report (sight_with waiting' outs known reported port) t → Advanced refuses unknown tree config class (sight_with waiting outs known reported port) t
  stops_advance tree config class report head waiting waiting' outs known reported port t found course same stops =
      stops_at tree config class report head (sight_with waiting outs known reported port) t found course
      (subst (λ (w : List Descriptor). Stops refuses unknown config class report (sight_with w outs known reported port) t) same stops)
