-- A packet of a domain that a port takes, in a guarded fabric and in one without other domains.
use Rattle.std.proofs.Common.{◌≡◌, ℕ, Bool, true, false, cond, List, ◌++◌, map, get_or, set, Option, Some, None, refl, sym, ap, ◌∙◌, subst}
use Rattle.std.specs.Prelude.{filter, option_to_list}
use Rattle.std.specs.Option.{option_and_then}
use Rattle.std.proofs.Math.Seq.{map-set_same}
use Rattle.std.proofs.lemmas.List.Elements.{filter-append}
use Rattle.fab_types.specs.declared.class.Class.{Class}
use Rattle.fab_types.specs.declared.class.Class.TheVariants.{Completion, NonPosted, Posted}
use Rattle.fab_types.specs.declared.violation.Violation.{Violation}
use Rattle.frame_log.specs.Descriptor.{Descriptor}
use Rattle.domain.specs.declared.entry.Entry.TheVariants.{Refuse}
use Rattle.domains.specs.Agents.{AgentsView}
use Rattle.link.specs.Channels.{Channel}
use Rattle.port.specs.Configs.{Config}
use Rattle.port.specs.Courses.{course_of}
use Rattle.port.specs.Turns.{PortView}
use Rattle.port.specs.declared.course.Forwarding.{Forwarding}
use Rattle.port.specs.declared.course.Forwarding.TheVariants.{To, Stop, NoCase}
use Rattle.domains.specs.Domains.{Made, made}
use Rattle.topology.specs.declared.nodes.LinkEnd.{LinkEnd}
use Rattle.topology.specs.declared.places.PortPlace.{PortPlace}
use Rattle.interconnect.specs.Moves.{put_at}
use Rattle.interconnect.specs.Passes.{index_of, no_place, no_port}
use Rattle.fabric_core.specs.Arrivals.{Taken, taken_at}
use Rattle.fabric_core.specs.Isolation.{home_of_taken, home_passed, is_number}
use Rattle.fabric_core.specs.Misrouting.{pass}
use Rattle.switch_output.specs.Vetted.{may_go_on}
use Rattle.fabric_core.specs.Passing.{Site, answer_waits, answered_at, is_full_at, kept_by, output_end, passed, passed_at, passed_by, passed_number, port_number, refused_by, site_at, strayed, turned}
use Rattle.fabric_core.specs.Soundness.{IsGuardedFabric, config_of}
use Rattle.fabric_core.specs.World.{World, with_channels}
use Rattle.fabric_core.proofs.soundness.GuardedAliens.{passes_as_turned}
use Rattle.fabric_core.proofs.runs.MirroredAgents.{AreNumbered, made_home, silent_too}
use Rattle.fabric_core.proofs.runs.MirroredLinks.{mirrors_put, place_too, taken_too}
use Rattle.fabric_core.proofs.runs.Mirrors.{Alike, Follows, Mirrors, MirrorsLinks, MirrorsMade, MirrorsTaken, follows_then, follows_unless}
use Rattle.fabric_core.proofs.runs.OwnMoves.{Beside, IsRoomy, with_links}
use Rattle.fabric_core.proofs.runs.OwnOnes.{IsOwn}
use Rattle.fabric_core.proofs.runs.Pairwise.{pair_at, pair_from}
use Rattle.fabric_core.proofs.invariant.Renewing.{renewed}

pub configs_stay : (ports : List PortView) (i : ℕ) (frame : Descriptor) → map config_of (set ports i (kept_by (get_or ports i no_port) frame)) ≡ map config_of ports
configs_stay ports i frame = map-set_same config_of ports i (kept_by (get_or ports i no_port) frame) no_port refl

mirrors_answered : (d : ℕ) (ones others : List (List Channel)) → MirrorsLinks d ones others → (end : LinkEnd) (sent : Option Descriptor) → ((frame : Descriptor) → sent ≡ Some frame → IsOwn d frame) → MirrorsLinks d (answered_at ones end sent) (answered_at others end sent)
mirrors_answered d ones others links end None is = links
mirrors_answered d ones others links end (Some frame) is = mirrors_put d ones others links end frame (is frame refl)

module _ (d : ℕ) (is_told : Violation → Bool) (w : World) (channels : List (List Channel)) (ports : List PortView) (agents : AgentsView) (violations : List Violation) (strays : List Descriptor) (m : Beside d is_told w channels ports agents violations) where
  abbrev other : World
  other = renewed w channels ports agents violations strays

  abbrev Both : Option World → Option World → Type 0
  Both one two = Follows (Mirrors d is_told) one two

  told_more : (report : Option Violation) → filter is_told (violations ++ option_to_list report) ≡ filter is_told (w.violations ++ option_to_list report)
  told_more report =
      filter-append is_told violations (option_to_list report)
      ∙ (ap (λ (vs : List Violation). vs ++ filter is_told (option_to_list report)) m.violations ∙ sym (filter-append is_told w.violations (option_to_list report)))

  module _ (site : Site) (t : Taken) (cs : List (List Channel)) (is : IsOwn d t.frame) (links : MirrorsLinks d t.channels cs) where
    abbrev too : Taken
    too = record { frame = t.frame; channels = cs }

    strayed_too : Mirrors d is_told (strayed w site t) (strayed other site too)
    strayed_too = record {
      tree = refl;
      routes = refl;
      configs = configs_stay ports site.number t.frame ∙ (m.configs ∙ sym (configs_stay w.ports site.number t.frame));
      links = links;
      agents = m.agents;
      violations = m.violations;
    }

    refused_too : (report : Option Violation) (o p : Option Made) → Alike (MirrorsMade d) o p → Mirrors d is_told (refused_by w site report t o) (refused_by other site report too p)
    refused_too report None None alike = strayed_too
    refused_too report None (Some y) alike = absurd alike
    refused_too report (Some x) None alike = absurd alike
    refused_too report (Some x) (Some y) alike = record {
      tree = refl;
      routes = refl;
      configs = m.configs;
      links = subst (λ (sent : Option Descriptor). MirrorsLinks d (answered_at t.channels (output_end site site.config.own) x.sent) (answered_at cs (output_end site site.config.own) sent)) (sym alike.sent)
          (mirrors_answered d t.channels cs links (output_end site site.config.own) x.sent alike.own);
      agents = silent_too d w.agents agents m.agents x y alike;
      violations = told_more report;
    }

    module _ (roomy : IsRoomy w) (numbers : AreNumbered w.agents.domains) (class : Class) where
      is_free : (output : ℕ) (class : Class) → is_full_at w site output class ≡ false → is_full_at other site output class ≡ false
      is_free output class = place_too d w.channels channels m.links (output_end site output) class (roomy (output_end site output) class)

      forward_too : (output : ℕ) (may : Bool) → Both (cond (is_full_at w site output class) None (cond may (Some (with_channels w (put_at t.channels (output_end site output) t.frame))) (Some (strayed w site t))))
          (cond (is_full_at other site output class) None (cond may (Some (with_channels other (put_at cs (output_end site output) t.frame))) (Some (strayed other site too))))
      forward_too output true =
          follows_unless (Mirrors d is_told) (is_full_at w site output class) (is_full_at other site output class) _ _ (is_free output class)
          (with_links d is_told w channels ports agents violations strays m _ _ (mirrors_put d t.channels cs links (output_end site output) t.frame is))
      forward_too output false = follows_unless (Mirrors d is_told) (is_full_at w site output class) (is_full_at other site output class) _ _ (is_free output class) strayed_too

      waits_too : (class : Class) → answer_waits w site class ≡ false → answer_waits other site class ≡ false
      waits_too Posted free = refl
      waits_too NonPosted free = is_free site.config.own Completion free
      waits_too Completion free = refl

      course_too : (course : Forwarding) → Both (passed_by w site class t course) (passed_by other site class too course)
      course_too (To output) = forward_too output (may_go_on w.routes.ports t.frame)
      course_too (Stop report) =
          follows_unless (Mirrors d is_told) (answer_waits w site class) (answer_waits other site class) _ _ (waits_too class)
          (refused_too report (made w.agents.domains t.frame.domain (Refuse t.frame.number)) (made agents.domains t.frame.domain (Refuse t.frame.number)) (made_home d w.agents.domains agents.domains numbers m.agents.domains (Refuse t.frame.number) t.frame.domain is))
      course_too NoCase = strayed_too

  module _ (roomy : IsRoomy w) (numbers : AreNumbered w.agents.domains) (class : Class) where
    passed_too : (site : Site) (o p : Option Taken) → Follows (MirrorsTaken d) o p → Both (option_and_then (passed w site class) o) (option_and_then (passed other site class) p)
    passed_too site o p so =
        follows_then (MirrorsTaken d) (Mirrors d is_told) (passed w site class) (passed other site class)
        (λ t t' both. subst (λ (x : Taken). Both (passed w site class t) (passed other site class x)) both.is
        (course_too site t both.channels both.own both.links roomy numbers class (course_of w.routes site.config t.frame.head))) o p so

    same_config : (i : ℕ) → (port_number other i).config ≡ (port_number w i).config
    same_config i = pair_at (λ (x y : PortView). y.config ≡ x.config) w.ports ports i no_port no_port refl (pair_from config_of config_of w.ports ports m.configs)

    at_place : (i : ℕ) (place : PortPlace) → is_number d (home_of_taken (taken_at w.channels class place.input)) ≡ true → Both (passed_at w class i place) (passed_at other class i place)
    at_place i place is =
        subst (λ (c : Config). Both (passed_at w class i place) (option_and_then (passed other (record { number = i; node = place.node; config = c }) class) (taken_at channels class place.input))) (sym (same_config i))
        (passed_too (site_at w i place) (taken_at w.channels class place.input) (taken_at channels class place.input) (taken_too d w.channels channels m.links class place.input is))

    turned_too : (found : Option ℕ) → is_number d (option_and_then (home_passed w class) found) ≡ true → Both (passed_number w class found) (passed_number other class found)
    turned_too None is = tt
    turned_too (Some i) is = at_place i (get_or w.tree.places i no_place) is

    -- a port takes it in both
    pub own_pass : IsGuardedFabric w → IsGuardedFabric other → (port : ℕ) → is_number d (option_and_then (home_passed w class) (index_of w.tree.places port)) ≡ true → Both (pass w port class) (pass other port class)
    own_pass g g' port is =
        subst (λ (o : Option World). Both o (pass other port class)) (sym (passes_as_turned w g port class))
        (subst (λ (o : Option World). Both (turned w port class) o) (sym (passes_as_turned other g' port class)) (turned_too (index_of w.tree.places port) is))
