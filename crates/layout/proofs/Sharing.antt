-- Mappings stay in their domain with one line more.
use Rattle.std.proofs.Common.{◌≡◌, ℕ, ◌==◌, true, false, List, [], ◌∷◌, ◌++◌, refl}
use Rattle.std.specs.Prelude.{◌&&◌, not}
use Rattle.std.specs.List.{list_all}
use Rattle.platform.specs.declared.parts.DownstreamPort.{DownstreamPort}
use Rattle.platform.specs.declared.parts.EndpointFunction.{EndpointFunction}
use Rattle.platform.specs.declared.parts.MapTarget.{MapTarget}
use Rattle.platform.specs.declared.parts.MapTarget.TheVariants as mapped
use Rattle.platform.specs.declared.parts.Mapping.{Mapping}
use Rattle.layout_line.specs.declared.lines.TargetText.{TargetText}
use Rattle.layout_line.specs.declared.lines.TargetText.TheVariants as target
use Rattle.platform.specs.Tree.{domain_of}
use Rattle.layout.specs.Rules.{is_mapping_of, is_foreign, is_foreign_frame, is_known_target, is_past_frames}
use Rattle.layout.specs.Additions.{target_of_text}
use Rattle.layout.specs.Laws.{is_placed, is_known, is_known_map, is_home_target, is_home_map, is_own_frame, share_no_frame}
use Rattle.platform.proofs.Bools.{and-first, and-second, and-both}
use Rattle.layout.proofs.Bools.{not-false, all-not, any-stays}
use Rattle.layout.proofs.Nesting.{domain-stays, lt-test}

home-target-stays : (ports more : List DownstreamPort) (functions : List EndpointFunction) (frames domain other : ℕ) (t : MapTarget) → list_all (is_placed ports) functions ≡ true → is_known functions frames t ≡ true → other ≡ domain → is_home_target ports domain t ≡ true → is_home_target (ports ++ more) other t ≡ true
home-target-stays ports more functions frames domain other (mapped.Frame k) placed known e h = refl
home-target-stays ports more functions frames domain other (mapped.Peer peer) placed known e h = rw (e, domain-stays ports more functions peer placed known) h

pub home-stays : (ports more : List DownstreamPort) (functions : List EndpointFunction) (frames : ℕ) (line : Mapping) → list_all (is_placed ports) functions ≡ true → is_known_map functions frames line ≡ true → is_home_map ports line ≡ true → is_home_map (ports ++ more) line ≡ true
home-stays ports more functions frames line placed known h =
    home-target-stays ports more functions frames (domain_of ports line.requester) (domain_of (ports ++ more) line.requester) line.target placed (and-second _ _ known) (domain-stays ports more functions line.requester placed (and-first _ _ known)) h

own-frame-stays : (ports more : List DownstreamPort) (one : Mapping) (domain other : ℕ) (t : MapTarget) → domain_of (ports ++ more) one.requester ≡ domain_of ports one.requester → other ≡ domain → is_own_frame ports one domain t ≡ true → is_own_frame (ports ++ more) one other t ≡ true
own-frame-stays ports more one domain other (mapped.Frame k) d e h = rw (d, e) h
own-frame-stays ports more one domain other (mapped.Peer peer) d e h = refl

pub unshared-stays : (ports more : List DownstreamPort) (functions : List EndpointFunction) (frames : ℕ) (one other : Mapping) → list_all (is_placed ports) functions ≡ true → is_known_map functions frames one ≡ true → is_known_map functions frames other ≡ true → share_no_frame ports one other ≡ true → share_no_frame (ports ++ more) one other ≡ true
unshared-stays ports more functions frames one other placed k l h =
    own-frame-stays ports more one (domain_of ports other.requester) (domain_of (ports ++ more) other.requester) other.target
    (domain-stays ports more functions one.requester placed (and-first _ _ k)) (domain-stays ports more functions other.requester placed (and-first _ _ l)) h

pub known-new : (functions : List EndpointFunction) (frames : ℕ) (t : TargetText) → is_known_target functions t ≡ true → is_past_frames frames t ≡ false → is_known functions frames (target_of_text t) ≡ true
known-new functions frames (target.Frame k) known few = lt-test k frames few
known-new functions frames (target.Peer peer) known few = known

pub home-new : (ports : List DownstreamPort) (maps : List Mapping) (domain : ℕ) (t : TargetText) → is_foreign ports maps domain t ≡ false → is_home_target ports domain (target_of_text t) ≡ true
home-new ports maps domain (target.Frame k) h = refl
home-new ports maps domain (target.Peer peer) h = not-false _ h

all-true : {X : Type 0} (xs : List X) → list_all (λ x. true) xs ≡ true
all-true [] = refl
all-true (x ∷ xs) = all-true xs

pub unshared-new : (ports : List DownstreamPort) (maps : List Mapping) (domain : ℕ) (t : TargetText) → is_foreign ports maps domain t ≡ false → list_all (λ line. is_own_frame ports line domain (target_of_text t)) maps ≡ true
unfolding is_foreign_frame
unshared-new ports maps domain (target.Frame k) h = all-not (λ (line : Mapping). is_mapping_of k line.target && not (domain_of ports line.requester == domain)) maps h
unshared-new ports maps domain (target.Peer peer) h = all-true maps

known-target-stays : (functions more : List EndpointFunction) (frames : ℕ) (t : MapTarget) → is_known functions frames t ≡ true → is_known (functions ++ more) frames t ≡ true
known-target-stays functions more frames (mapped.Frame k) h = h
known-target-stays functions more frames (mapped.Peer peer) h = any-stays (λ (line : EndpointFunction). line.id == peer) functions more h

pub known-stays : (functions more : List EndpointFunction) (frames : ℕ) (line : Mapping) → is_known_map functions frames line ≡ true → is_known_map (functions ++ more) frames line ≡ true
known-stays functions more frames line h =
    and-both _ _ (any-stays (λ (f : EndpointFunction). f.id == line.requester) functions more (and-first _ _ h)) (known-target-stays functions more frames line.target (and-second _ _ h))
