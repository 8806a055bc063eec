-- Mappings are added, of functions and frames that were declared before.
use Rattle.std.proofs.Common.{◌≡◌, ℕ, ◌==◌, ◌≤◌, Bool, true, false, refl, ap, subst, ◌∙◌, List, [], ◌∷◌, ◌++◌, Some, None, eqb-true}
use Rattle.std.specs.Prelude.{◌&&◌, not, count_by, map}
use Rattle.std.specs.List.{AllPairs, list_all}
use Rattle.std.proofs.lemmas.Bool.{and_parts, eq-eqb}
use Rattle.std.proofs.lemmas.List.Folds.{list_any_none}
use Rattle.platform.specs.declared.parts.DownstreamPort.{DownstreamPort}
use Rattle.platform.specs.declared.parts.EndpointFunction.{EndpointFunction}
use Rattle.platform.specs.declared.parts.MapTarget.{MapTarget}
use Rattle.platform.specs.declared.parts.MapTarget.TheVariants as mapped
use Rattle.platform.specs.declared.parts.Mapping.{Mapping}
use Rattle.platform.specs.Owners.{is_function}
use Rattle.platform.specs.Platform.{Platform}
use Rattle.platform.specs.Tree.{domain_of}
use Rattle.layout.specs.Additions.{add, target_of_text}
use Rattle.layout.specs.Laws.{IsPlatform, each_pair, is_home_map, is_home_target, is_known, is_known_map, is_own_frame, share_no_frame}
use Rattle.layout.specs.Rules.{fault_of, has_full_table, is_foreign, is_foreign_frame, is_known_target, is_mapped, is_mapping_of, is_of_requester, is_past_frames, map_fault}
use Rattle.text_writers.specs.PlatformLines.{map_says, target_says}
use Rattle.text_writers.proofs.layouts.After.{after, all-after, map-lines, one-after}
use Rattle.text_writers.proofs.layouts.Lists.{all-at, count-room, none-passes, pair-front, pairs-front}
use Rattle.text_writers.proofs.layouts.Rules.{above-most, is-false, no-not, not-most, or-no, skip}
use Rattle.text_writers.proofs.layouts.Stripped.{domain-stripped, stage, stripped}

known-target : (functions : List EndpointFunction) (frames : ℕ) (t : MapTarget) → is_known functions frames t ≡ true → is_known_target functions (target_says t) ≡ true
known-target functions frames (mapped.Frame frame) h = refl
known-target functions frames (mapped.Peer peer) h = h

known-frame : (functions : List EndpointFunction) (frames : ℕ) (t : MapTarget) → is_known functions frames t ≡ true → is_past_frames frames (target_says t) ≡ false
known-frame functions frames (mapped.Frame frame) h = not-most frame frames h
known-frame functions frames (mapped.Peer peer) h = refl

-- a frame of no other domain, or a function of the same one
at-home : (ports : List DownstreamPort) (done : List Mapping) (domain : ℕ) (t : MapTarget) → list_all (λ (x : Mapping). is_own_frame ports x domain t) done ≡ true → is_home_target ports domain t ≡ true
    → is_foreign (map stripped ports) done domain (target_says t) ≡ false
unfolding is_foreign_frame
at-home ports done domain (mapped.Frame frame) own home =
    none-passes (λ (x : Mapping). is_mapping_of frame x.target && not (domain_of (map stripped ports) x.requester == domain)) (λ (x : Mapping). is_own_frame ports x domain (mapped.Frame frame)) done
    (λ x h. ap (λ (d : ℕ). is_mapping_of frame x.target && not (d == domain)) (domain-stripped ports x.requester) ∙ is-false _ h) own
at-home ports done domain (mapped.Peer peer) own home = ap (λ (d : ℕ). not (d == domain)) (domain-stripped ports peer) ∙ no-not _ home

both-false : (a b : Bool) → (a ≡ true → b ≡ true → ⊥) → (a && b) ≡ false
both-false true true h = absurd (h refl refl)
both-false true false h = refl
both-false false b h = refl

module _ (p : Platform) (is : IsPlatform p) where
  abbrev so_far : List Mapping → List Mapping → Platform
  so_far done rest = stage p p.switches (map stripped p.ports) p.functions done [] []

  module _ (done : List Mapping) (m : Mapping) (rest : List Mapping) (e : p.maps ≡ done ++ m ∷ rest) where
    known : is_known_map p.functions p.frames m ≡ true
    known = all-at (is_known_map p.functions p.frames) done m rest (let P : List Mapping → Type 0 = λ maps. list_all (is_known_map p.functions p.frames) maps ≡ true in subst P e is.known)

    room : has_full_table done m.requester ≡ false
    unfolding has_full_table
    room =
        let few : count_by (is_of_requester m.requester) (done ++ m ∷ rest) ≤ 64 = let P : List Mapping → Type 0 = λ maps. count_by (is_of_requester m.requester) maps ≤ 64 in subst P e (is.limits.maps m.requester) in
        above-most _ 64 (count-room (is_of_requester m.requester) done m rest 64 (eq-eqb m.requester m.requester refl) few)

    home : is_foreign (map stripped p.ports) done (domain_of (map stripped p.ports) m.requester) (target_says m.target) ≡ false
    home =
        let own : list_all (λ (x : Mapping). share_no_frame p.ports x m) done ≡ true = pair-front (share_no_frame p.ports) done m rest (let P : List Mapping → Type 0 = λ maps. each_pair (share_no_frame p.ports) maps ≡ true in subst P e is.unshared) in
        let stays : is_home_map p.ports m ≡ true = all-at (is_home_map p.ports) done m rest (let P : List Mapping → Type 0 = λ maps. list_all (is_home_map p.ports) maps ≡ true in subst P e is.home) in
        ap (λ (domain : ℕ). is_foreign (map stripped p.ports) done domain (target_says m.target)) (domain-stripped p.ports m.requester)
        ∙ at-home p.ports done (domain_of p.ports m.requester) m.target own stays

    new : is_mapped done m.requester m.page ≡ false
    unfolding is_mapped
    new =
        list_any_none (λ (x : Mapping). is_of_requester m.requester x && (x.page == m.page)) done
        (λ i d below. both-false _ _ (λ same_requester same_page.
        pairs-front (λ (a b : Mapping). a.requester ≡ b.requester → a.page ≡ b.page → ⊥) done m rest
        (let P : List Mapping → Type 0 = λ maps. AllPairs (λ (a b : Mapping). a.requester ≡ b.requester → a.page ≡ b.page → ⊥) maps in subst P e is.mapped_once)
        i d below (eqb-true _ _ same_requester) (eqb-true _ _ same_page)))

    fits : fault_of (so_far done []) (map_says m) ≡ None
    unfolding map_fault
    fits =
        let parts = and_parts (is_function p.functions m.requester) (is_known p.functions p.frames m.target) known in
        skip _ _ _ (or-no _ _ (no-not _ parts.0) (no-not _ (known-target p.functions p.frames m.target parts.1)))
        (skip _ _ _ (or-no _ _ (known-frame p.functions p.frames m.target parts.1) room)
        (skip _ _ _ home
        (skip _ _ _ new refl)))

    target-back : (t : MapTarget) → target_of_text (target_says t) ≡ t
    target-back (mapped.Frame frame) = refl
    target-back (mapped.Peer peer) = refl

    added : add (so_far done []) (map_says m) ≡ so_far (done ++ m ∷ []) []
    added = ap (λ (t : MapTarget). so_far (done ++ record { requester = m.requester; page = m.page; target = t; rights = m.rights } ∷ []) []) (target-back m.target)

  pub maps-added : after (so_far [] []) (map map_says p.maps) ≡ Some (so_far p.maps [])
  maps-added =
      ap (after (so_far [] [])) (map-lines map_says p.maps)
      ∙ all-after (λ (m : Mapping). map_says m ∷ []) so_far p.maps
      (λ done m rest e. one-after (so_far done []) (map_says m) (so_far (done ++ m ∷ []) []) (fits done m rest e) (added done m rest e))
