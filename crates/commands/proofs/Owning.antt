-- In every run a fabric keeps the domains of its layout, each with its share.
use Rattle.std.proofs.Common.{◌≡◌, ◌≤◌, ℕ, Bool, true, false, List, [], map, get_or, slice_get, Option, Some, None, refl, sym, ap, ◌∙◌, subst, eqb-true}
use Rattle.std.specs.Prelude.{Contains, is_some, if◌then◌else◌, ◌==◌}
use Rattle.std.specs.List.{filter, position, range_with_len}
use Rattle.std.proofs.lemmas.Bool.{and_parts, leb-true}
use Rattle.std.proofs.lemmas.List.Elements.{Contains-get_or}
use Rattle.std.proofs.lemmas.List.Quantifiers.{position-Some}
use Rattle.std.proofs.lemmas.Option.{same_Some, slice_get-get_or}
use Rattle.platform.specs.declared.parts.DownstreamPort.{DownstreamPort}
use Rattle.platform.specs.Owners.{owns_port}
use Rattle.platform.specs.Platform.{Platform}
use Rattle.platform.specs.Share.{Share}
use Rattle.layout.specs.Laws.{IsPlatform, has_domain as is_of_domain}
use Rattle.layout.specs.Views.{share_of_domain, share_of_owner}
use Rattle.script.specs.declared.lines.Line.{Line}
use Rattle.domain.specs.Domains.{DomainView}
use Rattle.domains.specs.Domains.{domain_at, fresh, place_of, starting_domains, starting_domains_among}
use Rattle.domains.proofs.Lists.{position_map}
use Rattle.topology.proofs.Members.{mapped, mapped_from, passes, passing}
use Rattle.fabric_core.specs.Runs.{share_of}
use Rattle.fabric_core.specs.World.{World, world_of}
use Rattle.fabric_core.proofs.effect.Numbers.{has_domain}
use Rattle.fabric_core.proofs.runs.Begun.{run_grow}
use Rattle.commands.specs.Isolated.{IsIsolated}
use Rattle.commands.specs.Owners.{HasDomainOf, HasOwners}

module _ (platform : Platform) where
  -- what a platform gives is the share of an owner
  given : (number : ℕ) (share : Share) → share_of_owner platform number ≡ Some share → (owns_port platform.ports number ≡ true) × (share_of_domain platform number ≡ share)
  given number share is = by (owns_port platform.ports number) refl is
    where
      by : (owns : Bool) → owns_port platform.ports number ≡ owns → (if owns then Some (share_of_domain platform number) else None) ≡ Some share → (owns_port platform.ports number ≡ true) × (share_of_domain platform number ≡ share)
      by true e same = (e, same_Some _ share same)
      by false e same = absurd cc

  -- and an owner has a number from 1 to 31
  in_range : IsPlatform platform → (number : ℕ) → owns_port platform.ports number ≡ true → (1 ≤ number) × (number ≤ 31)
  in_range laws number owns =
      let port = passing (λ (p : DownstreamPort). p.owner == number) platform.ports owns in
      let range = and_parts _ _ (passes is_of_domain platform.ports port.0 laws.owners port.1) in
      subst (λ (n : ℕ). (1 ≤ n) × (n ≤ 31)) (eqb-true _ _ port.2) (leb-true _ _ range.0, leb-true _ _ range.1)

  abbrev starts : List DomainView
  starts = starting_domains platform

  -- a share that the fabric starts with is what the platform gives
  share_at_start : (share : Share) → Contains (map share_of starts) share → share_of_domain platform share.domain ≡ share
  unfolding starting_domains_among
  share_at_start share within =
      let domain = mapped_from share_of starts share within in
      let number = mapped_from (λ (n : ℕ). fresh (share_of_domain platform n)) (filter (owns_port platform.ports) (range_with_len 1 31)) domain.0 domain.1 in
      let same : share_of_domain platform number.0 ≡ share = ap share_of number.2 ∙ domain.2 in
      subst (λ (n : ℕ). share_of_domain platform n ≡ share) (ap (λ (s : Share). s.domain) same) same

  record Stays (domains : List DomainView) (number : ℕ) : Type 0 where
    domain : DomainView
    there : domain_at domains (place_of domains number) ≡ Some domain
    share_is : domain.share ≡ share_of_domain platform number

  -- wherever the shares are those of the start
  stays : (domains : List DomainView) → map share_of domains ≡ map share_of starts → (number : ℕ) → is_some (domain_at starts (place_of starts number)) ≡ true → Stays domains number
  unfolding place_of
  stays domains shares number has = by (position is domains) refl
    where
      is : DomainView → Bool
      is d = d.share.domain == number

      is_share : Share → Bool
      is_share s = s.domain == number

      same : position is domains ≡ position is starts
      same = sym (position_map is_share share_of domains) ∙ (ap (position is_share) shares ∙ position_map is_share share_of starts)

      by : (o : Option ℕ) → position is domains ≡ o → Stays domains number
      by None e = absurd (let none : position is starts ≡ None = sym same ∙ e in let some : is_some (domain_at starts None) ≡ true = subst (λ (o : Option ℕ). is_some (domain_at starts o) ≡ true) none has in cc)
      by (Some i) e =
          let none = fresh (share_of_domain platform number) in
          let at = position-Some is domains i none e in
          let d = get_or domains i none in
          let within = subst (λ (ss : List Share). Contains ss d.share) shares (mapped share_of domains d (Contains-get_or domains i none at.0)) in
          record {
            domain = d;
            there = ap (domain_at domains) e ∙ slice_get-get_or domains i none at.0;
            share_is = sym (share_at_start d.share within) ∙ ap (share_of_domain platform) (eqb-true _ _ at.1);
          }

  pub has_owners : (lines : List Line) (w : World) → IsPlatform platform → IsIsolated platform lines w → HasOwners platform w
  has_owners lines w laws ran share (number, is) =
      let owner = given number share is in
      let range = in_range laws number owner.0 in
      let shares = (run_grow (world_of platform) w ran.events ran.outcomes ran.run).shares in
      let found = stays w.agents.domains shares number (has_domain platform number range.0 range.1 ∙ owner.0) in
      let named : number ≡ share.domain = ap (λ (s : Share). s.domain) owner.1 in
      record {
        domain = found.domain;
        there = subst (λ (n : ℕ). domain_at w.agents.domains (place_of w.agents.domains n) ≡ Some found.domain) named found.there;
        share_is = found.share_is ∙ owner.1;
      }
