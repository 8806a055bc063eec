-- Who carries what a function sent: the host, or the function to which it goes directly.
use Rattle.std.proofs.Common.{◌≡◌, inl, inr, ℕ, true, List, Option, Some, None, refl, sym, ap, ◌∙◌}
use Rattle.std.specs.Prelude.{slice_get}
use Rattle.fab_types.specs.declared.head.AddressType.TheVariants.{Untranslated}
use Rattle.fab_types.specs.declared.head.Header.TheVariants as header
use Rattle.fab_types.specs.declared.head.Parties.TheVariants.{Upward}
use Rattle.fab_types.specs.declared.origin.Origin.TheVariants.{Function, Host}
use Rattle.frame_log.specs.Descriptor.{Descriptor}
use Rattle.platform.specs.declared.parts.DownstreamPort.{DownstreamPort}
use Rattle.platform.specs.Egress.{direct_to}
use Rattle.platform.specs.Share.{Share}
use Rattle.request_handling.specs.Fates.{direct_in, fate, goes_to}
use Rattle.domain.specs.Domains.{DomainView}
use Rattle.domain.specs.Sent.{carrier, carrier_by}
use Rattle.guarded_routes.specs.Ends.{IsOwnRequest, IsRequestTo}
use Rattle.guarded_routes.specs.Guarded.{has_id}
use Rattle.fabric_core.specs.Places.{IsFlown}
use Rattle.fabric_core.specs.Soundness.{IsGuardedFabric}
use Rattle.fabric_core.specs.World.{World}
use Rattle.fabric_core.proofs.order.KeptHeads.{cleared_goes}
use Rattle.fabric_core.proofs.soundness.SoundDomains.{share_is}

goes_in : (to : Option ℕ) → direct_in (goes_to to) ≡ to
goes_in None = refl
goes_in (Some peer) = refl

module _ (w : World) (g : IsGuardedFabric w) (place : ℕ) (d : DomainView) (at : slice_get w.agents.domains place ≡ Some d) (frame : Descriptor) (f : IsFlown w.agents.domains frame) where
  ports_are : d.share.ports ≡ g.platform.ports
  ports_are = ap (λ (s : Share). s.ports) (share_is g.platform w.agents.domains place d g.of_it.shares at)

  -- a request of a function that its first port lets pass
  cleared_by : (sender requester address : ℕ) → frame.head.parties ≡ Upward sender → frame.head.header ≡ header.Memory requester Untranslated address → has_id g.platform sender requester ≡ true → (to : Option ℕ) → direct_to g.platform.ports sender address ≡ to
      → carrier d.share f.emission.bytes f.emission.parties ≡ carrier_by d.share to
  cleared_by sender requester address parties plain held to is =
      let by : f.emission.parties ≡ Upward sender = sym (ap (λ (y : Descriptor). y.head.parties) f.shown) ∙ parties in
      let goes = cleared_goes g.platform g.guarded sender f.emission requester address Untranslated (sym (ap (λ (y : Descriptor). y.head.header) f.shown) ∙ plain) (refl, held) in
      ap (carrier d.share f.emission.bytes) by
      ∙ (ap (λ (ports : List DownstreamPort). carrier_by d.share (direct_in (fate ports sender f.emission.bytes))) ports_are
      ∙ (ap (λ x. carrier_by d.share (direct_in x)) (goes ∙ ap goes_to is) ∙ ap (carrier_by d.share) (goes_in to)))

  pub host_carries : IsOwnRequest g.platform frame → carrier d.share f.emission.bytes f.emission.parties ≡ Some (Host d.share.domain)
  host_carries own = cleared_by own.function own.requester own.address own.parties own.plain own.held None own.straight

  pub function_carries : (function : ℕ) → IsRequestTo g.platform frame function → carrier d.share f.emission.bytes f.emission.parties ≡ Some (Function function)
  function_carries function (inl to) = ap (carrier d.share f.emission.bytes) (sym (ap (λ (y : Descriptor). y.head.parties) f.shown) ∙ to)
  function_carries function (inr q) = cleared_by q.sender q.requester q.address q.parties q.plain q.held (Some function) q.direct
