-- In a guarded fabric each packet that a domain made stands in exactly one place, or was consumed exactly once.
use Rattle.std.proofs.Common.{◌≡◌, ℕ, List, ◌++◌, true, Option, Some, sym, ap, ◌∙◌, subst}
use Rattle.std.specs.Prelude.{All, count_by, slice_get}
use Rattle.std.proofs.lemmas.List.{append-nil}
use Rattle.std.proofs.lemmas.Option.{get_or_from_slice_get, slice_get_within}
use Rattle.frame_log.specs.Descriptor.{Descriptor}
use Rattle.domain.specs.Consumed.{times_waiting}
use Rattle.domain.specs.Domains.{DomainView}
use Rattle.domain.proofs.Consuming.{consumed_once}
use Rattle.domains.specs.Domains.{domain_at}
use Rattle.fabric_core.specs.Invariant.{IsFabric}
use Rattle.fabric_core.specs.Places.{ArePlaced, HasPlaces, HaveOnePlace, IsFlown, flown_by, frames_of, is_numbered}
use Rattle.fabric_core.specs.Soundness.{IsWellKept}
use Rattle.fabric_core.specs.World.{World, is_guarded}

module _ (w : World) (fabric : IsFabric w) (guarded : is_guarded w ≡ true) where
  placed : ArePlaced w
  placed = fabric.kept.placed

  all_placed : frames_of w ++ placed.lost ≡ frames_of w
  all_placed = ap (λ (lost : List Descriptor). frames_of w ++ lost) (placed.whole guarded) ∙ append-nil (frames_of w)

  well_kept : (place : ℕ) (d : DomainView) → slice_get w.agents.domains place ≡ Some d → IsWellKept d
  well_kept place d at =
      subst IsWellKept (get_or_from_slice_get w.agents.domains place d d at) ((fabric.guarded guarded).domains place d (slice_get_within w.agents.domains place d at))

  has_places : (place : ℕ) (d : DomainView) → slice_get w.agents.domains place ≡ Some d → HasPlaces w d
  has_places place d at = record {
    consumed = consumed_once d.share d.journal d.state (well_kept place d at).replayed;
    once = λ n.
        let number = d.share.domain in
        let found = ap (domain_at w.agents.domains) (fabric.kept.settled.numbered place d at) ∙ at in
        ap (count_by (is_numbered number n)) (sym all_placed) ∙ placed.once number n ∙ ap (λ (o : Option DomainView). times_waiting (flown_by n o)) found;
  }

  pub one_place : HaveOnePlace w
  one_place = record { each = has_places; shown = subst (All (IsFlown w.agents.domains)) all_placed placed.flown }
