-- The packet that an entry sends, where a domain has made one more after an event than before it.
use Rattle.std.proofs.Common.{◌≡◌, ℕ, zero, suc, ◌≤◌, ◌==◌, ◌&&◌, Bool, true, List, [], ◌∷◌, ◌++◌, length, Option, Some, None, refl, sym, ap, ◌∙◌, subst, arith, eq-eqb}
use Rattle.std.specs.Prelude.{option_map, slice_get}
use Rattle.std.proofs.lemmas.Option.{same_Some, slice_get_within}
use Rattle.fab_types.specs.declared.origin.Origin.{Origin}
use Rattle.fab_types.specs.declared.origin.Origin.TheVariants as origin
use Rattle.frame_log.specs.Descriptor.{Descriptor}
use Rattle.platform.specs.Share.{Share}
use Rattle.domain.specs.Domains.{DomainView}
use Rattle.request_handling.specs.Heads.{descriptor_of}
use Rattle.domain.specs.Machine.{change}
use Rattle.domain.specs.Sent.{Sent, carrier, sent, sent_of, source, source_of_carried}
use Rattle.request_handling.specs.Emissions.{Emission}
use Rattle.domain_state.specs.State.{item_at}
use Rattle.domain.specs.declared.entry.Entry.{Entry}
use Rattle.domain.specs.declared.entry.Entry.TheVariants.{Carry}
use Rattle.domain.proofs.Sending.{are_sent, sent_after}
use Rattle.domains.specs.Domains.{Made, made_at, place_of}
use Rattle.fabric_core.specs.Invariant.{IsFabric}
use Rattle.fabric_core.specs.Places.{IsFlown, flown, is_numbered}
use Rattle.fabric_core.specs.World.{World, is_guarded}
use Rattle.fabric_core.proofs.order.Motions.{Starts}
use Rattle.fabric_core.proofs.order.OrderedSteps.{Next, flown_here, well_kept}
use Rattle.fabric_core.proofs.invariant.Settling.{is_home, made_from}

-- what is sent last, if it has the number that is next
last_sent : (xs : List Sent) (from : Option Origin) (o : Option Emission) (m : ℕ) (x : Sent) → length xs ≤ m → slice_get (xs ++ sent_of from o) m ≡ Some x → (o ≡ Some x.emission) × (from ≡ x.source) × (m ≡ length xs)
last_sent [] from None m x long e = absurd cc
last_sent [] from (Some y) zero x long e = let is = same_Some _ x e in (ap (λ (s : Sent). Some s.emission) is, ap (λ (s : Sent). s.source) is, refl)
last_sent [] from (Some y) (suc m) x long e = absurd cc
last_sent (z ∷ xs) from o zero x long e = absurd (omega (arith, long))
last_sent (z ∷ xs) from o (suc m) x long e = let rest = last_sent xs from o m x (omega (arith, long)) e in (rest.0, rest.1, ap suc rest.2)

-- the packet of this number
abbrev pub frame_of : DomainView → ℕ → Sent → Descriptor
frame_of d m packet = descriptor_of d.share.domain m packet.emission

-- an entry of the domain at this place sent it
pub record New (d d' : DomainView) (place m : ℕ) (packet : Sent) (entry : Entry) (o : Option ℕ) (made : Made) : Type 0 where
  pub sent : made.sent ≡ Some (frame_of d m packet)
  pub from : source d.share d.state entry ≡ packet.source
  pub here : o ≡ Some place
  pub journal : d'.journal ≡ d.journal ++ entry ∷ []

pub is_named : (d : DomainView) (m : ℕ) (packet : Sent) → is_numbered d.share.domain m (frame_of d m packet) ≡ true
is_named d m packet = ap (λ (b : Bool). b && (m == m)) (eq-eqb d.share.domain d.share.domain refl) ∙ eq-eqb m m refl

module _ (w w' : World) (fabric : IsFabric w) (guarded : is_guarded w ≡ true) (place : ℕ) (d d' : DomainView) (at : slice_get w.agents.domains place ≡ Some d) (at' : slice_get w'.agents.domains place ≡ Some d') where
  -- who begins something
  pub starts_at : (entry : Entry) (o : Option ℕ) (from : Origin) → Starts w entry o from → o ≡ Some place → source d.share d.state entry ≡ Some from
  starts_at _ _ _ (Starts.Submits function bytes) here = refl
  starts_at _ _ _ (Starts.Ticks function) here = refl
  starts_at _ _ _ (Starts.Accesses domain access) here = ap (λ (k : ℕ). Some (origin.Host k)) (sym (is_home w.agents.domains domain place d at here))

  -- who carries a packet
  pub carried_parties : (frame : Descriptor) (f : IsFlown w.agents.domains frame) → place_of w.agents.domains frame.domain ≡ Some place → source d.share d.state (Carry frame.number) ≡ carrier d.share f.emission.bytes f.emission.parties
  carried_parties frame f here =
      let home : frame.domain ≡ d.share.domain = is_home w.agents.domains frame.domain place d at here in
      let flying : item_at d.state.flight frame.number ≡ Some f.emission = sym (flown_here w fabric.kept place d at frame.number) ∙ (ap (λ (k : ℕ). flown w.agents.domains k frame.number) (sym home) ∙ f.in_flight) in
      ap (source_of_carried d.share) flying

  -- ---- one more

  module _ (m : ℕ) (packet : Sent) (listed : slice_get (sent d'.share d'.journal) m ≡ Some packet) (long : length (sent d.share d.journal) ≤ m) where
    many : length (sent d.share d.journal) ≡ length d.state.flight
    many = (are_sent d.share d.journal d.state (well_kept w (fabric.guarded guarded) place d at).replayed).many

    pub m_new : length d.state.flight ≤ m
    m_new = let same = many in let l = long in omega (arith, l, same)

    -- the domain isn't as it was
    pub not_same : d' ≡ d → ⊥
    not_same is =
        let less = slice_get_within (sent d'.share d'.journal) m packet listed in
        let same = ap (λ (x : DomainView). length (sent x.share x.journal)) is in
        let l = long in
        absurd (omega (arith, less, same, l))

    pub new_by : (entry : Entry) (o : Option ℕ) (made : Made) → made_at w.agents.domains entry o ≡ Some made → Next d d' entry (o ≡ Some place) → New d d' place m packet entry o made
    new_by entry o made is (Next.Same same) = absurd (not_same same)
    new_by entry o made is (Next.More x) =
        let b = made_from w.agents.domains entry o made is in
        let number : b.number ≡ place = same_Some b.number place (sym b.at_number ∙ x.of) in
        let same : b.d ≡ d = same_Some b.d d (sym b.at ∙ (ap (slice_get w.agents.domains) number ∙ at)) in
        let legal : change d.share d.state entry ≡ Some b.c = subst (λ (y : DomainView). change y.share y.state entry ≡ Some b.c) same b.legal in
        let all = sent_after d.share d.journal d.state entry b.c (well_kept w (fabric.guarded guarded) place d at).replayed legal in
        let second : slice_get (sent d.share d.journal ++ sent_of (source d.share d.state entry) b.c.emission) m ≡ Some packet =
        ap (λ (xs : List Sent). slice_get xs m) (sym all) ∙ (ap (λ (j : List Entry). slice_get (sent d.share j) m) (sym x.journal) ∙ (ap (λ (s : Share). slice_get (sent s d'.journal) m) (sym x.share) ∙ listed)) in
        let last = last_sent (sent d.share d.journal) (source d.share d.state entry) b.c.emission m packet long second in
        record {
          sent =
              ap (λ (y : Made). y.sent) (sym b.is) ∙ (ap (option_map (descriptor_of b.d.share.domain (length b.d.state.flight))) last.0
              ∙ (ap (λ (y : DomainView). Some (descriptor_of y.share.domain (length y.state.flight) packet.emission)) same
              ∙ ap (λ (k : ℕ). Some (descriptor_of d.share.domain k packet.emission)) (sym many ∙ sym last.2)));
          from = last.1;
          here = x.of;
          journal = x.journal;
        }
