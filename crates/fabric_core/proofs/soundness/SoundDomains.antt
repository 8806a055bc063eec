-- The domains of a guarded fabric, and what an entry of one makes of all.
use Rattle.std.proofs.Common.{◌≡◌, ℕ, List, [], ◌∷◌, ◌++◌, length, map, get_or, set, Option, Some, None, refl, sym, ap, ◌∙◌, subst, arith}
use Rattle.std.specs.Prelude.{All, IsSome, option_map, slice_get}
use Rattle.std.proofs.Math.Seq.{map-set_same}
use Rattle.std.proofs.lemmas.List.Elements.{All-append, All-cons, All-map, All-nil, All-set}
use Rattle.std.proofs.lemmas.List.{get_or-map, length-map}
use Rattle.std.proofs.lemmas.Option.{get_or_from_slice_get, same_Some, slice_get_within}
use Rattle.frame_log.specs.Descriptor.{Descriptor}
use Rattle.platform.specs.Platform.{Platform}
use Rattle.platform.specs.Share.{Share}
use Rattle.layout.specs.Views.{share_of_domain}
use Rattle.domain.specs.declared.entry.Entry.{Entry}
use Rattle.domain.specs.Domains.{DomainView}
use Rattle.request_handling.specs.Heads.{descriptor_of}
use Rattle.domain.specs.Machine.{change}
use Rattle.request_handling.specs.Emissions.{Emission}
use Rattle.domain_state.specs.State.{Change, item_at}
use Rattle.request_handling.specs.WellMade.{IsWellMade}
use Rattle.domain.proofs.Keeping.{replays_more}
use Rattle.domain.proofs.Leaving.{joined}
use Rattle.guarded_routes.specs.Ends.{Flies, IsLegal}
use Rattle.domains.specs.Domains.{Made, after, domain_at, fresh, made, made_at, made_by, made_of, place_of, starting_domains_among, starting_domains}
use Rattle.fabric_core.specs.Places.{IsFlown, flown_by}
use Rattle.fabric_core.specs.Soundness.{IsPage, IsWellKept, IsWellMadeIfAny, share_of}
use Rattle.fabric_core.proofs.invariant.Flying.{Begins, EndsOne}
use Rattle.fabric_core.proofs.invariant.Settling.{MadeBy, is_home}

-- ---- their shares

module _ (platform : Platform) where
  -- it is what the platform gives the domain
  abbrev pub IsOwnShare : Share → Type 0
  IsOwnShare share = share ≡ share_of_domain platform share.domain

  own_shares : All IsOwnShare (map share_of (starting_domains platform))
  unfolding starting_domains_among
  own_shares = All-map IsOwnShare share_of _ (All-map (λ (d : DomainView). IsOwnShare d.share) (λ (number : ℕ). fresh (share_of_domain platform number)) _ (λ k number less. refl))

  pub share_is : (domains : List DomainView) (place : ℕ) (d : DomainView) → map share_of domains ≡ map share_of (starting_domains platform) → slice_get domains place ≡ Some d → IsOwnShare d.share
  share_is domains place d same at =
      let less = slice_get_within domains place d at in
      let listed : IsOwnShare (get_or (map share_of domains) place d.share) = subst (All IsOwnShare) (sym same) own_shares place d.share (omega (arith, less, length-map domains share_of)) in
      subst IsOwnShare (get_or-map share_of domains place d d.share less ∙ ap share_of (get_or_from_slice_get domains place d d at)) listed

-- ---- the home of a packet

-- the domain that a packet is of, which has it in flight
pub record Home (platform : Platform) (domains : List DomainView) (frame : Descriptor) : Type 0 where
  pub number : ℕ
  pub d : DomainView
  pub found : place_of domains frame.domain ≡ Some number
  pub at : slice_get domains number ≡ Some d
  pub share : d.share ≡ share_of_domain platform frame.domain
  pub flies : Flies d.state frame

flies_at : (domains : List DomainView) (frame : Descriptor) (d : DomainView) (f : IsFlown domains frame) → item_at d.state.flight frame.number ≡ Some f.emission → Flies d.state frame
flies_at domains frame d f there = record { emission = f.emission; there = there; head = ap (λ (x : Descriptor). x.head) f.shown }

home_at : (platform : Platform) (domains : List DomainView) (frame : Descriptor) (number : ℕ) (found : Option DomainView) (f : IsFlown domains frame) → map share_of domains ≡ map share_of (starting_domains platform)
    → place_of domains frame.domain ≡ Some number → slice_get domains number ≡ found → flown_by frame.number found ≡ Some f.emission → Home platform domains frame
home_at platform domains frame number None f same place at there = absurd cc
home_at platform domains frame number (Some d) f same place at there =
    let domain : d.share.domain ≡ frame.domain = sym (is_home domains frame.domain number d at place) in
    record { number = number; d = d; found = place; at = at; share = share_is platform domains number d same at ∙ ap (share_of_domain platform) domain; flies = flies_at domains frame d f there }

home_of_place : (platform : Platform) (domains : List DomainView) (frame : Descriptor) (place : Option ℕ) (f : IsFlown domains frame) → map share_of domains ≡ map share_of (starting_domains platform)
    → place_of domains frame.domain ≡ place → flown_by frame.number (domain_at domains place) ≡ Some f.emission → Home platform domains frame
home_of_place platform domains frame None f same place there = absurd cc
home_of_place platform domains frame (Some number) f same place there = home_at platform domains frame number (slice_get domains number) f same place refl there

pub home_of : (platform : Platform) (domains : List DomainView) (frame : Descriptor) → map share_of domains ≡ map share_of (starting_domains platform) → IsFlown domains frame → Home platform domains frame
home_of platform domains frame same f = home_of_place platform domains frame (place_of domains frame.domain) f same refl f.in_flight

-- a legal entry of the home is made
pub made_at_home : (platform : Platform) (domains : List DomainView) (frame : Descriptor) (entry : Entry) (h : Home platform domains frame) → IsLegal platform h.d.state frame entry → made domains frame.domain entry ≡ None → ⊥
made_at_home platform domains frame entry h legal none =
    let is : made domains frame.domain entry ≡ option_map (made_by domains h.number entry h.d) (change h.d.share h.d.state entry) = ap (made_at domains entry) h.found ∙ ap (made_of domains h.number entry) h.at in
    by (change h.d.share h.d.state entry) (subst (λ (s : Share). IsSome (change s h.d.state entry)) (sym h.share) legal) (sym is ∙ none)
  where
    by : (o : Option Change) → IsSome o → option_map (made_by domains h.number entry h.d) o ≡ None → ⊥
    by None some e = absurd cc
    by (Some c) some e = absurd cc

-- ---- what an entry makes of all

-- the pages of the state have 4,096 bytes, and what was emitted, if anything was, is well made
pub record IsFine (c : Change) : Type 0 where
  pub frames : All IsPage c.state.frames
  pub registers : All IsPage c.state.registers
  pub well : (e : Emission) → c.emission ≡ Some e → IsWellMade e.parties e.bytes

module _ (domains : List DomainView) (entry : Entry) (place : Option ℕ) (m : Made) (b : MadeBy domains entry place m) where
  pub shares_after : map share_of m.domains ≡ map share_of domains
  shares_after =
      ap (λ (x : Made). map share_of x.domains) (sym b.is)
      ∙ map-set_same share_of domains b.number (after b.d entry b.c) b.d (sym (ap share_of (get_or_from_slice_get domains b.number b.d b.d b.at)))

  -- the domain is what was there
  pub was : (P : DomainView → Type 0) → All P domains → P b.d
  was P all = subst P (get_or_from_slice_get domains b.number b.d b.d b.at) (all b.number b.d (slice_get_within domains b.number b.d b.at))

  pub domains_after : All IsWellKept domains → IsFine b.c → All IsWellMadeIfAny b.c.state.flight → All IsWellKept m.domains
  domains_after all fine well =
      let old = was IsWellKept all in
      subst (λ (x : Made). All IsWellKept x.domains) b.is
      (All-set IsWellKept domains b.number (after b.d entry b.c) (record {
        replayed = replays_more b.d.share b.d.state b.c.state b.d.journal (b.d.journal ++ entry ∷ []) entry b.c.emission old.replayed refl b.legal;
        frames = fine.frames;
        registers = fine.registers;
        well_made = well;
      }) all)

  -- what was emitted, if anything was
  pub sent_is : (frame : Descriptor) → m.sent ≡ Some frame → (e : Emission) × (b.c.emission ≡ Some e) × (descriptor_of b.d.share.domain (length b.d.state.flight) e ≡ frame)
  sent_is frame e = by b.c.emission (ap (λ (x : Made). x.sent) b.is ∙ e)
    where
      by : (o : Option Emission) → option_map (descriptor_of b.d.share.domain (length b.d.state.flight)) o ≡ Some frame → (e : Emission) × (o ≡ Some e) × (descriptor_of b.d.share.domain (length b.d.state.flight) e ≡ frame)
      by None e = absurd cc
      by (Some emission) e = (emission, refl, same_Some _ frame e)

-- ---- what is in flight is well made

well_joined : (flight : List (Option Emission)) (o : Option Emission) → All IsWellMadeIfAny flight → ((e : Emission) → o ≡ Some e → IsWellMade e.parties e.bytes) → All IsWellMadeIfAny (joined flight o)
well_joined flight None all new = all
well_joined flight (Some e) all new = All-append IsWellMadeIfAny flight (Some e ∷ []) all (All-cons IsWellMadeIfAny (Some e) [] (new e refl) (All-nil IsWellMadeIfAny))

pub well_begun : (d : DomainView) (c : Change) → IsWellKept d → Begins d.state c → ((e : Emission) → c.emission ≡ Some e → IsWellMade e.parties e.bytes) → All IsWellMadeIfAny c.state.flight
well_begun d c old begins new = subst (All IsWellMadeIfAny) (sym begins) (well_joined d.state.flight c.emission old.well_made new)

pub well_ended : (d : DomainView) (n : ℕ) (c : Change) → IsWellKept d → EndsOne d.state n c → ((e : Emission) → c.emission ≡ Some e → IsWellMade e.parties e.bytes) → All IsWellMadeIfAny c.state.flight
well_ended d n c old ends new =
    subst (All IsWellMadeIfAny) (sym ends) (well_joined (set d.state.flight n None) c.emission (All-set IsWellMadeIfAny d.state.flight n None tt old.well_made) new)

-- ---- an entry of the home of a packet

-- the home that had the entry of a packet in flight
pub record MadeAtHome (platform : Platform) (domains : List DomainView) (frame : Descriptor) (d : DomainView) : Type 0 where
  pub domain : d.share.domain ≡ frame.domain
  pub share : d.share ≡ share_of_domain platform frame.domain
  pub flies : Flies d.state frame

pub made_home : (platform : Platform) (domains : List DomainView) (frame : Descriptor) (entry : Entry) (m : Made) (b : MadeBy domains entry (place_of domains frame.domain) m) → map share_of domains ≡ map share_of (starting_domains platform) → IsFlown domains frame
    → MadeAtHome platform domains frame b.d
made_home platform domains frame entry m b same f =
    let domain : b.d.share.domain ≡ frame.domain = sym (is_home domains frame.domain b.number b.d b.at b.at_number) in
    record {
      domain = domain;
      share = share_is platform domains b.number b.d same b.at ∙ ap (share_of_domain platform) domain;
      flies = flies_at domains frame b.d f (sym (ap (λ (o : Option ℕ). flown_by frame.number (domain_at domains o)) b.at_number ∙ ap (flown_by frame.number) b.at) ∙ f.in_flight);
    }
