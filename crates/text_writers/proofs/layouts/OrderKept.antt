-- Switches and ports stay in order with one line more.
use Rattle.std.proofs.Common.{◌≡◌, true, refl, ap, sym, subst, ◌∙◌, List, [], ◌∷◌, ◌++◌, Some, append_assoc, inl, inr}
use Rattle.std.specs.Prelude.{◌⊎◌, map}
use Rattle.std.specs.List.{list_all}
use Rattle.platform.specs.declared.parts.Switch.{Switch}
use Rattle.platform.specs.declared.parts.DownstreamPort.{DownstreamPort}
use Rattle.layout_line.specs.declared.lines.EgressText.{EgressText}
use Rattle.std.proofs.lemmas.List.{map-append}
use Rattle.layout.specs.Additions.{with_vector}
use Rattle.layout.proofs.Given.{all-given}
use Rattle.text_writers.specs.HasLines.{AreInOrder, is_port_of}
use Rattle.text_writers.proofs.layouts.Cuts.{IsEarlier, IsLast, cut-mapped, cut-more, no-empty}
use Rattle.text_writers.proofs.layouts.Lists.{all-front}

pub order-none : (ports : List DownstreamPort) → AreInOrder [] ports
order-none ports earlier later s front rest port e ports_are above = absurd (no-empty earlier s later e)

-- one switch more, where all ports up to the one above it stand on those before
pub order-switch : (switches : List Switch) (ports : List DownstreamPort) (new : Switch) → AreInOrder switches ports
    → ((front rest : List DownstreamPort) (port : DownstreamPort) → ports ≡ front ++ port ∷ rest → new.above ≡ Some port.id → list_all (is_port_of switches) (front ++ port ∷ []) ≡ true)
    → AreInOrder (switches ++ new ∷ []) ports
order-switch switches ports new order fits earlier later s front rest port e ports_are above = go (cut-more switches new earlier s later e)
  where
    go : IsLast switches earlier new s ⊎ IsEarlier switches earlier s → list_all (is_port_of earlier) (front ++ port ∷ []) ≡ true
    go (inl last) =
        let all : list_all (is_port_of switches) (front ++ port ∷ []) ≡ true = fits front rest port ports_are (ap (λ (s : Switch). s.above) last.last ∙ above) in
        let P : List Switch → Type 0 = λ switches. list_all (is_port_of switches) (front ++ port ∷ []) ≡ true in subst P last.whole all
    go (inr before) = order earlier before.rest s front rest port before.is ports_are above

-- one port more, which stands above no switch
pub order-port : (switches : List Switch) (ports : List DownstreamPort) (new : DownstreamPort) → AreInOrder switches ports
    → ((earlier later : List Switch) (s : Switch) → switches ≡ earlier ++ s ∷ later → s.above ≡ Some new.id → ⊥)
    → AreInOrder switches (ports ++ new ∷ [])
order-port switches ports new order free earlier later s front rest port e ports_are above = go (cut-more ports new front port rest ports_are)
  where
    go : IsLast ports front new port ⊎ IsEarlier ports front port → list_all (is_port_of earlier) (front ++ port ∷ []) ≡ true
    go (inl last) = absurd (free earlier later s e (above ∙ ap (λ (p : DownstreamPort). Some p.id) (sym last.last)))
    go (inr before) = order earlier later s front before.rest port e before.is above

-- vectors move nothing
pub order-given : (switches : List Switch) (ports : List DownstreamPort) (egress : EgressText) → AreInOrder switches ports → AreInOrder switches (map (with_vector egress) ports)
order-given switches ports egress order earlier later s front rest port e ports_are above =
    let m = cut-mapped (with_vector egress) ports front port rest ports_are in
    let old : list_all (is_port_of earlier) (m.before ++ m.at ∷ []) ≡ true = order earlier later s m.before m.behind m.at e m.is (above ∙ ap (λ (p : DownstreamPort). Some p.id) (sym m.at_is)) in
    let same : list_all (is_port_of earlier) (map (with_vector egress) (m.before ++ m.at ∷ [])) ≡ list_all (is_port_of earlier) (m.before ++ m.at ∷ []) = all-given egress (m.before ++ m.at ∷ []) (is_port_of earlier) (λ x. refl) in
    let joined : map (with_vector egress) (m.before ++ m.at ∷ []) ≡ front ++ port ∷ [] =
    map-append (with_vector egress) m.before (m.at ∷ []) ∙ ap (λ (ports : List DownstreamPort). ports ++ with_vector egress m.at ∷ []) m.front_is ∙ ap (λ (p : DownstreamPort). front ++ p ∷ []) m.at_is in
    let P : List DownstreamPort → Type 0 = λ ports. list_all (is_port_of earlier) ports ≡ true in subst P joined (same ∙ old)

-- ports that all stand on these switches
pub front-of : (switches : List Switch) (ports front rest : List DownstreamPort) (port : DownstreamPort) → ports ≡ front ++ port ∷ rest → list_all (is_port_of switches) ports ≡ true → list_all (is_port_of switches) (front ++ port ∷ []) ≡ true
front-of switches ports front rest port e all =
    let cut : ports ≡ (front ++ port ∷ []) ++ rest = e ∙ sym (append_assoc front (port ∷ []) rest) in
    all-front (is_port_of switches) (front ++ port ∷ []) rest (let P : List DownstreamPort → Type 0 = λ ports. list_all (is_port_of switches) ports ≡ true in subst P cut all)
