-- What happens on one direction leaves all others bounded too.
use Rattle.std.proofs.Common.{◌≡◌, ℕ, zero, suc, List, [], ◌∷◌, ◌++◌, get_or, set, Option, Some, None, refl, subst}
use Rattle.std.specs.Prelude.{option_map}
use Rattle.frame_log.specs.Descriptor.{Descriptor}
use Rattle.credit.specs.Kinds.{Class}
use Rattle.lane.specs.Lanes.{eligible}
use Rattle.link.specs.Channels.{Channel, IsBounded}
use Rattle.topology.specs.declared.nodes.LinkEnd.{LinkEnd}
use Rattle.interconnect.specs.Moves.{channel_at, no_channel, on_channel, put_at, with_channel}
use Rattle.fabric_core.specs.Credits.{AreBounded}
use Rattle.fabric_core.specs.Arrivals.{Taken, taken_at, taken_from}
use Rattle.fabric_core.proofs.bounded.Steps.{egress_bounded, ingress_bounded}

abbrev some : {A : Type 0} → A → Option A
some x = Some x

pub some_is : {A : Type 0} (x y : A) → some x ≡ some y → x ≡ y
some_is x y e = cc

-- wherever an element is replaced
held_set : {A : Type 0} (P : A → Type 0) (xs : List A) (i j : ℕ) (y d : A) → P y → P (get_or xs j d) → P (get_or (set xs i y) j d)
held_set P [] i j y d new old = old
held_set P (x ∷ xs) zero zero y d new old = new
held_set P (x ∷ xs) zero (suc j) y d new old = old
held_set P (x ∷ xs) (suc i) zero y d new old = old
held_set P (x ∷ xs) (suc i) (suc j) y d new old = held_set P xs i j y d new old

pub with_bounded : (nodes : List (List Channel)) (end : LinkEnd) (c : Channel) → AreBounded nodes → IsBounded c → AreBounded (with_channel nodes end c)
with_bounded nodes end c all b = λ other.
    let lane = get_or nodes end.node [] in
    held_set (λ (cs : List Channel). IsBounded (get_or cs other.output no_channel)) nodes end.node other.node (set lane end.output c) []
    (held_set IsBounded lane end.output other.output c no_channel b (all (record { node = end.node; output = other.output }))) (all other)

pub put_bounded : (nodes : List (List Channel)) (end : LinkEnd) (frame : Descriptor) → AreBounded nodes → AreBounded (put_at nodes end frame)
put_bounded nodes end frame all =
    let c = channel_at nodes end in
    with_bounded nodes end _ all (egress_bounded c (c.egress ++ frame ∷ []) (all end))

-- ---- a step of one direction

stepped : (nodes nodes' : List (List Channel)) (end : LinkEnd) (o : Option Channel) → AreBounded nodes → ((c' : Channel) → o ≡ Some c' → IsBounded c') → option_map (with_channel nodes end) o ≡ Some nodes' → AreBounded nodes'
stepped nodes nodes' end None all step is = absurd cc
stepped nodes nodes' end (Some c) all step is = subst AreBounded (some_is (with_channel nodes end c) nodes' is) (with_bounded nodes end c all (step c refl))

pub on_channel_bounded : (nodes nodes' : List (List Channel)) (found : Option LinkEnd) (step : Channel → Option Channel) → AreBounded nodes → ((c c' : Channel) → IsBounded c → step c ≡ Some c' → IsBounded c')
    → on_channel nodes found step ≡ Some nodes' → AreBounded nodes'
on_channel_bounded nodes nodes' None step all keeps is = absurd cc
on_channel_bounded nodes nodes' (Some end) step all keeps is =
    stepped nodes nodes' end (step (channel_at nodes end)) all (λ c' e. keeps (channel_at nodes end) c' (all end) e) is

-- ---- a packet is taken

taken_by : (nodes : List (List Channel)) (class : Class) (end : LinkEnd) (o : Option (Descriptor × List Descriptor)) (t : Taken) → eligible class (channel_at nodes end).ingress ≡ o → AreBounded nodes
    → option_map (taken_from nodes end) o ≡ Some t → AreBounded t.channels
taken_by nodes class end None t e all is = absurd cc
taken_by nodes class end (Some r) t e all is =
    subst (λ (x : Taken). AreBounded x.channels) (some_is (taken_from nodes end r) t is)
    (with_bounded nodes end _ all (ingress_bounded (channel_at nodes end) class r.0 r.1 e (all end)))

pub taken_bounded : (nodes : List (List Channel)) (class : Class) (found : Option LinkEnd) (t : Taken) → AreBounded nodes → taken_at nodes class found ≡ Some t → AreBounded t.channels
taken_bounded nodes class None t all is = absurd cc
taken_bounded nodes class (Some end) t all is = taken_by nodes class end (eligible class (channel_at nodes end).ingress) t refl all is
