-- The places of senders stay while a receiver gives a packet up.
use Rattle.std.proofs.Common.{◌≡◌, ℕ, zero, suc, List, [], ◌∷◌, get_or, set, refl, ap}
use Rattle.std.specs.Prelude.{◌==◌}
use Rattle.frame_log.specs.Descriptor.{Descriptor}
use Rattle.link.specs.Channels.{Channel, count_in, is_full}
use Rattle.lane.specs.Lanes.{Class}
use Rattle.topology.specs.declared.nodes.LinkEnd.{LinkEnd}
use Rattle.interconnect.specs.Moves.{channel_at, left_at, no_channel, with_ingress}

abbrev left_row : List Channel → ℕ → List Descriptor → List Channel
left_row row output waiting = set row output (with_ingress (get_or row output no_channel) waiting)

sent_row : (row : List Channel) (output i : ℕ) (waiting : List Descriptor) → (get_or (left_row row output waiting) i no_channel).egress ≡ (get_or row i no_channel).egress
sent_row [] output i waiting = refl
sent_row (c ∷ row) zero zero waiting = refl
sent_row (c ∷ row) zero (suc i) waiting = refl
sent_row (c ∷ row) (suc output) zero waiting = refl
sent_row (c ∷ row) (suc output) (suc i) waiting = sent_row row output i waiting

sent_rows : (cs : List (List Channel)) (n m output i : ℕ) (waiting : List Descriptor) → (get_or (get_or (set cs n (left_row (get_or cs n []) output waiting)) m []) i no_channel).egress ≡ (get_or (get_or cs m []) i no_channel).egress
sent_rows [] n m output i waiting = refl
sent_rows (row ∷ cs) zero zero output i waiting = sent_row row output i waiting
sent_rows (row ∷ cs) zero (suc m) output i waiting = refl
sent_rows (row ∷ cs) (suc n) zero output i waiting = refl
sent_rows (row ∷ cs) (suc n) (suc m) output i waiting = sent_rows cs n m output i waiting

-- what is taken at one end leaves what waits at the senders
pub egress_left : (cs : List (List Channel)) (end other : LinkEnd) (waiting : List Descriptor) → (channel_at (left_at cs end waiting) other).egress ≡ (channel_at cs other).egress
egress_left cs end other waiting = sent_rows cs end.node other.node end.output other.output waiting

-- a sender that has a place for a class has it still
pub full_left : (cs : List (List Channel)) (end other : LinkEnd) (waiting : List Descriptor) (class : Class) → is_full class (channel_at (left_at cs end waiting) other) ≡ is_full class (channel_at cs other)
full_left cs end other waiting class = ap (λ (l : List Descriptor). count_in class l == 16) (egress_left cs end other waiting)
