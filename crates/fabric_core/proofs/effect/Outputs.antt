-- The outputs out of a node, as a port sees them, among all directions.
use Rattle.std.proofs.Common.{◌≡◌, ◌≢◌, ℕ, zero, suc, ◌<◌, List, [], ◌∷◌, ◌++◌, length, map, get_or, set, refl, sym, ap, ◌∙◌, arith}
use Rattle.std.proofs.lemmas.List.{append-nil, get_or-set_other, set-get_or, set_comm}
use Rattle.fab_types.specs.declared.class.Class.{Class}
use Rattle.frame_log.specs.Descriptor.{Descriptor}
use Rattle.link.specs.Channels.{Channel, is_full, with_egress}
use Rattle.port.specs.Blocked.{may_refuse_at}
use Rattle.port.specs.Steps.{with_put}
use Rattle.topology.specs.declared.nodes.LinkEnd.{LinkEnd}
use Rattle.interconnect.specs.Moves.{channel_at, left_at, no_channel, put_at, with_ingress}
use Rattle.interconnect.specs.Passes.{egress_of, passed_over, refused_by, with_sent}

-- ---- what an output may refuse

pub refuses_at : (row : List Channel) (output : ℕ) (class : Class) → output < length row → may_refuse_at (map refused_by row) output class ≡ is_full class (get_or row output no_channel)
refuses_at [] output class within = absurd (omega arith)
refuses_at (c ∷ row) zero class within = refl
refuses_at (c ∷ row) (suc output) class within = refuses_at row output class (omega arith)

-- ---- what waits at the senders of a node

with_sent_same : (row : List Channel) → with_sent row (map egress_of row) ≡ row
with_sent_same [] = refl
with_sent_same (c ∷ row) = ap (λ (cs : List Channel). c ∷ cs) (with_sent_same row)

abbrev put_row : List Channel → ℕ → Descriptor → List Channel
put_row row output frame = set row output (with_egress (get_or row output no_channel) ((get_or row output no_channel).egress ++ frame ∷ []))

abbrev left_row : List Channel → ℕ → List Descriptor → List Channel
left_row row output waiting = set row output (with_ingress (get_or row output no_channel) waiting)

with_sent_put : (row : List Channel) (output : ℕ) (frame : Descriptor) → with_sent row (with_put (map egress_of row) output (frame ∷ [])) ≡ put_row row output frame
with_sent_put [] output frame = refl
with_sent_put (c ∷ row) zero frame = ap (λ (cs : List Channel). with_egress c (c.egress ++ frame ∷ []) ∷ cs) (with_sent_same row)
with_sent_put (c ∷ row) (suc output) frame = ap (λ (cs : List Channel). c ∷ cs) (with_sent_put row output frame)

pub put_nothing : (outs : List (List Descriptor)) (output : ℕ) → with_put outs output [] ≡ outs
put_nothing outs output = ap (set outs output) (append-nil (get_or outs output [])) ∙ set-get_or outs output []

-- ---- among all directions

left_put : (cs : List (List Channel)) (input end : LinkEnd) (waiting : List Descriptor) (frame : Descriptor) → input.node ≢ end.node → left_at (put_at cs end frame) input waiting ≡ put_at (left_at cs input waiting) end frame
left_put cs input end waiting frame apart =
    let put = put_row (get_or cs end.node []) end.output frame in
    let left = left_row (get_or cs input.node []) input.output waiting in
    ap (λ (row : List Channel). set (set cs end.node put) input.node (left_row row input.output waiting)) (get_or-set_other cs end.node input.node put [] apart)
    ∙ (set_comm cs end.node input.node put left (λ e. apart (sym e))
    ∙ ap (λ (row : List Channel). set (set cs input.node left) end.node (put_row row end.output frame)) (sym (get_or-set_other cs input.node end.node left [] (λ e. apart (sym e)))))

-- one more packet waits at an output of the node
pub passed_put : (cs : List (List Channel)) (node output : ℕ) (input : LinkEnd) (waiting : List Descriptor) (frame : Descriptor) → input.node ≢ node
    → passed_over cs node input waiting (with_put (map egress_of (get_or cs node [])) output (frame ∷ [])) ≡ put_at (left_at cs input waiting) (record { node = node; output = output }) frame
passed_put cs node output input waiting frame apart =
    ap (λ (row : List Channel). left_at (set cs node row) input waiting) (with_sent_put (get_or cs node []) output frame)
    ∙ left_put cs input (record { node = node; output = output }) waiting frame apart

-- nothing more waits there
pub passed_nothing : (cs : List (List Channel)) (node : ℕ) (input : LinkEnd) (waiting : List Descriptor) → passed_over cs node input waiting (map egress_of (get_or cs node [])) ≡ left_at cs input waiting
passed_nothing cs node input waiting =
    ap (λ (row : List Channel). left_at (set cs node row) input waiting) (with_sent_same (get_or cs node []))
    ∙ ap (λ (l : List (List Channel)). left_at l input waiting) (set-get_or cs node [])

-- what waits is put back
pub left_same : (cs : List (List Channel)) (input : LinkEnd) → left_at cs input (channel_at cs input).ingress ≡ cs
left_same cs input = ap (set cs input.node) (set-get_or (get_or cs input.node []) input.output no_channel) ∙ set-get_or cs input.node []

-- nothing happened
pub passed_same : (cs : List (List Channel)) (node : ℕ) (input : LinkEnd) → passed_over cs node input (channel_at cs input).ingress (map egress_of (get_or cs node [])) ≡ cs
passed_same cs node input = passed_nothing cs node input (channel_at cs input).ingress ∙ left_same cs input

-- ---- what a receiver leaves

row_twice : (row : List Channel) (output : ℕ) (first second : List Descriptor) → left_row (left_row row output first) output second ≡ left_row row output second
row_twice [] output first second = refl
row_twice (c ∷ row) zero first second = refl
row_twice (c ∷ row) (suc output) first second = ap (λ (cs : List Channel). c ∷ cs) (row_twice row output first second)

twice : (cs : List (List Channel)) (n output : ℕ) (first second : List Descriptor)
    → set (set cs n (left_row (get_or cs n []) output first)) n (left_row (get_or (set cs n (left_row (get_or cs n []) output first)) n []) output second) ≡ set cs n (left_row (get_or cs n []) output second)
twice [] n output first second = refl
twice (row ∷ cs) zero output first second = ap (λ (r : List Channel). r ∷ cs) (row_twice row output first second)
twice (row ∷ cs) (suc n) output first second = ap (λ (l : List (List Channel)). row ∷ l) (twice cs n output first second)

-- what was taken and put back is as it was
pub left_back : (cs : List (List Channel)) (end : LinkEnd) (left : List Descriptor) → left_at (left_at cs end left) end (channel_at cs end).ingress ≡ cs
left_back cs end left = twice cs end.node end.output left (channel_at cs end).ingress ∙ left_same cs end
