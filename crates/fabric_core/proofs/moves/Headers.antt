-- Which packets are requests, by their classes and headers.
use Rattle.std.proofs.Common.{◌≡◌, ℕ, Bool, true, false, cond, List, Option, Some, None, refl, ap, ◌∙◌}
use Rattle.std.specs.Prelude.{not}
use Rattle.fab_types.specs.declared.class.Class.TheVariants.{NonPosted, Completion}
use Rattle.fab_types.specs.declared.faults.malformed.Malformed.{Malformed}
use Rattle.fab_types.specs.declared.head.Header.{Header}
use Rattle.fab_types.specs.declared.head.Parties.{Parties}
use Rattle.fab_types.specs.declared.status.Status.{Status}
use Rattle.tlp_view.specs.Bytes.{packet_of}
use Rattle.tlp_view.specs.Completions.{completion_bytes, read_completion, refusal}
use Rattle.tlp_view.specs.Costs.{cost_unless}
use Rattle.tlp_view.specs.Kinds.{class_of_kind, has_address, is_completion, kind_at}
use Rattle.tlp_view.specs.Packet.{Packet}
use Rattle.tlp_view.specs.declared.kind.Kind.{Kind}
use Rattle.tlp_view.specs.declared.kind.Kind.TheVariants.{Cpl, CplD, CplLk, CplDLk}
use Rattle.request_handling.specs.Heads.{header_unless, packet_header}
use Rattle.fabric_core.specs.MovesLeft.{is_request}

completion_kind : (kind : Kind) → is_completion kind ≡ true → class_of_kind kind ≡ Completion
completion_kind Cpl e = refl
completion_kind CplD e = refl
completion_kind CplLk e = refl
completion_kind CplDLk e = refl
completion_kind _ e = absurd cc

completion_class : (kind : Kind) → class_of_kind kind ≡ Completion → is_completion kind ≡ true
completion_class Cpl e = refl
completion_class CplD e = refl
completion_class CplLk e = refl
completion_class CplDLk e = refl
completion_class _ e = absurd cc

by_tests : (a b : Bool) (x y z : Header) → is_request x ≡ false → is_request y ≡ true → is_request z ≡ true → is_request (cond a x (cond b y z)) ≡ not a
by_tests true b x y z h i j = h
by_tests false true x y z h i j = i
by_tests false false x y z h i j = j

-- what spells no completion is a request
pub asks : (parties : Parties) (t : Packet) → is_request (packet_header parties t) ≡ not (is_completion t.kind)
asks parties t = by_tests (is_completion t.kind) (has_address t.kind) _ _ _ refl refl refl

pub request_of : (parties : Parties) (t : Packet) → is_completion t.kind ≡ false → is_request (packet_header parties t) ≡ true
request_of parties t is = asks parties t ∙ ap not is

-- a non-posted packet is one
pub non_posted_asks : (cause : Option Malformed) (parties : Parties) (bytes : List ℕ) → (cost_unless cause bytes).class ≡ NonPosted → is_request (header_unless cause parties bytes) ≡ true
non_posted_asks (Some cause) parties bytes e = absurd cc
non_posted_asks None parties bytes e = request_of parties (packet_of bytes) (go (is_completion (packet_of bytes).kind) refl)
  where
    go : (b : Bool) → is_completion (packet_of bytes).kind ≡ b → b ≡ false
    go true is = let class = completion_kind (packet_of bytes).kind is in absurd cc
    go false is = refl

quiet_unless : (cause : Option Malformed) (parties : Parties) (bytes : List ℕ) → is_completion (packet_of bytes).kind ≡ true → is_request (header_unless cause parties bytes) ≡ false
quiet_unless (Some cause) parties bytes is = refl
quiet_unless None parties bytes is = asks parties (packet_of bytes) ∙ ap not is

-- no completion is one
pub completions_are_quiet : (cause : Option Malformed) (parties : Parties) (bytes : List ℕ) → (cost_unless cause bytes).class ≡ Completion → is_request (header_unless cause parties bytes) ≡ false
completions_are_quiet (Some cause) parties bytes e = refl
completions_are_quiet None parties bytes e = quiet_unless None parties bytes (completion_class (packet_of bytes).kind e)

refusal_kind : (completer : ℕ) (status : Status) (t : Packet) → is_completion (packet_of (completion_bytes (refusal completer status t))).kind ≡ true
unfolding kind_at
refusal_kind completer status t = refl

data_kind : (completer : ℕ) (t : Packet) (data_bytes : List ℕ) → is_completion (packet_of (completion_bytes (read_completion completer t data_bytes))).kind ≡ true
unfolding kind_at
data_kind completer t data_bytes = refl

-- nor is what a function answers
pub refusals_are_quiet : (cause : Option Malformed) (parties : Parties) (completer : ℕ) (status : Status) (t : Packet) → is_request (header_unless cause parties (completion_bytes (refusal completer status t))) ≡ false
refusals_are_quiet cause parties completer status t = quiet_unless cause parties (completion_bytes (refusal completer status t)) (refusal_kind completer status t)

pub answers_are_quiet : (cause : Option Malformed) (parties : Parties) (completer : ℕ) (t : Packet) (data_bytes : List ℕ) → is_request (header_unless cause parties (completion_bytes (read_completion completer t data_bytes))) ≡ false
answers_are_quiet cause parties completer t data_bytes = quiet_unless cause parties (completion_bytes (read_completion completer t data_bytes)) (data_kind completer t data_bytes)
