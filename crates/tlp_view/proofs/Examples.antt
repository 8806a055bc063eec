-- The definitions on small inputs: each cause, the fields and the runs of a write, and two completions.
use Rattle.std.proofs.Common.{◌≡◌, ℕ, List, [], ◌∷◌, Some, None, refl}
use Rattle.fab_types.specs.declared.faults.malformed.Malformed.TheVariants.{Short, Kind as NoKind, Size, Enables as BadEnables, Crosses, HighForm, Field}
use Rattle.fab_types.specs.declared.status.Status.TheVariants.{UR}
use Rattle.tlp_view.specs.declared.kind.Kind.TheVariants.{MWr}
use Rattle.tlp_view.specs.Kinds.{kind_at}
use Rattle.tlp_view.specs.Bytes.{address_at, packet_of}
use Rattle.tlp_view.specs.Malformed.{has_bad_size, has_bad_enables, crosses, has_bad_common, has_bad_field, malformed_of_kind, malformed}
use Rattle.tlp_view.specs.Packet.{address_in}
use Rattle.tlp_view.specs.Runs.{runs}
use Rattle.tlp_view.specs.Completions.{atomic_completion, completion_bytes, refusal, read_completion}

-- eight bytes at 1000h, of which the second, the fourth, the fifth and the seventh are enabled
abbrev write : List ℕ
write = 0x40 ∷ 0 ∷ 0 ∷ 2 ∷ 3 ∷ 0 ∷ 0 ∷ 0x5a ∷ 0 ∷ 0 ∷ 0x10 ∷ 0 ∷ 1 ∷ 2 ∷ 3 ∷ 4 ∷ 5 ∷ 6 ∷ 7 ∷ 8 ∷ []

-- a read of four bytes at 1000h, with Tag 20h
abbrev read : List ℕ
read = 0 ∷ 0 ∷ 0 ∷ 1 ∷ 3 ∷ 0 ∷ 0x20 ∷ 0x0f ∷ 0 ∷ 0 ∷ 0x10 ∷ 0 ∷ []

short : malformed (0x60 ∷ 0 ∷ 0 ∷ 1 ∷ 3 ∷ 0 ∷ 0 ∷ 0x0f ∷ 0 ∷ 0 ∷ 0x10 ∷ 0 ∷ []) ≡ Some Short
unfolding malformed
short = refl

of_no_kind : malformed (0x80 ∷ 0 ∷ 0 ∷ 0 ∷ 0 ∷ 0 ∷ 0 ∷ 0 ∷ 0 ∷ 0 ∷ 0 ∷ 0 ∷ []) ≡ Some NoKind
unfolding malformed kind_at
of_no_kind = refl

too_short_a_payload : malformed (0x40 ∷ 0 ∷ 0 ∷ 2 ∷ 3 ∷ 0 ∷ 0 ∷ 0xff ∷ 0 ∷ 0 ∷ 0x10 ∷ 0 ∷ 1 ∷ 2 ∷ 3 ∷ 4 ∷ []) ≡ Some Size
unfolding malformed kind_at malformed_of_kind has_bad_size
too_short_a_payload = refl

last_enables_of_one_dw : malformed (0x40 ∷ 0 ∷ 0 ∷ 1 ∷ 3 ∷ 0 ∷ 0 ∷ 0xff ∷ 0 ∷ 0 ∷ 0x10 ∷ 0 ∷ 1 ∷ 2 ∷ 3 ∷ 4 ∷ []) ≡ Some BadEnables
unfolding malformed kind_at malformed_of_kind has_bad_size has_bad_enables address_at
last_enables_of_one_dw = refl

over_the_page : malformed (0x40 ∷ 0 ∷ 0 ∷ 2 ∷ 3 ∷ 0 ∷ 0 ∷ 0xff ∷ 0 ∷ 0 ∷ 0x1f ∷ 0xfc ∷ 1 ∷ 2 ∷ 3 ∷ 4 ∷ 5 ∷ 6 ∷ 7 ∷ 8 ∷ []) ≡ Some Crosses
unfolding malformed kind_at malformed_of_kind has_bad_size has_bad_enables crosses address_at
over_the_page = refl

low_in_the_wide_form : malformed (0x60 ∷ 0 ∷ 0 ∷ 1 ∷ 3 ∷ 0 ∷ 0 ∷ 0x0f ∷ 0 ∷ 0 ∷ 0 ∷ 0 ∷ 0 ∷ 0 ∷ 0x10 ∷ 0 ∷ 1 ∷ 2 ∷ 3 ∷ 4 ∷ []) ≡ Some HighForm
unfolding malformed kind_at malformed_of_kind has_bad_size has_bad_enables crosses address_at
low_in_the_wide_form = refl

a_traffic_class : malformed (0x40 ∷ 0x10 ∷ 0 ∷ 1 ∷ 3 ∷ 0 ∷ 0 ∷ 0x0f ∷ 0 ∷ 0 ∷ 0x10 ∷ 0 ∷ 1 ∷ 2 ∷ 3 ∷ 4 ∷ []) ≡ Some Field
unfolding malformed kind_at malformed_of_kind has_bad_size has_bad_enables crosses has_bad_field has_bad_common address_at
a_traffic_class = refl

well_formed : malformed write ≡ None
unfolding malformed kind_at malformed_of_kind has_bad_size has_bad_enables crosses has_bad_field has_bad_common address_at
well_formed = refl

its_kind : (packet_of write).kind ≡ MWr
unfolding kind_at
its_kind = refl

its_address : address_in (packet_of write).body ≡ Some 0x1000
unfolding kind_at address_at
its_address = refl

its_runs : runs (packet_of write) ≡ (1, 2 ∷ []) ∷ (3, 4 ∷ 5 ∷ []) ∷ (6, 7 ∷ []) ∷ []
unfolding kind_at address_at
its_runs = refl

read_answered : completion_bytes (read_completion 0 (packet_of read) (0x11 ∷ 0x22 ∷ 0x33 ∷ 0x44 ∷ []))
    ≡ 0x4a ∷ 0 ∷ 0 ∷ 1 ∷ 0 ∷ 0 ∷ 0 ∷ 4 ∷ 3 ∷ 0 ∷ 0x20 ∷ 0 ∷ 0x11 ∷ 0x22 ∷ 0x33 ∷ 0x44 ∷ []
unfolding kind_at address_at
read_answered = refl

read_refused : completion_bytes (refusal 0 UR (packet_of read)) ≡ 0x0a ∷ 0 ∷ 0 ∷ 0 ∷ 0 ∷ 0 ∷ 0x20 ∷ 4 ∷ 3 ∷ 0 ∷ 0x20 ∷ 0 ∷ []
unfolding kind_at address_at
read_refused = refl

-- eight bytes to be added at 1008h, with Tag 51h; byte 7 may be anything
abbrev fetch_add : List ℕ
fetch_add = 0x4c ∷ 0 ∷ 0 ∷ 2 ∷ 3 ∷ 0 ∷ 0x51 ∷ 0x33 ∷ 0 ∷ 0 ∷ 0x10 ∷ 8 ∷ 1 ∷ 0 ∷ 0 ∷ 0 ∷ 0 ∷ 0 ∷ 0 ∷ 0 ∷ []

fetch_add_is_well_formed : malformed fetch_add ≡ None
unfolding malformed kind_at malformed_of_kind has_bad_size has_bad_field has_bad_common address_at
fetch_add_is_well_formed = refl

eight_bytes_at_a_multiple_of_4 : malformed (0x4c ∷ 0 ∷ 0 ∷ 2 ∷ 3 ∷ 0 ∷ 0x51 ∷ 0 ∷ 0 ∷ 0 ∷ 0x10 ∷ 4 ∷ 1 ∷ 0 ∷ 0 ∷ 0 ∷ 0 ∷ 0 ∷ 0 ∷ 0 ∷ []) ≡ Some Field
unfolding malformed kind_at malformed_of_kind has_bad_size has_bad_field has_bad_common address_at
eight_bytes_at_a_multiple_of_4 = refl

an_operand_of_three_dw : malformed (0x4c ∷ 0 ∷ 0 ∷ 3 ∷ 3 ∷ 0 ∷ 0x51 ∷ 0 ∷ 0 ∷ 0 ∷ 0x10 ∷ 0 ∷ 1 ∷ 0 ∷ 0 ∷ 0 ∷ 0 ∷ 0 ∷ 0 ∷ 0 ∷ 0 ∷ 0 ∷ 0 ∷ 0 ∷ []) ≡ Some Size
unfolding malformed kind_at malformed_of_kind has_bad_size
an_operand_of_three_dw = refl

fetch_add_answered : completion_bytes (atomic_completion 0 (packet_of fetch_add) (0xff ∷ 0xff ∷ 0xff ∷ 0xff ∷ 0 ∷ 0 ∷ 0 ∷ 0 ∷ []))
    ≡ 0x4a ∷ 0 ∷ 0 ∷ 2 ∷ 0 ∷ 0 ∷ 0 ∷ 8 ∷ 3 ∷ 0 ∷ 0x51 ∷ 0 ∷ 0xff ∷ 0xff ∷ 0xff ∷ 0xff ∷ 0 ∷ 0 ∷ 0 ∷ 0 ∷ []
unfolding kind_at address_at
fetch_add_answered = refl
