-- Packets by their names: by the domain that made one, and its number there.
use Rattle.std.specs.Prelude.{◌≡◌, ℕ, ◌+◌, ◌==◌, Bool, ◌&&◌, List, count_by}
use Rattle.frame_log.specs.Descriptor.{Descriptor}
use Rattle.thread_totals.specs.declared.packet_name.PacketName.{PacketName}

abbrev pub name_of : Descriptor → PacketName
name_of frame = record { domain = frame.domain; number = frame.number }

-- beside the names that there were, those of these packets are noted: whatever is asked of names, there are as many more
abbrev pub AreNoted : List PacketName → List Descriptor → List PacketName → Type 0
AreNoted old frames new = (test : PacketName → Bool) → count_by test new ≡ count_by test old + count_by (λ frame. test (name_of frame)) frames

abbrev pub is_made_by : ℕ → PacketName → Bool
is_made_by domain name = name.domain == domain

abbrev pub is_named : ℕ → ℕ → PacketName → Bool
is_named domain n name = (name.domain == domain) && (name.number == n)
