-- The requests of attacks are well formed.
use Rattle.fab_types.specs.declared.head.AddressType.{AddressType}
use Rattle.fab_types.specs.declared.head.AddressType.TheVariants.{Translated, Untranslated}
use Rattle.std.specs.Prelude.{if◌then◌else◌}
use Rattle.std.proofs.Common.{◌≡◌, ◌+◌, ◌*◌, ◌%◌, ◌≤◌, ◌⊎◌, ℕ, refl, inl, inr, arith, lit<}
use Rattle.tlp_view.specs.Malformed.{has_bad_enables}
use Rattle.tlp_view.specs.Requests.{RequestFits}
use Rattle.attacks.specs.declared.attack.Attack.{Attack}
use Rattle.attacks.specs.declared.attack.Harm.{Harm}
use Rattle.attacks.specs.declared.attack.Harm.TheVariants.{FrameWritten, FrameRead, RegistersWritten, RegistersRead, TagClosed, Completion, Counts, AnswersFrame, AnswersRegisters}
use Rattle.attacks.specs.declared.own_read.OwnRead.{OwnRead}
use Rattle.attacks.specs.Packets.{address_of, head_at, head_of, start_of}

-- the first DW of a page, or that of its buffer
place : (page : ℕ) (harm : Harm) → (address_of page harm % 4096 ≡ 0) ⊎ (address_of page harm % 4096 ≡ 1024)
place page (RegistersWritten peer) = inr (omega arith)
place page (RegistersRead peer) = inr (omega arith)
place page (FrameWritten frame) = inl (omega arith)
place page (FrameRead frame) = inl (omega arith)
place page (TagClosed read) = inl (omega arith)
place page Completion = inl (omega arith)
place page Counts = inl (omega arith)
place page (AnswersFrame frame) = inl (omega arith)
place page (AnswersRegisters peer) = inr (omega arith)

aligned_at : (a : ℕ) → (a % 4096 ≡ 0) ⊎ (a % 4096 ≡ 1024) → a % 4 ≡ 0
aligned_at a (inl h) = omega arith
aligned_at a (inr h) = omega arith

within_at : (a : ℕ) → (a % 4096 ≡ 0) ⊎ (a % 4096 ≡ 1024) → a % 4096 + 4 * 1 ≤ 4096
within_at a (inl h) = omega arith
within_at a (inr h) = omega arith

fits_at : (requester address : ℕ) (address_type : AddressType) → (address % 4096 ≡ 0) ⊎ (address % 4096 ≡ 1024) → RequestFits (head_at requester address address_type) 1
unfolding has_bad_enables
fits_at requester address address_type h = record {
  some = omega arith;
  most = omega arith;
  first = lit< tt;
  last = lit< tt;
  enables = refl;
  aligned = aligned_at address h;
  within = within_at address h;
}

pub fits : (attack : Attack) → RequestFits (head_of attack) 1
fits attack = fits_at attack.requester (address_of attack.page attack.harm) (if attack.is_translated then Translated else Untranslated) (place attack.page attack.harm)

pub own_fits : (read : OwnRead) → RequestFits (head_at read.function (start_of read.page) Untranslated) 1
own_fits read = fits_at read.function (start_of read.page) Untranslated (inl (omega arith))
