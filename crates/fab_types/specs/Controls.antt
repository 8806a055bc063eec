-- The ACS controls of a downstream port (PCIe 4.0, 6.12.1 and 7.7.8.3).
use Rattle.std.specs.Prelude.{ℕ, Bool, ◌==◌, List, codes}
use Rattle.std.specs.Int.RustNames.{bit_and}
use Rattle.fab_types.specs.declared.controls.AcsControl.{AcsControl}
use Rattle.fab_types.specs.declared.controls.Control.{Control}
use Rattle.fab_types.specs.declared.controls.Control.TheVariants.{SourceValidation, TranslationBlocking, RequestRedirect, CompletionRedirect, UpstreamForwarding}

-- the control register's low bits
abbrev pub bits_of : AcsControl → ℕ
bits_of controls = controls.0

-- Source Validation
abbrev pub validates_source : AcsControl → Bool
validates_source controls = bit_and (bits_of controls) 1 == 1

-- Translation Blocking
abbrev pub blocks_translated : AcsControl → Bool
blocks_translated controls = bit_and (bits_of controls) 2 == 2

-- P2P Request Redirect
abbrev pub redirects_requests : AcsControl → Bool
redirects_requests controls = bit_and (bits_of controls) 4 == 4

-- P2P Completion Redirect
abbrev pub redirects_completions : AcsControl → Bool
redirects_completions controls = bit_and (bits_of controls) 8 == 8

-- Upstream Forwarding
abbrev pub forwards_upstream : AcsControl → Bool
forwards_upstream controls = bit_and (bits_of controls) 16 == 16

-- P2P Egress Control
abbrev pub controls_egress : AcsControl → Bool
controls_egress controls = bit_and (bits_of controls) 32 == 32

-- ---- one of the five by which a layout is guarded

abbrev pub is_set : AcsControl → Control → Bool
is_set controls SourceValidation = validates_source controls
is_set controls TranslationBlocking = blocks_translated controls
is_set controls RequestRedirect = redirects_requests controls
is_set controls CompletionRedirect = redirects_completions controls
is_set controls UpstreamForwarding = forwards_upstream controls

abbrev pub control_letter : Control → List ℕ
control_letter SourceValidation = codes "V"
control_letter TranslationBlocking = codes "B"
control_letter RequestRedirect = codes "R"
control_letter CompletionRedirect = codes "C"
control_letter UpstreamForwarding = codes "U"

-- without the word ACS
abbrev pub control_name : Control → List ℕ
control_name SourceValidation = codes "Source Validation"
control_name TranslationBlocking = codes "Translation Blocking"
control_name RequestRedirect = codes "P2P Request Redirect"
control_name CompletionRedirect = codes "P2P Completion Redirect"
control_name UpstreamForwarding = codes "Upstream Forwarding"

-- and without the word P2P
abbrev pub short_name : Control → List ℕ
short_name SourceValidation = codes "Source Validation"
short_name TranslationBlocking = codes "Translation Blocking"
short_name RequestRedirect = codes "Request Redirect"
short_name CompletionRedirect = codes "Completion Redirect"
short_name UpstreamForwarding = codes "Upstream Forwarding"
