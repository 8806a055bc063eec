-- Each command that is read is in range.
use Rattle.std.proofs.Common.{◌≡◌, ℕ, ◌≤◌, ◌&&◌, Bool, true, false, cond, refl, subst, List, [], Some, None, Ok, Err, nat_le, arith}
use Rattle.std.specs.Prelude.{Result, codes, option_and_then, option_map}
use Rattle.std.specs.Result.{result_ok}
use Rattle.std.specs.Str.{bytes_eq}
use Rattle.std.proofs.lemmas.Bool.{and_parts}
use Rattle.std.proofs.lemmas.Bool.Decides.{nat_tests}
use Rattle.hex.specs.Hex.{IsBytes, decode_of}
use Rattle.hex.specs.declared.error.FromHexError.{FromHexError}
use Rattle.hex.proofs.HexLemmas.{decode_of-ok}
use Rattle.fab_types.specs.declared.host_access.HostAccess.{HostAccess}
use Rattle.fab_types.specs.declared.host_access.Operation.{Operation}
use Rattle.fab_types.specs.declared.host_access.Operation.TheVariants.{Read, Write}
use Rattle.text.specs.Bytes.{is_hexadecimal}
use Rattle.text.specs.Text.{at_blank, decimal, hexadecimal, id_at}
use Rattle.script.specs.Commands.{access_of, access_text, command_of, command_of_word, decimal_within, domain_text, mmio_text, operation_text, submission_of, submit_text, sweep_text, tick_text}
use Rattle.script.specs.PacketWord.{packet_bytes}
use Rattle.script.specs.declared.lines.Command.{Command}
use Rattle.script.specs.declared.lines.Command.TheVariants.{Submit, Tick, Mmio, Sweep}
use Rattle.text_writers.proofs.lines.ReadRanges.{came, count_small, hexadecimal_small, id_small, if-some, mapped-from}
use Rattle.text_writers.specs.CommandRanges.{IsAccess, IsInRange, IsOperation}

-- ---- fields

le-of : (a b : ℕ) → nat_le a b ≡ true → a ≤ b
le-of a b h = grind (arith, nat_tests)

within : (least most n : ℕ) (field : List ℕ) → decimal_within least most field ≡ Some n → (least ≤ n) × (n ≤ most)
within least most n field h =
    let c = came (decimal field) (λ number. cond (nat_le least number && nat_le number most) (Some number) None) n h in
    let parts = if-some (nat_le least c.it && nat_le c.it most) (Some c.it) n c.gives in
    let same : c.it ≡ n = cc parts.1 in
    let tests = and_parts _ _ parts.0 in
    let P : ℕ → Type 0 = λ m. (least ≤ m) × (m ≤ most) in subst P same (le-of least c.it tests.0, le-of c.it most tests.1)

no-bytes : IsBytes []
no-bytes i = omega arith

decoded : (word bytes : List ℕ) (r : Result (List ℕ) FromHexError) → decode_of word ≡ r → result_ok r ≡ Some bytes → decode_of word ≡ Ok bytes
decoded word bytes (Ok found) e h = let same : found ≡ bytes = cc h in subst (λ (bytes : List ℕ). decode_of word ≡ Ok bytes) same e
decoded word bytes (Err fault) e h = absurd cc

bytes_range : (word bytes : List ℕ) → packet_bytes word ≡ Some bytes → IsBytes bytes
unfolding packet_bytes
bytes_range word bytes h = go (bytes_eq word (codes "-")) h
  where
    go : (none : Bool) → cond none (Some []) (cond (is_hexadecimal word) (result_ok (decode_of word)) None) ≡ Some bytes → IsBytes bytes
    go true h = let same : [] ≡ bytes = cc h in subst IsBytes same no-bytes
    go false h =
        let parts = if-some (is_hexadecimal word) (result_ok (decode_of word)) bytes h in
        (decode_of-ok word bytes (decoded word bytes (decode_of word) refl parts.1)).3

operation_range : (word operand : List ℕ) (operation : Operation) → operation_text word operand ≡ Some operation → IsOperation operation
operation_range word operand operation h = go (bytes_eq word (codes "read")) (bytes_eq word (codes "write")) h
  where
    go : (read write : Bool) → cond read (option_map Read (decimal operand)) (cond write (option_map Write (packet_bytes operand)) None) ≡ Some operation → IsOperation operation
    go true write h = let m = mapped-from (decimal operand) Read operation h in subst IsOperation m.gives (count_small m.it operand m.is)
    go false true h = let m = mapped-from (packet_bytes operand) Write operation h in subst IsOperation m.gives (bytes_range operand m.it m.is)
    go false false h = absurd cc

-- ---- each form

submit_range : (rest : List ℕ) (c : Command) → submit_text rest ≡ Some c → IsInRange c
submit_range rest c h =
    let m = mapped-from (submission_of rest) (λ (s : ℕ × List ℕ). Submit s.0 s.1) c h in
    let field = came (at_blank rest) (λ (f : List ℕ × List ℕ). option_and_then (λ id. option_map (λ bytes. (id, bytes)) (packet_bytes f.1)) (id_at f.0)) m.it m.is in
    let id = came (id_at field.it.0) (λ id. option_map (λ bytes. (id, bytes)) (packet_bytes field.it.1)) m.it field.gives in
    let bytes = mapped-from (packet_bytes field.it.1) (λ bytes. (id.it, bytes)) m.it id.gives in
    let P : ℕ × List ℕ → Type 0 = λ s. IsInRange (Submit s.0 s.1) in
    subst IsInRange m.gives (subst P bytes.gives (id_small id.it field.it.0 id.is, bytes_range field.it.1 bytes.it bytes.is))

tick_range : (rest : List ℕ) (c : Command) → tick_text rest ≡ Some c → IsInRange c
tick_range rest c h = let m = mapped-from (id_at rest) Tick c h in subst IsInRange m.gives (id_small m.it rest m.is)

access_range : (word id_field offset_field operand : List ℕ) (access : HostAccess) → access_text word id_field offset_field operand ≡ Some access → IsAccess access
access_range word id_field offset_field operand access h =
    let f = came (id_at id_field) (λ function. option_and_then (λ offset. option_map (λ operation. record { function = function; offset = offset; operation = operation }) (operation_text word operand)) (hexadecimal 3 3 offset_field)) access h in
    let o = came (hexadecimal 3 3 offset_field) (λ offset. option_map (λ operation. record { function = f.it; offset = offset; operation = operation }) (operation_text word operand)) access f.gives in
    let m = mapped-from (operation_text word operand) (λ operation. record { function = f.it; offset = o.it; operation = operation }) access o.gives in
    let low = hexadecimal_small 3 3 o.it offset_field o.is in
    subst IsAccess m.gives (record { function = id_small f.it id_field f.is; offset = omega (arith, low); operation = operation_range word operand m.it m.is })

fields_range : (rest : List ℕ) (access : HostAccess) → access_of rest ≡ Some access → IsAccess access
fields_range rest access h =
    let a = came (at_blank rest) (λ (a : List ℕ × List ℕ). option_and_then (λ (b : List ℕ × List ℕ). option_and_then (λ (c : List ℕ × List ℕ). access_text a.0 b.0 c.0 c.1) (at_blank b.1)) (at_blank a.1)) access h in
    let b = came (at_blank a.it.1) (λ (b : List ℕ × List ℕ). option_and_then (λ (c : List ℕ × List ℕ). access_text a.it.0 b.0 c.0 c.1) (at_blank b.1)) access a.gives in
    let c = came (at_blank b.it.1) (λ (c : List ℕ × List ℕ). access_text a.it.0 b.it.0 c.0 c.1) access b.gives in
    access_range a.it.0 b.it.0 c.it.0 c.it.1 access c.gives

mmio_range : (rest : List ℕ) (c : Command) → mmio_text rest ≡ Some c → IsInRange c
mmio_range rest c h =
    let f = came (at_blank rest) (λ (f : List ℕ × List ℕ). option_and_then (λ number. option_map (Mmio number) (access_of f.1)) (domain_text f.0)) c h in
    let d = came (domain_text f.it.0) (λ number. option_map (Mmio number) (access_of f.it.1)) c f.gives in
    let m = mapped-from (access_of f.it.1) (Mmio d.it) c d.gives in
    let own = within 1 31 d.it f.it.0 d.is in
    subst IsInRange m.gives (own.0, own.1, fields_range f.it.1 m.it m.is)

sweep_range : (rest : List ℕ) (c : Command) → sweep_text rest ≡ Some c → IsInRange c
sweep_range rest c h = let m = mapped-from (decimal_within 1 1000000 rest) Sweep c h in subst IsInRange m.gives (within 1 1000000 m.it rest m.is)

word_range : (word rest : List ℕ) (c : Command) → command_of_word word rest ≡ Some c → IsInRange c
word_range word rest c h = go (bytes_eq word (codes "submit")) (bytes_eq word (codes "tick")) (bytes_eq word (codes "mmio")) (bytes_eq word (codes "sweep")) h
  where
    go : (submit tick mmio sweep : Bool) → cond submit (submit_text rest) (cond tick (tick_text rest) (cond mmio (mmio_text rest) (cond sweep (sweep_text rest) None))) ≡ Some c → IsInRange c
    go true tick mmio sweep h = submit_range rest c h
    go false true mmio sweep h = tick_range rest c h
    go false false true sweep h = mmio_range rest c h
    go false false false true h = sweep_range rest c h
    go false false false false h = absurd cc

pub command_range : (text : List ℕ) (c : Command) → command_of text ≡ Some c → IsInRange c
unfolding command_of
command_range text c h =
    let f = came (at_blank text) (λ (f : List ℕ × List ℕ). command_of_word f.0 f.1) c h in
    word_range f.it.0 f.it.1 c f.gives
