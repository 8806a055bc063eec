-- What texts say, as it is spelled: fixed words, numbers and IDs, of which none has `<` or `&`.
use Rattle.std.specs.Prelude.{ℕ, ◌-◌, ◌^◌, ◌==◌, ◌++◌, false, List, [], codes, if◌then◌else◌}
use Rattle.std.specs.Fmt.{decimal, digits, format_spec, padded_integral}
use Rattle.fab_types.specs.Controls.{control_letter, control_name}
use Rattle.fab_types.specs.Texts.{byte_text, id_text}
use Rattle.drawing.specs.declared.label.Label.{Label}
use Rattle.drawing.specs.declared.label.Label.TheVariants as label

-- a number in lower-case hexadecimal, with zeros in front up to eight digits
abbrev pub address_text : ℕ → List ℕ
address_text n = padded_integral (format_spec 32 0 4 8 (2 ^ 64 - 1)) false [] (digits 16 false n)

abbrev pub label_text : Label → List ℕ
label_text label.Host = codes "host, bus 00"
label_text label.Switch = codes "switch"
label_text label.Function = codes "function"
label_text (label.Id id) = id_text id
label_text (label.Bus bus) = codes "bus " ++ byte_text bus
label_text (label.Buses first last) = if first == last then codes "bus " ++ byte_text first else codes "bus " ++ byte_text first ++ codes "-" ++ byte_text last
label_text (label.From address) = address_text address ++ codes " -"
label_text (label.Address address) = address_text address
label_text (label.Domain number) = codes "domain " ++ decimal number
label_text (label.Vector vector) = codes "egress " ++ address_text vector
label_text (label.Letter control) = control_letter control
label_text label.Egress = codes "E"
label_text label.Controls = codes "ACS controls of a port"
label_text (label.Named control) = control_letter control ++ codes " " ++ control_name control
label_text label.EgressNamed = codes "E P2P Egress Control"
label_text label.Clear = codes "in red where they are clear"
label_text label.Vectors = codes "egress: Egress Control Vector"
label_text label.Domains = codes "domains"
