-- What the command `first` prints.
use Rattle.std.specs.Prelude.{◌≡◌, ℕ, List, [], ◌∷◌, ◌++◌, Ok, codes}
use Rattle.std.specs.List.{flat_map}
use Rattle.platform.specs.Platform.{Platform}
use Rattle.layout.specs.Reading.{reading}
use Rattle.script.specs.PacketWord.{StandsFor}
use Rattle.script.specs.declared.lines.Command.TheVariants.{Submit, Sweep}
use Rattle.script.specs.declared.lines.Line.{Line}
use Rattle.fabric_core.specs.World.{World}
use Rattle.commands.specs.Driving.{IsDriven}
use Rattle.reports.specs.Report.{memory_lines}

-- one switch, and below it one function, whose page 1 is mapped to frame 0
abbrev pub first_text : List ℕ
first_text = codes "pciefab 1\nframes 1\nswitch 01:00.0 root\nport 02:00.0 03 03 90000000 900fffff 1f 1\nfunction 03:00.0 90000000\nmap 03:00.0 1 frame 0 rw\n"

-- function 03:00.0 submits the bytes, and up to 1,000 sweeps follow
abbrev pub first_lines : List ℕ → List Line
first_lines bytes = record { number = 1; command = Submit 0x0300 bytes } ∷ record { number = 2; command = Sweep 1000 } ∷ []

-- The word stands for bytes. The fabric is driven by these lines, and the text is the refusal of the submit, if it was
-- refused, and then the memory of the domains.
pub record Prints (word text : List ℕ) : Type 0 where
  pub bytes : List ℕ
  pub stands : StandsFor word bytes
  pub platform : Platform
  pub reads : reading first_text ≡ Ok platform
  pub world : World
  pub refused : List ℕ
  pub driven : IsDriven platform (first_lines bytes) world refused
  pub lines : text ≡ refused ++ flat_map memory_lines world.agents.domains
