-- What a clause sees of a `Dump`.
use Rattle.std.specs.Prelude.{ℕ, List, Option}
use Rattle.lspci.specs.declared.dump.Device.{Device}
use Rattle.lspci.specs.declared.dump.Dump.TheInside.{Inside}
use Rattle.lspci.specs.declared.dump.Passed.{Passed}

-- The devices that have ended, the bytes of all configuration spaces in the order of the rows, the device whose rows are
-- read, and what was passed over. A device has its own bytes, `count` of them from number `first` on.
pub record DumpText : Type 0 where
  pub devices : List Device
  pub bytes : List ℕ
  pub current : Option Device
  pub passed : Passed

abbrev pub text_of : Inside → DumpText
text_of s = record { devices = s.devices.items; bytes = s.bytes.items; current = s.current; passed = s.passed }
