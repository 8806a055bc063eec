-- What a clause sees of a layout that is made device by device.
use Rattle.std.specs.Prelude.{List}
use Rattle.import.specs.declared.devices.Devices.TheInside.{Inside}
use Rattle.import.specs.declared.reason.LeftOut.{LeftOut}
use Rattle.text_writers.specs.DraftViews.{Written}

-- a layout, and what it hasn't of the devices, in the order of their lines
pub record Imported : Type 0 where
  pub layout : Written
  pub left_out : List LeftOut

abbrev pub imported_of : Inside → Imported
imported_of s = record { layout = s.draft; left_out = s.left_out.items }
