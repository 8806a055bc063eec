-- PCIe 4.0, 2.4.1: of which classes an item may leave a queue.
use Rattle.std.specs.Prelude.{Bool, ◌==◌}
use Rattle.std.specs.Int.RustNames.{bit_and}
use Rattle.port_queue.specs.PerClass.{Class}
use Rattle.port_queue.specs.declared.eligible_classes.EligibleClasses.{EligibleClasses}

abbrev pub has : EligibleClasses → Class → Bool
has eligible_classes Class.Posted = bit_and eligible_classes.0 1 == 1
has eligible_classes Class.NonPosted = bit_and eligible_classes.0 2 == 2
has eligible_classes Class.Completion = bit_and eligible_classes.0 4 == 4
