-- The work of a function, as a contract sees it.
use Rattle.std.specs.Prelude.{ℕ, List}
use Rattle.std.specs.Arc.{arc_value}
use Rattle.bridge.specs.Bridges.{Routes}
use Rattle.thread_workers.specs.declared.functions.function_work.FunctionWork.TheInside.{Inside}
use Rattle.thread_workers.specs.declared.functions.parts.FunctionParts.{FunctionParts}

-- what no turn changes
pub record FunctionKept : Type 0 where
  pub function : ℕ
  pub domain : ℕ  -- the domain that the function is of
  pub routes : Routes  -- the switches and ports of its layout
  pub locks : List ℕ  -- the numbers of the domains under locks

pub record FunctionWorkView : Type 0 where
  pub kept : FunctionKept
  pub parts : FunctionParts  -- all that is its own, as it stands

abbrev pub work_view : Inside → FunctionWorkView
work_view w = record {
  kept = record { function = w.function; domain = w.domain; routes = arc_value w.bridge; locks = arc_value w.locks };
  parts = record {
    function = w.function;
    outbox = w.outbox;
    side = w.side;
    strays = w.strays;
    begins = w.ends.begins;
    records = w.ends.records;
  };
}
