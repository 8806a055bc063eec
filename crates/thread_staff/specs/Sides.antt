-- A side of a link at its start.
use Rattle.std.specs.Prelude.{[], None}
use Rattle.credit.specs.Limits.{zero_counters}
use Rattle.credit.specs.declared.counters.Counters.{Counters}
use Rattle.thread_workers.specs.Sides.{LinkSideView}

-- nothing waits and nothing was sent; both sides' receivers advertise these credits
abbrev pub idle_side : Counters → LinkSideView
idle_side credits = record {
  egress = record {
    queue = record { queue = record { waiting = []; gap = None }; misses = 0; refusals = 0 };
    sender = record { credits_consumed = zero_counters; credit_limit = credits; start = credits };
  };
  ingress = record {
    queue = record { queue = record { waiting = []; gap = None }; misses = 0; refusals = 0 };
    receiver = record { credits_received = zero_counters; credits_allocated = credits };
  };
  advertised = credits;
}
