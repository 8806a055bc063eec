-- The endpoints that have no place, and the most frequent reason.
use Rattle.std.specs.Prelude.{ℕ, ◌==◌, Bool, true, false, ◌&&◌, nat_le, count_by, List, Option, Some, None, if◌then◌else◌}
use Rattle.std.specs.List.{fold}
use Rattle.import.specs.declared.reason.LeftOut.{LeftOut}
use Rattle.import.specs.declared.reason.Reason.{Reason}
use Rattle.import.specs.declared.reason.Reason.TheVariants as reason
use Rattle.import.specs.Reasons.{reason_number}

-- how many of these are endpoints
abbrev pub endpoints_out : List LeftOut → ℕ
endpoints_out left_out = count_by (λ part. part.is_endpoint) left_out

-- an endpoint with a reason of this number
abbrev pub has_reason : ℕ → LeftOut → Bool
has_reason number part = part.is_endpoint && (reason_number part.why.reason == number)

-- what has this reason stands elsewhere than below the ports that were asked for
abbrev pub is_elsewhere : Reason → Bool
is_elsewhere reason.Segment = true
is_elsewhere reason.Outside = true
is_elsewhere _ = false

-- how many endpoints have the reason of this one; none, where that stands elsewhere
abbrev pub times : List LeftOut → LeftOut → ℕ
times left_out part = if is_elsewhere part.why.reason then 0 else count_by (has_reason (reason_number part.why.reason)) left_out

abbrev pub more_frequent : List LeftOut → Option LeftOut → LeftOut → Option LeftOut
more_frequent left_out None part = Some part
more_frequent left_out (Some best) part = if nat_le (times left_out part) (times left_out best) then Some best else Some part

abbrev pub most_of : List LeftOut → Option LeftOut → LeftOut → Option LeftOut
most_of left_out best part = if part.is_endpoint then more_frequent left_out best part else best

-- the endpoint with the most frequent reason, or with the first of those; what stands elsewhere counts only where there is nothing
-- else
abbrev pub most_frequent : List LeftOut → Option LeftOut
most_frequent left_out = fold (most_of left_out) None left_out
