-- What passes the first port of its sender.
use Rattle.std.proofs.Common.{◌≡◌, ℕ, cond, List, Option, None, Some, sym, ap, ◌∙◌}
use Rattle.fab_types.specs.declared.faults.malformed.Malformed.{Malformed}
use Rattle.platform.specs.declared.parts.DownstreamPort.{DownstreamPort}
use Rattle.platform.specs.Share.{Share}
use Rattle.tlp_view.specs.Bytes.{packet_of}
use Rattle.tlp_view.specs.Malformed.{malformed}
use Rattle.tlp_view.specs.Packet.{Packet}
use Rattle.request_handling.specs.declared.fate.Fate.{Fate}
use Rattle.request_handling.specs.declared.fate.Fate.TheVariants.{Direct, ToHost}
use Rattle.request_handling.specs.AtFunctions.{request_at_function}
use Rattle.request_handling.specs.Carries.{carriage_by, is_carried, serve}
use Rattle.request_handling.specs.Fates.{fate_at, fate_unless, packet_fate}

-- what a port lets go on is carried by its fate there
past : (ports : List DownstreamPort) (function : ℕ) (port : DownstreamPort) (b : List ℕ) (t : Packet) (r fate : Fate) → malformed b ≡ None → t ≡ packet_of b → r ≡ packet_fate ports function port t → r ≡ fate → fate_at ports function port b ≡ fate
past ports function port b t r fate good same is to =
    ap (λ (m : Option Malformed). fate_unless m ports function port b) good ∙ (ap (packet_fate ports function port) (sym same) ∙ (sym is ∙ to))

pub past_port : (share : Share) (frames registers : List (ℕ × List ℕ)) (function : ℕ) (port : DownstreamPort) (b : List ℕ) (t : Packet) (r : Fate) → malformed b ≡ None → t ≡ packet_of b → r ≡ packet_fate share.ports function port t → r ≡ ToHost
    → cond (is_carried share t) (serve share frames t) None ≡ carriage_by share frames registers b (fate_at share.ports function port b)
past_port share frames registers function port b t r good same is to =
    ap (λ (u : Packet). cond (is_carried share u) (serve share frames u) None) same ∙ ap (carriage_by share frames registers b) (sym (past share.ports function port b t r ToHost good same is to))

-- and so is what it lets go directly to a function
pub past_directly : (share : Share) (frames registers : List (ℕ × List ℕ)) (function peer : ℕ) (port : DownstreamPort) (b : List ℕ) (t : Packet) (r : Fate) → malformed b ≡ None → t ≡ packet_of b → r ≡ packet_fate share.ports function port t → r ≡ Direct peer
    → cond (is_carried share t) (Some (request_at_function share registers peer t)) None ≡ carriage_by share frames registers b (fate_at share.ports function port b)
past_directly share frames registers function peer port b t r good same is to =
    ap (λ (u : Packet). cond (is_carried share u) (Some (request_at_function share registers peer u)) None) same ∙ ap (carriage_by share frames registers b) (sym (past share.ports function port b t r (Direct peer) good same is to))
