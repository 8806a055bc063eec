-- What is served so may be answered so.
use Rattle.std.proofs.Common.{true, false, not, Bool, cond, refl, ◌≡◌, ℕ, List, Option, None, Some, option_map, sym, subst}
use Rattle.std.specs.Prelude.{IfSome}
use Rattle.fab_types.specs.declared.head.Parties.TheVariants.{Downward}
use Rattle.platform.specs.Share.{Share}
use Rattle.tlp_view.specs.Bytes.{packet_of}
use Rattle.tlp_view.specs.Malformed.{malformed}
use Rattle.tlp_view.specs.Completions.{read_completion}
use Rattle.tlp_view.specs.Packet.{Packet}
use Rattle.tlp_view.specs.Runs.{is_write}
use Rattle.function.specs.Accesses.{read_data}
use Rattle.host_memory.specs.Pages.{page_of}
use Rattle.request_handling.specs.Answers.{answered_by}
use Rattle.request_handling.specs.declared.disposition.Disposition.{Disposition}
use Rattle.request_handling.specs.declared.disposition.Disposition.TheVariants.{Discarded, RefusedByPort, RefusedByHost, RefusedByFunction, Blocked, BlockedAndRefused, Stored, Shown, Added, Forwarded, Accessed}
use Rattle.request_handling.specs.Dispositions.{IsServed, Suits, access_answer, may_answer, reply_of}
use Rattle.request_handling.specs.WellMade.{IsWellMade}

well_served : (b : List ℕ) (d : Disposition) → malformed b ≡ None → IsServed (packet_of b) d → Suits b d
well_served b Discarded good s = tt
well_served b (RefusedByPort port f status) good s = good
well_served b RefusedByHost good s = good
well_served b (RefusedByFunction f) good s = good
well_served b Blocked good s = tt
well_served b BlockedAndRefused good s = good
well_served b (Stored k first) good s = tt
well_served b (Shown k) good s = (good, s.0, s.1)
well_served b (Added k first) good s = (good, s)
well_served b (Forwarded f bar) good s = (good, s)
well_served b (Accessed f) good s = (good, s)

pub served_suits : (b : List ℕ) (t : Packet) (d : Disposition) → malformed b ≡ None → t ≡ packet_of b → IsServed t d → Suits b d
served_suits b t d good same s = well_served b d good (subst (λ (u : Packet). IsServed u d) same s)

-- a request to a function is one for its register page
pub access_suits : (b : List ℕ) (g : ℕ) (d : Disposition) → IsWellMade (Downward g) b → d ≡ Accessed g → Suits b d
access_suits b g d well is = well_served b d well.0 (subst (IsServed (packet_of b)) (sym is) well.1)

pub all_suit : (b : List ℕ) (t : Packet) (o : Option Disposition) → malformed b ≡ None → t ≡ packet_of b → IfSome o (λ d. IsServed t d) → IfSome o (λ d. Suits b d)
all_suit b t None good same s = tt
all_suit b t (Some d) good same s = served_suits b t d good same s

pub accesses_suit : (b : List ℕ) (g : ℕ) (o : Option Disposition) → IsWellMade (Downward g) b → IfSome o (λ d. d ≡ Accessed g) → IfSome o (λ d. Suits b d)
accesses_suit b g None well is = tt
accesses_suit b g (Some d) well is = access_suits b g d well is

none_written : {X Y : Type 0} (f : X → Y) (is_write : Bool) (x : X) → not is_write ≡ false → option_map f (cond is_write None (Some x)) ≡ None
none_written f true x e = refl
none_written f false x e = absurd cc

-- a write of a register page isn't answered
write_unanswered : (share : Share) (function : ℕ) (t : Packet) (page : Option (List ℕ)) → not (is_write t.kind) ≡ false → access_answer share function t page ≡ None
write_unanswered share function t None e = refl
write_unanswered share function t (Some page) e = none_written (answered_by share function t) (is_write t.kind) (read_completion function t (read_data page t)) e

pub unanswered : (share : Share) (frames registers : List (ℕ × List ℕ)) (t : Packet) (d : Disposition) → may_answer t d ≡ false → reply_of share frames registers t d ≡ None
unanswered share frames registers t Discarded e = refl
unanswered share frames registers t Blocked e = refl
unanswered share frames registers t (Stored k first) e = refl
unanswered share frames registers t (Accessed function) e = write_unanswered share function t (page_of registers function) e
unanswered share frames registers t _ e = absurd cc
