-- The requests that a function may try where a domain is to be harmed, in the order in which they are to be tried. The other domain
-- is the one to be harmed, or the one that answers, where reads are answered.
use Rattle.std.specs.Prelude.{ℕ, ◌/◌, ◌==◌, ◌++◌, Bool, true, false, ◌&&◌, not, List, [], ◌∷◌, Option, Some, None, map, option_map, if◌then◌else◌}
use Rattle.std.specs.List.{filter, filter_map, find, flat_map, list_any, range_with_len}
use Rattle.std.specs.Option.{option_and_then, unwrap_or}
use Rattle.fab_types.specs.Id.{bus_of, host_of}
use Rattle.fab_types.specs.declared.controls.Control.TheVariants.{SourceValidation, TranslationBlocking, RequestRedirect}
use Rattle.platform.specs.declared.parts.DownstreamPort.{DownstreamPort}
use Rattle.platform.specs.declared.parts.EndpointFunction.{EndpointFunction}
use Rattle.platform.specs.declared.parts.Mapping.{Mapping}
use Rattle.platform.specs.declared.parts.MapTarget.{MapTarget}
use Rattle.platform.specs.declared.parts.MapTarget.TheVariants.{Frame, Peer}
use Rattle.platform.specs.declared.parts.Rights.{Rights}
use Rattle.platform.specs.Owners.{first_port, is_own_function}
use Rattle.platform.specs.Platform.{Platform}
use Rattle.platform.specs.Share.{Share}
use Rattle.attacks.specs.declared.attack.Attack.{Attack}
use Rattle.attacks.specs.declared.attack.Access.{Access}
use Rattle.attacks.specs.declared.attack.Access.TheVariants.{Read, Write}
use Rattle.attacks.specs.declared.attack.Harm.{Harm}
use Rattle.attacks.specs.declared.attack.Harm.TheVariants as harm
use Rattle.attacks.specs.declared.attack.Way.{Way}
use Rattle.attacks.specs.declared.attack.Way.TheVariants as way
use Rattle.attacks.specs.Closings.{closings}
use Rattle.attacks.specs.Paths.{is_blocked, is_validated, is_validated_below, turn_of}

-- ---- what a request does in each way of harm, if anything, and the harm

abbrev pub on_frame : Way → ℕ → Option (Access × Harm)
on_frame way.FrameWritten frame = Some (Write, harm.FrameWritten frame)
on_frame way.FrameRead frame = Some (Read, harm.FrameRead frame)
on_frame way.AnswersReads frame = Some (Read, harm.AnswersFrame frame)
on_frame other frame = None

abbrev pub on_registers : Way → ℕ → Option (Access × Harm)
on_registers way.RegistersWritten function = Some (Write, harm.RegistersWritten function)
on_registers way.RegistersRead function = Some (Read, harm.RegistersRead function)
on_registers way.AnswersReads function = Some (Read, harm.AnswersRegisters function)
on_registers other function = None

-- for a page that is mapped to this, with these rights
abbrev pub on_mapped : Way → MapTarget → Rights → Option (Access × Harm)
on_mapped way.FrameWritten (Frame frame) rights = if rights.write then Some (Write, harm.FrameWritten frame) else None
on_mapped way.RegistersWritten (Peer function) rights = if rights.write then Some (Write, harm.RegistersWritten function) else None
on_mapped way.Completion target rights = if rights.read then Some (Read, harm.Completion) else None
on_mapped other target rights = None

-- for a page that isn't mapped
abbrev pub on_unmapped : Way → Option (Access × Harm)
on_unmapped way.Completion = Some (Read, harm.Completion)
on_unmapped way.Counts = Some (Write, harm.Counts)
on_unmapped other = None

-- ---- the requests that do so

-- the function says that the address is translated; the port would block that
abbrev pub translated : ℕ → ℕ → ℕ → Access × Harm → Attack
translated port function page does = record {
  function = function;
  harm = does.1;
  port = port;
  control = TranslationBlocking;
  access = does.0;
  is_translated = true;
  requester = function;
  page = page;
}

-- it goes to the page's function past the host; the port would redirect it
abbrev pub direct : ℕ → ℕ → ℕ → Access × Harm → Attack
direct port function page does = record {
  function = function;
  harm = does.1;
  port = port;
  control = RequestRedirect;
  access = does.0;
  is_translated = false;
  requester = function;
  page = page;
}

-- it bears an ID that isn't the function's; the port would validate that
abbrev pub spoofed : ℕ → ℕ → ℕ → ℕ → Access × Harm → Attack
spoofed port function requester page does = record {
  function = function;
  harm = does.1;
  port = port;
  control = SourceValidation;
  access = does.0;
  is_translated = false;
  requester = requester;
  page = page;
}

-- ---- for each frame of the domain, by its own address

abbrev pub by_address : ℕ → Way → ℕ → ℕ → Option Attack
by_address port way function frame = option_map (translated port function frame) (on_frame way frame)

abbrev pub on_frames : List DownstreamPort → ℕ → Way → ℕ → Share → List Attack
on_frames ports port way function victim = if is_blocked ports (bus_of function) then [] else filter_map (by_address port way function) victim.frames

-- ---- for the page of each function of the domain, past the host

abbrev pub past_host : List DownstreamPort → Way → ℕ → EndpointFunction → Option Attack
past_host ports way function line =
    option_and_then (λ does. option_map (λ turn. direct turn.id function (line.bar / 4096) does) (turn_of ports (bus_of function) line.bar)) (on_registers way line.id)

abbrev pub own_functions : Share → List EndpointFunction
own_functions share = filter (λ line. is_own_function share line.id) share.functions

abbrev pub own_ids : Share → List ℕ
own_ids share = map (λ line. line.id) (own_functions share)

abbrev pub on_pages : List DownstreamPort → Way → ℕ → Share → List Attack
on_pages ports way function victim = filter_map (past_host ports way function) (own_functions victim)

-- ---- in the domain's names: the IDs of its functions, and that of its host

abbrev pub names_of : Share → List ℕ
names_of victim = own_ids victim ++ host_of victim.domain ∷ []

-- by a mapping, in the name of its requester
abbrev pub by_mapping : ℕ → Way → ℕ → Mapping → Option Attack
by_mapping port way function line = option_map (spoofed port function line.requester line.page) (on_mapped way line.target line.rights)

abbrev pub is_mapped : List Mapping → ℕ → ℕ → Bool
is_mapped maps requester page = list_any (λ line. (line.requester == requester) && (line.page == page)) maps

-- the first of 64 pages from 4 GB on that isn't mapped for the requester
abbrev pub first_unmapped : List Mapping → ℕ → Option ℕ
first_unmapped maps requester = find (λ page. not (is_mapped maps requester page)) (range_with_len 1048576 64)

-- or else the next page
abbrev pub unmapped_page : List Mapping → ℕ → ℕ
unmapped_page maps requester = unwrap_or (first_unmapped maps requester) 1048640

-- by none of the mappings
abbrev pub by_none : ℕ → Way → ℕ → List Mapping → ℕ → Option Attack
by_none port way function maps requester = option_map (spoofed port function requester (unmapped_page maps requester)) (on_unmapped way)

abbrev pub in_names : List DownstreamPort → ℕ → Way → ℕ → Share → List Attack
in_names ports port way function victim =
    if is_validated ports (bus_of function) then []
    else filter_map (by_mapping port way function) victim.maps ++ filter_map (by_none port way function victim.maps) (names_of victim)

-- ---- reads in the domain's names, which a function answers to whom they name, since they go to it past the host

abbrev pub reads : ℕ → ℕ → ℕ → List ℕ → List Attack
reads port function page names = map (λ requester. spoofed port function requester page (Read, harm.Completion)) names

-- no port up to the one where they turn validates their source
abbrev pub reads_at : List DownstreamPort → ℕ → List ℕ → ℕ → Option DownstreamPort → List Attack
reads_at ports function names address None = []
reads_at ports function names address (Some turn) = if is_validated_below ports (bus_of function) turn then [] else reads turn.id function (address / 4096) names

abbrev pub answered_by : List DownstreamPort → ℕ → List ℕ → EndpointFunction → List Attack
answered_by ports function names line = reads_at ports function names line.bar (turn_of ports (bus_of function) line.bar)

abbrev pub answered : Platform → Way → ℕ → Share → List Attack
answered platform way.Completion function victim = flat_map (answered_by platform.ports function (names_of victim)) platform.functions
answered platform other function victim = []

-- ---- all, of a function with this port directly above it

abbrev pub tries_below : Platform → Way → ℕ → Share → Option DownstreamPort → List Attack
tries_below platform way function victim None = []
tries_below platform way function victim (Some first) =
    on_frames platform.ports first.id way function victim ++ on_pages platform.ports way function victim
    ++ in_names platform.ports first.id way function victim
    ++ answered platform way function victim

abbrev pub requests : Platform → Way → ℕ → Share → List Attack
requests platform way function victim = tries_below platform way function victim (first_port platform.ports function)

-- a read of the domain's own is to be closed by those that are tried for a completion that it didn't ask for
abbrev pub tries : Platform → Way → ℕ → Share → List Attack
tries platform way.TagClosed function victim = closings victim.maps (requests platform way.Completion function victim)
tries platform other function victim = requests platform other function victim
