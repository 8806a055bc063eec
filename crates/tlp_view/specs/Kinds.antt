-- The kinds of packets: their Fmt and Type, and what the kind decides (PCIe 4.0, 2.2.1 and 2.4.1).
use Rattle.std.specs.Prelude.{ℕ, ◌+◌, ◌/◌, ◌==◌, Bool, true, false, nat_lt, Option, Some, None, if◌then◌else◌}
use Rattle.fab_types.specs.declared.class.Class.{Class}
use Rattle.fab_types.specs.declared.class.Class.TheVariants.{Posted, NonPosted, Completion}
use Rattle.tlp_view.specs.declared.kind.Kind.{Kind}
use Rattle.tlp_view.specs.declared.kind.Kind.TheVariants.{MRd, MRdLk, MWr, IORd, IOWr, CfgRd0, CfgWr0, CfgRd1, CfgWr1, Msg, MsgD, Cpl, CplD, CplLk, CplDLk, FetchAdd, Swap, CAS}

abbrev pub class_of_kind : Kind → Class
class_of_kind MRd = NonPosted
class_of_kind MRdLk = NonPosted
class_of_kind MWr = Posted
class_of_kind IORd = NonPosted
class_of_kind IOWr = NonPosted
class_of_kind CfgRd0 = NonPosted
class_of_kind CfgWr0 = NonPosted
class_of_kind CfgRd1 = NonPosted
class_of_kind CfgWr1 = NonPosted
class_of_kind Msg = Posted
class_of_kind MsgD = Posted
class_of_kind Cpl = Completion
class_of_kind CplD = Completion
class_of_kind CplLk = Completion
class_of_kind CplDLk = Completion
class_of_kind FetchAdd = NonPosted
class_of_kind Swap = NonPosted
class_of_kind CAS = NonPosted

-- does a payload follow the header?
abbrev pub has_data : Kind → Bool
has_data MRd = false
has_data MRdLk = false
has_data MWr = true
has_data IORd = false
has_data IOWr = true
has_data CfgRd0 = false
has_data CfgWr0 = true
has_data CfgRd1 = false
has_data CfgWr1 = true
has_data Msg = false
has_data MsgD = true
has_data Cpl = false
has_data CplD = true
has_data CplLk = false
has_data CplDLk = true
has_data FetchAdd = true
has_data Swap = true
has_data CAS = true

-- a memory read or write, whose enables and address are read
abbrev pub is_memory : Kind → Bool
is_memory MRd = true
is_memory MWr = true
is_memory _ = false

-- the one AtomicOp whose address is read
abbrev pub is_fetch_add : Kind → Bool
is_fetch_add FetchAdd = true
is_fetch_add _ = false

-- are the address and AT read?
abbrev pub has_address : Kind → Bool
has_address MRd = true
has_address MWr = true
has_address FetchAdd = true
has_address _ = false

abbrev pub is_message : Kind → Bool
is_message Msg = true
is_message MsgD = true
is_message _ = false

abbrev pub is_completion : Kind → Bool
is_completion Cpl = true
is_completion CplD = true
is_completion CplLk = true
is_completion CplDLk = true
is_completion _ = false

-- I/O and configuration requests, which are of one DW
abbrev pub is_one_dw : Kind → Bool
is_one_dw IORd = true
is_one_dw IOWr = true
is_one_dw CfgRd0 = true
is_one_dw CfgWr0 = true
is_one_dw CfgRd1 = true
is_one_dw CfgWr1 = true
is_one_dw _ = false

-- does Length say how much data is carried or asked for? Elsewhere the field is reserved
abbrev pub has_length : Kind → Bool
has_length Msg = false
has_length Cpl = false
has_length CplLk = false
has_length _ = true

-- Type, given how a message is routed
abbrev pub type_of : Kind → ℕ → ℕ
type_of MRd routing = 0
type_of MRdLk routing = 1
type_of MWr routing = 0
type_of IORd routing = 2
type_of IOWr routing = 2
type_of CfgRd0 routing = 4
type_of CfgWr0 routing = 4
type_of CfgRd1 routing = 5
type_of CfgWr1 routing = 5
type_of Msg routing = 16 + routing
type_of MsgD routing = 16 + routing
type_of Cpl routing = 10
type_of CplD routing = 10
type_of CplLk routing = 11
type_of CplDLk routing = 11
type_of FetchAdd routing = 12
type_of Swap routing = 13
type_of CAS routing = 14

-- may the header be of this size?
abbrev pub has_form : Kind → Bool → Bool
has_form MRd has_4dw_header = true
has_form MRdLk has_4dw_header = true
has_form MWr has_4dw_header = true
has_form Msg has_4dw_header = has_4dw_header
has_form MsgD has_4dw_header = has_4dw_header
has_form FetchAdd has_4dw_header = true
has_form Swap has_4dw_header = true
has_form CAS has_4dw_header = true
has_form _ has_4dw_header = if has_4dw_header then false else true

-- Fmt 0 and 2 have a header of 3 DW, 1 and 3 one of 4 DW; 2 and 3 have data
abbrev pub either_size : ℕ → Option Kind → Option Kind → Option Kind
either_size fmt without with_data = if nat_lt fmt 2 then without else (if nat_lt fmt 4 then with_data else None)

abbrev pub small : ℕ → Kind → Kind → Option Kind
small fmt without with_data = if fmt == 0 then Some without else (if fmt == 2 then Some with_data else None)

abbrev pub large : ℕ → Kind → Kind → Option Kind
large fmt without with_data = if fmt == 1 then Some without else (if fmt == 3 then Some with_data else None)

-- the kind of a pair of Fmt and Type, if there is one
unfoldable pub kind_at : ℕ → ℕ → Option Kind
kind_at fmt type =
    if type == 0 then either_size fmt (Some MRd) (Some MWr)
    else (if type == 1 then either_size fmt (Some MRdLk) None
    else (if type == 2 then small fmt IORd IOWr
    else (if type == 4 then small fmt CfgRd0 CfgWr0
    else (if type == 5 then small fmt CfgRd1 CfgWr1
    else (if type == 10 then small fmt Cpl CplD
    else (if type == 11 then small fmt CplLk CplDLk
    else (if type == 12 then either_size fmt None (Some FetchAdd)
    else (if type == 13 then either_size fmt None (Some Swap)
    else (if type == 14 then either_size fmt None (Some CAS)
    else (if type / 8 == 2 then large fmt Msg MsgD
    else None))))))))))
