-- What a line of a journal's text says. Each field ends at a blank, and the last one at the end of the line.
use Rattle.std.specs.Prelude.{ℕ, ◌==◌, not, List, take, drop, codes, Option, Some, None, option_map, if◌then◌else◌}
use Rattle.std.specs.Str.{bytes_eq}
use Rattle.text.specs.Text.{◌>>=◌, at_blank, id_at, wide_decimal}
use Rattle.fab_types.specs.declared.head.Answerer.{Answerer}
use Rattle.fab_types.specs.declared.head.Answerer.TheVariants as by
use Rattle.fab_types.specs.declared.head.Parties.{Parties}
use Rattle.fab_types.specs.declared.head.Parties.TheVariants.{Upward, Downward, Answer}
use Rattle.fab_types.specs.declared.origin.Origin.{Origin}
use Rattle.fab_types.specs.declared.origin.Origin.TheVariants as origin
use Rattle.fab_types.specs.declared.place.Direction.{Direction}
use Rattle.fab_types.specs.declared.place.Place.{Place}
use Rattle.fab_types.specs.declared.place.Place.TheVariants.{Outbox, Egress, Wire, Ingress}
use Rattle.fab_types.specs.declared.place.Way.{Way}
use Rattle.fab_types.specs.declared.place.Way.TheVariants.{Up, Down}
use Rattle.script.specs.Commands.{access_of, domain_text, submission_of}
use Rattle.script.specs.PacketWord.{packet_bytes}
use Rattle.domain.specs.declared.entry.Entry.{Entry}
use Rattle.domain.specs.declared.entry.Entry.TheVariants as entry

-- ---- who and where

-- a function, or `host` with the number of a domain
abbrev pub origin_of : List ℕ → Option Origin
origin_of word =
    if bytes_eq (take 4 word) (codes "host") then option_map origin.Host (domain_text (drop 4 word))
    else option_map origin.Function (id_at word)

abbrev pub way_of : List ℕ → Option Way
way_of word =
    if bytes_eq word (codes "up") then Some Up
    else (if bytes_eq word (codes "down") then Some Down else None)

abbrev pub direction_of : List ℕ → List ℕ → Option Direction
direction_of lower_word way_word = do
  lower ← id_at lower_word
  option_map (λ way. record { lower = lower; way = way }) (way_of way_word)

abbrev pub outbox_of : List ℕ → List ℕ → Option Place
outbox_of whose way = if bytes_eq way (codes "-") then option_map Outbox (origin_of whose) else None

abbrev pub place_of : List ℕ → List ℕ → List ℕ → Option Place
place_of word whose way =
    if bytes_eq word (codes "outbox") then outbox_of whose way
    else (if bytes_eq word (codes "egress") then option_map Egress (direction_of whose way)
    else (if bytes_eq word (codes "wire") then option_map Wire (direction_of whose way)
    else (if bytes_eq word (codes "ingress") then option_map Ingress (direction_of whose way)
    else None)))

abbrev pub answerer_of : List ℕ → Option Answerer
answerer_of word =
    if bytes_eq word (codes "port") then Some by.Port
    else (if bytes_eq word (codes "host") then Some by.Host
    else option_map by.Function (id_at word))

abbrev pub addressee_of : List ℕ → Option (Option Origin)
addressee_of word = if bytes_eq word (codes "-") then Some None else option_map Some (origin_of word)

abbrev pub answer_of : List ℕ → List ℕ → Option Parties
answer_of who whom = do
  answerer ← answerer_of who
  option_map (Answer answerer) (addressee_of whom)

abbrev pub parties_of : List ℕ → List ℕ → List ℕ → Option Parties
parties_of word who whom =
    if bytes_eq word (codes "by") then answer_of who whom
    else (if not (bytes_eq whom (codes "-")) then None
    else (if bytes_eq word (codes "from") then option_map Upward (id_at who)
    else (if bytes_eq word (codes "to") then option_map Downward (id_at who)
    else None)))

-- ---- entries

-- seven fields: three of the place, three of the parties, and the bytes
abbrev pub alien_of : List ℕ → Option Entry
alien_of rest = do
  kind ← at_blank rest
  whose ← at_blank kind.1
  way ← at_blank whose.1
  word ← at_blank way.1
  who ← at_blank word.1
  whom ← at_blank who.1
  place ← place_of kind.0 whose.0 way.0
  sender ← parties_of word.0 who.0 whom.0
  option_map (entry.Alien place sender) (packet_bytes whom.1)

-- `mmio` with the domain's own number
abbrev pub access_by : ℕ → List ℕ → Option Entry
access_by domain rest = do
  field ← at_blank rest
  number ← domain_text field.0
  if number == domain then option_map entry.Mmio (access_of field.1) else None

-- begins are written as in a script
abbrev pub entry_of_word : ℕ → List ℕ → List ℕ → Option Entry
entry_of_word domain word rest =
    if bytes_eq word (codes "submit") then option_map (λ s. entry.Submit s.0 s.1) (submission_of rest)
    else (if bytes_eq word (codes "tick") then option_map entry.Tick (id_at rest)
    else (if bytes_eq word (codes "mmio") then access_by domain rest
    else (if bytes_eq word (codes "refuse") then option_map entry.Refuse (wide_decimal rest)
    else (if bytes_eq word (codes "carry") then option_map entry.Carry (wide_decimal rest)
    else (if bytes_eq word (codes "deliver") then option_map entry.Deliver (wide_decimal rest)
    else (if bytes_eq word (codes "alien") then alien_of rest
    else None))))))

-- what a line says in the journal of the domain of this number, if it has one of the forms
unfoldable pub entry_of : ℕ → List ℕ → Option Entry
entry_of domain line = do
  field ← at_blank line
  entry_of_word domain field.0 field.1
