-- The words of the command line, by the definitions of the library that reads them.
use Rattle.std.specs.Prelude.{◌≡◌, ℕ, ◌&&◌, nat_le, Bool, true, false, List, [], Option, Some, None, codes, bytes_eq, option_map, if◌then◌else◌}
use Rattle.std.specs.Option.{option_and_then}
use Rattle.clap.specs.Words.{App, Kinds, Row, Rule, Text, app_of, fault_of, first_of, new_app, new_rule, subcommand_of, subcommand_rows_of, with_rule, with_subcommand}
use Rattle.clap.specs.declared.builder.action.ArgAction.TheVariants.{Set, SetTrue}
use Rattle.clap.specs.declared.builder.command.Command.{Command}
use Rattle.clap.specs.declared.builder.command.Command.TheViews.{out-Command}
use Rattle.clap.specs.declared.parser.matches.ArgMatches.{ArgMatches}
use Rattle.lspci.specs.Lines.{location_of}
use Rattle.lspci.specs.declared.lines.Location.{Location}
use Rattle.text.specs.Text.{◌>>=◌, decimal}
use Rattle.command_line.specs.declared.request.Request.{Request}
use Rattle.command_line.specs.declared.request.Request.TheVariants as request

-- ---- the commands

-- a word that has to be there
abbrev pub word_rule : Text → Rule
word_rule name = record (new_rule name) { required = true; action = Some Set }

-- a word behind `--` and its name, which may be there
abbrev pub option_rule : Text → Rule
option_rule name = record (new_rule name) { long = Some name; action = Some Set }

-- `--` and its name alone, which may be there
abbrev pub flag_rule : Text → Rule
flag_rule name = record (new_rule name) { long = Some name; action = Some SetTrue }

abbrev pub first_command : App
first_command = with_rule (new_app (codes "first")) (word_rule (codes "HEX"))

-- a command with the names of two files, of which the first is a layout
abbrev pub files_command : Text → Text → App
files_command name second = with_rule (with_rule (new_app name) (word_rule (codes "LAYOUT"))) (word_rule second)

-- and with a further word
abbrev pub third_command : Text → Text → Text → App
third_command name second third = with_rule (files_command name second) (word_rule third)

-- and with the number of a domain
abbrev pub domain_command : Text → Text → App
domain_command name second = third_command name second (codes "DOMAIN")

abbrev pub run_command : App
run_command = files_command (codes "run") (codes "SCRIPT")

abbrev pub alone_command : App
alone_command = domain_command (codes "alone") (codes "SCRIPT")

abbrev pub threads_command : App
threads_command = third_command (codes "threads") (codes "SCRIPT") (codes "TURNS")

abbrev pub journal_command : App
journal_command = domain_command (codes "journal") (codes "SCRIPT")

abbrev pub replay_command : App
replay_command = domain_command (codes "replay") (codes "JOURNAL")

abbrev pub draw_command : App
draw_command = with_rule (new_app (codes "draw")) (word_rule (codes "LAYOUT"))

abbrev pub explain_command : App
explain_command = with_rule (with_rule (with_rule (new_app (codes "explain")) (word_rule (codes "LAYOUT"))) (option_rule (codes "scripts"))) (flag_rule (codes "linux"))

abbrev pub import_command : App
import_command = with_rule (with_rule (with_rule (with_rule (new_app (codes "import")) (word_rule (codes "DUMP"))) (option_rule (codes "owners"))) (option_rule (codes "root"))) (flag_rule (codes "partial"))

abbrev pub program : App
program = let plain = new_app (codes "pciefab") in record plain { top = record plain.top { no_binary_name = true; subcommand_required = true } }

-- the commands of a run
unfoldable pub run_commands : App
run_commands = with_subcommand (with_subcommand (with_subcommand program first_command.top) run_command.top) alone_command.top

-- and those of journals and of threads
unfoldable pub journal_commands : App
journal_commands = with_subcommand (with_subcommand (with_subcommand run_commands journal_command.top) replay_command.top) threads_command.top

-- `first HEX`, `run LAYOUT SCRIPT`, `alone LAYOUT SCRIPT DOMAIN`, `journal LAYOUT SCRIPT DOMAIN`,
-- `replay LAYOUT JOURNAL DOMAIN`, `threads LAYOUT SCRIPT TURNS`, `draw LAYOUT`, `explain LAYOUT [--scripts FOLDER] [--linux]`
-- and `import DUMP [--owners FILE] [--root ID] [--partial]`; help is the library's own
unfoldable pub commands : App
commands = with_subcommand (with_subcommand (with_subcommand journal_commands draw_command.top) explain_command.top) import_command.top

-- a command is this, and no argument of it is one of its subcommands too
abbrev pub IsDefined : Command → App → Type 0
IsDefined command app = (app_of command ≡ app) × ((out-Command command).has_globals ≡ false)

-- ---- what words ask for

pub data Asked : Type 0 where
  First : Text → Asked  -- the packet that this word stands for
  Run : Text → Text → Asked  -- a run of the files of these names, a layout and a script
  Alone : Text → Text → ℕ → Asked  -- the same, and the domain of this number
  Journal : Text → Text → ℕ → Asked  -- the same, and the journal of that domain
  Replay : Text → Text → ℕ → Asked  -- the files of these names, a layout and a journal of the domain of this number
  Threads : Text → Text → ℕ → Asked  -- a run of the files on threads, each of which makes so many turns
  Draw : Text → Asked  -- the drawing of the file of this name, a layout
  Explain : Text → Option Text → Bool → Asked  -- whether the domains of that layout are kept apart, with scripts in this folder, and with Linux's groups
  Import : Text → Option Text → Option Location → Bool → Asked  -- the layout of the file of this name, a dump, with a list of owners, below this root port, of which endpoints may be left out

-- the names of the files of a layout and of this
abbrev pub files_in : Text → List Row → Option (Text × Text)
files_in second rows = do
  layout ← first_of (codes "LAYOUT") rows
  option_map (λ other. (layout, other)) (first_of second rows)

-- and a number of one to nine digits
abbrev pub number_in : Text → Text → List Row → Option (Text × Text × ℕ)
number_in second third rows = do
  files ← files_in second rows
  word ← first_of third rows
  option_map (λ number. (files.0, files.1, number)) (decimal word)

abbrev pub domain_in : Text → List Row → Option (Text × Text × ℕ)
domain_in second rows = number_in second (codes "DOMAIN") rows

-- turns are 1 to 1,000,000
abbrev pub turns_within : Text × Text × ℕ → Option Asked
turns_within words = if nat_le 1 words.2 && nat_le words.2 1000000 then Some (Threads words.0 words.1 words.2) else None

-- the place behind `--root`, if it is there
abbrev pub root_in : Option Text → Option (Option Location)
root_in None = Some None
root_in (Some word) = option_map Some (location_of word)

-- is a name there behind `--`?
abbrev pub is_flag : Option Text → Bool
is_flag None = false
is_flag (Some word) = bytes_eq word (codes "true")

abbrev pub explain_in : List Row → Option Asked
explain_in rows = option_map (λ layout. Explain layout (first_of (codes "scripts") rows) (is_flag (first_of (codes "linux") rows))) (first_of (codes "LAYOUT") rows)

abbrev pub import_in : List Row → Option Asked
import_in rows = do
  dump ← first_of (codes "DUMP") rows
  root ← root_in (first_of (codes "root") rows)
  Some (Import dump (first_of (codes "owners") rows) root (is_flag (first_of (codes "partial") rows)))

-- what the words of a subcommand ask for, by its name
abbrev pub asked_of : Text × List Row → Option Asked
asked_of entered =
    if bytes_eq entered.0 (codes "first") then option_map First (first_of (codes "HEX") entered.1)
    else (if bytes_eq entered.0 (codes "run") then option_map (λ a. Run a.0 a.1) (files_in (codes "SCRIPT") entered.1)
    else (if bytes_eq entered.0 (codes "alone") then option_map (λ a. Alone a.0 a.1 a.2) (domain_in (codes "SCRIPT") entered.1)
    else (if bytes_eq entered.0 (codes "journal") then option_map (λ a. Journal a.0 a.1 a.2) (domain_in (codes "SCRIPT") entered.1)
    else (if bytes_eq entered.0 (codes "replay") then option_map (λ a. Replay a.0 a.1 a.2) (domain_in (codes "JOURNAL") entered.1)
    else (if bytes_eq entered.0 (codes "threads") then number_in (codes "SCRIPT") (codes "TURNS") entered.1 >>= turns_within
    else (if bytes_eq entered.0 (codes "draw") then option_map Draw (first_of (codes "LAYOUT") entered.1)
    else (if bytes_eq entered.0 (codes "explain") then explain_in entered.1
    else (if bytes_eq entered.0 (codes "import") then import_in entered.1
    else None))))))))

-- the kinds of error that the words may be refused by, none where they are taken
abbrev pub errors_of : List Text → Kinds
errors_of words = fault_of commands words

-- what is read of words asks for this
abbrev pub asked_in : ArgMatches → Option Asked
asked_in matches = option_and_then asked_of (subcommand_rows_of matches)

-- the words are taken, and ask for this
abbrev pub Ask : List Text → Asked → Type 0
Ask words asked = (errors_of words ≡ []) × (option_and_then asked_of (subcommand_of commands words) ≡ Some asked)

-- what a request is for; help was asked for by no command
abbrev pub asked_by : Request → Option Asked
asked_by (request.Help text) = None
asked_by (request.First packet) = Some (First packet.now)
asked_by (request.Run files) = Some (Run files.layout.now files.script.now)
asked_by (request.Alone files domain) = Some (Alone files.layout.now files.script.now domain)
asked_by (request.Journal files domain) = Some (Journal files.layout.now files.script.now domain)
asked_by (request.Replay layout journal domain) = Some (Replay layout.now journal.now domain)
asked_by (request.Threads files turns) = Some (Threads files.layout.now files.script.now turns)
asked_by (request.Draw layout) = Some (Draw layout.now)
asked_by (request.Explain asked) = Some (Explain asked.layout.now (option_map (λ word. word.now) asked.scripts) asked.groups)
asked_by (request.Import asked) = Some (Import asked.dump.now (option_map (λ word. word.now) asked.owners) asked.root asked.partial)

-- a request is for what was asked
abbrev pub IsAsked : Request → Asked → Type 0
IsAsked request asked = asked_by request ≡ Some asked
