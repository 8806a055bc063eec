-- What was read of a command line, and the words that it was read of.
use Rattle.std.proofs.Common.{◌≡◌, true, List, Option, Some, None, refl, ap, subst, ◌∙◌, [], ⊎_elim}
use Rattle.std.specs.Option.{option_and_then}
use Rattle.clap.specs.Words.{App, HasKind, HasMatchesOf, Kinds, Text, fault_of, first_of, first_value, is_simple, is_simple_and_free, kind_of, rows_of, subcommand_of}
use Rattle.clap.specs.declared.error.Error.{Error}
use Rattle.clap.specs.declared.error.kind.ErrorKind.TheVariants as kind
use Rattle.clap.proofs.OnLiterals.{clap_on_literals}
use Rattle.clap.specs.declared.parser.matches.ArgMatches.{ArgMatches}
use Rattle.clap.specs.declared.parser.matches.Found.{Found}
use Rattle.clap.proofs.WalkLemmas.{first_value-rows}
use Rattle.command_line.specs.CommandLine.{Asked, asked_in, asked_of, commands, errors_of, journal_commands, run_commands}

-- the first value of this name is the first word of its row
pub first_word : (found : Found) (name : Text) → first_value found name ≡ first_of name (rows_of found)
first_word found name = first_value-rows found name

is_simple_commands : is_simple commands ≡ true
unfolding clap_on_literals commands journal_commands run_commands
is_simple_commands = refl

is_free_commands : is_simple_and_free commands ≡ true
unfolding clap_on_literals commands journal_commands run_commands
is_free_commands = refl

-- words that ask for nothing ask for no command
pub asks_nothing : (said : Option Asked) (asked : Asked) → None ≡ said → said ≡ Some asked → ⊥
asks_nothing said asked e f = cc

-- what was read of words by these commands is what the words ask for
pub words_read : (a : App) (words : List Text) (m : ArgMatches) (asked : Asked) → a ≡ commands → HasMatchesOf a words m → option_and_then asked_of (subcommand_of commands words) ≡ Some asked → asked_in m ≡ Some asked
words_read a words m asked same has asks =
    ap (option_and_then asked_of) ((has (ap is_simple same ∙ is_simple_commands)).1 ∙ ap (λ (b : App). subcommand_of b words) same) ∙ asks

-- words that are taken fail for want of memory alone
pub fails_for_memory : (a : App) (words : List Text) (e : Error) → a ≡ commands → (is_simple_and_free a ≡ true → HasKind (fault_of a words) e) → errors_of words ≡ [] → kind_of e ≡ kind.OutOfMemory
fails_for_memory a words e same has none =
    let among : HasKind [] e = subst (λ (ks : Kinds). HasKind ks e) (ap (λ (b : App). fault_of b words) same ∙ none) (has (ap is_simple_and_free same ∙ is_free_commands)) in
    ⊎_elim (λ (h : kind_of e ≡ kind.OutOfMemory). h) (λ (h : ⊥). absurd h) among
