-- The command line of the program: its subcommands, and the arguments of each.
use Rattle.std.specs.Prelude.{Some, true, codes}
use Rattle.clap.specs.Lexer.{usize_max}
use Rattle.clap.specs.Simple.{on_top}
use Rattle.clap.specs.Words.{App, Rule, Text, new_app, new_rule, with_rule, with_subcommand}
use Rattle.clap.specs.declared.builder.action.ArgAction.TheVariants.{Set, SetTrue, Append}
use Rattle.clap.specs.declared.builder.value_parser.ValueParser.TheVariants.{Unsigned}

-- an option that takes a number
abbrev pub number_option : Text → Rule
number_option name = record (new_rule name) {
  long = Some name;
  value_names = 1;
  parser = Some (Unsigned 0 18446744073709551615);
  action = Some Set;
}

-- an option that takes nothing
abbrev pub flag : Text → Rule
flag name = record (new_rule name) { long = Some name; action = Some SetTrue }

-- an option that takes the name of a file
abbrev pub file_option : Text → Rule
file_option name = record (new_rule name) { long = Some name; value_names = 1; action = Some Set }

-- the files, one or more
abbrev pub files : Rule
files = record (new_rule (codes "FILE")) {
  required = true;
  range = Some (record { start_inclusive = 1; end_inclusive = usize_max });
  action = Some Append;
}

-- [--workers N] [--program F]
abbrev pub with_check_options : App → App
with_check_options app = with_rule (with_rule app (number_option (codes "workers"))) (file_option (codes "program"))

-- tardis check [--workers N] [--program F] FILE..
abbrev pub check : App
check = with_rule (with_check_options (new_app (codes "check"))) files

-- tardis order FILE..
abbrev pub order : App
order = with_rule (new_app (codes "order")) files

-- [--litmus] [--programs] [--trace] [--certificate F]
abbrev pub with_kinds : App → App
with_kinds app =
    with_rule (with_rule (with_rule (with_rule app (flag (codes "litmus"))) (flag (codes "programs"))) (flag (codes "trace"))) (file_option (codes "certificate"))

-- [--program F] [--svg F] [--names F] [--no-search] [--litmus] [--programs] [--trace] [--certificate F]
abbrev pub with_explain_options : App → App
with_explain_options app =
    with_kinds
    (with_rule (with_rule (with_rule (with_rule app (file_option (codes "program"))) (file_option (codes "svg"))) (file_option (codes "names"))) (flag (codes "no-search")))

-- tardis explain [--program F] [--svg F] [--names F] [--no-search] [--litmus] [--programs] [--trace] [--certificate F] FILE..
abbrev pub explain : App
explain = with_rule (with_explain_options (new_app (codes "explain"))) files

-- a name that has to be there
abbrev pub name : Text → Rule
name place = record (new_rule place) { required = true; action = Some Set }

-- tardis upgrade OUT FILE..
abbrev pub upgrade : App
upgrade = with_rule (with_rule (new_app (codes "upgrade")) (name (codes "OUT"))) files

abbrev pub with_number : App → Text → App
with_number app option = with_rule app (number_option option)

-- [--slices N] [--lease N] [--period N] [--cache N] [--slice-lines N] [--inbox N]
abbrev pub with_limits : App → App
with_limits app =
    with_number (with_number (with_number (with_number (with_number (with_number app
    (codes "slices")) (codes "lease")) (codes "period")) (codes "cache")) (codes "slice-lines")) (codes "inbox")

-- [--schedule F] [--seed N] [--stress N]
abbrev pub with_sim_options : App → App
with_sim_options app = with_number (with_number (with_rule app (file_option (codes "schedule"))) (codes "seed")) (codes "stress")

-- PROGRAMS OUT
abbrev pub with_names : App → App
with_names app = with_rule (with_rule app (name (codes "PROGRAMS"))) (name (codes "OUT"))

-- [--stats F]
abbrev pub with_stats : App → App
with_stats app = with_rule app (file_option (codes "stats"))

-- tardis sim [--slices N] [--lease N] [--period N] [--cache N] [--slice-lines N] [--inbox N] [--schedule F] [--seed N] [--stress N]
-- [--stats F] [--trace F] PROGRAMS OUT
abbrev pub sim : App
sim = with_names (with_rule (with_stats (with_sim_options (with_limits (new_app (codes "sim"))))) (file_option (codes "trace")))

-- tardis run [--slices N] [--lease N] [--period N] [--cache N] [--slice-lines N] [--inbox N] [--stats F] PROGRAMS OUT
abbrev pub run : App
run = with_names (with_stats (with_limits (new_app (codes "run"))))

-- [--runs N] [--seed N] [--stress N] [--threads]
abbrev pub with_litmus_options : App → App
with_litmus_options app =
    with_rule (with_number (with_number (with_number app (codes "runs")) (codes "seed")) (codes "stress")) (flag (codes "threads"))

-- tardis litmus [--slices N] [--lease N] [--period N] [--cache N] [--slice-lines N] [--inbox N] [--runs N] [--seed N] [--stress N]
-- [--threads] [--stats F] TEST
abbrev pub litmus : App
litmus = with_rule (with_stats (with_litmus_options (with_limits (new_app (codes "litmus"))))) (name (codes "TEST"))

-- [--order F] [--refutation F] [--svg F]
abbrev pub with_search_outputs : App → App
with_search_outputs app = with_rule (with_rule (with_rule app (file_option (codes "order"))) (file_option (codes "refutation"))) (file_option (codes "svg"))

-- [--logs] [--sources]
abbrev pub with_log_flags : App → App
with_log_flags app = with_rule (with_rule app (flag (codes "logs"))) (flag (codes "sources"))

-- tardis search [--logs] [--sources] [--budget N] [--order F] [--refutation F] [--svg F] [--names F] FILE..
abbrev pub search : App
search =
    with_rule (with_rule (with_search_outputs (with_number (with_log_flags (new_app (codes "search"))) (codes "budget"))) (file_option (codes "names"))) files

-- tardis confirm [--logs] [--sources] TRACE FILE..
abbrev pub confirm : App
confirm = with_rule (with_rule (with_log_flags (new_app (codes "confirm"))) (name (codes "TRACE"))) files

-- tardis replay [--why] TRACE
abbrev pub replay : App
replay = with_rule (with_rule (new_app (codes "replay")) (flag (codes "why"))) (name (codes "TRACE"))

-- check, order and explain
abbrev pub with_judges : App → App
with_judges app = with_subcommand (with_subcommand (with_subcommand app check.top) order.top) explain.top

-- the program, never called without a subcommand
abbrev pub bare : App
bare = on_top (λ top. record top { subcommand_required = true }) (new_app (codes "tardis"))

-- the program with the subcommands that judge
abbrev pub judging : App
judging = with_judges bare

-- sim, run and litmus
abbrev pub with_machine : App → App
with_machine app = with_subcommand (with_subcommand (with_subcommand app sim.top) run.top) litmus.top

-- upgrade
abbrev pub with_logs : App → App
with_logs app = with_subcommand app upgrade.top

-- search, confirm and replay
abbrev pub with_traces : App → App
with_traces app = with_subcommand (with_subcommand (with_subcommand app search.top) confirm.top) replay.top

-- the program
abbrev pub tardis : App
tardis = with_traces (with_logs (with_machine judging))
