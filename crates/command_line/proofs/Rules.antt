-- What each setting of an argument changes of its rule, and the rules of the arguments that are made so.
use Rattle.std.proofs.Common.{◌≡◌, ◌∙◌, ap, refl, ℕ, true, codes, Option, Some, Bor}
use Rattle.clap.specs.Lexer.{usize_max}
use Rattle.clap.specs.Words.{Rule, Text, new_rule, rule_of}
use Rattle.clap.specs.declared.builder.action.ArgAction.{ArgAction}
use Rattle.clap.specs.declared.builder.action.ArgAction.TheVariants.{Append, Set, SetTrue}
use Rattle.clap.specs.declared.builder.arg.Arg.{Arg}
use Rattle.clap.specs.declared.builder.range.ValueRange.{ValueRange}
use Rattle.clap.specs.declared.builder.value_parser.ValueParser.{ValueParser}
use Rattle.clap.specs.declared.builder.value_parser.ValueParser.TheVariants.{Unsigned}
use Rattle.command_line.specs.Grammar as grammar
use Rattle.command_line.specs.declared.argument.Argument.{Argument}
use Rattle.command_line.specs.declared.argument.Argument.TheVariants as argument
use Rattle.command_line.specs.inner.Arguments as made

pub long_set : (a b : Arg) (name : Bor Text) (rule : Rule) → b ≡ record a { long = Some name } → rule_of a ≡ rule
    → rule_of b ≡ record rule { long = Some name.now }
long_set a b name rule set is = ap rule_of set ∙ ap (λ (r : Rule). record r { long = Some name.now }) is

pub value_set : (a b : Arg) (names : _) (rule : Rule) → b ≡ record a { val_names = names }
    → (rule_of (record a { val_names = names })).value_names ≡ 1 → rule_of a ≡ rule → rule_of b ≡ record rule { value_names = 1 }
value_set a b names rule set one is =
    ap rule_of set ∙ ap (λ (n : ℕ). record (rule_of a) { value_names = n }) one ∙ ap (λ (r : Rule). record r { value_names = 1 }) is

pub action_set : (a b : Arg) (action : ArgAction) (rule : Rule) → b ≡ record a { action = Some action } → rule_of a ≡ rule
    → rule_of b ≡ record rule { action = Some action }
action_set a b action rule set is = ap rule_of set ∙ ap (λ (r : Rule). record r { action = Some action }) is

pub required_set : (a b : Arg) (rule : Rule) → b ≡ record a { required = true } → rule_of a ≡ rule → rule_of b ≡ record rule { required = true }
required_set a b rule set is = ap rule_of set ∙ ap (λ (r : Rule). record r { required = true }) is

pub parser_set : (a b : Arg) (parser : ValueParser) (rule : Rule) → b ≡ record a { value_parser = b.value_parser } → b.value_parser ≡ Some parser
    → rule_of a ≡ rule → rule_of b ≡ record rule { parser = Some parser }
parser_set a b parser rule set to is =
    ap rule_of set ∙ ap (λ (p : Option ValueParser). record (rule_of a) { parser = p }) to ∙ ap (λ (r : Rule). record r { parser = Some parser }) is

pub range_set : (a b : Arg) (range : ValueRange) (rule : Rule) → b ≡ record a { num_vals = b.num_vals } → b.num_vals ≡ Some range
    → rule_of a ≡ rule → rule_of b ≡ record rule { range = Some range }
range_set a b range rule set to is =
    ap rule_of set ∙ ap (λ (x : Option ValueRange). record (rule_of a) { range = x }) to ∙ ap (λ (r : Rule). record r { range = Some range }) is

-- a text of help changes nothing
pub help_set : (a b : Arg) (text : Option (Bor Text)) (rule : Rule) → b ≡ record a { help = text } → rule_of a ≡ rule → rule_of b ≡ rule
help_set a b text rule set is = ap rule_of set ∙ is

pub number_rule : (a b c d e f : Arg) (name : Bor Text) (names : _) (text : Option (Bor Text)) → rule_of a ≡ new_rule name.now
    → b ≡ record a { long = Some name } → c ≡ record b { val_names = names } → (rule_of (record b { val_names = names })).value_names ≡ 1
    → d ≡ record c { value_parser = d.value_parser } → d.value_parser ≡ Some (Unsigned 0 18446744073709551615)
    → e ≡ record d { action = Some Set } → f ≡ record e { help = text } → rule_of f ≡ grammar.number_option name.now
number_rule a b c d e f name names text fresh long value one parsed unsigned acts helped =
    help_set e f text _ helped (action_set d e Set _ acts (parser_set c d _ _ parsed unsigned
    (value_set b c names _ value one (long_set a b name _ long fresh))))

pub file_rule : (a b c d e : Arg) (name : Bor Text) (names : _) (text : Option (Bor Text)) → rule_of a ≡ new_rule name.now
    → b ≡ record a { long = Some name } → c ≡ record b { val_names = names } → (rule_of (record b { val_names = names })).value_names ≡ 1
    → d ≡ record c { action = Some Set } → e ≡ record d { help = text } → rule_of e ≡ grammar.file_option name.now
file_rule a b c d e name names text fresh long value one acts helped =
    help_set d e text _ helped (action_set c d Set _ acts (value_set b c names _ value one (long_set a b name _ long fresh)))

pub flag_rule : (a b c d : Arg) (name : Bor Text) (text : Option (Bor Text)) → rule_of a ≡ new_rule name.now → b ≡ record a { long = Some name }
    → c ≡ record b { action = Some SetTrue } → d ≡ record c { help = text } → rule_of d ≡ grammar.flag name.now
flag_rule a b c d name text fresh long acts helped =
    help_set c d text _ helped (action_set b c SetTrue _ acts (long_set a b name _ long fresh))

pub name_rule : (a b c d : Arg) (name : Bor Text) (text : Option (Bor Text)) → rule_of a ≡ new_rule name.now → b ≡ record a { required = true }
    → c ≡ record b { action = Some Set } → d ≡ record c { help = text } → rule_of d ≡ grammar.name name.now
name_rule a b c d name text fresh required acts helped =
    help_set c d text _ helped (action_set b c Set _ acts (required_set a b _ required fresh))

pub files_rule : (a b c d e : Arg) (text : Option (Bor Text)) → rule_of a ≡ new_rule (codes "FILE") → b ≡ record a { required = true }
    → c ≡ record b { num_vals = c.num_vals } → c.num_vals ≡ Some (record { start_inclusive = 1; end_inclusive = usize_max })
    → d ≡ record c { action = Some Append } → e ≡ record d { help = text } → rule_of e ≡ grammar.files
files_rule a b c d e text fresh required ranged many acts helped =
    help_set d e text _ helped (action_set c d Append _ acts (range_set b c _ _ ranged many (required_set a b _ required fresh)))

-- each argument is a simple one
pub simple_rule : (it : Argument) → (made.rule_of it).is_simple ≡ true
simple_rule (argument.Number name help) = refl
simple_rule (argument.File name help) = refl
simple_rule (argument.Flag name help) = refl
simple_rule (argument.Name name help) = refl
simple_rule (argument.Files help) = refl
