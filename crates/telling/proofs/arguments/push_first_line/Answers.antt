-- The three parts of the line, one behind the other.
use Rattle.std.proofs.Common.{string_bytes, codes}
use Rattle.decimal_text.specs.Numbers.{numeral}
use Rattle.telling.proofs.Counting.{three_parts}
use Rattle.telling.proofs.arguments.push_first_line.Goals as goal

pub returns : goal.returns
returns c =
    three_parts (string_bytes c.args.text.now) (codes "no: no order of ") (numeral c.args.count) (codes " operations\n")
    c.in_ok-push_str.ensures.bytes c.in_ok-push_number.ensures c.in_ok-push_str-2.ensures.bytes
