use Rattle.std.proofs.Common.{◌≡◌, length, vec_len, arith}
use Rattle.std.proofs.lemmas.Bool.Decides.{nat_tests}
use Rattle.std.proofs.lemmas.List.{nil_from_length}
use Rattle.trace_replay.proofs.Feeding.{whole_line}
use Rattle.trace_replay.proofs.line_replay.LineReplay.end.Goals as goal

pub returns-then-is_empty : goal.returns-then-is_empty
returns-then-is_empty c = λ said stands.
    let n : vec_len c.args.begun.now ≡ length c.args.begun.now.items = c.args.begun.now.ok.0 in
    let is = c.if-is_empty.true in
    let ensures = c.is_empty.ensures in
    let none : length c.args.begun.now.items ≡ 0 = grind (arith, nat_tests) in
    whole_line c.take.result c.take.new.self said c.without_return.result.now c.args.begun.now.items c.args.part.now (nil_from_length c.args.begun.now.items none)
    c.without_return.ensures (c.take.ensures said stands)
