-- One more log.
use Rattle.std.proofs.Common.{◌≡◌, ◌∙◌, ◌<◌, ◌≤◌, [], ap, arith, sym, get_or, length, vec_len}
use Rattle.std.proofs.lemmas.List.{take_more, map_push}
use Rattle.std.proofs.lemmas.List.Elements.{All-push}
use Rattle.std.specs.Global.{Vec}
use Rattle.mem_op.specs.Limits.{operation_limit}
use Rattle.log_record.specs.declared.record.Record.{Record}
use Rattle.log_record.specs.Entries.{record_lists}
use Rattle.log_file.proofs.Joined.{log_again}
use Rattle.log_file.proofs.log_set.LogSet.logs.Goals as goal

pub loop-number-preserved : goal.loop-number-preserved
loop-number-preserved c =
    let set = c.args.self.now in
    let n = c.loop-number.number in
    let log = c.in_ok-records_of.field-0 in
    let below : n < length set = omega (arith, c.loop-number-test.true, c.len-number-end.ensures.len) in
    let is : log.items ≡ get_or set n [] = c.in_ok-records_of.ensures.records ∙ log_again set n c.in-Some.log.now below (rw c.at.ensures at c.in-Some.ensures.log) in
    let short : vec_len log ≤ operation_limit = omega (arith, c.in_ok-records_of.ensures.len, c.in-Some.ensures.short) in (
      ap record_lists c.in_ok-push.ensures.items ∙ map_push (λ (v : Vec Record). v.items) c.loop-number.logs.items log
          ∙ rw (c.loop-number.invariant.0, is) (sym (take_more set n [] below)),
      rw c.in_ok-push.ensures.items (All-push (λ (v : Vec Record). vec_len v ≤ operation_limit) c.loop-number.logs.items log c.loop-number.invariant.1 short),
    )
