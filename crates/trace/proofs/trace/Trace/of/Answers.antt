use Rattle.std.proofs.Common.{All, List, arith, vec_len, length, ◌≡◌, ◌≤◌, subst}
use Rattle.std.specs.Global.{Vec}
use Rattle.mem_op.specs.Consistency.{Operation}
use Rattle.mem_op.specs.Limits.{operation_limit}
use Rattle.trace.proofs.Growth.{size_is}
use Rattle.trace.proofs.trace.Trace.of.Goals as goal

pub invariant_of-result : goal.invariant_of-result
invariant_of-result c =
    let n : vec_len c.args.cores ≡ length c.args.cores.items = c.args.cores.ok.0 in
    (size_is c.args.cores.items).1 (
      omega (arith, n, c.len.ensures, c.if-len-gt-CORE_LIMIT.false),
      subst (λ (cores : List (Vec Operation)). All (λ core. vec_len core ≤ operation_limit) cores) c.deref.ensures.value
          (c.are_short.ensures.0 c.if-not-are_short.false),
    )
