use Rattle.std.proofs.Common.{◌≡◌, Bool, true, false, length, refl, rules}
use Rattle.std.specs.Prelude.{MatchBool}
use Rattle.core_program.specs.Running.{IsAtRest}
use Rattle.core_program.specs.Shape.{IsProgram}
use Rattle.audit.specs.Runs.{IsShort}
use Rattle.audit.proofs.Refuted.{not_short}
use Rattle.audit.proofs.accepting.is_short.Goals as goal

pub returns-then-is_same : goal.returns-then-is_same
returns-then-is_same c = go c.is_some.result refl
  where
    go : (left : Bool) → c.is_some.result ≡ left → MatchBool left (IsShort c.args.programs.now.programs c.args.core c.args.unit.now) (¬ (IsShort c.args.programs.now.programs c.args.core c.args.unit.now))
    go true is = search rules
    go false is =
        let u = c.args.unit.now in
        let shape : IsProgram u.program = search rules in
        let rests : IsAtRest u.program u.state = search rules in
        let ended : u.state.position ≡ length u.program = search rules in
        not_short c.args.programs.now.programs c.args.core u (c.logs_are_fronts.ensures u shape rests c.replays.ensures.replays) ended
