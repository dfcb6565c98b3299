-- A header in range of another core, or of another number of cores.
use Rattle.std.proofs.Common.{arith, sym, ◌∙◌, inl, inr, ◌⊎◌, ◌≢◌}
use Rattle.log_file.proofs.OneLine.{wrong_core}
use Rattle.log_file.proofs.one_line.check_header.Goals as goal

pub returns-then-said_core-core : goal.returns-then-said_core-core
returns-then-said_core-core c =
    let h = c.in-Some.ensures.found in
    let a = c.in-Some-Some.said_core in
    let b = c.in-Some-Some.said_cores in
    let other : (a ≢ c.args.core) ⊎ (b ≢ c.args.cores) = elim c.then-said_core-core.either [ inl ne ↦ inl ne | inr both ↦ inr both.1 ] in
    wrong_core c.args.core c.args.cores c.args.line.now c.in-Some.header.format h.0 h.1.0 (omega arith) h.1.1 a b
    (sym c.in-Some-Some.is-0 ∙ h.1.2) (sym c.in-Some-Some.is-1 ∙ h.1.3) (omega arith) (omega arith) other
