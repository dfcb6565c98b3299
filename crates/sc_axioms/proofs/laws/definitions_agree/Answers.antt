use Rattle.sc_axioms.proofs.FromAxioms.{allowed-is-consistent}
use Rattle.sc_axioms.proofs.ToAxioms.{order-is-allowed}
use Rattle.sc_axioms.proofs.laws.definitions_agree.Goals as goal

pub returns : goal.returns
returns c = record {
  both_ways = λ cores. (
    λ consistent. order-is-allowed cores consistent.0 consistent.1,
    λ allowed. allowed-is-consistent cores allowed.0 allowed.1 allowed.2,
  );
}
