use Rattle.std.proofs.Common.{drop}
use Rattle.refutation.specs.Facts.{Leads}
use Rattle.refutation.proofs.path.leads.Given as goal

abbrev pub invariant-loop-number : goal.invariant-loop-number
invariant-loop-number l = record {
  here : Leads l.facts l.at (drop l.number-index l.path) l.to → Leads l.facts l.from l.path l.to;
  back : Leads l.facts l.from l.path l.to → Leads l.facts l.at (drop l.number-index l.path) l.to;
}
