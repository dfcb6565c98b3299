use Rattle.std.proofs.Common.{refl}
use Rattle.audit.proofs.Orders.{none_yet}
use Rattle.audit.proofs.Progress.{fit_zero}
use Rattle.audit.proofs.auditing.audit.Goals as goal

pub advance-requires-clause-fronts : goal.advance-requires-clause-fronts
advance-requires-clause-fronts c = record { reached = none_yet _ _ _ _ refl refl; fit = fit_zero _ _ _ _ refl refl; cores = refl; slices = refl }
