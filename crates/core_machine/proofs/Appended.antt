-- Runs, one after the other.
use Rattle.std.proofs.Common.{List, [], ◌∷◌, ◌++◌, append_assoc, append-nil, sym, subst}
use Rattle.lease_rule.specs.ConfigParts.{ConfigParts}
use Rattle.core_machine.specs.Machine.{World, Run, start, next}
use Rattle.core_machine.specs.declared.event.Event.{Event}

pub run-append : (g : ConfigParts) (w : World) (es : List Event) (m : World) → Run g w es m → (fs : List Event) (t : World) → Run g m fs t → Run g w (es ++ fs) t
run-append g w es m x fs t start = subst (λ (all : List Event). Run g w all m) (sym (append-nil es)) x
run-append g w es m x fs t (next gs e o between s y leads) =
    subst (λ (all : List Event). Run g w all s) (append_assoc es gs (e ∷ []))
    (next (es ++ gs) e o between s (run-append g w es m x gs between y) leads)
