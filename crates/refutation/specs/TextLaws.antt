-- Laws of the texts of refutations.
use Rattle.std.specs.Prelude.{◌≡◌, ◌≢◌, ℕ, List}
use Rattle.refutation.specs.declared.fault.CertificateFault.{CertificateFault}
use Rattle.refutation.specs.declared.fault.CertificateFault.TheVariants.{OutOfMemory}
use Rattle.refutation.specs.declared.step.Step.{Step}
use Rattle.refutation.specs.Texts.{Spells, IsFault}

-- the text of steps is that of no others, and it has no fault: reading it gives these steps
pub record SpelledIsRead : Type 0 where
  pub one_refutation : (bytes : List ℕ) (p q : List Step) → Spells bytes p → Spells bytes q → p ≡ q
  pub no_fault : (bytes : List ℕ) (steps : List Step) (fault : CertificateFault) → Spells bytes steps → IsFault bytes fault → fault ≡ OutOfMemory

-- bytes have one fault at most, lack of memory aside
abbrev pub AtMostOneFault : Type 0
AtMostOneFault =
    (bytes : List ℕ) (f g : CertificateFault) → IsFault bytes f → IsFault bytes g → f ≢ OutOfMemory → g ≢ OutOfMemory → f ≡ g
