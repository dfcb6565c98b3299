-- The text of a fault: the line if there is one, a number and a name.
use Rattle.std.specs.Prelude.{ℕ, List, ◌++◌, codes}
use Rattle.std.specs.Fmt.{decimal}
use Rattle.mem_op.specs.Names.{name_text}
use Rattle.mem_op.specs.declared.fault_name.FaultName.TheVariants as named
use Rattle.refutation.specs.declared.fault.CertificateFault.{CertificateFault}
use Rattle.refutation.specs.declared.fault.CertificateFault.TheVariants.{BadCertificate, OutOfMemory}

abbrev pub fault_text : CertificateFault → List ℕ
fault_text (BadCertificate line) = codes "line " ++ (decimal line ++ (codes ": " ++ name_text named.BadCertificate))
fault_text OutOfMemory = name_text named.OutOfMemory
