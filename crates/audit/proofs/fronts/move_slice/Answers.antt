use Rattle.std.proofs.Common.{subst}
use Rattle.audit.specs.Lists.{transcripts, histories}
use Rattle.audit.specs.inner.Steps.{Enabled}
use Rattle.audit.specs.declared.fronts.SliceStep.{SliceStep}
use Rattle.audit.proofs.Moving.{evicted}
use Rattle.audit.proofs.fronts.move_slice.Goals as goal

pub returns-in-Some-Evicts-clause-merging : goal.returns-in-Some-Evicts-clause-merging
returns-in-Some-Evicts-clause-merging c =
    let ts = transcripts c.args.units.now in
    let hs = histories c.args.slices.now in
    let E : SliceStep → Type 0 = λ step. Enabled ts hs c.args.places.now.cores c.args.places.now.slices c.args.slice step in
    let en = subst E c.in-Some-Evicts.field-0-is c.in-Some-Evicts.ensures in
    rw c.bump.ensures (evicted ts hs c.args.places.now.cores c.args.places.now.slices c.args.due.now c.args.slice en.0 c.requires.merging c.requires.due en.1)
