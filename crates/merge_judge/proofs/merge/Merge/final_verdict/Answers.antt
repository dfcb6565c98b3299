-- The fault of a log, a fall, a fault along the order of keys, or Yes.
use Rattle.std.proofs.Common.{List, Ok, Err, length, sym, subst}
use Rattle.verdict.specs.declared.answer.Verdict.TheVariants.{No}
use Rattle.verdict.specs.declared.rule.Rule.TheVariants.{CoreOrder}
use Rattle.merge_judge.specs.LaneParts.{LaneParts}
use Rattle.merge_judge.specs.inner.FinalVerdict.{IsFirstFall, IsFirstFaulty, NoneFaulty, NoneFalls, IsFinalVerdict}
use Rattle.merge_judge.proofs.FinalVerdict.{fall_within, final_address, final_fall, final_fault, final_yes}
use Rattle.merge_judge.proofs.merge.Merge.final_verdict.Goals as goal

pub returns-in-Some-clause-answer : goal.returns-in-Some-clause-answer
returns-in-Some-clause-answer g c = λ before merged done m first counted.
    let h = subst (λ (ls : List LaneParts). IsFirstFaulty ls c.in-Some.found) c.deref.ensures.value c.in-Some.ensures in
    subst (λ x. IsFinalVerdict g.S.RecordSource.remaining g.S.RecordSource.failed before c.args.readers.now c.args.self.now.lanes.items merged (Err x)) (sym c.from.ensures)
    (final_fault m c.requires.ended c.in-Some.found.file c.in-Some.found.fault h.0.0 h.0.1 h.0.2 h.1)

pub at-requires : goal.at-requires
at-requires g c =
    let h = subst (λ (ls : List LaneParts). IsFirstFall ls (c.in-Some-first_fall.core, c.in-Some-first_fall.index)) c.deref-2.ensures.value c.in-Some-first_fall.ensures in
    (fall_within c.requires.merged.1.1.1 c.requires.ended c.in-Some-first_fall.core c.in-Some-first_fall.index h.0.0 h.0.1 h.0.2).0

pub at-requires-in-Some-first_fall : goal.at-requires-in-Some-first_fall
at-requires-in-Some-first_fall g c =
    let h = subst (λ (ls : List LaneParts). IsFirstFall ls (c.in-Some-first_fall.core, c.in-Some-first_fall.index)) c.deref-2.ensures.value c.in-Some-first_fall.ensures in
    (fall_within c.requires.merged.1.1.1 c.requires.ended c.in-Some-first_fall.core c.in-Some-first_fall.index h.0.0 h.0.1 h.0.2).1

pub returns-in-Some-first_fall-clause-answer : goal.returns-in-Some-first_fall-clause-answer
returns-in-Some-first_fall-clause-answer g c = λ before merged done m first counted.
    let whole = subst (λ (ls : List LaneParts). NoneFaulty ls (length ls)) c.deref.ensures.value c.in_default.ensures in
    let h = subst (λ (ls : List LaneParts). IsFirstFall ls (c.in-Some-first_fall.core, c.in-Some-first_fall.index)) c.deref-2.ensures.value c.in-Some-first_fall.ensures in
    subst (λ x. IsFinalVerdict g.S.RecordSource.remaining g.S.RecordSource.failed before c.args.readers.now c.args.self.now.lanes.items merged (Ok (No x)))
    (λ i. record { id = record { core = sym c.at.ensures i; index = sym c.at-in-Some-first_fall.ensures i }; rule = CoreOrder })
    (final_fall m c.requires.ended c.in-Some-first_fall.core c.in-Some-first_fall.index h.0.0 h.0.1 h.0.2 h.1 whole)

pub returns-in-Some-address-clause-answer : goal.returns-in-Some-address-clause-answer
returns-in-Some-address-clause-answer g c = λ before merged done m first counted.
    let whole = subst (λ (ls : List LaneParts). NoneFaulty ls (length ls)) c.deref.ensures.value c.in_default.ensures in
    let none = subst (λ (ls : List LaneParts). NoneFalls ls (length ls)) c.deref-2.ensures.value c.in_default-first_fall.ensures in
    subst (λ x. IsFinalVerdict g.S.RecordSource.remaining g.S.RecordSource.failed before c.args.readers.now c.args.self.now.lanes.items merged (Ok (No x))) (sym c.from-in-Some-address.ensures)
    (final_address m c.requires.ended none whole c.args.address first c.in-Some-address.fault c.in-Some-address.is)

pub returns-in-None-clause-answer : goal.returns-in-None-clause-answer
returns-in-None-clause-answer g c = λ before merged done m first counted.
    let whole = subst (λ (ls : List LaneParts). NoneFaulty ls (length ls)) c.deref.ensures.value c.in_default.ensures in
    let none = subst (λ (ls : List LaneParts). NoneFalls ls (length ls)) c.deref-2.ensures.value c.in_default-first_fall.ensures in
    final_yes m c.requires.ended none whole c.args.address first c.args.count counted c.in-None.is
