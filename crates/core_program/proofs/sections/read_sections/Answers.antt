-- One more section, or why there is none.
use Rattle.std.proofs.Common.{rules, ◌≡◌, refl, sym, subst, ◌+◌, [], arith, drop}
use Rattle.std.proofs.lemmas.Result.{err_from_is_err_and}
use Rattle.core_program.specs.Sections.{section_lists}
use Rattle.core_program.proofs.Headers.{core_takes, no_core}
use Rattle.core_program.proofs.ManySections.{SectionsSoFar, all_sections, none_so_far, one_more_section, section_refused}
use Rattle.core_program.proofs.SetTexts.{rest_is, section_lists_push}
use Rattle.core_program.proofs.sections.read_sections.Goals as goal

pub loop-core-init : goal.loop-core-init
loop-core-init c =
    let none : c.new-programs.result.items ≡ [] = search rules in
    rw none (none_so_far c.args.format c.args.cores c.args.text.now)

pub returns-in_default-clause-found : goal.returns-in_default-clause-found
returns-in_default-clause-found c =
    all_sections c.args.format c.args.cores c.args.text.now c.loop-core.rest.now c.loop-core.line c.loop-core.core _ c.requires c.loop-core.invariant refl refl
    (λ less. no_core c.loop-core.core c.loop-core.rest.now (omega (arith, less, c.requires)) c.in_default.ensures)

pub returns-in_err-section-clause-refused : goal.returns-in_err-section-clause-refused
returns-in_err-section-clause-refused c =
    let p = err_from_is_err_and c.from_residual.result c.from_residual.ensures.1 in
    rw (p.1, p.2)
    (section_refused c.args.format c.args.cores c.args.text.now c.loop-core.rest.now c.in-Some.behind.now c.loop-core.line c.loop-core.core (section_lists c.loop-core.programs.items) c.in_err-section.field-0.0
    c.loop-core.invariant (core_takes c.loop-core.core c.loop-core.rest.now c.in-Some.behind.now (sym c.in-Some.ensures)) (omega arith) c.in_err-section.ensures.too_long)

pub loop-core-preserved : goal.loop-core-preserved
loop-core-preserved c =
    let behind = c.in-Some.behind.now in
    let s = c.in_ok-section.section in
    let old = section_lists c.loop-core.programs.items in
    let pushed = section_lists_push c.loop-core.programs.items c.push.new.self.items s.instructions c.in_ok-push.ensures.items in
    let next = one_more_section c.args.format c.args.cores c.args.text.now c.loop-core.rest.now behind c.loop-core.line (c.loop-core.line + (1 + c.len.result)) c.loop-core.core old s
    c.loop-core.invariant (core_takes c.loop-core.core c.loop-core.rest.now c.in-Some.behind.now (sym c.in-Some.ensures)) (omega arith) c.in_ok-section.ensures.found (omega arith) in
    subst (λ rest. SectionsSoFar c.args.format c.args.cores c.args.text.now (section_lists c.push.new.self.items) rest (c.loop-core.line + (1 + c.len.result)) (c.loop-core.core + 1)) (rest_is behind s.taken)
    (subst (λ lists. SectionsSoFar c.args.format c.args.cores c.args.text.now lists (drop s.taken behind) (c.loop-core.line + (1 + c.len.result)) (c.loop-core.core + 1)) pushed next)

pub returns-clause-found : goal.returns-clause-found
returns-clause-found c =
    all_sections c.args.format c.args.cores c.args.text.now c.loop-core.rest.now c.loop-core.line c.loop-core.core _ c.requires c.loop-core.invariant refl refl
    (λ less. absurd (omega arith))
