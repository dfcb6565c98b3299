-- The section that comes next, and its first jump past its end.
use Rattle.std.proofs.Common.{◌+◌, ◌++◌, ◌∷◌, [], ap, ◌∙◌, arith, length}
use Rattle.std.proofs.lemmas.Iterator.Adapters.{YieldsList-from_vec}
use Rattle.std.proofs.lemmas.Iterator.Consumers.{YieldsList-turn}
use Rattle.std.proofs.lemmas.List.{length_push}
use Rattle.core_program.specs.Sections.{section_lists}
use Rattle.core_program.specs.Shape.{IsProgram}
use Rattle.core_program.proofs.Jumps.{first_jump, next_section, one_more_program}
use Rattle.core_program.proofs.set_text.programs_of.Goals as goal

pub skip_past_end-requires : goal.skip_past_end-requires
skip_past_end-requires c =
    let all = c.args.sections.items in
    let n = length c.loop-instructions.yielded in
    let section = c.in-Some.instructions in
    let next = next_section c.args.format all n section c.requires.each
    (YieldsList-turn (YieldsList-from_vec all (cc) (cc)) c.loop-instructions.yielded _ c.loop-instructions.yielded_by _ c.next.new.self section c.in-Some.is c.next.ensures.steps) in
    rw c.as_slice.ensures.value next.1.few

pub returns-in-Some-skip_past_end : goal.returns-in-Some-skip_past_end
returns-in-Some-skip_past_end c =
    let all = c.args.sections.items in
    let n = length c.loop-instructions.yielded in
    let section = c.in-Some.instructions in
    let next = next_section c.args.format all n section c.requires.each
    (YieldsList-turn (YieldsList-from_vec all (cc) (cc)) c.loop-instructions.yielded _ c.loop-instructions.yielded_by _ c.next.new.self section c.in-Some.is c.next.ensures.steps) in
    let so-far = c.loop-instructions.invariant in
    let found = c.in-Some-skip_past_end.ensures in
    let same = c.as_slice.ensures.value in
    first_jump (section_lists all) n c.in-Some-skip_past_end.i (c.loop-instructions.line + c.in-Some-skip_past_end.i) section.items so-far.each next.0
    (rw same at found.least) (rw same at found.within) (omega (arith, so-far.line_is))

pub of_checked-requires : goal.of_checked-requires
of_checked-requires c =
    let all = c.args.sections.items in
    let n = length c.loop-instructions.yielded in
    let section = c.in-Some.instructions in
    let next = next_section c.args.format all n section c.requires.each
    (YieldsList-turn (YieldsList-from_vec all (cc) (cc)) c.loop-instructions.yielded _ c.loop-instructions.yielded_by _ c.next.new.self section c.in-Some.is c.next.ensures.steps) in
    record { short = next.1.few; inside = rw c.as_slice.ensures.value at c.in_default.ensures.least }

pub loop-instructions-preserved : goal.loop-instructions-preserved
loop-instructions-preserved c =
    let all = c.args.sections.items in
    let n = length c.loop-instructions.yielded in
    let section = c.in-Some.instructions in
    let next = next_section c.args.format all n section c.requires.each
    (YieldsList-turn (YieldsList-from_vec all (cc) (cc)) c.loop-instructions.yielded _ c.loop-instructions.yielded_by _ c.next.new.self section c.in-Some.is c.next.ensures.steps) in
    let is : IsProgram section.items = record { short = next.1.few; inside = rw c.as_slice.ensures.value at c.in_default.ensures.least } in
    one_more_program (section_lists all) c.loop-instructions.programs.items c.push.new.self.items n _ c.loop-instructions.line (c.loop-instructions.line + (c.len.result + 1)) section.items
    c.loop-instructions.invariant next.0 is (c.in_ok-push.ensures.items ∙ ap (λ p. c.loop-instructions.programs.items ++ p ∷ []) c.of_checked.ensures)
    (length_push c.loop-instructions.yielded section) (omega arith)
