-- What is told, and what it says.
use Rattle.std.proofs.Common.{◌≤◌, ℕ, sym, subst, ◌∙◌}
use Rattle.tardis_c.specs.Parts.{parts_of}
use Rattle.tardis_c.proofs.Found.{found_of_ends, kept_without_text, no_is_none, yes_is_consistent_of}
use Rattle.tardis_c.proofs.searching.tardis_search_operations.Goals as goal

pub returns-clause-exact : goal.returns-clause-exact
returns-clause-exact c =
    λ ends range. record {
      finding = c.find-answer.result;
      of_operations = c.find-answer.ensures.found;
      status_is = c.finding_status.ensures;
      told_is = c.finding_told.ensures;
      buffer_is = c.put_text.ensures;
    }

pub returns-clause-sound : goal.returns-clause-sound
returns-clause-sound c =
    λ zero. yes_is_consistent_of (parts_of c.args.operations.now c.args.ends.now) c.find-answer.result c.find-answer.ensures.found (sym c.finding_status.ensures ∙ zero)

pub returns-clause-refuted : goal.returns-clause-refuted
returns-clause-refuted c =
    λ one. no_is_none (parts_of c.args.operations.now c.args.ends.now) c.find-answer.result c.find-answer.ensures.found (sym c.finding_status.ensures ∙ one)

pub returns-clause-kept : goal.returns-clause-kept
returns-clause-kept c =
    λ more. c.put_text.ensures ∙ kept_without_text c.find-answer.result c.args.text.now (subst (λ (n : ℕ). 2 ≤ n) c.finding_status.ensures more)

pub returns-clause-refused : goal.returns-clause-refused
returns-clause-refused c = rw (c.finding_status.ensures, c.finding_told.ensures) (found_of_ends c.find-answer.result)
