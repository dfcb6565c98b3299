use Rattle.std.proofs.Common.{◌≡◌, ◌∙◌, ap, sym, subst, refl, rules, None, Some}
use Rattle.std.specs.Prelude.{◌==◌, slice_get}
use Rattle.std.proofs.lemmas.Bool.{eq-eqb}
use Rattle.mem_op.specs.Consistency.{is_same_id}
use Rattle.address_check.specs.AddressFaults.{right_store}
use Rattle.address_check.specs.Groups.{IsGroup, at_address}
use Rattle.address_check.proofs.ByAddress.{right_in_group}
use Rattle.explain.specs.Culprits.{culprit, same_word}
use Rattle.explain.specs.Times.{is_right_earlier, next_store}
use Rattle.explain.specs.WrongReads.{of_id}
use Rattle.explain.specs.Windows.{window}
use Rattle.explain.proofs.Finding.{find_filtered}
use Rattle.explain.proofs.RightStores.{earlier_in_group}
use Rattle.explain.proofs.wrong_read.wrong_read.Goals as goal

pub returns-in_default-place_of-clause-none : goal.returns-in_default-place_of-clause-none
returns-in_default-place_of-clause-none c none =
    let es = c.args.index.now in
    let load = c.in-Some.load in
    let found : of_id es c.args.id ≡ Some load = search rules in
    let group : c.group-group.result.now ≡ at_address load.logged.addr es = search rules in
    let there : of_id c.group-group.result.now c.args.id ≡ Some load =
    rw group (find_filtered (λ e. is_same_id e.id c.args.id) (λ e. e.logged.addr == load.logged.addr) es load found (eq-eqb load.logged.addr load.logged.addr refl)) in
    let not_there : of_id c.group-group.result.now c.args.id ≡ None = c.in_default-place_of.ensures.none none in
    absurd (let wrong : None ≡ Some load = sym not_there ∙ there in cc)

pub returns-clause-found : goal.returns-clause-found
returns-clause-found c =
    let es = c.args.index.now in
    let load = c.in-Some.load in
    let place = c.in-Some-place_of.place in
    let found : of_id es c.args.id ≡ Some load = search rules in
    let group : c.group-group.result.now ≡ at_address load.logged.addr es = search rules in
    let there : of_id c.group-group.result.now c.args.id ≡ Some load =
    rw group (find_filtered (λ e. is_same_id e.id c.args.id) (λ e. e.logged.addr == load.logged.addr) es load found (eq-eqb load.logged.addr load.logged.addr refl)) in
    let stands : slice_get (at_address load.logged.addr es) place ≡ Some load = rw (← group) (c.in-Some-place_of.ensures.found.1 ∙ there) in
    let is : IsGroup (at_address load.logged.addr es) = subst IsGroup group c.group-group.ensures.is_group in
    record {
      rule_is = refl;
      load = found;
      right = c.right_store-right.ensures ∙ ap (λ xs. right_store xs load) group ∙ right_in_group es load.logged.addr load refl;
      named = search rules;
      place = place;
      stands = stands;
      ordered = is;
      rows = c.in_ok-entries_around.ensures ∙ ap (λ xs. window xs place) group;
      marked = search rules;
      culprit_is = c.culprit.ensures ∙ ap (λ xs. culprit xs place load c.named-named.result) group;
      word = c.same_word.ensures ∙ ap (λ xs. same_word xs place load) group;
      earlier = c.is_right_before.ensures ∙ ap (λ xs. is_right_earlier xs load) group ∙ earlier_in_group es load;
      next = c.store_after-next.ensures ∙ ap (λ xs. next_store xs place) group;
      later = search rules;
    }
