-- The closure answers the index.
use Rattle.std.proofs.Common.{rules, ◌≡◌, ◌∙◌, List, subst, sym}
use Rattle.std.specs.Prelude.{IfOk, IsPermutation}
use Rattle.std.proofs.lemmas.List.Sorted.{answers_always, IsNonDecreasingBy-from_sort, IsPermutation-trans}
use Rattle.log_record.specs.Entries.{entries, record_lists}
use Rattle.log_record.specs.declared.record.Entry.{Entry}
use Rattle.log_record.specs.declared.record.Record.{Record}
use Rattle.commands.proofs.OwnLogs.{logs_again}
use Rattle.commands.proofs.basis_logs.logs_in.Goals as goal

pub returns : goal.returns
returns c = λ logs same many. (
    let index_is : c.in_ok-entries.entries.items ≡ c.args.index.now = c.in_ok-entries.ensures.items ∙ c.all.ensures.value in
    let copied : IsPermutation (entries logs) c.in_ok-entries.entries.items = subst (IsPermutation (entries logs)) (sym index_is) same in
    let sorted = IsNonDecreasingBy-from_sort (λ (e : Entry). e.id.index) c.sort_unstable_by_key.new.self.items (c.sort_unstable_by_key.ensures.sorted (λ (e : Entry). e.id.index) (answers_always _ _ _ (λ f a r g called. search rules))) in
    let all = IsPermutation-trans (entries logs) c.in_ok-entries.entries.items c.sort_unstable_by_key.new.self.items copied c.sort_unstable_by_key.ensures.permutation in
    subst (λ (ls : List (List Record)). IfOk c.own_logs.result (λ read. record_lists read.items ≡ ls))
    (logs_again logs c.sort_unstable_by_key.new.self.items c.as_slice.result.now c.args.cores all sorted c.as_slice.ensures.value many) c.own_logs.ensures
    )
