-- The explanation of a load that breaks a rule, or of a swap that does by what it reads. Here "load" covers both.
use Rattle.std.specs.Prelude.{◌≡◌, ℕ, ◌-◌, List, Option, Some, find, slice_get, option_and_then}
use Rattle.mem_op.specs.declared.id.OpId.{OpId}
use Rattle.mem_op.specs.Consistency.{is_same_id}
use Rattle.log_record.specs.declared.record.Entry.{Entry}
use Rattle.address_check.specs.AddressFaults.{right_store}
use Rattle.address_check.specs.Groups.{at_address, IsGroup}
use Rattle.verdict.specs.declared.rule.Rule.{Rule}
use Rattle.explain.specs.declared.explanation.WrongRead.{WrongRead}
use Rattle.explain.specs.Culprits.{culprit, named_id, same_word}
use Rattle.explain.specs.Times.{is_right_earlier, is_right_later, next_store}
use Rattle.explain.specs.Windows.{window, window_start}

-- the record of an id
abbrev pub of_id : List Entry → OpId → Option Entry
of_id es id = find (λ e. is_same_id e.id id) es

-- The load of this id among all records, the store that it should read, what its source names, and the records of its address around it,
-- which stand in the order of keys; the first store over what it read, and the last one before it of the word that it read; and whether it
-- would be right a little earlier or later.
pub record IsWrongRead (es : List Entry) (id : OpId) (rule : Rule) (found : WrongRead) : Type 0 where
  pub rule_is : found.rule ≡ rule
  pub load : of_id es id ≡ Some found.load
  pub right : found.right ≡ right_store es found.load
  pub named : found.named ≡ option_and_then (of_id es) (named_id found.load.logged.act)
  pub place : ℕ
  pub stands : slice_get (at_address found.load.logged.addr es) place ≡ Some found.load
  pub ordered : IsGroup (at_address found.load.logged.addr es)
  pub rows : found.rows.items ≡ window (at_address found.load.logged.addr es) place
  pub marked : found.place ≡ place - window_start place
  pub culprit_is : found.culprit ≡ culprit (at_address found.load.logged.addr es) place found.load found.named
  pub word : found.same_word ≡ same_word (at_address found.load.logged.addr es) place found.load
  pub earlier : found.is_right_earlier ≡ is_right_earlier es found.load
  pub next : found.next ≡ next_store (at_address found.load.logged.addr es) place
  pub later : found.is_right_later ≡ is_right_later found.load found.next
