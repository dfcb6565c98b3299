-- Readers that didn't fail.
use Rattle.std.specs.Prelude.{◌≡◌, ℕ, zero, suc, ◌<◌, Bool, true, List, [], ◌∷◌, refl, Option, Some, Err, length, map, take, slice_get}
use Rattle.std.proofs.Common.{arith, subst}
use Rattle.std.proofs.lemmas.List.{take_all}
use Rattle.std.proofs.lemmas.Option.{slice_get_within}
use Rattle.log_record.specs.declared.record.Record.{Record}
use Rattle.log_file.specs.declared.device_fault.WriteFault.{WriteFault}
use Rattle.log_file.specs.declared.device_fault.WriteFault.TheVariants.{OutOfMemory as NoMemory, Write as WriteFailed}
use Rattle.log_file.specs.declared.fault.LogFault.TheVariants.{Read}
use Rattle.log_file.specs.Sets.{NoneFailed}
use Rattle.merge_judge.specs.Answer.{IsQuietUpTo, NoneFailedOf, judged}
use Rattle.merge_judge.specs.LaneParts.{LaneParts}
use Rattle.merge_judge.specs.WriteFaults.{from_write}
use Rattle.merge_judge.specs.inner.Lanes.{AreLanes}
use Rattle.merge_judge.proofs.Places.{there}

-- the counts of the first n are the same, where each one's is
same_counts : {S : Type 0} (failed : S → ℕ) (old new : List S) (n : ℕ) → length new ≡ length old
    → ((k : ℕ) (b a : S) → k < n → slice_get old k ≡ Some b → slice_get new k ≡ Some a → failed a ≡ failed b) → NoneFailedOf n failed old new
same_counts failed [] [] zero long same = refl
same_counts failed [] [] (suc n) long same = refl
same_counts failed [] (a ∷ new) n long same = absurd (omega (arith, long))
same_counts failed (b ∷ old) [] n long same = absurd (omega (arith, long))
same_counts failed (b ∷ old) (a ∷ new) zero long same = refl
same_counts failed (b ∷ old) (a ∷ new) (suc n) long same =
    let first : failed a ≡ failed b = same 0 b a (omega arith) refl refl in
    let rest : map failed (take n new) ≡ map failed (take n old) = same_counts failed old new n (omega (arith, long)) (λ k x y l p q. same (suc k) x y (omega arith) p q) in
    cc

module _ {S : Type 0} {remaining : S → Option (List ℕ)} {failed : S → ℕ} {before after : List S} {lanes : List LaneParts} {clean : Bool} {merged : List (List Record)}
    (m : AreLanes remaining failed before after (length before) lanes clean merged) where
  -- the readers of the first n files, none of whose logs has a failed read
  pub quiet_to : (n : ℕ) → ((k : ℕ) (l : LaneParts) → k < n → slice_get lanes k ≡ Some l → l.fault ≡ Some Read → ⊥) → NoneFailedOf n failed before after
  quiet_to n sound = same_counts failed before after n m.readers (λ k b a less hb ha.
      let l = there lanes k (omega (arith, slice_get_within before k b hb, m.many)) in
      let p = m.lane k l.0 l.1 in
      let same = p.at.quiet (sound k l.0 less l.1) in
      let first = p.is_first in
      let now = p.is_now in
      cc)

  -- all readers
  pub quiet_all : ((k : ℕ) (l : LaneParts) → slice_get lanes k ≡ Some l → l.fault ≡ Some Read → ⊥) → NoneFailed failed before after
  quiet_all sound =
      let n = length before in
      let all = quiet_to n (λ k l less hl. sound k l hl) in
      subst (λ (xs : List S). NoneFailed failed xs after) (take_all n before (omega arith))
      (subst (λ (ys : List S). NoneFailed failed (take n before) ys) (take_all n after (let same = m.readers in omega (arith, same))) all)

  -- while no fault was found
  pub quiet_clean : clean ≡ true → NoneFailed failed before after
  quiet_clean steady = quiet_all (λ k l hl read. (let none = (m.clean_is.0 steady k l hl).1 in cc))

module _ {S : Type 0} (failed : S → ℕ) where
  -- a write that is refused
  pub quiet_write : (before after : List S) (f : WriteFault) → NoneFailed failed before after → IsQuietUpTo failed before after (judged (Err (from_write f)))
  quiet_write before after NoMemory none = tt
  quiet_write before after WriteFailed none = none
