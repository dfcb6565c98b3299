-- What a reader of records was fed without a fault.
use Rattle.std.proofs.Common.{◌≡◌, ℕ, ◌<◌, ◌^◌, ◌++◌, List, length, Option, None, Some, Result, Ok, Err, refl, ap, subst, sym, arith}
use Rattle.std.specs.Prelude.{OnOk, IfSome}
use Rattle.std.specs.Global.{Vec}
use Rattle.log_record.specs.declared.record.Record.{Record}
use Rattle.log_file.specs.declared.fault.LogFault.{LogFault}
use Rattle.log_file.specs.Log.{Spells}
use Rattle.log_file.specs.Answering.{Answering, HasAnswered, fed_text}
use Rattle.log_file.specs.Feeding.{Finishes, IsOpen, fed_len}
use Rattle.log_file.specs.inner.TakesPiece.{TakesPiece}
use Rattle.log_file.specs.Keeping.{KeepsRecords, fed_of}
use Rattle.log_file.proofs.Bounded.{read_long}
use Rattle.log_file.proofs.OnlyCut.{only_cut}

module _ {old new : Answering} {before records : List Record} {piece : List ℕ} where
  pub answered : (x : Unit {0}) → TakesPiece old before piece (Ok x) new records → HasAnswered new (fed_text old before ++ piece) records
  answered x h = go old.fault refl h.again
    where
      go : (o : Option LogFault) → old.fault ≡ o → IfSome o (λ fault. ⊥ × (new.fault ≡ Some fault)) → HasAnswered new (fed_text old before ++ piece) records
      go None is again = h.fed is
      go (Some f) is again = absurd again.0

  pub open_after : (r : Result (Unit {0}) LogFault) → TakesPiece old before piece r new records → OnOk r (IsOpen new.core new.cores (fed_of new.fault (fed_text new records)))
  open_after (Err f) h = tt
  open_after (Ok x) h =
      let after = answered x h in
      subst (λ o. IsOpen new.core new.cores (fed_of o (fed_text new records))) (sym after.faultless)
      (subst (λ (xs : List ℕ). IsOpen new.core new.cores (Ok xs)) after.text (only_cut new (fed_text old before ++ piece) records after))

  pub few_after : (r : Result (Unit {0}) LogFault) → TakesPiece old before piece r new records → OnOk r (fed_len (fed_of new.fault (fed_text new records)) < 2 ^ 27)
  few_after (Err f) h = tt
  few_after (Ok x) h =
      let after = answered x h in
      subst (λ o. fed_len (fed_of o (fed_text new records)) < 2 ^ 27) (sym after.faultless)
      (let few = read_long new (fed_text old before ++ piece) records after in omega (arith, few, ap length after.text))

-- what finishing answers where the log is whole
pub finishes : (s : Answering) (log : Vec Record) → KeepsRecords s log.items
    → ((bytes : List ℕ) (records : List Record) → HasAnswered s bytes records → Spells s.core s.cores bytes records)
    → IfSome s.fault (λ fault. ⊥) → Finishes s.core s.cores (fed_of s.fault (fed_text s log.items)) (Ok log)
finishes s log keeps ends again = go s.fault refl again
  where
    go : (o : Option LogFault) → s.fault ≡ o → IfSome o (λ fault. ⊥) → Finishes s.core s.cores (fed_of o (fed_text s log.items)) (Ok log)
    go None is h = ends (fed_text s log.items) log.items (keeps is)
    go (Some f) is h = absurd h
