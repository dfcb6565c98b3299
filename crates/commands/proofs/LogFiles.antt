-- Files that are opened, what their sources tell, and why they tell no logs.
use Rattle.std.proofs.Common.{◌≡◌, ◌+◌, ◌<◌, ℕ, zero, suc, List, [], ◌∷◌, ◌++◌, Option, None, Some, Err, add-one, arith, inl, inr, length, refl, slice_index_or, subst, sym, take, vec_len}
use Rattle.std.specs.Prelude.{◌↔◌, IfSome, IsErrOf, IsOk, IsTrue, slice_get}
use Rattle.std.specs.Borrow.{Bor}
use Rattle.std.specs.Global.{Vec}
use Rattle.std.specs.List.{AllZip}
use Rattle.std.proofs.Math.Seq.{take-suc}
use Rattle.std.proofs.lemmas.List.{get_or_default}
use Rattle.log_file.specs.Devices.{Tells}
use Rattle.log_file.specs.Sets.{ReaderFailed, TellEach}
use Rattle.log_file.specs.declared.fault.LogFault.{LogFault}
use Rattle.log_file.specs.declared.fault.LogFault.TheVariants.{At, OutOfMemory as NoLogMemory, Read as ReadFailed}
use Rattle.verdict.specs.Counts.{IsBadCount, IsInRange, IsOutOfRange}
use Rattle.verdict.specs.SetFaults.{from_set}
use Rattle.verdict.specs.declared.judge_fault.Count.TheVariants.{Files as FileCount, Workers, Programs as ProgramCount}
use Rattle.verdict.specs.declared.judge_fault.JudgeFault.{JudgeFault}
use Rattle.verdict.specs.declared.judge_fault.JudgeFault.TheVariants.{BadConfig, Read, OutOfMemory}
use Rattle.host_files.specs.Files.{Files, IsFirstRefused, IsUnread, refusing}
use Rattle.commands.specs.LogFiles.{AreSourcesOf, AreTextsOf, IsOpenFault, IsUnreadAt}
use Rattle.commands.specs.Refusals.{from_judge}
use Rattle.commands.specs.declared.refusal.Refusal.TheVariants.{Judge}
use Rattle.commands.specs.inner.ReadLogs.{AreLogless}
use Rattle.commands.proofs.Files.{first_refused}

-- the next file's source, after those of the files before it
one_source_more : {S : Type 0} (told : List ℕ → Option (List ℕ)) (remaining : S → Option (List ℕ)) (sources : List S) (names : List (Bor (List ℕ)))
    (source : S) (name : Bor (List ℕ)) → AreSourcesOf told remaining sources names → IfSome (told name.now) (λ bytes. remaining source ≡ Some bytes)
    → AreSourcesOf told remaining (sources ++ source ∷ []) (names ++ name ∷ [])
one_source_more told remaining [] [] source name are opened = (opened, tt)
one_source_more told remaining [] (n ∷ names) source name are opened = absurd are
one_source_more told remaining (s ∷ sources) [] source name are opened = absurd are
one_source_more told remaining (s ∷ sources) (n ∷ names) source name are opened =
    (are.0, one_source_more told remaining sources names source name are.1 opened)

-- the next file is opened, in a folder that is as it was
pub one_file_more : {S : Type 0} (old now : Files) (remaining : S → Option (List ℕ)) (sources : List S) (names : List (Bor (List ℕ)))
    (file : ℕ) (source : S) (d : Bor (List ℕ)) → now ≡ old → file < length names → AreSourcesOf old.told remaining sources (take file names)
    → IfSome (now.told (slice_index_or names file d).now) (λ bytes. remaining source ≡ Some bytes)
    → AreSourcesOf old.told remaining (sources ++ source ∷ []) (take (file + 1) names)
one_file_more old now remaining sources names file source d same there are opened =
    rw (add-one file, take-suc names file d there) (one_source_more old.told remaining sources (take file names) source (slice_index_or names file d) are
    (subst (λ (files : Files). IfSome (files.told (slice_index_or names file d).now) (λ bytes. remaining source ≡ Some bytes)) same opened))

-- what a source tells is what the folder tells of its file
tells_so : (told remaining : Option (List ℕ)) (text : List ℕ) → IfSome told (λ bytes. remaining ≡ Some bytes) → Tells remaining text → Tells told text
tells_so None remaining text same tells = tt
tells_so (Some bytes) remaining text same tells = rw same at tells

-- what the sources tell are the texts of the files
pub told_by_sources : {S : Type 0} (told : List ℕ → Option (List ℕ)) (remaining : S → Option (List ℕ)) (sources : List S) (names : List (Bor (List ℕ)))
    (texts : List (List ℕ)) → AreSourcesOf told remaining sources names → TellEach remaining sources texts → AreTextsOf told names texts
told_by_sources told remaining [] [] [] are tell = tt
told_by_sources told remaining [] [] (text ∷ texts) are tell = absurd tell
told_by_sources told remaining [] (name ∷ names) texts are tell = absurd are
told_by_sources told remaining (s ∷ sources) [] texts are tell = absurd are
told_by_sources told remaining (s ∷ sources) (name ∷ names) [] are tell = absurd tell
told_by_sources told remaining (s ∷ sources) (name ∷ names) (text ∷ texts) are tell =
    (tells_so (told name.now) (remaining s) text are.0 tell.0, told_by_sources told remaining sources names texts are.1 tell.1)

-- what holds of a source holds with the name of its file
at_name : {S N : Type 0} (R : S → N → Type 0) (sources : List S) (names : List N) (file : ℕ) (source : S) → AllZip R sources names → slice_get sources file ≡ Some source
    → (file < length names) × ((d : N) → R source (slice_index_or names file d))
at_name R [] names file source are is = cc
at_name R (s ∷ sources) [] file source are is = absurd are
at_name R (s ∷ sources) (name ∷ names) zero source are is =
    let same : s ≡ source = cc in
    (omega arith, λ d. subst (λ x. R x name) same are.0)
at_name R (s ∷ sources) (name ∷ names) (suc file) source are is =
    let further = at_name R sources names file source are.1 is in
    (omega (arith, further.0), further.1)

-- the reader of a file failed
pub unread_at : {S : Type 0} (remaining : S → Option (List ℕ)) (failed : S → ℕ) (old new : Files) (sources later : List S) (names : List (Bor (List ℕ))) (file : ℕ)
    → AreSourcesOf old.told remaining sources names → ReaderFailed failed sources later file → IsUnreadAt (IsUnread remaining failed old new) names file
unread_at remaining failed old new sources later names file are (before, (after, is, is', fails)) =
    let there = at_name (λ source (name : Bor (List ℕ)). IfSome (old.told name.now) (λ bytes. remaining source ≡ Some bytes)) sources names file before are is in
    (there.0, λ d. inr (before, after, there.1 d, fails))

-- a file was refused, by a folder that was as it had been
pub refused_at : (old now new : Files) (names : List (Bor (List ℕ))) (file : ℕ) (e : Bor (List ℕ)) → now ≡ old → file < length names
    → IsTrue (now.may_refuse (slice_index_or names file e).now) × (new ≡ refusing now (slice_index_or names file e).now) → IsUnreadAt (IsFirstRefused old new) names file
refused_at old now new names file e same there refused = (
  there,
  λ d. subst (λ (name : Bor (List ℕ)). IsFirstRefused old new name.now) (get_or_default names file e d there)
      (first_refused old now new (slice_index_or names file e).now same refused),
)

pub unopened_at : {S : Type 0} (remaining : S → Option (List ℕ)) (failed : S → ℕ) (old new : Files) (names : List (Bor (List ℕ))) (file : ℕ)
    → IsUnreadAt (IsFirstRefused old new) names file → IsUnreadAt (IsUnread remaining failed old new) names file
unopened_at remaining failed old new names file (there, refused) = (there, λ d. inl (refused d))

-- ---- no logs are read

logless_at : (unread : List ℕ → Type 0) (names : List (Bor (List ℕ))) (file : ℕ) → IsUnreadAt unread names file → AreLogless unread names (Judge (Read file))
logless_at unread names file is = λ request reads. record { unread = subst (λ (given : List (Bor (List ℕ))). IsUnreadAt unread given file) (sym reads) is; of_file = tt }

pub unopened_files : {S : Type 0} (remaining : S → Option (List ℕ)) (failed : S → ℕ) (old new : Files) (names : List (Bor (List ℕ))) (fault : JudgeFault) → IsOpenFault old new names fault
    → AreLogless (IsUnread remaining failed old new) names (from_judge fault)
unopened_files remaining failed old new names (BadConfig FileCount) why = λ request reads. record { unread = tt; of_file = tt }
unopened_files remaining failed old new names (Read file) why =
    logless_at (IsUnread remaining failed old new) names file (unopened_at remaining failed old new names file why.1)
unopened_files remaining failed old new names OutOfMemory why = λ request reads. record { unread = tt; of_file = tt }
unopened_files remaining failed old new names other why = absurd why

-- the set has a fault
pub faulty : (unread : List ℕ → Type 0) (names : List (Bor (List ℕ))) (file : ℕ) (fault : LogFault) → (fault ≡ ReadFailed → IsUnreadAt unread names file)
    → AreLogless unread names (from_judge (from_set file fault))
faulty unread names file (At line fault) reads = λ request given. record { unread = tt; of_file = tt }
faulty unread names file NoLogMemory reads = λ request given. record { unread = tt; of_file = tt }
faulty unread names file ReadFailed reads = logless_at unread names file (reads refl)

-- ---- how many files there are

-- a number that isn't out of range is in it
in_range : (n : ℕ) → ¬ (IsOutOfRange n) → IsInRange n
in_range n not =
    let some : n < 1 → ⊥ = λ h. not (inl h) in
    let few : 64 < n → ⊥ = λ h. not (inr h) in
    (omega (arith, some), omega (arith, few))

-- the names of a list, counted by its length
pub as_counted : (names : Vec (Bor (List ℕ))) → vec_len names ≡ length names.items
as_counted names = let filled = names.ok in omega (arith, filled)

one_in_range : ¬ (IsOutOfRange 1)
one_in_range (inl few) = absurd (omega (arith, few))
one_in_range (inr many) = absurd (omega (arith, many))

-- for one worker, counts are refused for the number of files alone
pub not_counted : (old : Files) (names : List (Bor (List ℕ))) (fault : JudgeFault) → (IsOk {T = Unit {0}} (Err fault) ↔ (IsInRange (length names) × IsInRange 1)) → IsBadCount fault
    → (IsErrOf {T = Unit {0}} (Err fault) (BadConfig FileCount) ↔ IsOutOfRange (length names))
    → (IsErrOf {T = Unit {0}} (Err fault) (BadConfig Workers) ↔ (IsInRange (length names) × IsOutOfRange 1)) → IsOpenFault old old names fault
not_counted old names (BadConfig FileCount) ok bad files workers = (refl, files.0 refl)
not_counted old names (BadConfig Workers) ok bad files workers = absurd (one_in_range (workers.0 refl).1)
not_counted old names (BadConfig ProgramCount) ok bad files workers =
    let fine = in_range (length names) (λ out. let wrong : BadConfig ProgramCount ≡ BadConfig FileCount = cc (files.1 out) in absurd cc) in
    absurd (let wrong = ok.1 (fine, in_range 1 one_in_range) in cc)
not_counted old names other ok bad files workers = absurd bad
