-- The logs that the folder tells, one by one.
use Rattle.std.proofs.Common.{◌≡◌, ◌≢◌, ℕ, ◌+◌, ◌<◌, ◌≤◌, List, ◌++◌, inl, inr, sym, subst, ap, ◌∙◌, arith}
use Rattle.std.specs.Prelude.{◌⊎◌, Option, codes}
use Rattle.std.specs.Fmt.{decimal}
use Rattle.std.proofs.lemmas.Fmt.{decimal_injective}
use Rattle.std.proofs.lemmas.List.{append_cancel_left}
use borrow.Author.Count.{below_more}
use Rattle.log_file.specs.Devices.{Failed, Tells}
use Rattle.log_file.specs.Log.{SpellsIn}
use Rattle.log_record.specs.declared.format.Format.{Format}
use Rattle.log_record.specs.declared.record.Record.{Record}
use Rattle.host_files.specs.Files.{Files, KeepsFiles}
use Rattle.command_line.specs.RunFiles.{IsLogName}
use Rattle.commands.specs.Logs.{ArePutAsFar, ArePutBefore, ArePutFirst, ArePutUpTo, KeepsOthers, log_name, TellsLog, TellsFirst}

-- no two cores' logs are of one name
names_differ : (out : List ℕ) (c d : ℕ) → c < d → d < 64 → log_name out c ≢ log_name out d
names_differ out c d below few same =
    let ends : codes "." ++ decimal c ≡ codes "." ++ decimal d = append_cancel_left out _ _ same in
    let numbers : decimal c ≡ decimal d = append_cancel_left (codes ".") _ _ ends in
    let is : c ≡ d = decimal_injective c d (omega arith) (omega arith) numbers in
    absurd (omega arith)

module _ (format : Format) (told told' told'' : List ℕ → Option (List ℕ)) (out : List ℕ) (cores : ℕ) (made : ℕ → List Record) (n core : ℕ) (is : core ≡ n) (few : n < 64)
    (so_far : ArePutFirst format told told' out cores made n) (stays : (name : List ℕ) → name ≢ log_name out core → told'' name ≡ told' name) where
  -- what was told of the earlier logs stays
  tells_first : TellsFirst format told'' out cores made n
  tells_first c below =
      let same : told'' (log_name out c) ≡ told' (log_name out c) = stays (log_name out c) (names_differ out c core (omega arith) (omega arith)) in
      subst (λ (x : Option (List ℕ)). (text : List ℕ) × Tells x text × SpellsIn format c cores text (made c)) (sym same) (so_far.logs c below)

  keeps_others : KeepsOthers told told'' out (n + 1)
  keeps_others name none = stays name (none core (omega arith)) ∙ so_far.others name (λ c below. none c (omega arith))

  -- the next log was put too
  pub put_next : (records : List Record) → records ≡ made core → ((text : List ℕ) × Tells (told'' (log_name out core)) text × SpellsIn format core cores text records) → ArePutFirst format told told'' out cores made (n + 1)
  put_next records logged next =
      let here : TellsLog format told'' out cores made core = subst (λ (x : List Record). (text : List ℕ) × Tells (told'' (log_name out core)) text × SpellsIn format core cores text x) logged next in record {
        logs = below_more (TellsLog format told'' out cores made) n tells_first (subst (λ (c : ℕ). TellsLog format told'' out cores made c) is here);
        others = keeps_others;
      }

-- a core's log isn't put
module _ (format : Format) (old now new : Files) (out : List ℕ) (cores : ℕ) (made : ℕ → List Record) (n core : ℕ) (is : core ≡ n) (few : n < 64)
    (so_far : ArePutFirst format old.told now.told out cores made n) (quiet : now.failed ≡ old.failed) (stays : (name : List ℕ) → name ≢ log_name out core → new.told name ≡ now.told name)
    (below : n < cores) where
  put_up_to : Failed now.failed new.failed → ArePutUpTo format old new out cores made n
  put_up_to failed = record {
    core = below;
    logs = tells_first format old.told now.told new.told out cores made n core is few so_far stays;
    others = keeps_others format old.told now.told new.told out cores made n core is few so_far stays;
    failed = subst (λ (count : ℕ). Failed count new.failed) quiet failed;
  }

  put_before : new ≡ now → ArePutBefore format old new out cores made n
  put_before same = record {
    core = below;
    put = subst (λ (files : Files). ArePutFirst format old.told files.told out cores made n) (sym same) so_far;
    quiet = ap (λ (files : Files). files.failed) same ∙ quiet;
  }

  pub put_as_far : Failed now.failed new.failed ⊎ (new ≡ now) → ArePutAsFar format old new out cores made
  put_as_far (inl failed) = inr (inl (n, put_up_to failed))
  put_as_far (inr same) = inr (inr (n, put_before same))

-- the logs are 64 at most
pub keeps_files : (format : Format) (old new : Files) (out : List ℕ) (cores : ℕ) (made : ℕ → List Record) → cores ≤ 64 → ArePutAsFar format old new out cores made
    → KeepsFiles old.told new.told (IsLogName out)
keeps_files format old new out cores made few (inl put) name none = put.0.others name (λ c below same. none (c, omega arith, same))
keeps_files format old new out cores made few (inr (inl (n, put))) name none = let core : n < cores = put.core in put.others name (λ c below same. none (c, omega arith, same))
keeps_files format old new out cores made few (inr (inr (n, put))) name none = let core : n < cores = put.core in put.put.others name (λ c below same. none (c, omega arith, same))
