-- How what was left first and then goes together.
use Rattle.std.proofs.Common.{◌≡◌, ℕ, List, sym, subst, ◌∙◌, inl, inr, Bor}
use Rattle.std.specs.Prelude.{◌⊎◌, Option, Some, Result, Ok, Err, IfErr, OnOk}
use Rattle.log_record.specs.declared.format.Format.{Format}
use Rattle.log_record.specs.declared.record.Record.{Record}
use Rattle.host_files.specs.Files.{Files, KeepsFiles}
use Rattle.commands.specs.Logs.{ArePut}
use Rattle.commands.specs.Outputs.{FailsPutAt, PutsAt}
use Rattle.commands.specs.Numbers.{AreLeftAsFar}
use Rattle.commands.specs.Simulating.{TriesEvents}
use Rattle.commands.specs.declared.place.Output.{Output}
use Rattle.commands.specs.declared.refusal.Refusal.{Refusal}
use Rattle.commands.specs.declared.refusal.Refusal.TheVariants.{Unwritten}
use Rattle.commands.specs.inner.Performing.{IsUnprinted}

-- what is put first and then is put in all
pub keeps_then : (told mid new : List ℕ → Option (List ℕ)) (First Later : List ℕ → Type 0) → KeepsFiles told mid First → KeepsFiles mid new Later
    → KeepsFiles told new (λ name. First name ⊎ Later name)
keeps_then told mid new First Later first later name none = later name (λ is. none (inr is)) ∙ first name (λ is. none (inl is))

pub keeps_first : (told new : List ℕ → Option (List ℕ)) (First Later : List ℕ → Type 0) → KeepsFiles told new First → KeepsFiles told new (λ name. First name ⊎ Later name)
keeps_first told new First Later first name none = first name (λ is. none (inl is))

-- the logs were put, and then the numbers as far as they could be
pub far_after : (format : Format) (old mid new : Files) (out : List ℕ) (cores : ℕ) (made : ℕ → List Record) (statistics : Option (Bor (List ℕ))) (text : List ℕ)
    → ArePut format old mid out cores made → PutsAt mid new statistics text ⊎ FailsPutAt mid new statistics ⊎ (new ≡ mid) → AreLeftAsFar format old new out cores made statistics text
far_after format old mid new out cores made statistics text put (inl puts) = inr (mid, put, inl puts)
far_after format old mid new out cores made statistics text put (inr (inl fails)) = inr (mid, put, inr fails)
far_after format old mid new out cores made statistics text put (inr (inr same)) = inl (inl (subst (λ (files : Files). ArePut format old files out cores made) (sym same) put))

-- ---- a file that was to be put

pub put_tried : {T : Type 0} (old new : Files) (name : Option (Bor (List ℕ))) (bytes : List ℕ) (Is : Refusal → Type 0) (result : Result T Refusal) → OnOk result (PutsAt old new name bytes)
    → IfErr result (λ refusal. Is refusal × FailsPutAt old new name) → PutsAt old new name bytes ⊎ FailsPutAt old new name ⊎ (new ≡ old)
put_tried old new name bytes Is (Ok x) puts why = inl puts
put_tried old new name bytes Is (Err refusal) puts why = inr (inl why.1)

pub events_tried : {T : Type 0} (old new : Files) (name : Bor (List ℕ)) (bytes : List ℕ) (Is : Refusal → Type 0) (result : Result T Refusal) → OnOk result (PutsAt old new (Some name) bytes)
    → IfErr result (λ refusal. Is refusal × FailsPutAt old new (Some name)) → TriesEvents old new (Some name)
events_tried old new name bytes Is (Ok x) puts why = inl (bytes, tt, puts)
events_tried old new name bytes Is (Err refusal) puts why = inr (inl why.1)

pub unput : {T : Type 0} (output : Output) (Fails : Type 0) (result : Result T Refusal) → IfErr result (λ refusal. (refusal ≡ Unwritten output) × Fails) → IfErr result IsUnprinted
unput output Fails (Ok x) why = tt
unput output Fails (Err refusal) why = subst IsUnprinted (sym why.0) tt
