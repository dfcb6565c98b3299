-- What is told after one more file.
use Rattle.std.proofs.Common.{◌≡◌, ◌≢◌, ℕ, ◌+◌, ◌<◌, List, [], ◌∷◌, ◌++◌, length, take, get_or, add-one, refl, sym, ap, subst, ◌∙◌, Option, None, Some, Bool, Result, Ok, Err, option_map}
use Rattle.std.specs.Prelude.{OnOk, OnErr, string_bytes, if◌then◌else◌}
use Rattle.std.specs.Str.{bytes_eq}
use Rattle.std.specs.Borrow.{Bor}
use Rattle.std.proofs.Math.Seq.{take-suc}
use Rattle.std.proofs.lemmas.Bool.{false_from_ne_true}
use Rattle.std.proofs.lemmas.Slice.Eq.{bytes_eq-Decides}
use Rattle.std.specs.Option.{option_or}
use Rattle.log_file.specs.Devices.{Tells}
use Rattle.log_file.specs.declared.device_fault.WriteFailed.{WriteFailed}
use Rattle.rows.specs.Files.{told_by, told_in, told_of}
use Rattle.rows.specs.declared.file.File.{File}

or_assoc : (a b c : Option (List ℕ)) → option_or (option_or a b) c ≡ option_or a (option_or b c)
or_assoc None b c = refl
or_assoc (Some x) b c = refl

or_none : (a : Option (List ℕ)) → option_or a None ≡ a
or_none None = refl
or_none (Some x) = refl

told_after : (files : List File) (file : File) (name : List ℕ) → told_in (files ++ file ∷ []) name ≡ option_or (told_by file name) (told_in files name)
told_after [] file name = sym (or_none (told_by file name))
told_after (f ∷ files) file name =
    ap (λ (o : Option (List ℕ)). option_or o (told_by f name)) (told_after files file name) ∙ or_assoc (told_by file name) (told_in files name) (told_by f name)

told_next : (files : List File) (n : ℕ) (file : File) (name : List ℕ) → n < length files → file ≡ get_or files n file
    → told_in (take (n + 1) files) name ≡ option_or (told_by file name) (told_in (take n files) name)
told_next files n file name below is = rw (add-one n, take-suc files n file below, sym is) (told_after (take n files) file name)

-- a file of this name, and one of another
pub named : (file : File) (name : List ℕ) → string_bytes file.name ≡ name → told_by file name ≡ Some file.bytes.items
named file name is = ap (λ (b : Bool). if b then Some file.bytes.items else None) ((bytes_eq-Decides (string_bytes file.name) name).1 is)

pub other_named : (file : File) (name : List ℕ) → string_bytes file.name ≢ name → told_by file name ≡ None
other_named file name differs =
    ap (λ (b : Bool). if b then Some file.bytes.items else None) (false_from_ne_true (bytes_eq (string_bytes file.name) name) (λ same. differs ((bytes_eq-Decides (string_bytes file.name) name).0 same)))

pub next_named : (files : List File) (n : ℕ) (file : File) (name : List ℕ) → n < length files → file ≡ get_or files n file → string_bytes file.name ≡ name
    → (found : Option (Bor File)) → option_map (λ (f : Bor File). f.now.bytes.items) found ≡ Some file.bytes.items
    → option_map (λ (f : Bor File). f.now.bytes.items) found ≡ told_in (take (n + 1) files) name
next_named files n file name below at is found this =
    this ∙ sym (told_next files n file name below at ∙ ap (λ (o : Option (List ℕ)). option_or o (told_in (take n files) name)) (named file name is))

pub next_other : (files : List File) (n : ℕ) (file : File) (name : List ℕ) → n < length files → file ≡ get_or files n file → string_bytes file.name ≢ name
    → (before found : Option (Bor File)) → option_map (λ (f : Bor File). f.now.bytes.items) before ≡ told_in (take n files) name → found ≡ before
    → option_map (λ (f : Bor File). f.now.bytes.items) found ≡ told_in (take (n + 1) files) name
next_other files n file name below at differs before found so_far same =
    ap (λ (o : Option (Bor File)). option_map (λ (f : Bor File). f.now.bytes.items) o) same ∙ so_far
    ∙ sym (told_next files n file name below at ∙ ap (λ (o : Option (List ℕ)). option_or o (told_in (take n files) name)) (other_named file name differs))

-- a file that was put, or wasn't
abbrev pub Puts : List File → List File → List ℕ → List ℕ → Type 0
Puts put put' name bytes = (file : File) × (string_bytes file.name ≡ name) × (file.bytes.items ≡ bytes) × (put' ≡ put ++ file ∷ [])

pub put_told : (given put put' : List File) (name bytes : List ℕ) (result : Result (Unit {0}) WriteFailed) → OnOk result (Puts put put' name bytes) → OnOk result (Tells (told_of given put' name) bytes)
put_told given put put' name bytes (Err failed) puts = tt
put_told given put put' name bytes (Ok done) (file, is, holds, put_is) =
    let here : told_in put' name ≡ Some file.bytes.items = ap (λ (files : List File). told_in files name) put_is ∙ told_after put file name ∙ ap (λ (o : Option (List ℕ)). option_or o (told_in put name)) (named file name is) in
    subst (λ (o : Option (List ℕ)). Tells (option_or o (told_in given name)) bytes) (sym here) holds

pub others_told : (given given' put put' : List File) (name bytes : List ℕ) (result : Result (Unit {0}) WriteFailed) → given' ≡ given → OnOk result (Puts put put' name bytes) → OnErr result (put' ≡ put)
    → (other : List ℕ) → other ≢ name → told_of given' put' other ≡ told_of given put other
others_told given given' put put' name bytes (Err failed) same puts kept other differs =
    ap (λ (files : List File). told_of files put' other) same ∙ ap (λ (files : List File). told_of given files other) kept
others_told given given' put put' name bytes (Ok done) same (file, is, holds, put_is) kept other differs =
    let elsewhere : told_by file other ≡ None = other_named file other (λ named_so. differs (sym named_so ∙ is)) in
    let here : told_in put' other ≡ told_in put other = ap (λ (files : List File). told_in files other) put_is ∙ told_after put file other ∙ ap (λ (o : Option (List ℕ)). option_or o (told_in put other)) elsewhere in
    ap (λ (files : List File). told_of files put' other) same ∙ ap (λ (o : Option (List ℕ)). option_or o (told_in given other)) here
