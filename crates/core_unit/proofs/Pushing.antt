-- One more entry of a transcript.
use Rattle.std.proofs.Common.{◌≡◌, ℕ, List, [], ◌∷◌, ◌++◌, length, refl, ap, ◌∙◌}
use Rattle.std.specs.Prelude.{All}
use Rattle.std.proofs.lemmas.List.{map-append, get_or_append_left, get_or_push}
use Rattle.std.proofs.lemmas.List.Elements.{All-head, All-tail}
use Rattle.core_unit.specs.Transcript.{IsWithin, entries_of, entry_of}
use Rattle.core_unit.specs.declared.entry.CoreEntry.{CoreEntry}
use Rattle.core_unit.specs.declared.entry.CoreEntry.TheVariants as entry
use Rattle.core_unit.specs.declared.transcript.KeptEntry.{KeptEntry}
use Rattle.core_unit.specs.declared.transcript.KeptEntry.TheVariants.{Performed, Other}

-- what is kept stands for the same entry where the others are one more
same_entry : (others : List CoreEntry) (e : CoreEntry) (one : KeptEntry) → IsWithin (length others) one
    → entry_of (others ++ e ∷ []) one ≡ entry_of others one
same_entry others e Performed within = refl
same_entry others e (Other place) within = get_or_append_left others (e ∷ []) entry.Performed place within

same_entries : (others : List CoreEntry) (e : CoreEntry) (kept : List KeptEntry) → All (IsWithin (length others)) kept
    → entries_of (others ++ e ∷ []) kept ≡ entries_of others kept
same_entries others e [] within = refl
same_entries others e (one ∷ kept) within =
    let first = same_entry others e one (All-head (IsWithin (length others)) one kept within) in
    let rest = same_entries others e kept (All-tail (IsWithin (length others)) one kept within) in
    ap (λ x. x ∷ entries_of (others ++ e ∷ []) kept) first ∙ ap (λ xs. entry_of others one ∷ xs) rest

-- another entry, which stands after so many others
pub entries_of-push : (others : List CoreEntry) (count : ℕ) (e : CoreEntry) (kept : List KeptEntry) → All (IsWithin (length others)) kept
    → length others ≡ count → entries_of (others ++ e ∷ []) (kept ++ Other count ∷ []) ≡ entries_of others kept ++ e ∷ []
entries_of-push others count e kept within is =
    map-append (entry_of (others ++ e ∷ [])) kept (Other count ∷ [])
    ∙ ap (λ xs. xs ++ entry_of (others ++ e ∷ []) (Other count) ∷ []) (same_entries others e kept within)
    ∙ ap (λ x. entries_of others kept ++ x ∷ []) (get_or_push others e entry.Performed count is)
