-- The line of a number, from the parts between line feeds.
use Rattle.std.proofs.Common.{◌≡◌, ◌∙◌, suc, ap, refl, sym, ℕ, Bor, List, [], Option, None, Some, option_map}
use Rattle.std.specs.Prelude.{slice_get, unwrap_or}
use Rattle.std.proofs.lemmas.Option.{unwrap_or-slice_get}
use Rattle.log_file.specs.Log.{line}

-- what is there, or nothing
now_or_none : (o : Option (Bor (List ℕ))) (none : Bor (List ℕ)) → none.now ≡ [] → (unwrap_or o none).now ≡ unwrap_or (option_map (λ (s : Bor (List ℕ)). s.now) o) []
now_or_none None none empty = empty
now_or_none (Some s) none empty = refl

-- the part of a number, or nothing, is the line of the next number
pub line_got : (lines : List (List ℕ)) (number before : ℕ) (o : Option (Bor (List ℕ))) (none : Bor (List ℕ)) → number ≡ suc before → none.now ≡ []
    → option_map (λ (s : Bor (List ℕ)). s.now) o ≡ slice_get lines before → (unwrap_or o none).now ≡ line lines number
line_got lines number before o none is empty got =
    now_or_none o none empty ∙ ap (λ (p : Option (List ℕ)). unwrap_or p []) got ∙ unwrap_or-slice_get lines before [] ∙ sym (ap (line lines) is)
